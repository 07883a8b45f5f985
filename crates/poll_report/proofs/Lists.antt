-- The numbers that are listed rise, and each has a vote
use Rattle.std.proofs.Common.{◌≡◌, ℕ, ◌<◌, true, false, List, [], ◌∷◌, ◌++◌, inl, inr, refl, ap, arith}
use Rattle.std.specs.Prelude.{nat_lt}
use Rattle.std.specs.List.{AllByRecursion}
use Rattle.std.proofs.lemmas.Bool.{cases_Bool}
use Rattle.std.proofs.lemmas.Bool.Decides.{nat_tests}
use Rattle.vote_kinds.specs.declared.choice.Choice.{Choice}
use Rattle.vote_record.specs.Bag.{count_of}
use Rattle.poll_report.specs.declared.report.Count.{Count}
use Rattle.poll_report.specs.Report.{EachAfter, is_above, numbers_of}
use Rattle.poll_report.specs.Counted.{counted, listed}
use Rattle.poll_report.proofs.Totals.{Rises}

pub each_weaker : {A : Type 0} (May Might : List A → A → Type 0) → ((before : List A) (x : A) → May before x → Might before x)
    → (before xs : List A) → EachAfter May before xs → EachAfter Might before xs
each_weaker May Might weaker before [] h = tt
each_weaker May Might weaker before (x ∷ xs) h = (weaker before x h.0, each_weaker May Might weaker (before ++ x ∷ []) xs h.1)

above_one : (before : List ℕ) (x n : ℕ) → is_above before n ≡ true → x < n → is_above (before ++ x ∷ []) n ≡ true
above_one [] x n above less = grind (arith, nat_tests)
above_one (y ∷ before) x n above less = elim (cases_Bool (nat_lt y n)) [
  | inl t ↦ rw t (above_one before x n (rw t at above) less)
  | inr f ↦ let no : false ≡ true = rw f at above in absurd (cc)
]

numbers_snoc : (cs : List Count) (c : Count) → numbers_of (cs ++ c ∷ []) ≡ numbers_of cs ++ c.number ∷ []
numbers_snoc [] c = refl
numbers_snoc (d ∷ cs) c = ap (λ (l : List ℕ). d.number ∷ l) (numbers_snoc cs c)

-- numbers above some counts and above one more
still_above : (before : List Count) (c : Count) (ns : List ℕ) → AllByRecursion (λ n. is_above (numbers_of before) n ≡ true) ns → AllByRecursion (λ n. c.number < n) ns
    → AllByRecursion (λ n. is_above (numbers_of (before ++ c ∷ [])) n ≡ true) ns
still_above before c [] above less = tt
still_above before c (n ∷ ns) above less =
    (rw (numbers_snoc before c) (above_one (numbers_of before) c.number n above.0 less.0), still_above before c ns above.1 less.1)

pub nothing_below : (ns : List ℕ) → AllByRecursion (λ n. is_above [] n ≡ true) ns
nothing_below [] = tt
nothing_below (n ∷ ns) = (refl, nothing_below ns)

-- what is so of each number with a vote is so of each that is listed, and they rise
pub each_listed : (Is : Count → Type 0) (choose : ℕ → Choice) (bag : List Choice) (before : List Count) (ns : List ℕ) → Rises ns
    → AllByRecursion (λ n. is_above (numbers_of before) n ≡ true) ns
    → AllByRecursion (λ n. nat_lt 0 (count_of (choose n) bag) ≡ true → Is (counted choose bag n)) ns
    → EachAfter (λ b c. Is c × (is_above (numbers_of b) c.number ≡ true)) before (listed choose ns bag)
each_listed Is choose bag before [] rise above is = tt
each_listed Is choose bag before (n ∷ ns) rise above is =
    elim (cases_Bool (nat_lt 0 (count_of (choose n) bag))) [
      | inl t ↦ rw t (
        (is.0 t, above.0),
        each_listed Is choose bag (before ++ counted choose bag n ∷ []) ns rise.1 (still_above before (counted choose bag n) ns above.1 rise.0) is.1,
      )
      | inr f ↦ rw f (each_listed Is choose bag before ns rise.1 above.1 is.1)
    ]
