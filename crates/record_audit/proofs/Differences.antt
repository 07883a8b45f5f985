-- The first choice at which votes and a report differ: what the definition says of all choices.
use Rattle.std.proofs.Common.{◌≡◌, ℕ, zero, suc, ◌<◌, Bool, true, false, not, cond, List, [], ◌∷◌, map, Option, Some, None, refl, sym, ap, ◌∙◌, subst, ◌⊎◌, inl, inr, arith}
use Rattle.std.specs.Prelude.{◌==◌, if◌then◌else◌}
use Rattle.std.specs.List.{AllByRecursion, filter, find}
use Rattle.std.specs.Option.{option_map_or}
use Rattle.std.proofs.lemmas.Bool.{cases_Bool}
use Rattle.std.proofs.lemmas.Bool.Decides.{nat_tests}
use Rattle.urna_base.proofs.Cases.{option_cases}
use Rattle.urna_base.proofs.Every.{every_apart}
use Rattle.vote_kinds.specs.Choice.{choice_le, is_same}
use Rattle.vote_kinds.specs.declared.choice.Choice.{Choice}
use Rattle.vote_kinds.specs.declared.choice.Choice.TheVariants as choice
use Rattle.vote_record.specs.Bag.{count_of}
use Rattle.vote_record.proofs.Bags.{all_trans, count_cons, le_antisym, le_refl, le_total, same_true}
use Rattle.poll_report.specs.declared.report.Count.{Count}
use Rattle.poll_report.specs.declared.report.OfficeCount.{OfficeCount}
use Rattle.record_audit.specs.Finding.{difference, differs_at, first_choice, named, said_for, votes_for}
use Rattle.record_audit.specs.Laws.{DifferenceIsFirst, IsFirstDifference}

-- ---- the first of some choices

abbrev earlier : Choice → Option Choice → Choice
earlier c o = option_map_or (λ d. if choice_le c d then c else d) o c

first_has : (P : Choice → Type 0) (cs : List Choice) (c : Choice) → AllByRecursion P cs → first_choice cs ≡ Some c → P c
first_has P [] c all h = absurd (cc)
first_has P (d ∷ cs) c all h = elim (option_cases (first_choice cs)) [
  | inl none ↦
      let one : Some d ≡ Some c = sym (ap (λ (o : Option Choice). Some (earlier d o)) none) ∙ h in
      let same : d ≡ c = cc in
      subst P same all.0
  | inr some ↦
      let one : Some (cond (choice_le d some.0) d some.0) ≡ Some c = sym (ap (λ (o : Option Choice). Some (earlier d o)) some.1) ∙ h in
      elim (cases_Bool (choice_le d some.0)) [
        | inl t ↦ let two : Some d ≡ Some c = sym (ap (λ (b : Bool). Some (cond b d some.0)) t) ∙ one in let same : d ≡ c = cc in subst P same all.0
        | inr f ↦ let two : Some some.0 ≡ Some c = sym (ap (λ (b : Bool). Some (cond b d some.0)) f) ∙ one in let same : some.0 ≡ c = cc in subst P same (first_has P cs some.0 all.1 some.1)
      ]
]

none_first : (cs : List Choice) → first_choice cs ≡ None → cs ≡ []
none_first [] h = refl
none_first (c ∷ cs) h = absurd (cc)

first_least : (cs : List Choice) (c : Choice) → first_choice cs ≡ Some c → AllByRecursion (λ e. choice_le c e ≡ true) cs
first_least [] c h = absurd (cc)
first_least (d ∷ cs) c h = elim (option_cases (first_choice cs)) [
  | inl none ↦
      let one : Some d ≡ Some c = sym (ap (λ (o : Option Choice). Some (earlier d o)) none) ∙ h in
      let same : d ≡ c = cc in
      let empty = none_first cs none in
      (ap (λ (x : Choice). choice_le x d) (sym same) ∙ le_refl d, subst (λ (l : List Choice). AllByRecursion (λ e. choice_le c e ≡ true) l) (sym empty) tt)
  | inr some ↦
      let rest = first_least cs some.0 some.1 in
      let one : Some (cond (choice_le d some.0) d some.0) ≡ Some c = sym (ap (λ (o : Option Choice). Some (earlier d o)) some.1) ∙ h in
      elim (cases_Bool (choice_le d some.0)) [
        | inl t ↦
            let two : Some d ≡ Some c = sym (ap (λ (b : Bool). Some (cond b d some.0)) t) ∙ one in
            let same : d ≡ c = cc in
            subst (λ (x : Choice). AllByRecursion (λ e. choice_le x e ≡ true) (d ∷ cs)) same (le_refl d, all_trans d some.0 cs t rest)
        | inr f ↦
            let two : Some some.0 ≡ Some c = sym (ap (λ (b : Bool). Some (cond b d some.0)) f) ∙ one in
            let same : some.0 ≡ c = cc in
            subst (λ (x : Choice). AllByRecursion (λ e. choice_le x e ≡ true) (d ∷ cs)) same (le_total d some.0 f, rest)
      ]
]

-- ---- those that differ

filter_all : (p : Choice → Bool) (cs : List Choice) → AllByRecursion (λ c. p c ≡ true) (filter p cs)
filter_all p [] = tt
filter_all p (c ∷ cs) = elim (cases_Bool (p c)) [
  | inl t ↦ rw t (t, filter_all p cs)
  | inr f ↦ rw f (filter_all p cs)
]

unfilter : (p : Choice → Bool) (P : Choice → Type 0) (cs : List Choice) → AllByRecursion P (filter p cs) → AllByRecursion (λ c. p c ≡ true → P c) cs
unfilter p P [] all = tt
unfilter p P (c ∷ cs) all = go (p c) refl all (unfilter p P cs)
  where
    go : (b : Bool) → p c ≡ b → AllByRecursion P (if b then c ∷ filter p cs else filter p cs)
        → (AllByRecursion P (filter p cs) → AllByRecursion (λ d. p d ≡ true → P d) cs)
        → (p c ≡ true → P c) × AllByRecursion (λ d. p d ≡ true → P d) cs
    go true e g rest = ((λ h. g.0), rest g.1)
    go false e g rest = ((λ h. absurd (cc)), rest g)

-- ---- each choice that differs is named

pub counted_has : (P : Choice → Type 0) (votes : List Choice) (c : Choice) → AllByRecursion P votes → 0 < count_of c votes → P c
counted_has P [] c all some = absurd (omega arith)
counted_has P (v ∷ votes) c all some = elim (cases_Bool (is_same c v)) [
  | inl t ↦ subst P (sym (same_true c v t)) all.0
  | inr f ↦
      let first : cond {A = ℕ} (is_same c v) 1 0 ≡ 0 = ap (λ (b : Bool). cond {A = ℕ} b 1 0) f in
      counted_has P votes c all.1 (omega (arith, count_cons c v votes))
]

listed_has : (choose : ℕ → Choice) (P : Choice → Type 0) (number : ℕ) (counts : List Count) → AllByRecursion P (map (λ c. choose c.number) counts) → 0 < votes_for number counts
    → P (choose number)
listed_has choose P number [] all some = absurd (omega arith)
listed_has choose P number (c ∷ counts) all some = go (c.number == number) refl some (listed_has choose P number counts all.1)
  where
    go : (b : Bool) → (c.number == number) ≡ b → 0 < option_map_or (λ x. x.votes) (if b then Some c else find (λ x. x.number == number) counts) 0
        → (0 < votes_for number counts → P (choose number)) → P (choose number)
    go true e g rest = let same : c.number ≡ number = grind (arith, nat_tests) in subst (λ (n : ℕ). P (choose n)) same all.0
    go false e g rest = rest g

some_of : (a b : ℕ) → not (a == b) ≡ true → (0 < a) ⊎ (0 < b)
some_of zero zero h = absurd (cc)
some_of zero (suc b) h = inr (omega arith)
some_of (suc a) b h = inl (omega arith)

named_has : (P : Choice → Type 0) (votes : List Choice) (o : OfficeCount) (c : Choice) → AllByRecursion P (named votes o) → differs_at votes o c ≡ true → P c
named_has P votes o c all h =
    let first = every_apart P votes _ all in
    let second = every_apart P (map (λ x. choice.Nominal x.number) o.nominal) _ first.1 in
    let third = every_apart P (map (λ x. choice.Party x.number) o.parties) (choice.Blank ∷ choice.Null ∷ []) second.1 in
    elim (some_of (count_of c votes) (said_for o c) h) [
      | inl voted ↦ counted_has P votes c first.0 voted
      | inr said ↦ at c said second.0 third.0 third.1
    ]
  where
    at : (d : Choice) → 0 < said_for o d → AllByRecursion P (map (λ x. choice.Nominal x.number) o.nominal)
        → AllByRecursion P (map (λ x. choice.Party x.number) o.parties) → AllByRecursion P (choice.Blank ∷ choice.Null ∷ []) → P d
    at (choice.Nominal n) some nominal parties last = listed_has (λ k. choice.Nominal k) P n o.nominal nominal some
    at (choice.Party p) some nominal parties last = listed_has (λ k. choice.Party k) P p o.parties parties some
    at choice.Blank some nominal parties last = last.0
    at choice.Null some nominal parties last = last.1.0

-- ---- the law

agrees : (votes : List Choice) (o : OfficeCount) (c : Choice) → differs_at votes o c ≡ false → count_of c votes ≡ said_for o c
agrees votes o c h = at (count_of c votes) (said_for o c) h
  where
    at : (a b : ℕ) → not (a == b) ≡ false → a ≡ b
    at a b e = grind (arith, nat_tests)

differs : (votes : List Choice) (o : OfficeCount) (c : Choice) → differs_at votes o c ≡ true → count_of c votes ≡ said_for o c → ⊥
differs votes o c h e = at (count_of c votes) (said_for o c) h e
  where
    at : (a b : ℕ) → not (a == b) ≡ true → a ≡ b → ⊥
    at a b g same = let yes : (a == b) ≡ true = grind (arith, nat_tests) in absurd (cc)

pub no_difference : (votes : List Choice) (o : OfficeCount) → difference votes o ≡ None → (c : Choice) → count_of c votes ≡ said_for o c
unfolding difference
no_difference votes o h c = elim (cases_Bool (differs_at votes o c)) [
  | inl t ↦
      let empty = none_first (filter (differs_at votes o) (named votes o)) h in
      let all : AllByRecursion (λ d. ⊥) (filter (differs_at votes o) (named votes o)) = subst (λ (l : List Choice). AllByRecursion (λ d. ⊥) l) (sym empty) tt in
      absurd (named_has (λ d. differs_at votes o d ≡ true → ⊥) votes o c (unfilter (differs_at votes o) (λ d. ⊥) (named votes o) all) t t)
  | inr f ↦ agrees votes o c f
]

pub first_difference : (votes : List Choice) (o : OfficeCount) (c : Choice) → difference votes o ≡ Some c → IsFirstDifference votes o c
unfolding difference
first_difference votes o c h =
    let chosen = filter (differs_at votes o) (named votes o) in
    let here : differs_at votes o c ≡ true = first_has (λ d. differs_at votes o d ≡ true) chosen c (filter_all (differs_at votes o) (named votes o)) h in
    let least = unfilter (differs_at votes o) (λ d. choice_le c d ≡ true) (named votes o) (first_least chosen c h) in
    record {
      here = differs votes o c here;
      before = λ d less. elim (cases_Bool (differs_at votes o d)) [
        | inl t ↦ let no = named_has (λ e. differs_at votes o e ≡ true → choice_le c e ≡ true) votes o d least t t in absurd (cc)
        | inr f ↦ agrees votes o d f
      ];
    }

pub difference_is_first : DifferenceIsFirst
difference_is_first votes o = elim (option_cases (difference votes o)) [
  | inl none ↦ rw none (no_difference votes o none)
  | inr some ↦ rw some.1 (first_difference votes o some.0 some.1)
]

-- there is one first difference
pub one_first : (votes : List Choice) (o : OfficeCount) (c d : Choice) → IsFirstDifference votes o c → IsFirstDifference votes o d → c ≡ d
one_first votes o c d f g = elim (cases_Bool (choice_le c d)) [
  | inl t ↦ elim (cases_Bool (choice_le d c)) [
    | inl u ↦ le_antisym c d t u
    | inr u ↦ absurd (f.here (g.before c u))
  ]
  | inr t ↦ absurd (g.here (f.before d t))
]
