-- How many sections have a mark
use Rattle.std.proofs.Common.{◌≡◌, ◌≢◌, inl, inr, ℕ, zero, suc, ◌+◌, ◌<◌, ◌≤◌, Bool, true, false, cond, List, [], ◌∷◌, ◌++◌, refl, ap, ◌∙◌, add-one, arith}
use Rattle.std.specs.List.{count_by, range_with_len}
use Rattle.std.proofs.lemmas.Bool.{cases_eq}
use Rattle.std.proofs.lemmas.List.Sums.{sum_by-append, sum_by-cons}
use Rattle.intake_ledger.specs.Body.{is_marked, marked_before}

abbrev one_if : Bool → ℕ
one_if marked = cond marked 1 0

range_push : (a n : ℕ) → range_with_len a (suc n) ≡ range_with_len a n ++ (a + n) ∷ []
range_push a zero = let same : a ≡ a + 0 = omega arith in ap (λ (k : ℕ). k ∷ []) same
range_push a (suc n) =
    let same : a + 1 + n ≡ a + suc n = omega arith in
    ap (λ (l : List ℕ). a ∷ l) (range_push (a + 1) n ∙ ap (λ (k : ℕ). range_with_len (a + 1) n ++ k ∷ []) same)

pub marked_none : (bytes : List ℕ) → marked_before 0 bytes ≡ 0
unfolding marked_before
marked_none bytes = refl

step : (n : ℕ) (bytes : List ℕ) → marked_before (suc n) bytes ≡ marked_before n bytes + one_if (is_marked bytes n)
unfolding marked_before
step n bytes =
    let here : 0 + n ≡ n = omega arith in
    let last = ap (count_by (is_marked bytes)) (range_push 0 n) ∙ ap (λ (k : ℕ). count_by (is_marked bytes) (range_with_len 0 n ++ k ∷ [])) here in
    let both = sum_by-append (λ (k : ℕ). one_if (is_marked bytes k)) (range_with_len 0 n) (n ∷ []) in
    let one = sum_by-cons (λ (k : ℕ). one_if (is_marked bytes k)) n [] in
    omega arith

-- one section more
pub marked_more : (place : ℕ) (bytes : List ℕ) → marked_before (place + 1) bytes ≡ marked_before place bytes + cond (is_marked bytes place) 1 0
marked_more place bytes = ap (λ (n : ℕ). marked_before n bytes) (add-one place) ∙ step place bytes

at_most_one : (b : Bool) → one_if b ≤ 1
at_most_one true = omega arith
at_most_one false = omega arith

pub marked_few : (n : ℕ) (bytes : List ℕ) → marked_before n bytes ≤ n
marked_few zero bytes = omega (arith, marked_none bytes)
marked_few (suc n) bytes = omega (arith, step n bytes, at_most_one (is_marked bytes n), marked_few n bytes)

-- where one has none, not all have
pub marked_fewer : (n place : ℕ) (bytes : List ℕ) → place < n → is_marked bytes place ≡ false → marked_before n bytes < n
marked_fewer zero place bytes lt free = absurd (omega arith)
marked_fewer (suc n) place bytes lt free = elim (cases_eq n place) [
  | inl here ↦ omega (arith, step n bytes, ap (λ (k : ℕ). one_if (is_marked bytes k)) here, ap one_if free, marked_few n bytes)
  | inr apart ↦ omega (arith, step n bytes, at_most_one (is_marked bytes n), marked_fewer n place bytes (omega arith) free)
]

pub marked_same : (n : ℕ) (a b : List ℕ) → ((p : ℕ) → p < n → is_marked a p ≡ is_marked b p) → marked_before n a ≡ marked_before n b
marked_same zero a b same = omega (arith, marked_none a, marked_none b)
marked_same (suc n) a b same =
    omega (arith, step n a, step n b, ap one_if (same n (omega arith)), marked_same n a b (λ p lt. same p (omega arith)))

-- a mark more
pub marked_one : (n place : ℕ) (old new : List ℕ) → place < n → is_marked old place ≡ false → is_marked new place ≡ true
    → ((p : ℕ) → p < n → p ≢ place → is_marked new p ≡ is_marked old p) → marked_before n new ≡ marked_before n old + 1
marked_one zero place old new lt was now others = absurd (omega arith)
marked_one (suc n) place old new lt was now others = elim (cases_eq n place) [
  | inl here ↦
      let before = marked_same n new old (λ p below. others p (omega arith) (λ e. absurd (omega arith))) in
      omega (
        arith,
        step n old,
        step n new,
        before,
        ap (λ (k : ℕ). one_if (is_marked old k)) here,
        ap one_if was,
        ap (λ (k : ℕ). one_if (is_marked new k)) here,
        ap one_if now,
      )
  | inr apart ↦
      omega (
        arith,
        step n old,
        step n new,
        ap one_if (others n (omega arith) apart),
        marked_one n place old new (omega arith) was now (λ p below. others p (omega arith)),
      )
]
