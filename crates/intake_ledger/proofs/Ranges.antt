-- Tests of each place from one up to another
use Rattle.std.proofs.Common.{◌≡◌, ℕ, zero, suc, ◌+◌, ◌-◌, ◌<◌, ◌≤◌, Bool, true, ◌&&◌, ◌==◌, List, length, get_or, take, drop, refl, sym, ap, subst, ◌∙◌, add-one, drop-cons, arith}
use Rattle.std.specs.Prelude.{slice_range}
use Rattle.std.specs.List.{list_all, range_with_len}
use Rattle.std.proofs.lemmas.List.FromFn.{get_or-range_with_len, length-range_with_len}
use Rattle.std.proofs.lemmas.List.Sums.{AllPass-from_list_all, list_all-from_AllPass}
use Rattle.intake_ledger.specs.Body.{all_from, are_zero}

module _ (test : ℕ → Bool) where
  -- the first place, and those behind it
  pub all_more : (place end : ℕ) → place < end → all_from test place end ≡ (test place && all_from test (place + 1) end)
  unfolding all_from
  all_more place end lt =
      let left : end - place ≡ suc (end - (place + 1)) = omega arith in
      ap (λ (k : ℕ). list_all test (range_with_len place k)) left

  -- no place
  pub all_end : (place end : ℕ) → end ≤ place → all_from test place end ≡ true
  unfolding all_from
  all_end place end le =
      let left : end - place ≡ 0 = omega arith in
      ap (λ (k : ℕ). list_all test (range_with_len place k)) left

  pub each_passes : (from end : ℕ) → all_from test from end ≡ true → (k : ℕ) → from ≤ k → k < end → test k ≡ true
  unfolding all_from
  each_passes from end all k ge lt =
      let there : get_or (range_with_len from (end - from)) (k - from) 0 ≡ k = get_or-range_with_len from (end - from) (k - from) 0 (omega arith) ∙ omega arith in
      subst (λ (n : ℕ). test n ≡ true) there
      (AllPass-from_list_all test (range_with_len from (end - from)) all (k - from) 0 (omega (arith, length-range_with_len from (end - from))))

  pub all_pass : (from end : ℕ) → ((k : ℕ) → from ≤ k → k < end → test k ≡ true) → all_from test from end ≡ true
  unfolding all_from
  all_pass from end each = list_all-from_AllPass test (range_with_len from (end - from)) (λ i d lt.
      let within : i < end - from = omega (arith, length-range_with_len from (end - from)) in
      subst (λ (n : ℕ). test n ≡ true) (sym (get_or-range_with_len from (end - from) i d within)) (each (from + i) (omega arith) (omega arith)))

-- ---- zeros among bytes

zeros_from : (bytes : List ℕ) (from n : ℕ) → from + n ≤ length bytes → list_all (λ b. b == 0) (take n (drop from bytes)) ≡ list_all (λ k. get_or bytes k 0 == 0) (range_with_len from n)
zeros_from bytes from zero fits = refl
zeros_from bytes from (suc n) fits =
    ap (λ (l : List ℕ). list_all (λ b. b == 0) (take (suc n) l)) (drop-cons bytes from 0 (omega arith))
    ∙ ap (λ (k : ℕ). get_or bytes from 0 == 0 && list_all (λ b. b == 0) (take n (drop k bytes))) (sym (add-one from))
    ∙ ap (λ (b : Bool). get_or bytes from 0 == 0 && b) (zeros_from bytes (from + 1) n (omega arith))

-- zeros are looked for among the bytes from one place up to another
pub are_zero_in : (bytes : List ℕ) (from end : ℕ) → from ≤ end → end ≤ length bytes → list_all (λ b. b == 0) (slice_range bytes from end) ≡ are_zero from end bytes
unfolding all_from
are_zero_in bytes from end forth fits = zeros_from bytes from (end - from) (omega arith)
