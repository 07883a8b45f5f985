-- Who came of the voters up to some place, and of one voter more.
use Rattle.std.proofs.Common.{◌≡◌, ℕ, ◌+◌, ◌<◌, Bool, true, false, ◌&&◌, List, length, nat_lt, refl, ap, sym, subst, ◌∙◌, replicate, arith}
use Rattle.std.specs.Prelude.{slice_set, ◌≢◌, ◌==◌}
use Rattle.std.proofs.lemmas.Bool.Decides.{nat_tests}
use Rattle.turnout.specs.Turnout.{has_come}
use Rattle.turnout.proofs.Marks.{has_come-replicate, has_come-set_other, has_come-set_same}

-- of the voters below a place exactly those came for whom the test is true
abbrev pub CameBelow : (ℕ → Bool) → ℕ → List Bool → Type 0
CameBelow test k came = (place : ℕ) → has_come came place ≡ (nat_lt place k && test place)

elsewhere : (test : ℕ → Bool) (k place : ℕ) → place ≢ k → (nat_lt place k && test place) ≡ (nat_lt place (k + 1) && test place)
elsewhere test k place apart = ap (λ b. b && test place) (grind (arith, nat_tests))

at_last : (test : ℕ → Bool) (k : ℕ) → (nat_lt k (k + 1) && test k) ≡ test k
at_last test k = let within : nat_lt k (k + 1) ≡ true = grind (arith, nat_tests) in rw within refl

pub not_yet : (test : ℕ → Bool) (k : ℕ) → (nat_lt k k && test k) ≡ false
not_yet test k = let past : nat_lt k k ≡ false = grind (arith, nat_tests) in rw past refl

pub nobody_yet : (test : ℕ → Bool) (voters : ℕ) → CameBelow test 0 (replicate voters false)
nobody_yet test voters place =
    let past : nat_lt place 0 ≡ false = grind (arith, nat_tests) in
    rw (has_come-replicate voters place, past) refl

-- a voter at the next place for whom it is false does not come
pub nobody_more : (test : ℕ → Bool) (k : ℕ) (came : List Bool) → CameBelow test k came → test k ≡ false → CameBelow test (k + 1) came
nobody_more test k came below absent place = go (place == k) refl
  where
    go : (b : Bool) → (place == k) ≡ b → has_come came place ≡ (nat_lt place (k + 1) && test place)
    go true e =
        let same : place ≡ k = grind (arith, nat_tests) in
        subst (λ p. has_come came p ≡ (nat_lt p (k + 1) && test p)) (sym same) (below k ∙ not_yet test k ∙ sym (at_last test k ∙ absent))
    go false e = let apart : place ≢ k = grind (arith, nat_tests) in below place ∙ elsewhere test k place apart

-- and one for whom it is true comes
pub one_more : (test : ℕ → Bool) (k : ℕ) (came : List Bool) → k < length came → CameBelow test k came → test k ≡ true
    → CameBelow test (k + 1) (slice_set came k true)
one_more test k came known below present place = go (place == k) refl
  where
    go : (b : Bool) → (place == k) ≡ b → has_come (slice_set came k true) place ≡ (nat_lt place (k + 1) && test place)
    go true e =
        let same : place ≡ k = grind (arith, nat_tests) in
        subst (λ p. has_come (slice_set came k true) p ≡ (nat_lt p (k + 1) && test p)) (sym same) (has_come-set_same came k known ∙ sym (at_last test k ∙ present))
    go false e =
        let apart : place ≢ k = grind (arith, nat_tests) in
        has_come-set_other came k place apart ∙ below place ∙ elsewhere test k place apart
