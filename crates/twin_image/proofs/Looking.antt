-- One more slot is looked at.
use Rattle.std.proofs.Common.{◌≡◌, ℕ, ◌<◌, ◌≤◌, inl, inr, Bool, true, false, cond, Option, Some, None, List, [], ◌∷◌, ◌++◌, length, take, unwrap_or, is_some, refl, sym, ap, ◌∙◌, arith}
use Rattle.std.proofs.lemmas.Bool.{ltb-true, ltb-false}
use Rattle.std.proofs.Math.Seq.{take-append_seam}
use Rattle.std.specs.Option.{ForSome, option_map, option_map_or}
use Rattle.std.specs.Prelude.{nat_lt, ◌==◌}
use Rattle.gate_slot.specs.Slot.{gate_in, body_in}
use Rattle.twin_image.specs.Held.{bodies_at, held_body}
use Rattle.twin_image.proofs.Best.{worth, NoneAbove, IsBest, best_from_held, held_from_best}

-- what is read into a buffer of as many bytes
pub refilled : (n : ℕ) (new rest : List ℕ) → n ≡ length new → take n (new ++ rest) ≡ new
refilled n new rest same = ap (λ (k : ℕ). take k (new ++ rest)) same ∙ take-append_seam new rest

module _ (rank : List ℕ → Option ℕ) where
  above_last : (best body : List ℕ) (bodies : List (List ℕ)) → NoneAbove rank best bodies → worth rank best < worth rank body → IsBest rank body (bodies ++ body ∷ [])
  above_last best body [] all less = inl (refl, tt)
  above_last best body (b ∷ bodies) all less = inr (omega (arith, all.0), above_last best body bodies all.1 less)

  better_last : (best body : List ℕ) (bodies : List (List ℕ)) → IsBest rank best bodies → worth rank best < worth rank body → IsBest rank body (bodies ++ body ∷ [])
  better_last best body [] is less = absurd is
  better_last best body (b ∷ bodies) (inl is) less =
      let same = ap (worth rank) is.0 in inr (omega arith, above_last best body bodies is.1 less)
  better_last best body (b ∷ bodies) (inr is) less = inr (omega (arith, is.0), better_last best body bodies is.1 less)

  none_above_last : (best body : List ℕ) (bodies : List (List ℕ)) → NoneAbove rank best bodies → worth rank body ≤ worth rank best → NoneAbove rank best (bodies ++ body ∷ [])
  none_above_last best body [] all le = (le, tt)
  none_above_last best body (b ∷ bodies) all le = (all.0, none_above_last best body bodies all.1 le)

  same_last : (best body : List ℕ) (bodies : List (List ℕ)) → IsBest rank best bodies → worth rank body ≤ worth rank best → IsBest rank best (bodies ++ body ∷ [])
  same_last best body [] is le = absurd is
  same_last best body (b ∷ bodies) (inl is) le = inl (is.0, none_above_last best body bodies is.1 le)
  same_last best body (b ∷ bodies) (inr is) le = inr (is.0, same_last best body bodies is.1 le)

  -- a body that is better than the one that is kept
  pub held_better : (bodies : List (List ℕ)) (kept : Option ℕ) (best body : List ℕ) (value : ℕ) → ForSome kept (λ v. rank best ≡ Some v) → rank body ≡ Some value → option_map_or (λ other. nat_lt other value) kept true ≡ true
      → held_body rank bodies ≡ option_map (λ v. best) kept → held_body rank (bodies ++ body ∷ []) ≡ Some body
  held_better [] None best body value ranked is_ranked better was = refl
  held_better (b ∷ bodies) None best body value ranked is_ranked better was = absurd (cc)
  held_better bodies (Some v) best body value ranked is_ranked better was =
      let less = ltb-true v value better in
      let low : worth rank best ≡ v = ap (λ (o : Option ℕ). unwrap_or o 0) (ranked v refl) in
      let high : worth rank body ≡ value = ap (λ (o : Option ℕ). unwrap_or o 0) is_ranked in
      held_from_best rank (bodies ++ body ∷ []) body (better_last best body bodies (best_from_held rank bodies best was) (omega arith))

  -- and one that isn't
  pub held_same : (bodies : List (List ℕ)) (kept : Option ℕ) (best body : List ℕ) (value : ℕ) → ForSome kept (λ v. rank best ≡ Some v) → rank body ≡ Some value → option_map_or (λ other. nat_lt other value) kept true ≡ false
      → held_body rank bodies ≡ option_map (λ v. best) kept → held_body rank (bodies ++ body ∷ []) ≡ option_map (λ v. best) kept
  held_same bodies None best body value ranked is_ranked worse was = absurd (cc)
  held_same bodies (Some v) best body value ranked is_ranked worse was =
      let le = ltb-false v value worse in
      let high : worth rank best ≡ v = ap (λ (o : Option ℕ). unwrap_or o 0) (ranked v refl) in
      let low : worth rank body ≡ value = ap (λ (o : Option ℕ). unwrap_or o 0) is_ranked in
      held_from_best rank (bodies ++ body ∷ []) best (same_last best body bodies (best_from_held rank bodies best was) (omega arith))

  -- the body of an open slot, if it has a rank
  pub bodies-open : (size index value : ℕ) (image body : List ℕ) → true ≡ (gate_in size index image == 0xA5) → body ≡ body_in size index image → rank body ≡ Some value → bodies_at rank size index image ≡ body ∷ []
  bodies-open size index value image body opened is is_ranked =
      ap (λ (t : Bool). cond t (cond (is_some (rank (body_in size index image))) (body_in size index image ∷ []) []) []) (sym opened)
      ∙ ap (λ (b : List ℕ). cond (is_some (rank b)) (b ∷ []) []) (sym is)
      ∙ ap (λ (o : Option ℕ). cond (is_some o) (body ∷ []) []) is_ranked
