-- What is held where each slot has one of two bodies.
use Rattle.std.proofs.Common.{◌≡◌, ℕ, ◌+◌, ◌<◌, ◌⊎◌, inl, inr, Bool, true, false, cond, eqb, ltb, Option, Some, None, List, [], ◌∷◌, ◌++◌, length, unwrap_or, is_some, refl, ap, ◌∙◌, arith, length-append}
use Rattle.std.proofs.lemmas.Bool.{eqb-true, eq-eqb}
use Rattle.std.specs.List.{AllByRecursion}
use Rattle.urna_base.proofs.Every.{every_append}
use Rattle.urna_outside.specs.Stop.{Left}
use Rattle.gate_slot.specs.Slot.{gate_in, body_in}
use Rattle.twin_image.specs.Twin.{IsOldOrNew, HoldsEither}
use Rattle.twin_image.specs.Held.{bodies_at, bodies_on, better_of, held_body, IsEither, LeavesEither}

module _ (rank : List ℕ → Option ℕ) (size : ℕ) (old new : List ℕ) (lower higher : ℕ) (old_rank : rank old ≡ Some lower) (new_rank : rank new ≡ Some higher) where
  abbrev OneOf : List ℕ → Type 0
  OneOf body = (body ≡ old) ⊎ (body ≡ new)

  one_held : (body : List ℕ) → OneOf body → IsEither old new (Some body)
  one_held body (inl is) = inl (ap (λ b. Some b) is)
  one_held body (inr is) = inr (ap (λ b. Some b) is)

  chosen : (test : Bool) (other body : List ℕ) → IsEither old new (Some other) → IsEither old new (Some body) → IsEither old new (Some (cond test other body))
  chosen true other body first second = first
  chosen false other body first second = second

  better_held : (body : List ℕ) (rest : Option (List ℕ)) → OneOf body → (rest ≡ None) ⊎ IsEither old new rest → IsEither old new (Some (better_of rank body rest))
  better_held body None one rest = one_held body one
  better_held body (Some other) one (inl none) = absurd (cc)
  better_held body (Some other) one (inr either) =
      chosen (ltb (unwrap_or (rank body) 0) (unwrap_or (rank other) 0)) other body either (one_held body one)

  held_any : (bodies : List (List ℕ)) → AllByRecursion OneOf bodies → (held_body rank bodies ≡ None) ⊎ IsEither old new (held_body rank bodies)
  held_any [] all = inl refl
  held_any (body ∷ bodies) all = inr (better_held body (held_body rank bodies) all.0 (held_any bodies all.1))

  held_either : (bodies : List (List ℕ)) → AllByRecursion OneOf bodies → 0 < length bodies → IsEither old new (held_body rank bodies)
  held_either [] all some = absurd (omega arith)
  held_either (body ∷ bodies) all some = better_held body (held_body rank bodies) all.0 (held_any bodies all.1)

  picked : (is_open ranked : Bool) (body : List ℕ) → (is_open ≡ true → OneOf body) → AllByRecursion OneOf (cond is_open (cond ranked (body ∷ []) []) [])
  picked true true body one = (one refl, tt)
  picked true false body one = tt
  picked false ranked body one = tt

  counted : (is_open ranked : Bool) (body : List ℕ) → is_open ≡ true → ranked ≡ true → length (cond is_open (cond ranked (body ∷ []) []) []) ≡ 1
  counted true true body opened also = refl
  counted true false body opened also = absurd (cc)
  counted false ranked body opened also = absurd (cc)

  slot_all : (index : ℕ) (image : List ℕ) → IsOldOrNew size index old new image → AllByRecursion OneOf (bodies_at rank size index image)
  slot_all index image is =
      picked (eqb (gate_in size index image) 0xA5) (is_some (rank (body_in size index image))) (body_in size index image) (λ opened. is (eqb-true (gate_in size index image) 0xA5 opened))

  ranked_one : (body : List ℕ) → OneOf body → is_some (rank body) ≡ true
  ranked_one body (inl is) = ap (λ b. is_some (rank b)) is ∙ ap is_some old_rank
  ranked_one body (inr is) = ap (λ b. is_some (rank b)) is ∙ ap is_some new_rank

  slot_stands : (index : ℕ) (image : List ℕ) → IsOldOrNew size index old new image → gate_in size index image ≡ 0xA5 → length (bodies_at rank size index image) ≡ 1
  slot_stands index image is gate =
      counted (eqb (gate_in size index image) 0xA5) (is_some (rank (body_in size index image))) (body_in size index image) (eq-eqb (gate_in size index image) 0xA5 gate) (ranked_one (body_in size index image) (is gate))

  twin_all : (image : List ℕ) → HoldsEither size old new image → AllByRecursion OneOf (bodies_on rank size image)
  twin_all image holds = every_append OneOf (bodies_at rank size 0 image) (bodies_at rank size 1 image) (slot_all 0 image holds.first) (slot_all 1 image holds.second)

  twin_stands : (image : List ℕ) → HoldsEither size old new image → 0 < length (bodies_on rank size image)
  twin_stands image holds = go holds.open_one
    where
      sum : length (bodies_on rank size image) ≡ length (bodies_at rank size 0 image) + length (bodies_at rank size 1 image)
      sum = length-append (bodies_at rank size 0 image) (bodies_at rank size 1 image)

      go : (gate_in size 0 image ≡ 0xA5) ⊎ (gate_in size 1 image ≡ 0xA5) → 0 < length (bodies_on rank size image)
      go (inl gate) = omega (arith, sum, slot_stands 0 image holds.first gate)
      go (inr gate) = omega (arith, sum, slot_stands 1 image holds.second gate)

  -- so both flashes, and each alone, hold one of the two
  pub leaves_either : (left : Left) → HoldsEither size old new left.internal → HoldsEither size old new left.external → LeavesEither rank size old new left
  leaves_either left internal external =
      let i = bodies_on rank size left.internal in
      let e = bodies_on rank size left.external in
      let i_all = twin_all left.internal internal in
      let e_all = twin_all left.external external in
      let i_some = twin_stands left.internal internal in
      let e_some = twin_stands left.external external in
      record {
        both = held_either (i ++ e) (every_append OneOf i e i_all e_all) (omega (arith, length-append i e));
        internal = held_either i i_all i_some;
        external = held_either e e_all e_some;
      }
