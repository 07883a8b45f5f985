-- What the slots of the flashes hold.
use Rattle.std.specs.Prelude.{◌≡◌, ◌⊎◌, ℕ, ◌<◌, ◌≤◌, ◌==◌, List, [], ◌∷◌, ◌++◌, Option, Some, None, if◌then◌else◌, is_some, unwrap_or, nat_lt}
use Rattle.std.specs.List.{AllByRecursion}
use Rattle.urna_outside.specs.Flash.{Flashes, flash_of}
use Rattle.urna_outside.specs.Stop.{Left}
use Rattle.urna_outside.specs.declared.device.Dev.{Dev}
use Rattle.gate_slot.specs.Slot.{open_gate, gate_in, body_in}

-- the body of a slot, if the slot stands: its gate is open, and its body has a rank
abbrev pub bodies_at : (List ℕ → Option ℕ) → ℕ → ℕ → List ℕ → List (List ℕ)
bodies_at rank size index image =
    if gate_in size index image == open_gate then (if is_some (rank (body_in size index image)) then body_in size index image ∷ [] else []) else []

-- the bodies of the slots that stand in an image
abbrev pub bodies_on : (List ℕ → Option ℕ) → ℕ → List ℕ → List (List ℕ)
bodies_on rank size image = bodies_at rank size 0 image ++ bodies_at rank size 1 image

-- the rank of a body that has one
abbrev pub rank_in : (List ℕ → Option ℕ) → List ℕ → ℕ
rank_in rank body = unwrap_or (rank body) 0

-- the better of a body and what is held behind it: that of greater rank, or else the first
abbrev pub better_of : (List ℕ → Option ℕ) → List ℕ → Option (List ℕ) → List ℕ
better_of rank body None = body
better_of rank body (Some other) =
    if nat_lt (rank_in rank body) (rank_in rank other) then other else body

-- the first body of greatest rank
abbrev pub held_body : (List ℕ → Option ℕ) → List (List ℕ) → Option (List ℕ)
held_body rank [] = None
held_body rank (body ∷ bodies) = Some (better_of rank body (held_body rank bodies))

-- the body stands among these, those before it have a lower rank, and none behind it has a greater one
pub record IsFirstGreatest (rank : List ℕ → Option ℕ) (best : List ℕ) (bodies : List (List ℕ)) : Type 0 where
  pub before : List (List ℕ)
  pub behind : List (List ℕ)
  pub split : bodies ≡ before ++ best ∷ behind
  pub lower : AllByRecursion (λ body. rank_in rank body < rank_in rank best) before
  pub no_greater : AllByRecursion (λ body. rank_in rank body ≤ rank_in rank best) behind

-- the bodies of all four slots that stand: internal 0, internal 1, external 0, external 1
abbrev pub bodies_of_both : (List ℕ → Option ℕ) → ℕ → List ℕ → List ℕ → List (List ℕ)
bodies_of_both rank size internal external = bodies_on rank size internal ++ bodies_on rank size external

abbrev pub all_bodies : (List ℕ → Option ℕ) → ℕ → Flashes → List (List ℕ)
all_bodies rank size flashes = bodies_of_both rank size flashes.internal.content flashes.external.content

-- what both flashes together hold, by their contents
abbrev pub held_on : (List ℕ → Option ℕ) → ℕ → List ℕ → List ℕ → Option (List ℕ)
held_on rank size internal external = held_body rank (bodies_of_both rank size internal external)

-- both flashes together hold this body, or none of their slots stands
abbrev pub HoldsBody : (List ℕ → Option ℕ) → ℕ → List ℕ → Flashes → Type 0
HoldsBody rank size body flashes = held_on rank size flashes.internal.content flashes.external.content ≡ Some body

abbrev pub NoneStands : (List ℕ → Option ℕ) → ℕ → Flashes → Type 0
NoneStands rank size flashes = (d : Dev) → bodies_on rank size (flash_of d flashes).content ≡ []

-- what both flashes hold as a power cut left them, and what one of them holds
abbrev pub held_by_both : (List ℕ → Option ℕ) → ℕ → Left → Option (List ℕ)
held_by_both rank size left = held_on rank size left.internal left.external

abbrev pub held_alone : (List ℕ → Option ℕ) → ℕ → List ℕ → Option (List ℕ)
held_alone rank size image = held_body rank (bodies_on rank size image)

abbrev pub IsEither : List ℕ → List ℕ → Option (List ℕ) → Type 0
IsEither old new body = (body ≡ Some old) ⊎ (body ≡ Some new)

-- both flashes, and each of them alone, hold the one body or the other
pub record LeavesEither (rank : List ℕ → Option ℕ) (size : ℕ) (old new : List ℕ) (left : Left) : Type 0 where
  pub both : IsEither old new (held_by_both rank size left)
  pub internal : IsEither old new (held_alone rank size left.internal)
  pub external : IsEither old new (held_alone rank size left.external)

-- the rank of the new body is not less than that of the old one
pub record IsNotOutranked (rank : List ℕ → Option ℕ) (new old : List ℕ) : Type 0 where
  pub lower : ℕ
  pub higher : ℕ
  pub old_rank : rank old ≡ Some lower
  pub new_rank : rank new ≡ Some higher
  pub no_lower : lower ≤ higher
