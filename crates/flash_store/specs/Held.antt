-- What two flashes hold: of the states that stand in their open slots the one of greatest rank
use Rattle.std.specs.Prelude.{◌⊎◌, ◌≡◌, ℕ, ◌<◌, ◌≤◌, ◌==◌, if◌then◌else◌, List, [], ◌∷◌, ◌++◌, Option, Some}
use Rattle.std.specs.List.{AllByRecursion}
use Rattle.urna_outside.specs.Flash.{Flashes, flash_of}
use Rattle.urna_outside.specs.Stop.{Left, left_on}
use Rattle.urna_outside.specs.declared.device.Dev.{Dev}
use Rattle.gate_slot.specs.Slot.{open_gate, gate_in, body_in}
use Rattle.twin_image.specs.Slots.{KeepsFrame}

-- How states are written as bodies of slots: how many bytes a body has, which bytes are an encoding of a state, and what rank a state has,
-- which is greater the later it is.
pub record Codec (S : Type 0) : Type 1 where
  pub size : ℕ
  pub IsEncoding : S → List ℕ → Type 0
  pub rank : S → ℕ

-- ---- the bodies in open slots, of this size

-- the body of a slot, if its gate is open
abbrev pub open_body : ℕ → ℕ → List ℕ → List (List ℕ)
open_body size index image = if gate_in size index image == open_gate then body_in size index image ∷ [] else []

-- the bodies of the open slots of an image, in order
unfoldable pub open_bodies : ℕ → List ℕ → List (List ℕ)
open_bodies size image = open_body size 0 image ++ open_body size 1 image

-- the bodies of the open slots of both images: internal 0, internal 1, external 0, external 1
abbrev pub bodies_of_both : ℕ → List ℕ → List ℕ → List (List ℕ)
bodies_of_both size internal external = open_bodies size internal ++ open_bodies size external

-- ---- the held state

module _ {S : Type 0} (codec : Codec S) where
  -- no state whose encoding is among these bodies has a rank above this one
  abbrev pub HaveUpTo : ℕ → List (List ℕ) → Type 0
  HaveUpTo rank bodies = AllByRecursion (λ body. (u : S) → codec.IsEncoding u body → codec.rank u ≤ rank) bodies

  -- Among these bodies, in their order, is an encoding of this state. No state of a greater rank stands behind it, and none of its rank or a
  -- greater one before it.
  abbrev pub Hold : List (List ℕ) → S → Type 0
  Hold [] s = ⊥
  Hold (body ∷ bodies) s =
      (codec.IsEncoding s body × HaveUpTo (codec.rank s) bodies) ⊎ (((u : S) → codec.IsEncoding u body → codec.rank u < codec.rank s) × Hold bodies s)

  -- none of these bodies is the encoding of a state
  abbrev pub HoldNone : List (List ℕ) → Type 0
  HoldNone bodies = AllByRecursion (λ body. (u : S) → ¬ codec.IsEncoding u body) bodies

  -- the first of these bodies that is an encoding of this state
  abbrev pub IsFirstOf : S → List (List ℕ) → List ℕ → Type 0
  IsFirstOf s [] body = ⊥
  IsFirstOf s (first ∷ bodies) body = (codec.IsEncoding s first × (first ≡ body)) ⊎ ((¬ codec.IsEncoding s first) × IsFirstOf s bodies body)

  -- both images together hold this state
  abbrev pub HeldByBoth : List ℕ → List ℕ → S → Type 0
  HeldByBoth internal external s = Hold (bodies_of_both codec.size internal external) s

  -- no state stands in their slots
  abbrev pub HeldByNone : List ℕ → List ℕ → Type 0
  HeldByNone internal external = HoldNone (bodies_of_both codec.size internal external)

  -- one image alone holds this state
  abbrev pub HeldAlone : List ℕ → S → Type 0
  HeldAlone image s = Hold (open_bodies codec.size image) s

  -- both flashes, and each alone, hold the state
  pub record HoldAll (s : S) (left : Left) : Type 0 where
    pub both : HeldByBoth left.internal left.external s
    pub internal : HeldAlone left.internal s
    pub external : HeldAlone left.external s

-- the one state or the other is held
abbrev pub IsEither : {S : Type 0} → S → S → (S → Type 0) → Type 0
IsEither s u held = held s ⊎ held u

-- both flashes, and each alone, hold the one state or the other
pub record HoldEither {S : Type 0} (codec : Codec S) (s u : S) (left : Left) : Type 0 where
  pub both : IsEither s u (HeldByBoth codec left.internal left.external)
  pub internal : IsEither s u (HeldAlone codec left.internal)
  pub external : IsEither s u (HeldAlone codec left.external)

-- each image has its device's frame, which is all but the slots of this size
abbrev pub KeepFrames : ℕ → Flashes → Left → Type 0
KeepFrames size start left = (d : Dev) → KeepsFrame size (flash_of d start).content (left_on d left)

-- reading a body gives the state whose encoding it is, and none where it is no encoding
pub record IsReader {S : Type 0} (codec : Codec S) (read : List ℕ → Option S) : Type 0 where
  pub gives : (body : List ℕ) (s : S) → codec.IsEncoding s body → read body ≡ Some s
  pub only : (body : List ℕ) (s : S) → read body ≡ Some s → codec.IsEncoding s body
