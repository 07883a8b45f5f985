-- The stops of a call, where the power may go, and what holds at each of them.
use Rattle.std.specs.Prelude.{◌≡◌, ◌⊎◌, ℕ, ◌+◌, List, [], ◌∷◌, ◌++◌, length}
use Rattle.urna_outside.specs.Flash.{Op, Put, Sync, Show, Flashes, after, shown_by, IsImage}
use Rattle.urna_outside.specs.declared.device.Dev.{Dev}
use Rattle.urna_outside.specs.declared.device.Dev.TheVariants.{Internal, External}

-- what was done of an operation in which the power went: one part of a write's range, or the front of a text;
-- a sync is done as a whole or not at all
abbrev pub IsPartOf : Op → Op → Type 0
IsPartOf (Put d at bytes) part =
    (front : List ℕ) × (some : List ℕ) × (back : List ℕ) × (bytes ≡ front ++ some ++ back) × (part ≡ Put d (at + length front) some)
IsPartOf (Sync d) part = ⊥
IsPartOf (Show bytes) part = (some : List ℕ) × (back : List ℕ) × (bytes ≡ some ++ back) × (part ≡ Show some)

-- a stop of these operations: some first ones of them, and any part of the next
abbrev pub IsStop : List Op → List Op → Type 0
IsStop ops [] = Unit {0}
IsStop [] (one ∷ done) = ⊥
IsStop (op ∷ ops) (one ∷ done) = ((one ≡ op) × IsStop ops done) ⊎ (IsPartOf op one × (done ≡ []))

-- what a power cut leaves: one image of each flash, and the bytes that were shown
pub record Left : Type 0 where
  pub internal : List ℕ
  pub external : List ℕ
  pub shown : List ℕ

-- the image of one device
abbrev pub left_on : Dev → Left → List ℕ
left_on Internal left = left.internal
left_on External left = left.external

-- of these flashes and this shown text a power cut may leave that
pub record IsLeft (flashes : Flashes) (text : List ℕ) (left : Left) : Type 0 where
  pub internal : IsImage flashes.internal left.internal
  pub external : IsImage flashes.external left.external
  pub shown : left.shown ≡ text

-- whatever a power cut leaves at any stop of these operations has P
abbrev pub AtEachStop : Flashes → List Op → (Left → Type 0) → Type 0
AtEachStop start ops P =
    (done : List Op) → IsStop ops done → (left : Left) → IsLeft (after done start) (shown_by done) left → P left
