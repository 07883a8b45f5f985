-- What a load does to the two devices.
use Rattle.std.specs.Prelude.{◌≡◌, ◌⊎◌, ℕ, ◌<◌, ◌≤◌, List, [], ◌∷◌, ◌++◌}
use Rattle.urna_outside.specs.Confined.{AreWithin, count_syncs}
use Rattle.urna_outside.specs.Flash.{Op, Flashes, flash_of, part, Put, Sync}
use Rattle.urna_outside.specs.Stage.{Stage, Course}
use Rattle.urna_outside.specs.Stop.{left_on}
use Rattle.urna_outside.specs.Told.{Told, Sizes, size_of}
use Rattle.urna_outside.specs.declared.device.Dev.{Dev}
use Rattle.urna_outside.specs.declared.device.Dev.TheVariants.{Internal, External}
use Rattle.gate_slot.specs.Slot.{room, open_gate, header_size, IsGate, IsBody, gate_in, body_in, padding_offset, fill_ops, publish_ops}
use Rattle.twin_image.specs.Frame.{HasFrame, device_image, padding}
use Rattle.twin_image.specs.Twin.{WasOpen, shutting_ops}

-- of two headers that of the device
abbrev pub header_for : Dev → List ℕ → List ℕ → List ℕ
header_for Internal internal external = internal
header_for External internal external = external

-- each device is just a header and two slots
abbrev pub AreFull : ℕ → Sizes → Type 0
AreFull size sizes = (d : Dev) → size_of d sizes ≡ room size

-- both devices are whole: their headers, zero paddings, open gates and twice the body
abbrev pub AreLaid : ℕ → List ℕ → List ℕ → List ℕ → Flashes → Type 0
AreLaid size internal external body flashes =
    (d : Dev) → (flash_of d flashes).content ≡ device_image size (header_for d internal external) body

-- the header and the zeros behind the gates are written and synced
abbrev pub frame_ops : ℕ → Dev → List ℕ → List Op
frame_ops size d header =
    Put d 0 header ∷ Put d (padding_offset size 0) padding ∷ Put d (padding_offset size 1) padding ∷ Sync d ∷ []

-- over this content: both slots are shut, both are filled, the frame is written, both are published
abbrev pub lay_ops : ℕ → Dev → List ℕ → List ℕ → List ℕ → List Op
lay_ops size d header body content =
    (shutting_ops size d 0 content ++ shutting_ops size d 1 content)
    ++ (fill_ops size d 0 body ++ fill_ops size d 1 body)
    ++ frame_ops size d header
    ++ (publish_ops size d 0 ++ publish_ops size d 1)

-- the internal flash is loaded, and then the external one
abbrev pub load_ops : ℕ → List ℕ → List ℕ → List ℕ → Flashes → List Op
load_ops size internal external body start =
    lay_ops size Internal internal body start.internal.content ++ lay_ops size External external body start.external.content

-- a place of one of the gates, or of one of the bodies
abbrev pub IsOfGates : ℕ → ℕ → Type 0
IsOfGates size k = IsGate size 0 k ⊎ IsGate size 1 k

abbrev pub IsOfBodies : ℕ → ℕ → Type 0
IsOfBodies size k = IsBody size 0 k ⊎ IsBody size 1 k

-- writes of these places alone, and at most so many syncs of that device
pub record WritesOnly (d : Dev) (In : ℕ → Type 0) (most : ℕ) (ops : List Op) : Type 0 where
  pub within : AreWithin d In ops
  pub syncs : count_syncs ops ≤ most

-- the header is as before, and no slot is open that wasn't
pub record IsEarly (size : ℕ) (before image : List ℕ) : Type 0 where
  pub header : part image 0 header_size ≡ part before 0 header_size
  pub first : WasOpen size 0 before image
  pub second : WasOpen size 1 before image

-- if the slot is open in this image, it has the body, and the frame is whole
abbrev pub IsPublished : ℕ → ℕ → List ℕ → List ℕ → List ℕ → Type 0
IsPublished size index header body image =
    gate_in size index image ≡ open_gate → (body_in size index image ≡ body) × HasFrame size header image

pub record IsLate (size : ℕ) (header body image : List ℕ) : Type 0 where
  pub first : IsPublished size 0 header body image
  pub second : IsPublished size 1 header body image

-- what a power cut leaves of a device that is loaded
abbrev pub LeavesLaid : ℕ → List ℕ → List ℕ → List ℕ → List ℕ → Type 0
LeavesLaid size header body before image = IsEarly size before image ⊎ IsLate size header body image

-- what a call does that loads one device
abbrev pub LaysOn : Told → Dev → ℕ → List ℕ → List ℕ → List Op → Type 0
LaysOn told d size header body =
    Stage told d (λ k. k < room size) 7 (λ start left. LeavesLaid size header body (flash_of d start).content (left_on d left))

-- what a load does: writes and at most 14 syncs, nothing is shown, and each device is left so at each stop
abbrev pub Lays : Told → ℕ → List ℕ → List ℕ → List ℕ → List Op → Type 0
Lays told size internal external body =
    Course told (λ d k. k < room size) 14 (λ start left. (d : Dev) → LeavesLaid size (header_for d internal external) body (flash_of d start).content (left_on d left))
