-- A device and the one beside it.
use Rattle.std.proofs.Common.{◌≡◌, ◌≢◌, ℕ, List, [], ◌∷◌, refl, sym, subst}
use Rattle.urna_outside.specs.Confined.{AreIn, AreWithin, KeepsOthers}
use Rattle.urna_outside.specs.Flash.{Flash, Flashes, Op, Put, Sync, Show, IsImage, after, flash_of}
use Rattle.urna_outside.specs.Stage.{Course, Stage}
use Rattle.urna_outside.specs.Stop.{IsLeft, Left, left_on}
use Rattle.urna_outside.specs.Told.{Runs, Told}
use Rattle.urna_outside.specs.declared.device.Dev.{Dev}
use Rattle.urna_outside.specs.declared.device.Dev.TheVariants.{Internal, External}
use Rattle.urna_outside.proofs.Stages.{left_image}
use Rattle.twin_image.specs.Slots.{beside}
use Rattle.flash_store.specs.Syncs.{both_synced}

pub differs_back : (d : Dev) → d ≢ beside d
differs_back Internal same = cc
differs_back External same = cc

-- what holds of the one and of the other holds of each
pub on_two : (P : Dev → Type 0) (d : Dev) → P (beside d) → P d → (e : Dev) → P e
on_two P Internal other own Internal = own
on_two P Internal other own External = other
on_two P External other own Internal = other
on_two P External other own External = own

-- the syncs change no content
pub content_synced : (d : Dev) (start : Flashes) → (flash_of d (after both_synced start)).content ≡ (flash_of d start).content
content_synced Internal start = refl
content_synced External start = refl

within_in : (d : Dev) (In : ℕ → Type 0) (More : Dev → ℕ → Type 0) (ops : List Op) → ((k : ℕ) → In k → More d k) → AreWithin d In ops → AreIn More ops
within_in d In More [] more all = tt
within_in d In More (Put e at bytes ∷ ops) more all =
    (λ k low high. subst (λ (x : Dev). More x k) (sym all.0.0) (more k (all.0.1 k low high)), within_in d In More ops more all.1)
within_in d In More (Sync e ∷ ops) more all = (tt, within_in d In More ops more all.1)
within_in d In More (Show bytes ∷ ops) more all = absurd all.0

-- a stage of one device, as a course over both
pub course_in : (d : Dev) (In : ℕ → Type 0) (More : Dev → ℕ → Type 0) (n : ℕ) (P : Flashes → Left → Type 0) (a b : Told) → ((k : ℕ) → In k → More d k) → Runs (Stage a d In n P) a b → Runs (Course a More n P) a b
course_in d In More n P a b more run = (
  run.0,
  run.1,
  record { within = within_in d In More run.0 more run.2.within; syncs = run.2.syncs; stops = run.2.stops },
)

-- what is left of a device to which nothing was written
pub image_of_other : (d e : Dev) (In : ℕ → Type 0) (start fs : Flashes) (left : Left) → e ≢ d → KeepsOthers d In start fs → IsLeft fs [] left → IsImage (flash_of e start) (left_on e left)
image_of_other d e In start fs left apart keeps is =
    subst (λ (f : Flash). IsImage f (left_on e left)) (keeps.other e apart) (left_image e fs [] left is)
