-- A course over the four slots leaves the frames alone.
use Rattle.std.proofs.Common.{◌≡◌, ℕ, Some, List, [], refl, ◌∙◌}
use Rattle.std.specs.Option.{ForSome}
use Rattle.urna_outside.specs.Flash.{Op, Flashes, flash_of, after}
use Rattle.urna_outside.specs.Confined.{AreIn}
use Rattle.urna_outside.specs.Stop.{Left, AtEachStop, left_on}
use Rattle.urna_outside.specs.Stage.{Course}
use Rattle.urna_outside.specs.Told.{Told, Runs, AreSized, size_of}
use Rattle.urna_outside.specs.declared.device.Dev.{Dev}
use Rattle.urna_outside.specs.declared.device.Dev.TheVariants.{Internal, External}
use Rattle.urna_outside.proofs.Courses.{stop_in}
use Rattle.urna_outside.proofs.Frames.{course_keeps}
use Rattle.urna_outside.proofs.Keeping.{HasPlaces}
use Rattle.urna_outside.proofs.Runs.{places_of}
use Rattle.urna_outside.proofs.Stages.{left_image}
use Rattle.twin_image.specs.Slots.{HaveRoom, AreClean, KeepsFrame, SlotCourse}
use Rattle.twin_image.specs.Twin.{IsOfTwin}
use Rattle.twin_image.proofs.Renewing.{twin_bounded}

-- what holds of each device
pub on_both : (P : Dev → Type 0) → P Internal → P External → (d : Dev) → P d
on_both P internal external Internal = internal
on_both P internal external External = external

-- what reads give, as one of the things that a power cut may leave
abbrev pub contents_of : Flashes → Left
contents_of fs = record { internal = fs.internal.content; external = fs.external.content; shown = [] }

pub left_contents : (d : Dev) (fs : Flashes) → left_on d (contents_of fs) ≡ (flash_of d fs).content
left_contents Internal fs = refl
left_contents External fs = refl

pub some_same : {x y : Flashes} → Some x ≡ Some y → x ≡ y
some_same e = cc

keeps_frame : (size : ℕ) (d : Dev) (start : Flashes) (ops : List Op) → AreIn (λ e k. IsOfTwin size k) ops → HasPlaces (IsOfTwin size) (flash_of d start) → AreClean start
    → AtEachStop start ops (λ left. KeepsFrame size (flash_of d start).content (left_on d left))
keeps_frame size d start ops all has clean done stop left is =
    let keeps = course_keeps (λ e k. IsOfTwin size k) d done start (stop_in (λ e k. IsOfTwin size k) ops done all stop) has in
    let image = left_image d (after done start) _ left is in
    record {
      same_length = image.same_length ∙ keeps.size;
      bytes = λ k out. image.clean k (keeps.clean k out (clean d k)) ∙ keeps.content k out;
    }

-- a course from clean flashes keeps the frames too
pub framed : (size n : ℕ) (P : Flashes → Left → Type 0) (a b : Told) → HaveRoom size a.sizes → ForSome a.flashes (AreSized a.sizes) → ForSome a.flashes AreClean
    → Runs (Course a (λ d k. IsOfTwin size k) n P) a b → Runs (SlotCourse a size n P) a b
framed size n P a b fits sized clean run = (
  run.0,
  run.1,
  record {
    within = run.2.within;
    syncs = run.2.syncs;
    stops = run.2.stops;
    frames = λ start told done stop left is d.
        keeps_frame size d start run.0 run.2.within (places_of d (IsOfTwin size) a start (sized start told) (twin_bounded size (size_of d a.sizes) (fits d))) (clean start told) done stop left is;
  },
)
