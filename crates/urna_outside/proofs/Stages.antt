-- Stages, one after another.
use Rattle.std.proofs.Common.{◌≡◌, ℕ, ◌+◌, ◌<◌, ◌≤◌, Some, List, [], ◌++◌, arith}
use Rattle.std.specs.Option.{ForSome}
use Rattle.urna_outside.specs.Flash.{Flashes, flash_of, after, IsImage}
use Rattle.urna_outside.specs.Confined.{KeepsOthers}
use Rattle.urna_outside.specs.Stop.{Left, IsLeft, left_on}
use Rattle.urna_outside.specs.Stage.{Stage}
use Rattle.urna_outside.specs.Told.{Told, Runs, AreSized, size_of}
use Rattle.urna_outside.specs.declared.device.Dev.{Dev}
use Rattle.urna_outside.specs.declared.device.Dev.TheVariants.{Internal, External}
use Rattle.urna_outside.proofs.Keeping.{within_more, within-append}
use Rattle.urna_outside.proofs.Stops.{stops_within, stops_both, stops-append_silent, within_shows}
use Rattle.urna_outside.proofs.Doing.{does-append, told_after}
use Rattle.urna_outside.proofs.Runs.{places_of, syncs-append}

pub left_image : (d : Dev) (fs : Flashes) (text : List ℕ) (left : Left) → IsLeft fs text left → IsImage (flash_of d fs) (left_on d left)
left_image Internal fs text left is = is.internal
left_image External fs text left is = is.external

-- a stage of fewer places and syncs that says more
pub stage_weaker : (d : Dev) (In More : ℕ → Type 0) (m n : ℕ) (P Q : Flashes → Left → Type 0) (a b : Told) → ((k : ℕ) → In k → More k) → m ≤ n
    → ((start : Flashes) → a.flashes ≡ Some start → (left : Left) → P start left → Q start left)
    → Runs (Stage a d In m P) a b → Runs (Stage a d More n Q) a b
stage_weaker d In More m n P Q a b more fewer says run = (
  run.0,
  run.1,
  record {
    within = within_more d In More run.0 more run.2.within;
    syncs = omega (arith, run.2.syncs);
    stops = λ start told done stop left is. says start told left (run.2.stops start told done stop left is);
  },
)

-- a stage also says what holds in each image of all flashes that keep all but its places
pub stage_stronger : (d : Dev) (In : ℕ → Type 0) (n : ℕ) (P Q : Flashes → Left → Type 0) (a b : Told) → ForSome a.flashes (AreSized a.sizes) → ((k : ℕ) → In k → k < size_of d a.sizes)
    → ((start : Flashes) → a.flashes ≡ Some start → (fs : Flashes) (left : Left) → KeepsOthers d In start fs → IsLeft fs [] left → P start left → Q start left)
    → Runs (Stage a d In n P) a b → Runs (Stage a d In n Q) a b
stage_stronger d In n P Q a b sized bounded says run = (
  run.0,
  run.1,
  record {
    within = run.2.within;
    syncs = run.2.syncs;
    stops = λ start told.
        stops_both start run.0 (P start) (λ left. P start left → Q start left) (Q start) (run.2.stops start told)
        (stops_within d In start run.0 (λ left. P start left → Q start left) run.2.within (places_of d In a start (sized start told) bounded) (says start told))
        (λ left p then. then p);
  },
)

-- one stage after another
pub stages-append : (d : Dev) (In : ℕ → Type 0) (m n : ℕ) (P Q : Flashes → Left → Type 0) (a b c : Told)
    → ((start mid : Flashes) → a.flashes ≡ Some start → b.flashes ≡ Some mid → (left : Left) → Q mid left → P start left)
    → Runs (Stage a d In m P) a b → Runs (Stage b d In n Q) b c → Runs (Stage a d In (m + n) P) a c
stages-append d In m n P Q a b c says first second = (
  first.0 ++ second.0,
  does-append first.0 second.0 a b c first.1 second.1,
  record {
    within = within-append d In first.0 second.0 first.2.within second.2.within;
    syncs = omega (arith, syncs-append first.0 second.0, first.2.syncs, second.2.syncs);
    stops = λ start told.
        let later = told_after first.0 a b start first.1 told in
        stops-append_silent start first.0 second.0 (P start) (within_shows d In first.0 first.2.within) (first.2.stops start told)
        (λ done stop left is. says start (after first.0 start) told later left (second.2.stops (after first.0 start) later done stop left is));
  },
)
