-- Courses over both devices, one after another.
use Rattle.std.proofs.Common.{◌≡◌, ℕ, ◌+◌, ◌≤◌, inl, inr, Some, List, [], ◌∷◌, ◌++◌, length, refl, sym, ap, subst, ◌∙◌, arith, length-append}
use Rattle.urna_outside.specs.Flash.{Op, Put, Sync, Show, Flashes, after, shown_by}
use Rattle.urna_outside.specs.Confined.{AreWithin, IsIn, AreIn}
use Rattle.urna_outside.specs.Stop.{IsPartOf, IsStop, Left, AtEachStop}
use Rattle.urna_outside.specs.Stage.{Stage, Course}
use Rattle.urna_outside.specs.Told.{Told, Runs}
use Rattle.urna_outside.specs.declared.device.Dev.{Dev}
use Rattle.urna_outside.proofs.Stops.{stops-append_silent}
use Rattle.urna_outside.proofs.Doing.{does-append, told_after}
use Rattle.urna_outside.proofs.Runs.{syncs-append}

in_from_within : (d : Dev) (In : ℕ → Type 0) (ops : List Op) → AreWithin d In ops → AreIn (λ e k. In k) ops
in_from_within d In [] all = tt
in_from_within d In (Put e at bytes ∷ ops) all = (all.0.1, in_from_within d In ops all.1)
in_from_within d In (Sync e ∷ ops) all = (tt, in_from_within d In ops all.1)
in_from_within d In (Show bytes ∷ ops) all = absurd all.0

-- a stage of one device
pub course_from_stage : (d : Dev) (In : ℕ → Type 0) (n : ℕ) (P : Flashes → Left → Type 0) (a b : Told) → Runs (Stage a d In n P) a b → Runs (Course a (λ e k. In k) n P) a b
course_from_stage d In n P a b run = (
  run.0,
  run.1,
  record { within = in_from_within d In run.0 run.2.within; syncs = run.2.syncs; stops = run.2.stops },
)

pub in-append : (In : Dev → ℕ → Type 0) (xs ys : List Op) → AreIn In xs → AreIn In ys → AreIn In (xs ++ ys)
in-append In [] ys first second = second
in-append In (x ∷ xs) ys first second = (first.0, in-append In xs ys first.1 second)

pub in_shows : (In : Dev → ℕ → Type 0) (ops : List Op) → AreIn In ops → shown_by ops ≡ []
in_shows In [] all = refl
in_shows In (Put d at bytes ∷ ops) all = in_shows In ops all.1
in_shows In (Sync d ∷ ops) all = in_shows In ops all.1
in_shows In (Show bytes ∷ ops) all = absurd all.0

-- one course after another
pub courses-append : (In : Dev → ℕ → Type 0) (m n : ℕ) (P Q : Flashes → Left → Type 0) (a b c : Told)
    → ((start mid : Flashes) → a.flashes ≡ Some start → b.flashes ≡ Some mid → (left : Left) → Q mid left → P start left)
    → Runs (Course a In m P) a b → Runs (Course b In n Q) b c → Runs (Course a In (m + n) P) a c
courses-append In m n P Q a b c says first second = (
  first.0 ++ second.0,
  does-append first.0 second.0 a b c first.1 second.1,
  record {
    within = in-append In first.0 second.0 first.2.within second.2.within;
    syncs = omega (arith, syncs-append first.0 second.0, first.2.syncs, second.2.syncs);
    stops = λ start told.
        let later = told_after first.0 a b start first.1 told in
        stops-append_silent start first.0 second.0 (P start) (in_shows In first.0 first.2.within) (first.2.stops start told)
        (λ done stop left is. says start (after first.0 start) told later left (second.2.stops (after first.0 start) later done stop left is));
  },
)

-- with fewer syncs, and saying less
pub course_weaker : (In : Dev → ℕ → Type 0) (m n : ℕ) (P Q : Flashes → Left → Type 0) (a b : Told) → m ≤ n
    → ((start : Flashes) → a.flashes ≡ Some start → (left : Left) → P start left → Q start left)
    → Runs (Course a In m P) a b → Runs (Course a In n Q) a b
course_weaker In m n P Q a b fewer says run = (
  run.0,
  run.1,
  record {
    within = run.2.within;
    syncs = omega (arith, run.2.syncs);
    stops = λ start told done stop left is. says start told left (run.2.stops start told done stop left is);
  },
)

-- a stop of operations in these places is in them too
part_in : (In : Dev → ℕ → Type 0) (op one : Op) → IsIn In op → IsPartOf op one → IsIn In one
part_in In (Put d at bytes) one within part =
    let size = ap length part.3 in
    subst (IsIn In) (sym part.4) (λ k low high.
    within k (omega arith) (omega (arith, size, length-append (part.0 ++ part.1) part.2, length-append part.0 part.1)))
part_in In (Sync d) one within part = absurd part
part_in In (Show bytes) one within part = absurd within

pub stop_in : (In : Dev → ℕ → Type 0) (ops done : List Op) → AreIn In ops → IsStop ops done → AreIn In done
stop_in In ops [] all stop = tt
stop_in In [] (one ∷ done) all stop = absurd stop
stop_in In (op ∷ ops) (one ∷ done) all (inl whole) =
    (subst (IsIn In) (sym whole.0) all.0, stop_in In ops done all.1 whole.1)
stop_in In (op ∷ ops) (one ∷ done) all (inr part) =
    (part_in In op one all.0 part.0, subst (AreIn In) (sym part.1) tt)

-- nothing is shown at a stop of a course
pub stops_silent : (In : Dev → ℕ → Type 0) (start : Flashes) (ops : List Op) → AreIn In ops → AtEachStop start ops (λ left. left.shown ≡ [])
stops_silent In start ops all done stop left is = is.shown ∙ in_shows In done (stop_in In ops done all stop)
