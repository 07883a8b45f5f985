-- Stops of operations in a row.
use Rattle.std.proofs.Common.{◌≡◌, ℕ, ◌⊎◌, inl, inr, List, [], ◌∷◌, ◌++◌, length, refl, sym, ap, subst, ◌∙◌, arith, length-append}
use Rattle.urna_outside.specs.Flash.{Op, Put, Sync, Show, Flashes, flash_of, after, shown_by, IsImage}
use Rattle.urna_outside.specs.Confined.{IsWithin, AreWithin, KeepsOthers}
use Rattle.urna_outside.specs.Stop.{IsPartOf, IsStop, Left, IsLeft, AtEachStop}
use Rattle.urna_outside.specs.declared.device.Dev.{Dev}
use Rattle.urna_outside.proofs.Doing.{after-append, shown_by-append}
use Rattle.urna_outside.proofs.Keeping.{HasPlaces, within_keeps}

-- all operations are a stop of them
pub stop_whole : (ops : List Op) → IsStop ops ops
stop_whole [] = tt
stop_whole (op ∷ ops) = inl (refl, stop_whole ops)

-- a stop of two runs is one of the first, or the whole first and a stop of the second
pub stop-append : (xs ys done : List Op) → IsStop (xs ++ ys) done → IsStop xs done ⊎ ((rest : List Op) × (done ≡ xs ++ rest) × IsStop ys rest)
stop-append xs ys [] stop = inl tt
stop-append [] ys (one ∷ done) stop = inr (one ∷ done, refl, stop)
stop-append (x ∷ xs) ys (one ∷ done) (inl whole) = elim (stop-append xs ys done whole.1) [
  | inl early ↦ inl (inl (whole.0, early))
  | inr late ↦ inr (late.0, (λ i. whole.0 i ∷ late.1 i), late.2)
]
stop-append (x ∷ xs) ys (one ∷ done) (inr part) = inl (inr part)

-- Stops of two runs, one after the other.
pub stops-append : (start : Flashes) (xs ys : List Op) (P : Left → Type 0) → AtEachStop start xs P
    → AtEachStop (after xs start) ys (λ left. P (record left { shown = shown_by xs ++ left.shown }))
    → AtEachStop start (xs ++ ys) P
stops-append start xs ys P first second done stop left is = elim (stop-append xs ys done stop) [
  | inl early ↦ first done early left is
  | inr late ↦
      let moved : after done start ≡ after late.0 (after xs start) = ap (λ (d : List Op). after d start) late.1 ∙ after-append xs late.0 start in
      let text : left.shown ≡ shown_by xs ++ shown_by late.0 = is.shown ∙ ap shown_by late.1 ∙ shown_by-append xs late.0 in
      let there =
      second late.0 late.2 (record { internal = left.internal; external = left.external; shown = shown_by late.0 })
      (record {
        internal = subst (λ (fs : Flashes). IsImage fs.internal left.internal) moved is.internal;
        external = subst (λ (fs : Flashes). IsImage fs.external left.external) moved is.external;
        shown = refl;
      }) in
      subst (λ (s : List ℕ). P (record { internal = left.internal; external = left.external; shown = s })) (sym text) there
]

-- a stop of operations in these places is in them too
part_within : (d : Dev) (In : ℕ → Type 0) (op one : Op) → IsWithin d In op → IsPartOf op one → IsWithin d In one
part_within d In (Put e at bytes) one within part =
    let size = ap length part.3 in
    subst (IsWithin d In) (sym part.4) (
      within.0,
      λ k low high.
          within.1 k (omega arith) (omega (arith, size, length-append (part.0 ++ part.1) part.2, length-append part.0 part.1)),
    )
part_within d In (Sync e) one within part = absurd part
part_within d In (Show bytes) one within part = absurd within

pub stop_within : (d : Dev) (In : ℕ → Type 0) (ops done : List Op) → AreWithin d In ops → IsStop ops done → AreWithin d In done
stop_within d In ops [] all stop = tt
stop_within d In [] (one ∷ done) all stop = absurd stop
stop_within d In (op ∷ ops) (one ∷ done) all (inl whole) =
    (subst (IsWithin d In) (sym whole.0) all.0, stop_within d In ops done all.1 whole.1)
stop_within d In (op ∷ ops) (one ∷ done) all (inr part) =
    (part_within d In op one all.0 part.0, subst (AreWithin d In) (sym part.1) tt)

pub within_shows : (d : Dev) (In : ℕ → Type 0) (ops : List Op) → AreWithin d In ops → shown_by ops ≡ []
within_shows d In [] all = refl
within_shows d In (Put e at bytes ∷ ops) all = within_shows d In ops all.1
within_shows d In (Sync e ∷ ops) all = within_shows d In ops all.1
within_shows d In (Show bytes ∷ ops) all = absurd all.0

-- What holds of every image of all flashes that keep all but these places holds at each stop of operations in them.
pub stops_within : (d : Dev) (In : ℕ → Type 0) (start : Flashes) (ops : List Op) (P : Left → Type 0) → AreWithin d In ops → HasPlaces In (flash_of d start)
    → ((fs : Flashes) (left : Left) → KeepsOthers d In start fs → IsLeft fs [] left → P left)
    → AtEachStop start ops P
stops_within d In start ops P all has holds done stop left is =
    let within = stop_within d In ops done all stop in
    holds (after done start) left (within_keeps d In done start within has) (record { internal = is.internal; external = is.external; shown = is.shown ∙ within_shows d In done within })

-- where P and Q hold at each stop, both do
pub stops_both : (start : Flashes) (ops : List Op) (P Q R : Left → Type 0) → AtEachStop start ops P → AtEachStop start ops Q → ((left : Left) → P left → Q left → R left) → AtEachStop start ops R
stops_both start ops P Q R first second joined done stop left is =
    joined left (first done stop left is) (second done stop left is)

-- Stops of two runs of which the first shows nothing.
pub stops-append_silent : (start : Flashes) (xs ys : List Op) (P : Left → Type 0) → shown_by xs ≡ [] → AtEachStop start xs P → AtEachStop (after xs start) ys P → AtEachStop start (xs ++ ys) P
stops-append_silent start xs ys P silent first second =
    stops-append start xs ys P first (λ done stop left is.
    subst (λ (s : List ℕ). P (record { internal = left.internal; external = left.external; shown = s ++ left.shown })) (sym silent) (second done stop left is))

-- the stop of no operations
pub stops_none : (start : Flashes) (P : Left → Type 0) → ((left : Left) → IsLeft start [] left → P left) → AtEachStop start [] P
stops_none start P holds [] stop left is = holds left is
stops_none start P holds (one ∷ done) stop left is = absurd stop
