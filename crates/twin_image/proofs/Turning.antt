-- The three steps that bring a slot to a new body.
use Rattle.std.proofs.Common.{◌≡◌, ◌≢◌, ℕ, ◌+◌, ◌<◌, ◌≤◌, inl, inr, Option, Some, None, List, [], ◌∷◌, length, refl, sym, ap, subst, ◌∙◌, arith, Bool, cond, ◌++◌}
use Rattle.std.proofs.lemmas.Bool.{cases_eq, eq-eqb, ne_eqb}
use Rattle.std.specs.Option.{ForSome}
use Rattle.urna_outside.specs.Flash.{Op, Put, Sync, Flashes, flash_of, IsClean, Stably, part}
use Rattle.urna_outside.specs.Confined.{KeepsOthers}
use Rattle.urna_outside.specs.Stop.{Left, IsLeft, left_on}
use Rattle.urna_outside.specs.Stage.{Stage}
use Rattle.urna_outside.specs.Told.{Told, Sizes, Does, Runs, AreSized, size_of}
use Rattle.urna_outside.specs.declared.device.Dev.{Dev}
use Rattle.urna_outside.proofs.Keeping.{stands_clean, within_more}
use Rattle.urna_outside.proofs.Places.{length-part}
use Rattle.urna_outside.proofs.Stops.{stops_within}
use Rattle.urna_outside.proofs.Runs.{places_of}
use Rattle.urna_outside.proofs.Stages.{left_image, stage_weaker, stages-append}
use Rattle.gate_slot.specs.Page.{IsPatch}
use Rattle.gate_slot.specs.Slot.{room, gate_offset, body_offset, gate_in, body_in, IsGate, IsBody, IsGateShut, HasBody, IsOneWrite, shut_ops, fill_ops, publish_ops}
use Rattle.gate_slot.proofs.Written.{gate_fits, body_fits, gate_bounded, body_bounded, stands_through}
use Rattle.gate_slot.specs.Device.{OnFlash}
use Rattle.gate_slot.specs.Front.{IsFrontOf}
use Rattle.gate_slot.proofs.Fronts.{fronts_first, none_yet}
use Rattle.gate_slot.proofs.Images.{gate_image, body_image, stands_one}
use Rattle.gate_slot.specs.declared.slot.Step.{Step}
use Rattle.gate_slot.specs.declared.slot.Step.TheVariants.{Shutting}
use Rattle.twin_image.specs.Lay.{WritesOnly}
use Rattle.twin_image.specs.Twin.{IsOfSlot, StepLeaves, TurnsTo, WasOpen, Turns, turning_ops, shutting_ops}

-- one write and one patch are writes of their places
pub writes_one : (d : Dev) (In More : ℕ → Type 0) (a b : Told) → ((k : ℕ) → In k → More k) → Runs (IsOneWrite d In) a b → Runs (WritesOnly d More 1) a b
writes_one d In More a b more run =
    (run.0, run.1, record { within = within_more d In More run.0 more run.2.within; syncs = run.2.syncs })

pub writes_patch : (d : Dev) (In : ℕ → Type 0) (most : ℕ) (a b : Told) → Runs (IsPatch d In most) a b → Runs (WritesOnly d In 1) a b
writes_patch d In most a b run = (run.0, run.1, record { within = run.2.within; syncs = run.2.syncs })

-- writes as a stage
pub writes_stage : (d : Dev) (In : ℕ → Type 0) (n : ℕ) (P : Flashes → Left → Type 0) (a b : Told) → ForSome a.flashes (AreSized a.sizes) → ((k : ℕ) → In k → k < size_of d a.sizes)
    → ((start : Flashes) → a.flashes ≡ Some start → (fs : Flashes) (left : Left) → KeepsOthers d In start fs → IsLeft fs [] left → P start left)
    → Runs (WritesOnly d In n) a b → Runs (Stage a d In n P) a b
writes_stage d In n P a b sized bounded holds run = (
  run.0,
  run.1,
  record {
    within = run.2.within;
    syncs = run.2.syncs;
    stops = λ start told.
        stops_within d In start run.0 (P start) run.2.within (places_of d In a start (sized start told) bounded) (holds start told);
  },
)

-- shutting was cut off, where more is to follow
pub shutting_cut : (d : Dev) (size index : ℕ) (content : List ℕ) (more : List Op) (a b : Told) → IsFrontOf more [] → Runs (IsFrontOf (shut_ops size d index)) a b → (gate_in size index content ≢ 0xA5 → Does [] a b)
    → Runs (IsFrontOf (shutting_ops size d index content ++ more)) a b
shutting_cut d size index content more a b none opened other = elim (cases_eq (gate_in size index content) 0xA5) [
  | inl gate ↦
      subst (λ (t : Bool). Runs (IsFrontOf (cond t (shut_ops size d index) [] ++ more)) a b) (sym (eq-eqb (gate_in size index content) 0xA5 gate)) (fronts_first (shut_ops size d index) more a b opened)
  | inr shut ↦
      subst (λ (t : Bool). Runs (IsFrontOf (cond t (shut_ops size d index) [] ++ more)) a b) (sym (ne_eqb (gate_in size index content) 0xA5 shut)) ([], other shut, none)
]

-- a turn was cut off while the slot was shut
pub turning_cut : (d : Dev) (size index : ℕ) (new : List ℕ) (a b : Told) → Runs (IsFrontOf (shut_ops size d index)) a b → OnFlash d (λ f. gate_in size index f.content ≢ 0xA5 → Does [] a b) a
    → OnFlash d (λ f. Runs (IsFrontOf (turning_ops size d index new f.content)) a b) a
turning_cut d size index new a b opened other start told =
    let content = (flash_of d start).content in
    let fill = fill_ops size d index new in
    let none = none_yet [] (Put d (body_offset size index) new) (Sync d ∷ []) in
    fronts_first (shutting_ops size d index content ++ fill) (publish_ops size d index) a b
    (shutting_cut d size index content fill a b none opened (other start told))

-- what shutting does, by what the gate read
pub shutting_does : (d : Dev) (size index : ℕ) (a b : Told) → OnFlash d (λ f. gate_in size index f.content ≡ 0xA5 → Does (shut_ops size d index) a b) a → OnFlash d (λ f. gate_in size index f.content ≢ 0xA5 → Does [] a b) a
    → OnFlash d (λ f. Does (shutting_ops size d index f.content) a b) a
shutting_does d size index a b opened other start told = elim (cases_eq (gate_in size index (flash_of d start).content) 0xA5) [
  | inl gate ↦
      subst (λ (t : Bool). Does (cond t (shut_ops size d index) []) a b) (sym (eq-eqb (gate_in size index (flash_of d start).content) 0xA5 gate)) (opened start told gate)
  | inr shut ↦
      subst (λ (t : Bool). Does (cond t (shut_ops size d index) []) a b) (sym (ne_eqb (gate_in size index (flash_of d start).content) 0xA5 shut)) (other start told shut)
]

-- a slot whose body stays is left by Shutting
pub shutting_leaves : (d : Dev) (size index : ℕ) (new : List ℕ) (step : Step) (a b : Told) → step ≡ Shutting → ((old : List ℕ) → OnFlash d (HasBody size index old) a → OnFlash d (HasBody size index old) b)
    → (old : List ℕ) → OnFlash d (HasBody size index old) a → OnFlash d (StepLeaves step size index old new) b
shutting_leaves d size index new step a b is stays old stands fs told =
    subst (λ (s : Step). StepLeaves s size index old new (flash_of d fs)) (sym is) (stays old stands fs told)

module _ (d : Dev) (size index : ℕ) (below : index < 2) where
  -- a write of the gate leaves the body
  pub body_stays : (body : List ℕ) (fs gs : Flashes) → length body ≡ size → KeepsOthers d (IsGate size index) fs gs → HasBody size index body (flash_of d fs) → HasBody size index body (flash_of d gs)
  body_stays body fs gs long keeps =
      stands_through d (IsGate size index) (body_offset size index) body (λ k low high is. omega (arith, is.1)) fs gs keeps

  -- and one of the body the gate
  pub gate_stays : (gate : ℕ) (fs gs : Flashes) → KeepsOthers d (IsBody size index) fs gs → Stably (flash_of d fs) (gate_offset size index) (gate ∷ []) → Stably (flash_of d gs) (gate_offset size index) (gate ∷ [])
  gate_stays gate fs gs keeps =
      stands_through d (IsBody size index) (gate_offset size index) (gate ∷ []) (λ k low high is. omega (arith, is.0)) fs gs keeps

  abbrev Unturned : Flashes → Left → Type 0
  Unturned start left = WasOpen size index (flash_of d start).content (left_on d left)

  -- while the gate is shut, the body is the old one
  pub shut_only : (a b : Told) → room size ≤ size_of d a.sizes → ForSome a.flashes (AreSized a.sizes) → ForSome a.flashes (λ fs. IsClean (flash_of d fs))
      → Runs (IsOneWrite d (IsGate size index)) a b → ForSome a.flashes (λ fs. gate_in size index (flash_of d fs).content ≢ 0xA5 → Does [] a b) → Runs (Stage a d (IsGate size index) 1 Unturned) a b
  shut_only a b fits sized clean run idle = by_told a.flashes refl
    where
      whole : ((start : Flashes) → a.flashes ≡ Some start → gate_in size index (flash_of d start).content ≡ 0xA5) → Runs (Stage a d (IsGate size index) 1 Unturned) a b
      whole is_open =
          writes_stage d (IsGate size index) 1 Unturned a b sized (gate_bounded size index (size_of d a.sizes) below fits) (λ start told fs left keeps is gate.
          let f = flash_of d start in
          let old = body_in size index f.content in
          let long = (sized start told).content d in
          let within = body_fits size index (size_of d a.sizes) below fits in
          let old_long = length-part f.content (body_offset size index) size (omega arith) in
          let stands = stands_clean f (body_offset size index) old (clean start told) (omega arith) (ap (λ (n : ℕ). part f.content (body_offset size index) n) old_long) in
          (body_image size index old (flash_of d fs) (left_on d left) old_long (body_stays old start fs old_long keeps stands) (left_image d fs [] left is), is_open start told)) (writes_one d (IsGate size index) (IsGate size index) a b (λ k is. is) run)

      none : (start : Flashes) → a.flashes ≡ Some start → gate_in size index (flash_of d start).content ≢ 0xA5 → Runs (Stage a d (IsGate size index) 1 Unturned) a b
      none start told shut = (
        [],
        idle start told shut,
        record {
          within = tt;
          syncs = omega arith;
          stops = λ now said.
              let fits_now = (sized now said).content d in
              let one = gate_fits size index (size_of d a.sizes) below fits in
              let same : now ≡ start = cc in
              stops_within d (λ k. ⊥) now [] (Unturned now) tt (places_of d (λ k. ⊥) a now (sized now said) (λ k no. absurd no)) (λ fs left keeps is gate.
              let there = stands_one (flash_of d now) (gate_offset size index) (clean now said) (omega arith) in
              let still = stands_through d (λ k. ⊥) (gate_offset size index) _ (λ k low high no. no) now fs keeps there in
              let seen = gate_image size index _ (flash_of d fs) (left_on d left) still (left_image d fs [] left is) in
              absurd (shut (ap (λ (x : Flashes). gate_in size index (flash_of d x).content) (sym same) ∙ sym seen ∙ gate)));
        },
      )

      by_told : (o : Option Flashes) → a.flashes ≡ o → Runs (Stage a d (IsGate size index) 1 Unturned) a b
      by_told None said = whole (λ start told. absurd (cc (said, told)))
      by_told (Some start) said = elim (cases_eq (gate_in size index (flash_of d start).content) 0xA5) [
        | inl is_open ↦
            whole (λ now told. let same : start ≡ now = cc in subst (λ (x : Flashes). gate_in size index (flash_of d x).content ≡ 0xA5) same is_open)
        | inr shut ↦ none start said shut
      ]

  module _ (new : List ℕ) (new_long : length new ≡ size) where
    abbrev Turning : Flashes → Left → Type 0
    Turning start left = TurnsTo size index new (flash_of d start).content (left_on d left)

    pub shut_stage : (a b : Told) → room size ≤ size_of d a.sizes → ForSome a.flashes (AreSized a.sizes) → ForSome a.flashes (λ fs. IsClean (flash_of d fs))
        → Runs (IsOneWrite d (IsGate size index)) a b → ForSome a.flashes (λ fs. gate_in size index (flash_of d fs).content ≢ 0xA5 → Does [] a b) → Runs (Stage a d (IsOfSlot size index) 1 Turning) a b
    shut_stage a b fits sized clean run idle =
        stage_weaker d (IsGate size index) (IsOfSlot size index) 1 1 Unturned Turning a b (λ k is. inl is) (omega arith) (λ start told left was gate. inr (was gate)) (shut_only a b fits sized clean run idle)

    -- while the body is written, the gate is shut
    pub fill_stage : (b c : Told) → room size ≤ size_of d b.sizes → ForSome b.flashes (AreSized b.sizes) → ForSome b.flashes (λ fs. IsGateShut size index (flash_of d fs))
        → Runs (WritesOnly d (IsBody size index) 1) b c → Runs (Stage b d (IsOfSlot size index) 1 (λ start left. gate_in size index (left_on d left) ≢ 0xA5)) b c
    fill_stage b c fits sized shut run =
        let P : Flashes → Left → Type 0 = λ start left. gate_in size index (left_on d left) ≢ 0xA5 in
        stage_weaker d (IsBody size index) (IsOfSlot size index) 1 1 P P b c (λ k is. inr is) (omega arith) (λ start told left p. p)
        (writes_stage d (IsBody size index) 1 P b c sized (body_bounded size index (size_of d b.sizes) below fits) (λ start told fs left keeps is gate.
        let was = shut start told in
        was.1 (sym (gate_image size index was.0 (flash_of d fs) (left_on d left) (gate_stays was.0 start fs keeps was.2) (left_image d fs [] left is)) ∙ gate)) run)

    -- while the gate is opened, the body is the new one
    pub publish_stage : (c e : Told) → room size ≤ size_of d c.sizes → ForSome c.flashes (AreSized c.sizes) → ForSome c.flashes (λ fs. HasBody size index new (flash_of d fs))
        → Runs (IsOneWrite d (IsGate size index)) c e → Runs (Stage c d (IsOfSlot size index) 1 (λ start left. body_in size index (left_on d left) ≡ new)) c e
    publish_stage c e fits sized stands run =
        let P : Flashes → Left → Type 0 = λ start left. body_in size index (left_on d left) ≡ new in
        stage_weaker d (IsGate size index) (IsOfSlot size index) 1 1 P P c e (λ k is. inl is) (omega arith) (λ start told left p. p)
        (writes_stage d (IsGate size index) 1 P c e sized (gate_bounded size index (size_of d c.sizes) below fits) (λ start told fs left keeps is.
        body_image size index new (flash_of d fs) (left_on d left) new_long (body_stays new start fs new_long keeps (stands start told)) (left_image d fs [] left is)) (writes_one d (IsGate size index) (IsGate size index) c e (λ k is. is) run))

    later_room : {P : List Op → Type 0} (a b : Told) → room size ≤ size_of d a.sizes → Runs P a b → room size ≤ size_of d b.sizes
    later_room a b fits run = subst (λ (s : Sizes). room size ≤ size_of d s) (sym run.1.sizes) fits

    -- the call stops while the slot is shut
    pub turned_shut : (a b : Told) → Runs (Stage a d (IsOfSlot size index) 1 Turning) a b → Runs (Turns a d size index new) a b
    turned_shut a b run =
        stage_weaker d (IsOfSlot size index) (IsOfSlot size index) 1 3 Turning Turning a b (λ k is. is) (omega arith) (λ start told left p. p) run

    filling : (a b c : Told) → Runs (Stage a d (IsOfSlot size index) 1 Turning) a b → Runs (Stage b d (IsOfSlot size index) 1 (λ start left. gate_in size index (left_on d left) ≢ 0xA5)) b c → Runs (Stage a d (IsOfSlot size index) (1 + 1) Turning) a c
    filling a b c first second =
        stages-append d (IsOfSlot size index) 1 1 Turning (λ start left. gate_in size index (left_on d left) ≢ 0xA5) a b c (λ start mid told later left shut gate. absurd (shut gate)) first second

    -- or while it is filled
    pub turned_fill : (a b c : Told) → room size ≤ size_of d a.sizes → ForSome b.flashes (AreSized b.sizes) → ForSome b.flashes (λ fs. IsGateShut size index (flash_of d fs))
        → Runs (Stage a d (IsOfSlot size index) 1 Turning) a b → Runs (WritesOnly d (IsBody size index) 1) b c → Runs (Turns a d size index new) a c
    turned_fill a b c fits sized shut first run =
        let both = filling a b c first (fill_stage b c (later_room a b fits first) sized shut run) in
        stage_weaker d (IsOfSlot size index) (IsOfSlot size index) (1 + 1) 3 Turning Turning a c (λ k is. is) (omega arith) (λ start told left p. p) both

    -- or while it is published, or at its end
    pub turned : (a b c e : Told) → room size ≤ size_of d a.sizes → ForSome b.flashes (AreSized b.sizes) → ForSome c.flashes (AreSized c.sizes) → ForSome b.flashes (λ fs. IsGateShut size index (flash_of d fs)) → ForSome c.flashes (λ fs. HasBody size index new (flash_of d fs))
        → Runs (Stage a d (IsOfSlot size index) 1 Turning) a b → Runs (WritesOnly d (IsBody size index) 1) b c → Runs (IsOneWrite d (IsGate size index)) c e → Runs (Turns a d size index new) a e
    turned a b c e fits sized_b sized_c shut stands first second third =
        let fits_b = later_room a b fits first in
        let both = filling a b c first (fill_stage b c fits_b sized_b shut second) in
        let last = publish_stage c e (later_room b c fits_b second) sized_c stands third in
        let all = stages-append d (IsOfSlot size index) (1 + 1) 1 Turning (λ start left. body_in size index (left_on d left) ≡ new) a c e (λ start mid told later left is gate. inl is) both last in
        stage_weaker d (IsOfSlot size index) (IsOfSlot size index) (1 + 1 + 1) 3 Turning Turning a e (λ k is. is) (omega arith) (λ start told left p. p) all
