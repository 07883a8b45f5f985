-- What writes that are synced leave.
use Rattle.std.proofs.Common.{◌≡◌, ◌≢◌, ℕ, zero, suc, ◌+◌, ◌%◌, ◌≤◌, ◌<◌, Some, List, [], ◌∷◌, length, refl, sym, ap, subst, ◌∙◌, arith}
use Rattle.std.specs.Option.{ForSome}
use Rattle.urna_outside.specs.Flash.{Op, Put, Sync, Flashes, flash_of, put, synced, after, IsClean, Stably}
use Rattle.urna_outside.specs.Confined.{AreWithin, IsInRange, KeepsOthers}
use Rattle.urna_outside.specs.Told.{Told, Does, Runs, AreSized, size_of}
use Rattle.urna_outside.specs.declared.device.Dev.{Dev}
use Rattle.urna_outside.specs.declared.device.Dev.TheVariants.{Internal, External}
use Rattle.urna_outside.proofs.Doing.{does-append, then_told, told_after}
use Rattle.urna_outside.proofs.Runs.{places_of, run_keeps}
use Rattle.urna_outside.proofs.Keeping.{synced_clean, stands_synced, stays, within_keeps, within_more}
use Rattle.gate_slot.specs.Device.{OnFlash, KeepsRest}
use Rattle.gate_slot.specs.Page.{page_size, IsOfChanged, IsPatch}
use Rattle.gate_slot.specs.Slot.{IsOneWrite, IsGate, IsBody, IsGateShut, HasBody, gate_offset, body_offset, room, gate_in}
use Rattle.gate_slot.proofs.Images.{stands_one}
use Rattle.gate_slot.proofs.Paging.{whole_pages}

after_write : (d : Dev) (at : ℕ) (bytes : List ℕ) (fs : Flashes) → flash_of d (after (Put d at bytes ∷ Sync d ∷ []) fs) ≡ synced (put at bytes (flash_of d fs))
after_write Internal at bytes fs = refl
after_write External at bytes fs = refl

-- bytes that are written and synced stand there, and nothing is dirty
pub written : (d : Dev) (at : ℕ) (bytes : List ℕ) (a b : Told) → Does (Put d at bytes ∷ Sync d ∷ []) a b → ForSome a.flashes (AreSized a.sizes) → at + length bytes ≤ size_of d a.sizes
    → ForSome b.flashes (λ fs. Stably (flash_of d fs) at bytes × IsClean (flash_of d fs))
written d at bytes a b does sized fits =
    then_told (Put d at bytes ∷ Sync d ∷ []) a b (λ fs. Stably (flash_of d fs) at bytes × IsClean (flash_of d fs)) does (λ start told.
    let long = (sized start told).content d in
    subst (λ f. Stably f at bytes × IsClean f) (sym (after_write d at bytes start)) (
      stands_synced (flash_of d start) at bytes (omega arith),
      synced_clean (put at bytes (flash_of d start)),
    ))

-- a run after calls that did nothing
pub runs_later : (P Q : List Op → Type 0) (a b c : Told) → Does [] a b → ((ops : List Op) → P ops → Q ops) → Runs P b c → Runs Q a c
runs_later P Q a b c first more run = (run.0, does-append [] run.0 a b c first run.1, more run.0 run.2)

-- one write of a range is one of the same range at another name
pub same_write : (d : Dev) (at to len : ℕ) (ops : List Op) → at ≡ to → IsOneWrite d (IsInRange at len) ops → IsOneWrite d (IsInRange to len) ops
same_write d at to len ops same write = subst (λ (n : ℕ). IsOneWrite d (IsInRange n len) ops) same write

-- both slots lie on the device
pub gate_fits : (size index n : ℕ) → index < 2 → room size ≤ n → gate_offset size index + 1 ≤ n
gate_fits size zero n below fits = omega arith
gate_fits size (suc zero) n below fits = omega arith
gate_fits size (suc (suc k)) n below fits = absurd (omega arith)

pub body_fits : (size index n : ℕ) → index < 2 → room size ≤ n → body_offset size index + size ≤ n
body_fits size zero n below fits = omega arith
body_fits size (suc zero) n below fits = omega arith
body_fits size (suc (suc k)) n below fits = absurd (omega arith)

-- places of a slot's gate and body lie on the device
pub gate_bounded : (size index n : ℕ) → index < 2 → room size ≤ n → (k : ℕ) → IsGate size index k → k < n
gate_bounded size index n below fits k is = omega (arith, gate_fits size index n below fits, is.0, is.1)

pub body_bounded : (size index n : ℕ) → index < 2 → room size ≤ n → (k : ℕ) → IsBody size index k → k < n
body_bounded size index n below fits k is = omega (arith, body_fits size index n below fits, is.0, is.1)

-- what one write does lies in its places, and what a patch does
pub one_within : (d : Dev) (In : ℕ → Type 0) (a b : Told) → Runs (IsOneWrite d In) a b → Runs (AreWithin d In) a b
one_within d In a b run = (run.0, run.1, run.2.within)

pub patch_within : (d : Dev) (In : ℕ → Type 0) (most : ℕ) (a b : Told) → Runs (IsPatch d In most) a b → Runs (AreWithin d In) a b
patch_within d In most a b run = (run.0, run.1, run.2.within)

-- writes keep every byte but those of their places
pub writes_keep : (d : Dev) (In : ℕ → Type 0) (a b : Told) → ForSome a.flashes (AreSized a.sizes) → ((k : ℕ) → In k → k < size_of d a.sizes) → Runs (AreWithin d In) a b → KeepsRest d In a b
writes_keep d In a b sized bounded run start told now later =
    let same : after run.0 start ≡ now = some_same (sym (told_after run.0 a b start run.1 told) ∙ later) in
    subst (KeepsOthers d In start) same (within_keeps d In run.0 start run.2 (places_of d In a start (sized start told) bounded))
  where
    some_same : {x y : Flashes} → Some x ≡ Some y → x ≡ y
    some_same e = cc

pub one_write_keeps : (d : Dev) (In : ℕ → Type 0) (a b : Told) → ForSome a.flashes (AreSized a.sizes) → ((k : ℕ) → In k → k < size_of d a.sizes) → Runs (IsOneWrite d In) a b → KeepsRest d In a b
one_write_keeps d In a b sized bounded run = writes_keep d In a b sized bounded (one_within d In a b run)

-- what stands apart from the places of a write stands after it too
pub stands_through : (d : Dev) (In : ℕ → Type 0) (at : ℕ) (bytes : List ℕ) → ((k : ℕ) → at ≤ k → k < at + length bytes → ¬ In k) → (fs gs : Flashes) → KeepsOthers d In fs gs → Stably (flash_of d fs) at bytes → Stably (flash_of d gs) at bytes
stands_through d In at bytes apart fs gs keeps stands = stays In (flash_of d fs) (flash_of d gs) at bytes apart keeps.own stands

-- writes of the body leave the gate shut
pub stays_shut : (d : Dev) (size index : ℕ) (a b : Told) → index < 2 → room size ≤ size_of d a.sizes → ForSome a.flashes (AreSized a.sizes) → Runs (AreWithin d (IsBody size index)) a b
    → OnFlash d (IsGateShut size index) a → OnFlash d (IsGateShut size index) b
stays_shut d size index a b below fits sized run =
    run_keeps d (IsBody size index) (λ fs. IsGateShut size index (flash_of d fs)) run.0 a b run.1 run.2 sized (body_bounded size index (size_of d a.sizes) below fits) (λ fs gs keeps shut. (
      shut.0,
      shut.1,
      stands_through d (IsBody size index) (gate_offset size index) (shut.0 ∷ []) (λ k low high is. omega (arith, is.0)) fs gs keeps shut.2,
    ))

-- and one write of the gate the body
pub body_stays_there : (d : Dev) (size index : ℕ) (a b : Told) → index < 2 → room size ≤ size_of d a.sizes → ForSome a.flashes (AreSized a.sizes) → Runs (IsOneWrite d (IsGate size index)) a b
    → (body : List ℕ) → OnFlash d (HasBody size index body) a → OnFlash d (HasBody size index body) b
body_stays_there d size index a b below fits sized run body =
    run_keeps d (IsGate size index) (λ fs. HasBody size index body (flash_of d fs)) run.0 a b run.1 run.2.within sized (gate_bounded size index (size_of d a.sizes) below fits) (λ fs gs keeps.
    stands_through d (IsGate size index) (body_offset size index) body (λ k low high is. omega (arith, is.1)) fs gs keeps)

-- the same at a place that has another name
pub written_at : (d : Dev) (at to : ℕ) (bytes : List ℕ) (a b : Told) → at ≡ to → Does (Put d at bytes ∷ Sync d ∷ []) a b → ForSome a.flashes (AreSized a.sizes) → to + length bytes ≤ size_of d a.sizes
    → ForSome b.flashes (λ fs. Stably (flash_of d fs) to bytes × IsClean (flash_of d fs))
written_at d at to bytes a b same does sized fits =
    subst (λ (n : ℕ). ForSome b.flashes (λ fs. Stably (flash_of d fs) n bytes × IsClean (flash_of d fs))) same (written d at bytes a b does sized (omega arith))

pub runs_renamed : (d : Dev) (at to len size : ℕ) (a b : Told) → at ≡ to → len ≡ size → Runs (IsOneWrite d (IsInRange at len)) a b → Runs (IsOneWrite d (IsInRange to size)) a b
runs_renamed d at to len size a b same long run = (
  run.0,
  run.1,
  subst (λ (n : ℕ). IsOneWrite d (IsInRange to n) run.0) long (same_write d at to len run.0 same run.2),
)

-- the pages that change lie in the body
module _ (at size : ℕ) (old new : List ℕ) (long : length new ≡ size) (whole : size % page_size ≡ 0) where
  changed_in_body : (k : ℕ) → IsOfChanged at old new k → IsInRange at size k
  changed_in_body k (p, below, is, there) =
      let fits = whole_pages (length new) p (ap (λ (n : ℕ). n % page_size) long ∙ whole) below in
      (omega (arith, there.0), omega (arith, there.1, fits, long))

  pub pages_bounded : (n : ℕ) → at + size ≤ n → (k : ℕ) → IsOfChanged at old new k → k < n
  pages_bounded n fits k is = omega (arith, fits, (changed_in_body k is).1)

  pub patch_in_body : (d : Dev) (most : ℕ) (a b : Told) → Runs (IsPatch d (IsOfChanged at old new) most) a b → Runs (IsPatch d (IsInRange at size) most) a b
  patch_in_body d most a b run = (
    run.0,
    run.1,
    record {
      within = within_more d (IsOfChanged at old new) (IsInRange at size) run.0 changed_in_body run.2.within;
      bytes = run.2.bytes;
      syncs = run.2.syncs;
    },
  )

-- a gate that a clean device gives, and that isn't open, is shut
pub shut_as_read : (d : Dev) (size index gate : ℕ) (a b : Told) → index < 2 → room size ≤ size_of d a.sizes → ForSome a.flashes (AreSized a.sizes) → OnFlash d IsClean a → Does [] a b → gate ≢ 0xA5
    → OnFlash d (λ flash. gate ≡ gate_in size index flash.content) a → OnFlash d (IsGateShut size index) b
shut_as_read d size index gate a b below fits sized clean does other read =
    then_told [] a b (λ fs. IsGateShut size index (flash_of d fs)) does (λ start told.
    let within = gate_fits size index (size_of d a.sizes) below fits in
    let long = (sized start told).content d in
    (gate_in size index (flash_of d start).content, (λ opened. other (read start told ∙ opened)), stands_one (flash_of d start) (gate_offset size index) (clean start told) (omega arith)))
