-- The two syncs: what they leave, and what is so before and behind them.
use Rattle.std.proofs.Common.{◌≡◌, inl, inr, ℕ, List, [], ◌∷◌, ◌++◌, length, sym, ap, subst, ◌∙◌, arith}
use Rattle.std.proofs.lemmas.List.{append_cancel_left}
use Rattle.std.specs.Option.{ForSome}
use Rattle.urna_outside.specs.Flash.{Flash, Flashes, IsImage, Op, Sync, after, after_one, shown_by, synced}
use Rattle.urna_outside.specs.Stop.{IsLeft, IsStop, Left}
use Rattle.urna_outside.specs.Told.{Does, Told}
use Rattle.urna_outside.specs.Traced.{IsTraced}
use Rattle.urna_outside.specs.declared.device.Dev.{Dev}
use Rattle.urna_outside.specs.declared.device.Dev.TheVariants.{Internal, External}
use Rattle.urna_outside.proofs.Doing.{then_told, told_after}
use Rattle.urna_outside.proofs.Keeping.{synced_clean}
use Rattle.urna_outside.proofs.Traced.{traced_is}
use Rattle.twin_image.specs.Slots.{AreClean}
use Rattle.flash_store.specs.Held.{KeepFrames}
use Rattle.flash_store.specs.Laws.{SyncsLeaveNoMore}
use Rattle.flash_store.specs.Syncs.{both_synced}

-- after both syncs nothing is dirty
pub both_clean : (start : Flashes) → AreClean (after both_synced start)
both_clean start Internal = synced_clean start.internal
both_clean start External = synced_clean start.external

pub clean_after : (a b : Told) → Does both_synced a b → ForSome b.flashes AreClean
clean_after a b does = then_told both_synced a b AreClean does (λ start told. both_clean start)

-- the syncs change no content
pub told_before : (a b : Told) (P : List ℕ → List ℕ → Type 0) → Does both_synced a b → ForSome b.flashes (λ fs. P fs.internal.content fs.external.content) → ForSome a.flashes (λ fs. P fs.internal.content fs.external.content)
told_before a b P does holds start told = holds (after both_synced start) (told_after both_synced a b start does told)

pub frames_before : (size : ℕ) (start : Flashes) (left : Left) → KeepFrames size (after both_synced start) left → KeepFrames size start left
frames_before size start left keeps Internal = keeps Internal
frames_before size start left keeps External = keeps External

-- a sync takes images away, and adds none
synced_image : (f : Flash) (image : List ℕ) → IsImage (synced f) image → IsImage f image
synced_image f image is = record { same_length = is.same_length; clean = λ k clean. is.clean k (synced_clean f k) }

pub sync_leaves : (d : Dev) (flashes : Flashes) (text : List ℕ) (left : Left) → IsLeft (after_one (Sync d) flashes) text left → IsLeft flashes text left
sync_leaves Internal flashes text left is = record { internal = synced_image flashes.internal left.internal is.internal; external = is.external; shown = is.shown }
sync_leaves External flashes text left is = record { internal = is.internal; external = synced_image flashes.external left.external is.external; shown = is.shown }

within_second : (flashes : Flashes) (done : List Op) (left : Left) → IsStop (Sync External ∷ []) done → IsLeft (after done flashes) (shown_by done) left → IsLeft flashes [] left
within_second flashes [] left stop is = is
within_second flashes (one ∷ []) left (inl whole) is =
    sync_leaves External flashes [] left (subst (λ (op : Op). IsLeft (after_one op flashes) (shown_by (op ∷ [])) left) whole.0 is)
within_second flashes (one ∷ two ∷ done) left (inl whole) is = absurd whole.1
within_second flashes (one ∷ done) left (inr part) is = absurd part.0

pub syncs_leave_no_more : SyncsLeaveNoMore
syncs_leave_no_more start [] left stop is = is
syncs_leave_no_more start (one ∷ done) left (inl whole) is =
    sync_leaves Internal start [] left
    (within_second (after_one (Sync Internal) start) done left whole.1 (subst (λ (op : Op). IsLeft (after done (after_one op start)) (shown_by (op ∷ done)) left) whole.0 is))
syncs_leave_no_more start (one ∷ done) left (inr part) is = absurd part.0

-- ---- a call that did the two syncs, and then the rest of its trail

module _ (m n : Told) (start : Flashes) (rest : List Op) (traced : IsTraced m n start (both_synced ++ rest)) where
  -- what was done behind the syncs is the rest of the trail
  pub behind_is : (ops behind : List Op) → Does ops m n → ops ≡ both_synced ++ behind → behind ≡ rest
  behind_is ops behind does is = append_cancel_left both_synced behind rest (sym is ∙ traced_is m n start (both_synced ++ rest) ops traced does)

  -- it did something, and more than the first sync
  pub not_done : Does [] m n → ⊥
  not_done does = let is = traced_is m n start (both_synced ++ rest) [] traced does in absurd (cc)

  pub not_within : Does (Sync Internal ∷ []) m n → ⊥
  not_within does =
      let is = traced_is m n start (both_synced ++ rest) (Sync Internal ∷ []) traced does in
      let long : 1 ≡ length (both_synced ++ rest) = ap length is in
      absurd (omega arith)
