use Rattle.std.proofs.Common.{◌≡◌, ◌≤◌, ◌+◌, ◌*◌, ℕ, List, drop, length, sym, subst, ◌∙◌, arith, rules}
use Rattle.urna_outside.specs.Flash.{IsClean}
use Rattle.urna_outside.specs.Told.{Sizes, size_of}
use Rattle.urna_outside.specs.declared.device.Dev.TheVariants.{Internal, External}
use Rattle.urna_outside.proofs.Faults.{ends_later}
use Rattle.gate_slot.specs.Page.{AreChanges}
use Rattle.gate_slot.specs.Slot.{room}
use Rattle.twin_image.specs.Level.{IsLevel, body_of}
use Rattle.twin_image.specs.Order.{AreRenewals, IsRenewal}
use Rattle.twin_image.specs.Rewrite.{rewrite_bytes}
use Rattle.twin_image.specs.Slots.{HaveRoom}
use Rattle.twin_image.specs.Twin.{IsTwin}
use Rattle.twin_image.proofs.Looking.{refilled}
use Rattle.twin_image.proofs.Committing.{committed_internal, committed, level_of, other_kept}
use Rattle.twin_image.proofs.Ordering.{cut_early, cut_in_row, in_row, renewal_is, renewal_ops, renewals_join}
use Rattle.twin_image.proofs.Renewing.{twin_bounded}
use Rattle.twin_image.proofs.Rewriting.{puts-append, puts_more}
use Rattle.twin_image.proofs.level.Level.commit.Goals as goal

pub returns-in_err-internal-clause-order : goal.returns-in_err-internal-clause-order
returns-in_err-internal-clause-order g c =
    let old = body_of c.args.self in
    let new = c.args.next.now in
    let cut = rw c.deref-2.ensures.value at c.in_err-internal.ensures.order in
    let front = cut_early (IsRenewal g.row.SIZE Internal old new) (IsRenewal g.row.SIZE External old new) (AreRenewals g.row.SIZE old new) _ _ (renewal_ops g.row.SIZE External old new) (renewals_join g.row.SIZE old new) (renewal_is g.row.SIZE External old new) cut in
    search rules

pub returns-in_err-external-clause-order : goal.returns-in_err-external-clause-order
returns-in_err-external-clause-order g c =
    let old = body_of c.args.self in
    let new = c.args.next.now in
    let first = rw c.deref-2.ensures.value at c.in_ok-internal.ensures.order in
    let cut = rw c.deref-3.ensures.value at c.in_err-external.ensures.order in
    let front = cut_in_row (IsRenewal g.row.SIZE Internal old new) (IsRenewal g.row.SIZE External old new) (AreRenewals g.row.SIZE old new) _ _ _ (renewals_join g.row.SIZE old new) first cut in
    search rules

pub returns-clause-order : goal.returns-clause-order
returns-clause-order g c =
    let old = body_of c.args.self in
    let new = c.args.next.now in
    let first = rw c.deref-2.ensures.value at c.in_ok-internal.ensures.order in
    let second = rw c.deref-3.ensures.value at c.in_ok-external.ensures.order in
    in_row (IsRenewal g.row.SIZE Internal old new) (IsRenewal g.row.SIZE External old new) (AreRenewals g.row.SIZE old new) _ _ _ (renewals_join g.row.SIZE old new) first second

pub renew_on-requires : goal.renew_on-requires
renew_on-requires g c =
    let s = c.requires.stands in
    let bytes = sym c.deref-2.ensures.value in
    let changes = subst (λ (l : List ℕ). AreChanges c.of-changes.result l c.args.next.now) (c.deref.ensures.value ∙ bytes) c.of-changes.ensures in
    (omega arith, (s.internal, (s.fits Internal, (subst (λ (l : List ℕ). length l ≡ g.row.SIZE) bytes s.long, (c.requires.next, (changes, ((λ fs told. (s.flashes fs told).clean Internal), λ fs told. subst (λ (l : List ℕ). IsTwin g.row.SIZE l fs.internal) bytes ((s.flashes fs told).twins Internal))))))))

pub renew_on-requires-2 : goal.renew_on-requires-2
renew_on-requires-2 g c =
    let s = c.requires.stands in
    let run = rw c.deref-2.ensures.value at c.renew_on.ensures.ran in
    let bytes = sym c.deref-3.ensures.value in
    let changes = subst (λ (l : List ℕ). AreChanges c.of-changes.result l c.args.next.now) (c.deref.ensures.value ∙ bytes) c.of-changes.ensures in
    let fits = subst (λ (z : Sizes). room g.row.SIZE ≤ size_of External z) (sym run.1.sizes) (s.fits External) in
    let still = other_kept Internal _ 6 _ (λ f. IsTwin g.row.SIZE (body_of c.args.self) f × IsClean f) _ _ (twin_bounded g.row.SIZE _ (s.fits Internal)) (g.met.M.Machine.sized c.args.m.now) run (λ fs told. ((s.flashes fs told).twins External, (s.flashes fs told).clean External)) in
    (omega arith, (s.external, (fits, (subst (λ (l : List ℕ). length l ≡ g.row.SIZE) bytes s.long, (c.requires.next, (changes, ((λ fs told. (still fs told).1), λ fs told. subst (λ (l : List ℕ). IsTwin g.row.SIZE l fs.external) bytes (still fs told).0)))))))

pub returns-in_err-internal-clause-ran : goal.returns-in_err-internal-clause-ran
returns-in_err-internal-clause-ran g c =
    let s = c.requires.stands in
    let run = rw c.deref-2.ensures.value at c.renew_on.ensures.ran in
    committed_internal (g.R.Ranked.rank c.args.ranks.now) g.row.SIZE (body_of c.args.self) c.args.next.now s.long c.requires.next c.requires.rank _ _ s.fits (g.met.M.Machine.sized c.args.m.now) s.flashes run

pub returns-in_err-external-clause-ran : goal.returns-in_err-external-clause-ran
returns-in_err-external-clause-ran g c =
    let s = c.requires.stands in
    let run = rw c.deref-2.ensures.value at c.renew_on.ensures.ran in
    let run_2 = rw c.deref-3.ensures.value at c.renew_on-2.ensures.ran in
    committed (g.R.Ranked.rank c.args.ranks.now) g.row.SIZE (body_of c.args.self) c.args.next.now s.long c.requires.next c.requires.rank _ _ _ s.fits (g.met.M.Machine.sized c.args.m.now) (g.met.M.Machine.sized c.renew_on.new.m) s.flashes run c.in_ok-internal.ensures.twin run_2

pub returns-in_err-external-clause-fails : goal.returns-in_err-external-clause-fails
returns-in_err-external-clause-fails g c =
    let ends = ends_later _ _ _ _ c.in_ok-internal.ensures.fails c.in_err-external.ensures.fails in search rules

pub returns-clause-level : goal.returns-clause-level
returns-clause-level g c =
    let s = c.requires.stands in
    let run = rw c.deref-2.ensures.value at c.renew_on.ensures.ran in
    let run_2 = rw c.deref-3.ensures.value at c.renew_on-2.ensures.ran in
    let fits = subst (HaveRoom g.row.SIZE) (sym run.1.sizes) s.fits in
    let twin = c.in_ok-internal.ensures.twin in
    let clean = c.in_ok-internal.ensures.clean in
    let twin_2 = c.in_ok-external.ensures.twin in
    let clean_2 = c.in_ok-external.ensures.clean in
    let body = c.args.self.body in
    let now = c.bring.new.body in
    let long : body.len ≡ length now = search rules in
    let bytes = sym (refilled body.len now (drop (length now) body.items) long ∙ c.bring.ensures) in
    let still = other_kept External _ 6 _ (λ f. IsTwin g.row.SIZE c.args.next.now f × IsClean f) _ _ (twin_bounded g.row.SIZE _ (fits External)) (g.met.M.Machine.sized c.renew_on.new.m) run_2 (λ fs told. (twin fs told, clean fs told)) in
    record {
      internal = c.in_ok-internal.ensures.pair;
      external = c.in_ok-external.ensures.pair;
      long = subst (λ (l : List ℕ). length l ≡ g.row.SIZE) bytes c.requires.next;
      fits = subst (HaveRoom g.row.SIZE) (sym run_2.1.sizes) fits;
      flashes = λ fs told. subst (λ (l : List ℕ). IsLevel g.row.SIZE l fs) bytes (level_of g.row.SIZE c.args.next.now fs (still fs told) (twin_2 fs told, clean_2 fs told));
    }

pub returns-clause-ran : goal.returns-clause-ran
returns-clause-ran g c =
    let s = c.requires.stands in
    let run = rw c.deref-2.ensures.value at c.renew_on.ensures.ran in
    let run_2 = rw c.deref-3.ensures.value at c.renew_on-2.ensures.ran in
    committed (g.R.Ranked.rank c.args.ranks.now) g.row.SIZE (body_of c.args.self) c.args.next.now s.long c.requires.next c.requires.rank _ _ _ s.fits (g.met.M.Machine.sized c.args.m.now) (g.met.M.Machine.sized c.renew_on.new.m) s.flashes run c.in_ok-internal.ensures.twin run_2

pub returns-in_err-internal-clause-bytes : goal.returns-in_err-internal-clause-bytes
returns-in_err-internal-clause-bytes g c =
    let bytes = rewrite_bytes g.row.SIZE (body_of c.args.self) c.args.next.now in
    puts_more (2 * (bytes + 2)) (4 * (bytes + 2)) _ _ (omega arith) (rw c.deref-2.ensures.value at c.renew_on.ensures.bytes)

pub returns-in_err-external-clause-bytes : goal.returns-in_err-external-clause-bytes
returns-in_err-external-clause-bytes g c =
    let bytes = rewrite_bytes g.row.SIZE (body_of c.args.self) c.args.next.now in
    puts-append (2 * (bytes + 2)) (2 * (bytes + 2)) (4 * (bytes + 2)) _ _ _ (omega arith) (rw c.deref-2.ensures.value at c.renew_on.ensures.bytes) (rw c.deref-3.ensures.value at c.renew_on-2.ensures.bytes)

pub returns-clause-bytes : goal.returns-clause-bytes
returns-clause-bytes g c =
    let bytes = rewrite_bytes g.row.SIZE (body_of c.args.self) c.args.next.now in
    puts-append (2 * (bytes + 2)) (2 * (bytes + 2)) (4 * (bytes + 2)) _ _ _ (omega arith) (rw c.deref-2.ensures.value at c.renew_on.ensures.bytes) (rw c.deref-3.ensures.value at c.renew_on-2.ensures.bytes)
