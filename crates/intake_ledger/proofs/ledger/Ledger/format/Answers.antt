use Rattle.std.proofs.Common.{◌≡◌, ℕ, List, [], length, sym, ap, subst, ◌∙◌, arith, rules}
use Rattle.urna_outside.proofs.Doing.{does_nothing, then_told}
use Rattle.urna_outside.proofs.Faults.{faultless_trans}
use Rattle.twin_image.specs.Level.{IsLevel}
use Rattle.twin_image.specs.Slots.{AreClean}
use Rattle.flash_store.proofs.InUse.{load_cut, load_done, load_not_begun, load_not_tested, load_syncing, loaded}
use Rattle.flash_store.proofs.Resting.{laid_rests}
use Rattle.flash_store.proofs.Syncing.{clean_after}
use Rattle.intake_ledger.specs.Body.{number_in}
use Rattle.intake_ledger.specs.Header.{header, magic}
use Rattle.intake_ledger.specs.Kept.{AreDevices, IsBegun}
use Rattle.intake_ledger.specs.Layout.{body_size}
use Rattle.intake_ledger.specs.Ledger.{empty_ledger}
use Rattle.intake_ledger.proofs.Formatting.{fails_laying, fails_testing}
use Rattle.intake_ledger.proofs.OneBody.{one_body}
use Rattle.intake_ledger.proofs.WholeBody.{whole}
use Rattle.intake_ledger.proofs.ledger.Ledger.format.Goals as goal

pub returns-in_err-test_free-clause-fails : goal.returns-in_err-test_free-clause-fails
returns-in_err-test_free-clause-fails g c =
    let fails = fails_testing (g.M.Machine.told c.args.m.now) (g.M.Machine.told c.sync_both.new.m) (g.M.Machine.told c.test_free.new.m) c.in_err-test_free.field-0.0 c.in_default-sync_both.ensures.synced c.test_free.ensures.done c.in_err-test_free.ensures.fails in
    search rules

pub lay-requires : goal.lay-requires
lay-requires g c =
    let b = g.M.Machine.told c.sync_both.new.m in
    let mid = g.M.Machine.told c.test_free.new.m in
    let synced = c.in_default-sync_both.ensures.synced in
    let done = c.test_free.ensures.done in
    let devices = subst AreDevices (sym (done.sizes ∙ synced.does.sizes)) c.requires.devices in
    let clean = then_told [] b mid AreClean done (clean_after (g.M.Machine.told c.args.m.now) b synced.does) in
    let long : length c.body.result.now ≡ body_size =
    ap (λ (l : List ℕ). length l) c.body.ensures ∙ (whole c.args.tables.now c.in-Ok.room.totals.body c.in-Ok.ensures.empty.stands.whole).long in
    (omega arith, (omega arith, (devices, (clean, (search rules, (search rules, long))))))

pub returns-in-Ok-lay-clause-kept : goal.returns-in-Ok-lay-clause-kept
returns-in-Ok-lay-clause-kept g c =
    let body = c.body.result.now in
    let moved = c.in-Ok-lay.ensures.body in
    let level = c.in-Ok-lay.ensures.level in
    record {
      totals = c.in-Ok.ensures.empty;
      rest = λ fs told.
          laid_rests body_size (header c.args.tables.now) c.header-internal.result c.header-external.result c.in-Ok.room.totals.body body fs c.header-internal.ensures c.header-external.ensures c.body.ensures
          (c.in-Ok-lay.ensures.laid fs told) (subst (λ (b : List ℕ). IsLevel body_size b fs) moved (level.flashes fs told));
    }

pub returns-in-Ok-lay-clause-ran : goal.returns-in-Ok-lay-clause-ran
returns-in-Ok-lay-clause-ran g c =
    let body = c.body.result.now in
    let fresh : ¬ IsBegun body = λ begun. begun (ap number_in c.body.ensures ∙ c.in-Ok.ensures.number) in
    loaded magic body_size IsBegun c.header-internal.result c.header-external.result body fresh (g.M.Machine.told c.args.m.now) (g.M.Machine.told c.sync_both.new.m) (g.M.Machine.told c.test_free.new.m) (g.M.Machine.told c.lay.new.m)
    c.in_default-sync_both.ensures.synced.does c.test_free.ensures.done c.in_ok-test_free.ensures.free c.lay.ensures.ran

pub returns-in-Err-lay-clause-fails : goal.returns-in-Err-lay-clause-fails
returns-in-Err-lay-clause-fails g c =
    let body = c.body.result.now in
    let fresh : ¬ IsBegun body = λ begun. begun (ap number_in c.body.ensures ∙ c.in-Ok.ensures.number) in
    let synced = c.in_default-sync_both.ensures.synced in
    let tested = c.in_ok-test_free.ensures in
    fails_laying c.header-internal.result c.header-external.result body fresh (g.M.Machine.told c.args.m.now) (g.M.Machine.told c.sync_both.new.m) (g.M.Machine.told c.test_free.new.m) (g.M.Machine.told c.lay.new.m)
    synced.does c.test_free.ensures.done tested.free c.lay.ensures.ran c.in-Err-lay.dev (faultless_trans _ _ _ synced.fine tested.fine) c.in-Err-lay.ensures.fails

pub returns-in_default-clause-order : goal.returns-in_default-clause-order
returns-in_default-clause-order g c body stands =
    let a = g.M.Machine.told c.args.m.now in
    load_not_begun body_size (header c.args.tables.now) body a a (does_nothing a)

pub returns-in-Err-clause-order : goal.returns-in-Err-clause-order
returns-in-Err-clause-order g c body stands =
    load_syncing body_size (header c.args.tables.now) body (g.M.Machine.told c.args.m.now) (g.M.Machine.told c.sync_both.new.m) c.in-Err.ensures.ran

pub returns-in_err-test_free-clause-order : goal.returns-in_err-test_free-clause-order
returns-in_err-test_free-clause-order g c body stands =
    let cut = load_not_tested body_size (header c.args.tables.now) body (g.M.Machine.told c.args.m.now) (g.M.Machine.told c.sync_both.new.m) (g.M.Machine.told c.test_free.new.m) c.in_default-sync_both.ensures.synced.does c.test_free.ensures.done in
    search rules

-- the body that is laid is the one that stands for the empty ledger

pub returns-in-Ok-lay-clause-order : goal.returns-in-Ok-lay-clause-order
returns-in-Ok-lay-clause-order g c body stands =
    let t = c.args.tables.now in
    let empty = c.in-Ok.ensures.empty in
    let laid : c.body.result.now ≡ body = c.body.ensures ∙ one_body t c.in-Ok.ensures.tables (empty_ledger t) c.in-Ok.room.totals.body body empty.stands stands in
    load_done body_size (header t) body (g.M.Machine.told c.args.m.now) (g.M.Machine.told c.sync_both.new.m) (g.M.Machine.told c.test_free.new.m) c.in_default-sync_both.ensures.synced.does c.test_free.ensures.done
    (g.M.Machine.told c.lay.new.m) c.header-internal.result c.header-external.result c.body.result.now c.header-internal.ensures c.header-external.ensures laid c.in-Ok-lay.ensures.exact

pub returns-in-Err-lay-clause-order : goal.returns-in-Err-lay-clause-order
returns-in-Err-lay-clause-order g c body stands =
    let t = c.args.tables.now in
    let empty = c.in-Ok.ensures.empty in
    let laid : c.body.result.now ≡ body = c.body.ensures ∙ one_body t c.in-Ok.ensures.tables (empty_ledger t) c.in-Ok.room.totals.body body empty.stands stands in
    load_cut body_size (header t) body (g.M.Machine.told c.args.m.now) (g.M.Machine.told c.sync_both.new.m) (g.M.Machine.told c.test_free.new.m) c.in_default-sync_both.ensures.synced.does c.test_free.ensures.done
    (g.M.Machine.told c.lay.new.m) c.header-internal.result c.header-external.result c.body.result.now c.header-internal.ensures c.header-external.ensures laid c.in-Err-lay.ensures.cut
