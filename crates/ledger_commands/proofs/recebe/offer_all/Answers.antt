use Rattle.std.proofs.Common.{◌+◌, not, refl, sym, ap, subst, arith}
use Rattle.std.proofs.lemmas.Result.{err_from_is_err_and}
use Rattle.report_lines.proofs.Refused.{counted_none, counted_one}
use Rattle.intake_ledger.specs.Calls.{Keeps}
use Rattle.intake_ledger.specs.Kept.{AreDevices}
use Rattle.intake_ledger.specs.Ledger.{LedgerData}
use Rattle.ledger_commands.specs.Receiving.{AreSoFar}
use Rattle.ledger_commands.proofs.Receiving.{all_so_far, none_so_far, one_so_far, stopped_there}
use Rattle.ledger_commands.proofs.recebe.offer_all.Goals.{else-not-is_accepted, then-not-is_accepted}
use Rattle.ledger_commands.proofs.recebe.offer_all.Goals as goal

pub loop-i-init : goal.loop-i-init
loop-i-init g c =
    record {
      devices = c.requires.devices;
      so_far = λ l keeps. none_so_far c.args.tables.now l c.args.list.now c.requires.valid c.args.ledger (g.C.Cabinet.told c.args.cabinet.now) (g.M.Machine.told c.args.machine.now) keeps;
    }

pub offer-requires-clause-kept : goal.offer-requires-clause-kept
offer-requires-clause-kept g c = let (l, keeps) = c.requires.kept in let h = c.loop-i.invariant.so_far l keeps in (h.last, h.keeps)

pub returns-in_err-behind : goal.returns-in_err-behind
returns-in_err-behind g c l keeps =
    let h = c.loop-i.invariant.so_far l keeps in
    let p = err_from_is_err_and c.from_residual.result c.from_residual.ensures.1 in
    rw (p.1, p.2)
    (stopped_there c.args.tables.now l c.args.list.now c.loop-i.i (c.loop-i.i + 1) c.name.result.now c.loop-i.ledger c.loop-i.refused (g.C.Cabinet.told c.args.cabinet.now)
    (g.C.Cabinet.told c.loop-i.cabinet) (g.C.Cabinet.told c.offer.new.cabinet) (g.M.Machine.told c.args.machine.now) (g.M.Machine.told c.loop-i.machine) (g.M.Machine.told c.offer.new.machine)
    (omega (arith, c.loop-i-test.true, c.len-i-end.ensures.count)) c.name.ensures.line refl h c.in_err-behind.field-0.0 (c.in_err-behind.ensures h.last h.keeps))

pub overflow_add-refused : goal.overflow_add-refused
overflow_add-refused g c =
    let (l, keeps) = c.requires.kept in
    let h = c.loop-i.invariant.so_far l keeps in
    omega (arith, h.few, c.loop-i-test.true, c.len-i-end.ensures.few)

pub loop-i-preserved : goal.loop-i-preserved
loop-i-preserved g c =
    let m = g.M.Machine.told c.args.machine.now in
    let so_far : (l : LedgerData) → Keeps c.args.tables.now m c.args.ledger l
    → AreSoFar c.args.tables.now l c.args.list.now (c.loop-i.i + 1) c.in_ok-behind.behind c.if-not-is_accepted.refused (g.C.Cabinet.told c.args.cabinet.now)
    (g.C.Cabinet.told c.offer.new.cabinet) m (g.M.Machine.told c.offer.new.machine) =
    λ l keeps.
    let h = c.loop-i.invariant.so_far l keeps in
    let v = c.in_ok-behind.verdict in
    let one = one_so_far c.args.tables.now l c.args.list.now c.loop-i.i (c.loop-i.i + 1) c.name.result.now c.loop-i.ledger c.loop-i.refused (g.C.Cabinet.told c.args.cabinet.now)
    (g.C.Cabinet.told c.loop-i.cabinet) (g.C.Cabinet.told c.offer.new.cabinet) m (g.M.Machine.told c.loop-i.machine) (g.M.Machine.told c.offer.new.machine)
    (omega (arith, c.loop-i-test.true, c.len-i-end.ensures.count)) c.name.ensures.line refl h c.in_ok-behind.behind c.if-not-is_accepted.refused v (c.in_ok-behind.ensures h.last h.keeps) in
    elim c.if-not-is_accepted.branch [
      | then-not-is_accepted w ↦ one (counted_one v c.is_accepted.result c.loop-i.refused c.if-not-is_accepted.refused c.is_accepted.ensures (ap not w.if-not-is_accepted.true) w.refused-is)
      | else-not-is_accepted w ↦ one (counted_none v c.is_accepted.result c.loop-i.refused c.if-not-is_accepted.refused c.is_accepted.ensures (ap not w.if-not-is_accepted.false) w.refused-is)
    ] in
    record {
      devices = let (l, keeps) = c.requires.kept in subst AreDevices (sym (so_far l keeps).put.does.sizes) c.requires.devices;
      so_far = so_far;
    }

pub returns : goal.returns
returns g c l keeps =
    all_so_far c.args.tables.now l c.args.list.now c.loop-i.i c.loop-i.ledger c.loop-i.refused (g.C.Cabinet.told c.args.cabinet.now) (g.C.Cabinet.told c.loop-i.cabinet)
    (g.M.Machine.told c.args.machine.now) (g.M.Machine.told c.loop-i.machine) (omega (arith, c.loop-i-test.false, c.loop-i.auto.i-end, c.len-i-end.ensures.count))
    (c.loop-i.invariant.so_far l keeps)
