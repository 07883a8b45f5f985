use Rattle.std.proofs.Common.{length, length-take, take, ap, arith}
use Rattle.std.proofs.lemmas.List.{length-map}
use Rattle.qr_text.proofs.Telling.{few_said, short_said}
use Rattle.qr_text.proofs.told.told_report.Goals as goal
use Rattle.qr_text.specs.Reported.{told_office}

pub told_office-requires-clause-candidates : goal.told_office-requires-clause-candidates
told_office-requires-clause-candidates c =
    let within = ap length c.as_slice-office-items.ensures in
    (short_said c.args.said.now c.loop-office.office-index c.office-item.result c.requires (omega (arith, within, c.loop-office-test.true)) (rw c.as_slice-office-items.ensures at c.office-item.is)).0

pub told_office-requires-clause-legends : goal.told_office-requires-clause-legends
told_office-requires-clause-legends c =
    let within = ap length c.as_slice-office-items.ensures in
    (short_said c.args.said.now c.loop-office.office-index c.office-item.result c.requires (omega (arith, within, c.loop-office-test.true)) (rw c.as_slice-office-items.ensures at c.office-item.is)).1

pub push-requires : goal.push-requires
push-requires c =
    let within = ap length c.as_slice-office-items.ensures in
    let so_far = ap length c.loop-office.invariant in
    let mapped = length-map (take c.loop-office.office-index c.as_slice-office-items.result.now) told_office in
    let taken = length-take c.loop-office.office-index c.as_slice-office-items.result.now in
    omega (arith, within, so_far, mapped, taken, few_said c.args.said.now c.requires)
