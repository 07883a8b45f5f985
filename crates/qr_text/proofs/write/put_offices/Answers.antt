use Rattle.std.proofs.Common.{arith}
use Rattle.qr_text.proofs.WriteLaws.{counted_item, offices_step}
use Rattle.qr_text.proofs.write.put_offices.Goals as goal

pub put_office-requires : goal.put_office-requires
put_office-requires c =
    counted_item c.args.report.now c.as_slice-office-items.result.now c.loop-office.office-index c.office-item.result c.requires
    c.as_slice-office-items.ensures.items (omega (arith, c.loop-office-test.true)) c.office-item.is

pub loop-office-preserved : goal.loop-office-preserved
loop-office-preserved c =
    offices_step c.args.report.now c.as_slice-office-items.result.now c.args.report.now.offices c.loop-office.office-index
    c.office-item.result
    c.args.out.now.items c.loop-office.out.items c.put_office.new.out.items
    c.as_slice-office-items.ensures.items (omega (arith, c.loop-office-test.true)) c.office-item.is c.loop-office.invariant
    c.in_ok-put_office.ensures
