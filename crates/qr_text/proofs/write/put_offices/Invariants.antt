use Rattle.std.proofs.Common.{◌≡◌, ◌++◌, take}
use Rattle.std.specs.List.{flat_map}
use Rattle.qr_text.specs.Writing.{spaced_office}
use Rattle.qr_text.proofs.write.put_offices.Given as goal

abbrev pub invariant-loop-office : goal.invariant-loop-office
invariant-loop-office l = l.out.items ≡ l.fn.out.items ++ flat_map (spaced_office l.report) (take l.office-index l.report.offices)
