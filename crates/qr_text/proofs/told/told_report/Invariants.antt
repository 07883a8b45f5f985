use Rattle.std.proofs.Common.{◌≡◌, map, take}
use Rattle.qr_text.proofs.told.told_report.Given as goal
use Rattle.qr_text.specs.Reported.{told_office}

abbrev pub invariant-loop-office : goal.invariant-loop-office
invariant-loop-office l = l.offices ≡ map told_office (take l.office-index l.office-items)
