use Rattle.intake_ledger.specs.Entry.{HasAdded}
use Rattle.intake_ledger.proofs.entry.add_report.Given as goal

abbrev pub invariant-loop-place : goal.invariant-loop-place
invariant-loop-place l = HasAdded l.choices l.report l.place l.fn.into l.into
