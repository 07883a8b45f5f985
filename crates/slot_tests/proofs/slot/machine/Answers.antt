use Rattle.urna_outside.proofs.Keeping.{started_clean}
use Rattle.slot_tests.proofs.slot.machine.Goals as goal

pub returns-clause-clean : goal.returns-clause-clean
returns-clause-clean g c = λ fs some. (started_clean _ _ _ _ c.in_ok-restart.ensures.told fs some).1
