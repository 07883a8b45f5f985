use Rattle.urna_outside.proofs.Keeping.{started_clean}
use Rattle.slot_tests.proofs.device.machine.Goals as goal

pub returns-clause-clean : goal.returns-clause-clean
returns-clause-clean g c = λ fs some. (started_clean _ _ _ _ c.in_ok-m.ensures.told fs some).0
