use Rattle.rehearsal_run.proofs.Sealing.{run_seals, comers_voted}
use Rattle.rehearsal_run.proofs.laws.the_rehearsal_seals.Goals as goal

pub returns-clause-sealed : goal.returns-clause-sealed
returns-clause-sealed c = run_seals

pub returns-clause-came : goal.returns-clause-came
returns-clause-came c = comers_voted
