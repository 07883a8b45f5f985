use Rattle.call_laws.proofs.Completion.{completes, tells_of_risen_counts}
use Rattle.call_laws.proofs.urna_laws.completion.Goals as goal

pub returns-clause-done : goal.returns-clause-done
returns-clause-done c = completes c.one_finding.ensures.either c.one_held.ensures.decoded c.one_poll.ensures c.names_or_bad_line.ensures

pub returns-clause-counts : goal.returns-clause-counts
returns-clause-counts _ = tells_of_risen_counts
