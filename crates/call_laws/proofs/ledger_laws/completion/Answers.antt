use Rattle.call_laws.proofs.LedgerCompletion.{completes, tells_of_risen_counts}
use Rattle.call_laws.proofs.ledger_laws.completion.Goals as goal

pub returns-clause-done : goal.returns-clause-done
returns-clause-done c = completes c.names_or_bad_line.ensures

pub returns-clause-counts : goal.returns-clause-counts
returns-clause-counts _ = tells_of_risen_counts
