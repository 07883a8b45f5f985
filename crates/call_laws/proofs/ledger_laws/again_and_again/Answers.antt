use Rattle.call_laws.proofs.LedgerAgain.{begin_makes_ready, calls_keep_offers, next_is_found}
use Rattle.call_laws.proofs.ledger_laws.again_and_again.Goals as goal

pub returns : goal.returns
returns c = record { kept = calls_keep_offers c.names_or_bad_line.ensures; next = next_is_found c.names_or_bad_line.ensures; begins = begin_makes_ready }
