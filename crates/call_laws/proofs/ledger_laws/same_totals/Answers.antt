use Rattle.call_laws.proofs.LedgerAgreeing.{led_has_sums, totals_tell_ledger}
use Rattle.call_laws.proofs.ledger_laws.same_totals.Goals as goal

pub returns : goal.returns
returns c = record { sums = led_has_sums; lines = totals_tell_ledger }
