use Rattle.call_laws.proofs.LedgerHeadline.{ledger_is_kept, offers_are_kept}
use Rattle.call_laws.proofs.ledger_laws.offers_are_kept.Goals as goal

pub returns : goal.returns
returns c = record { offers = offers_are_kept; ledger = ledger_is_kept }
