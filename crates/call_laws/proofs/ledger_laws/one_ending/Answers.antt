use Rattle.call_laws.proofs.LedgerRefused.{refused_end_so, refused_once}
use Rattle.call_laws.proofs.ledger_laws.one_ending.Goals as goal

pub returns : goal.returns
returns c = record { refused = refused_once; ends = refused_end_so c.names_or_bad_line.ensures }
