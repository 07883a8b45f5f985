use Rattle.intake_ledger.proofs.OneBody.{one_body}
use Rattle.intake_ledger.proofs.Ranking.{decoded_stands, stands_decoded}
use Rattle.intake_ledger.proofs.Standing.{is_ledger}
use Rattle.intake_ledger.proofs.Empty.{empty_has_body}
use Rattle.intake_ledger.proofs.laws.bodies.Goals as goal

pub returns-clause-exactly : goal.returns-clause-exactly
returns-clause-exactly c t l bytes = (stands_decoded t l bytes, decoded_stands t l bytes)

pub returns-clause-ledgers : goal.returns-clause-ledgers
returns-clause-ledgers c t l bytes tables stands = is_ledger t tables bytes l stands

pub returns-clause-one : goal.returns-clause-one
returns-clause-one c t l a b tables first second = one_body t tables l a b first second

pub returns-clause-empty : goal.returns-clause-empty
returns-clause-empty c = empty_has_body
