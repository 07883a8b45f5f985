use Rattle.intake_ledger.proofs.OneOffer.{accepted_is_repeated, one_offer, some_offer}
use Rattle.intake_ledger.proofs.laws.offers.Goals as goal

pub returns : goal.returns
returns c = record { one = one_offer; some = some_offer; repeated = accepted_is_repeated }
