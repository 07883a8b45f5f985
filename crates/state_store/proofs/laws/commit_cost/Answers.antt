use Rattle.flash_store.proofs.Costs.{costs_are_bounded}
use Rattle.state_store.specs.Played.{kept_poll}
use Rattle.state_store.proofs.PageBound.{ballot_costs_few, opening_costs_one_page, sealing_costs_one_page}
use Rattle.state_store.proofs.laws.commit_cost.Goals as goal

pub returns-clause-session : goal.returns-clause-session
returns-clause-session c = λ t load. costs_are_bounded (kept_poll t load)

pub returns-clause-ballot : goal.returns-clause-ballot
returns-clause-ballot _ = ballot_costs_few

pub returns-clause-opening : goal.returns-clause-opening
returns-clause-opening _ = opening_costs_one_page

pub returns-clause-sealing : goal.returns-clause-sealing
returns-clause-sealing _ = sealing_costs_one_page
