use Rattle.voter_term.proofs.Screens.{last_screen}
use Rattle.voter_term.proofs.laws.last_screen.Goals as goal

pub returns : goal.returns
returns c = λ line earlier w some may. last_screen line earlier some w may
