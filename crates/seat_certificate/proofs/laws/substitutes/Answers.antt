use Rattle.seat_certificate.proofs.Listed.{all_candidates}
use Rattle.seat_certificate.proofs.laws.substitutes.Goals as goal

pub returns : goal.returns
returns _ = all_candidates
