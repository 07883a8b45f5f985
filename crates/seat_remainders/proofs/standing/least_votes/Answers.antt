use Rattle.std.proofs.Common.{◌≤◌, nat_le, count_by, arith}
use Rattle.seat_remainders.proofs.Ordered.{all_have_none}
use Rattle.seat_remainders.proofs.standing.least_votes.Goals as goal

pub returns-else-seats-standing : goal.returns-else-seats-standing
returns-else-seats-standing c =
    λ p stands few.
    let all = all_have_none p.candidates in
    let enough : c.args.seats ≤ count_by (λ e. nat_le 0 e.votes) p.candidates = omega arith in
    enough
