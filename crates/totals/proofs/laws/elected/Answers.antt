use Rattle.totals.proofs.ElectedLaws.{elected_are_candidates, elected_have_votes, majority_is_of_candidates, nobody_has_two, nobody_is_elected_twice, seats_are_of_blocs, seats_are_of_candidates, seats_are_taken}
use Rattle.totals.proofs.SimpleRule.{one_seat}
use Rattle.totals.proofs.laws.elected.Goals as goal

pub returns : goal.returns
returns c = record {
  seats = seats_are_of_candidates;
  blocs = seats_are_of_blocs;
  once = nobody_has_two;
  majority = majority_is_of_candidates;
  one_seat = one_seat;
  candidates = elected_are_candidates;
  not_twice = nobody_is_elected_twice;
  votes = elected_have_votes;
  taken = seats_are_taken;
}
