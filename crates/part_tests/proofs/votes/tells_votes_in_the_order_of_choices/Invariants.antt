use Rattle.std.proofs.Common.{◌≡◌, ◌≤◌, length}
use Rattle.vote_record.specs.RdvData.{room_at}
use Rattle.part_tests.proofs.votes.tells_votes_in_the_order_of_choices.Given as goal

abbrev pub invariant-loop-choice : goal.invariant-loop-choice
invariant-loop-choice g l = record {
  panels : length l.votes.bags ≡ 3;
  room : 6 ≤ room_at l.votes 0;
}
