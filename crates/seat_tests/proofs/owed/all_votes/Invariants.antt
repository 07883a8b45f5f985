use Rattle.std.proofs.Common.{◌≡◌, take}
use Rattle.seat_remainders.specs.Parties.{valid_votes}
use Rattle.seat_tests.proofs.owed.all_votes.Given as goal

-- those of the parties so far
abbrev pub invariant-loop-party : goal.invariant-loop-party
invariant-loop-party l = l.votes ≡ valid_votes (take l.party-index l.parties)
