use Rattle.std.proofs.Common.{◌≡◌, take}
use Rattle.seat_remainders.specs.Parties.{nominal_votes}
use Rattle.seat_tests.proofs.owed.candidate_votes.Given as goal

-- those of the candidates so far
abbrev pub invariant-loop-entry : goal.invariant-loop-entry
invariant-loop-entry l = l.votes ≡ nominal_votes (take l.entry-index l.entries)
