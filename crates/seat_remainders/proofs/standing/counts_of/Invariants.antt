use Rattle.std.proofs.Common.{◌≡◌, take, count_by}
use Rattle.quotients.specs.Quotients.{has_fifth, has_tenth}
use Rattle.seat_remainders.specs.Parties.{nominal_votes}
use Rattle.seat_remainders.proofs.standing.counts_of.Given as goal

-- what is counted of the candidates so far
abbrev pub invariant-loop-entry : goal.invariant-loop-entry
invariant-loop-entry l =
    record {
      votes : l.votes ≡ nominal_votes (take l.entry-index l.candidates);
      tenths : l.tenths ≡ count_by (λ c. has_tenth c.votes l.qe) (take l.entry-index l.candidates);
      fifths : l.fifths ≡ count_by (λ c. has_fifth c.votes l.qe) (take l.entry-index l.candidates);
    }
