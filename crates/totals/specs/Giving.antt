-- How the candidates of a panel are given to the blocs
use Rattle.std.specs.Prelude.{◌≡◌, ℕ, ◌==◌, Some, slice_get, List, [], filter, sum_by}
use Rattle.election_tables.specs.TablesData.{TablesData, bloc_of}
use Rattle.poll_report.specs.declared.report.Report.{Report}
use Rattle.section_intake.specs.Sums.{party_sum}
use Rattle.seat_remainders.specs.declared.contest.Contestant.{Contestant}
use Rattle.seat_remainders.specs.declared.contest.Entry.{Entry}
use Rattle.totals.specs.Contest.{bloc_of_candidate, blocs_of, parties_of}

-- the party votes of a bloc: those of its parties
abbrev pub party_votes_for : TablesData → List Report → ℕ → ℕ → ℕ
party_votes_for t reports panel bloc = sum_by (λ party. party_sum panel party reports) (parties_of t bloc)

-- a bloc with them, and without candidates yet
abbrev pub without_candidates : TablesData → List Report → ℕ → ℕ → Contestant
without_candidates t reports panel bloc = record { number = bloc; party_votes = party_votes_for t reports panel bloc; candidates = [] }

-- those of a bloc among candidates, in the same order
abbrev pub candidates_of : TablesData → ℕ → ℕ → List Entry → List Entry
candidates_of t digits bloc candidates = filter (λ c. bloc_of_candidate t digits c == bloc) candidates

-- a bloc with those of these candidates that are its own
abbrev pub with_candidates : TablesData → ℕ → List Entry → Contestant → Contestant
with_candidates t digits candidates b = record { number = b.number; party_votes = b.party_votes; candidates = candidates_of t digits b.number candidates }

-- of a party, where its bloc stands among them
abbrev pub IsPlaceOf : TablesData → ℕ × ℕ → Type 0
IsPlaceOf t (party, place) = slice_get (blocs_of t) place ≡ Some (bloc_of t.federations party)
