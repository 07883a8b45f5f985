-- The votes of an office over the reports that were accepted, as the law of seats is applied to them (docs/RULES.md, "The totals")
use Rattle.std.specs.Prelude.{ℕ, ◌==◌, List, map, filter, sum_by}
use Rattle.election_tables.specs.Fields.{first_two}
use Rattle.election_tables.specs.TablesData.{TablesData, bloc_of}
use Rattle.election_tables.specs.declared.tables.candidates.NamedCandidate.{NamedCandidate}
use Rattle.election_tables.specs.declared.tables.panels.Panel.{Panel}
use Rattle.poll_report.specs.declared.report.Report.{Report}
use Rattle.vote_kinds.specs.Ballot.{panel_at}
use Rattle.section_intake.specs.Sums.{all_nominal, all_party, blank_sum, nominal_sum, null_sum, party_sum}
use Rattle.seat_remainders.specs.declared.contest.Contest.{Contest}
use Rattle.seat_remainders.specs.declared.contest.Contestant.{Contestant}
use Rattle.seat_remainders.specs.declared.contest.Entry.{Entry}
use Rattle.totals.specs.declared.votes.PanelVotes.{PanelVotes}

-- a candidate with the nominal votes of these reports
abbrev pub entry_of : List Report → ℕ → NamedCandidate → Entry
entry_of reports panel c = record { number = c.number; birth = c.birth; votes = nominal_sum panel c.number reports }

-- the candidates of a panel, rising
abbrev pub entries_in : List Report → ℕ → Panel → List Entry
entries_in reports panel p = map (entry_of reports panel) p.candidates

-- ---- blocs: a federation, or a party that is in none (Lei 9.096/1995, art. 11-A)

-- the numbers of the parties, rising
abbrev pub party_numbers : TablesData → List ℕ
party_numbers t = map (λ q. q.number) t.parties

-- the blocs, rising: the parties whose number is that of their bloc
abbrev pub blocs_of : TablesData → List ℕ
blocs_of t = filter (λ party. bloc_of t.federations party == party) (party_numbers t)

-- the parties of a bloc, rising
abbrev pub parties_of : TablesData → ℕ → List ℕ
parties_of t bloc = filter (λ party. bloc_of t.federations party == bloc) (party_numbers t)

-- a candidate is of the bloc of his party, which has the first two digits of his number
abbrev pub bloc_of_candidate : TablesData → ℕ → Entry → ℕ
bloc_of_candidate t digits c = bloc_of t.federations (first_two digits c.number)

-- ---- the contest

-- a bloc with the party votes of its parties, and with their candidates in the panel, rising
abbrev pub contestant_in : TablesData → List Report → ℕ → Panel → ℕ → Contestant
contestant_in t reports panel p bloc = record {
  number = bloc;
  party_votes = sum_by (λ party. party_sum panel party reports) (parties_of t bloc);
  candidates = filter (λ c. bloc_of_candidate t p.office.digits c == bloc) (entries_in reports panel p);
}

-- the contest of a panel: the seats of its office, and all blocs of the tables, rising
abbrev pub contest_for : TablesData → List Report → ℕ → Panel → Contest
contest_for t reports panel p = record { seats = p.office.seats; parties = map (contestant_in t reports panel p) (blocs_of t) }

-- that of the panel of a number
abbrev pub contest_in : TablesData → List Report → ℕ → Contest
contest_in t reports panel = contest_for t reports panel (panel_at t panel)

-- all votes of a panel
abbrev pub votes_in : List Report → ℕ → PanelVotes
votes_in reports panel = record {
  nominal = all_nominal panel reports;
  party = all_party panel reports;
  blank = blank_sum panel reports;
  null_votes = null_sum panel reports;
}
