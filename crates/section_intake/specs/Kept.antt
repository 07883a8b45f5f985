-- What an intake keeps for the sums: for each panel the votes of its candidates and of the parties, and blank and null votes.
use Rattle.std.specs.Prelude.{ℕ, ◌+◌, ◌<◌, ◌^◌, ◌==◌, List, [], ◌∷◌, map}
use Rattle.std.specs.List.{AllByRecursion, find}
use Rattle.std.specs.Option.{option_map_or}
use Rattle.election_tables.specs.TablesData.{TablesData}
use Rattle.poll_report.specs.declared.report.Count.{Count}
use Rattle.poll_report.specs.declared.report.OfficeCount.{OfficeCount}
use Rattle.poll_report.specs.declared.report.Report.{Report}
use Rattle.vote_kinds.specs.Ballot.{line_of}
use Rattle.section_intake.specs.Sums.{blank_sum, nominal_sum, null_sum, party_sum, votes_for}
use Rattle.section_intake.specs.declared.tallies.Tally.{Tally}
use Rattle.section_intake.specs.declared.panel_sums.PanelSums.{PanelSums}

-- each of these numbers with its votes
abbrev pub tallies_of : (ℕ → ℕ) → List ℕ → List Tally
tallies_of votes numbers = map (λ n. record { number = n; votes = votes n }) numbers

-- the votes of a number, 0 where it isn't one of these
abbrev pub votes_at : ℕ → List Tally → ℕ
votes_at number tallies = option_map_or (λ t. t.votes) (find (λ t. t.number == number) tallies) 0

-- the votes of these counts more
abbrev pub with_counts : List Count → List Tally → List Tally
with_counts counts tallies = map (λ t. record { number = t.number; votes = t.votes + votes_for t.number counts }) tallies

-- the votes of an office more
abbrev pub with_office : OfficeCount → PanelSums → PanelSums
with_office o s = record {
  nominal = with_counts o.nominal s.nominal;
  parties = with_counts o.parties s.parties;
  blank = s.blank + o.blank;
  null_votes = s.null_votes + o.null_votes;
}

-- the votes of the offices of a report more, each in its panel
abbrev pub with_offices : List OfficeCount → List PanelSums → List PanelSums
with_offices [] sums = sums
with_offices (o ∷ offices) [] = []
with_offices (o ∷ offices) (s ∷ sums) = with_office o s ∷ with_offices offices sums

-- so many votes more can be counted of each number
abbrev pub HaveRoom : ℕ → List Tally → Type 0
HaveRoom votes tallies = AllByRecursion (λ t. t.votes + votes < 2 ^ 64) tallies

-- and of a panel, and of each panel
pub record HasRoomFor (votes : ℕ) (s : PanelSums) : Type 0 where
  pub nominal : HaveRoom votes s.nominal
  pub parties : HaveRoom votes s.parties
  pub blank : s.blank + votes < 2 ^ 64
  pub null_votes : s.null_votes + votes < 2 ^ 64

-- the sums over these reports in a panel: of each of its candidates and of each party, rising, and of blank and null votes
abbrev pub sums_at : TablesData → List Report → ℕ → PanelSums
sums_at t reports panel = record {
  nominal = tallies_of (λ n. nominal_sum panel n reports) (line_of t panel).candidates;
  parties = tallies_of (λ n. party_sum panel n reports) (line_of t panel).parties;
  blank = blank_sum panel reports;
  null_votes = null_sum panel reports;
}
