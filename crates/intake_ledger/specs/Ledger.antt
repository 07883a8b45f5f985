-- A ledger: which sections have an accepted report, and the sums over the accepted reports
use Rattle.std.specs.Prelude.{◌≡◌, ℕ, ◌+◌, ◌*◌, ◌<◌, ◌≤◌, ◌==◌, ◌&&◌, Bool, List, length, map, Option, Some, None, slice_get, slice_index, slice_set, is_some, IfSome}
use Rattle.std.specs.List.{AllByRecursion, count_by, flat_map, position, zip}
use Rattle.std.specs.Option.{option_and_then, option_map_or}
use Rattle.election_tables.specs.TablesData.{TablesData}
use Rattle.poll_report.specs.Report.{greatest_count}
use Rattle.poll_report.specs.declared.report.OfficeCount.{OfficeCount}
use Rattle.poll_report.specs.declared.report.Report.{Report}
use Rattle.vote_kinds.specs.Ballot.{BallotLine, choices_of, lines_by_panel}
use Rattle.vote_kinds.specs.Choice.{is_same}
use Rattle.vote_kinds.specs.declared.choice.Choice.{Choice}
use Rattle.vote_kinds.specs.declared.choice.Choice.TheVariants as choice
use Rattle.section_intake.specs.Sums.{of_office, votes_for}
use Rattle.intake_ledger.specs.Layout.{hash_size}

-- For each section of the tables the hash of its report's last part, if a report of it was accepted; and for each choice of each panel, in
-- the order of `panel_choices`, its votes over all accepted reports.
pub record LedgerData : Type 0 where
  pub last : List (Option (List ℕ))
  pub sums : List ℕ

-- the choices of a line in their order, each with its panel
abbrev pub choices_in : BallotLine → List (ℕ × Choice)
choices_in line = map (λ c. (line.panel, c)) (choices_of line)

-- the choices of all panels: for each panel the candidates rising, in a proportional office the parties rising, blank and null
unfoldable pub panel_choices : TablesData → List (ℕ × Choice)
panel_choices t = flat_map choices_in (lines_by_panel t)

-- the ledger before the first report
abbrev pub empty_ledger : TablesData → LedgerData
empty_ledger t = record { last = map (λ s. None) t.sections; sums = map (λ x. 0) (panel_choices t) }

-- the hash that is kept for the section in a place, if it has a report
abbrev pub hash_at : ℕ → LedgerData → Option (List ℕ)
hash_at place l = option_and_then (λ hash. hash) (slice_get l.last place)

-- how many sections have a report; it is the rank of the ledger
abbrev pub accepted_in : LedgerData → ℕ
accepted_in l = count_by is_some l.last

-- ---- what is so of each ledger of these tables

-- as many bytes as a hash has
abbrev pub IsHash : List ℕ → Type 0
IsHash hash = (length hash ≡ hash_size) × AllByRecursion (λ b. b < 256) hash

-- It has a place for each section, whose hash has 64 bytes, and a sum for each choice; no sum is above 9,999 for each report.
pub record IsLedger (t : TablesData) (l : LedgerData) : Type 0 where
  pub sections : length l.last ≡ length t.sections
  pub hashes : AllByRecursion (λ hash. IfSome hash IsHash) l.last
  pub choices : length l.sums ≡ length (panel_choices t)
  pub within : AllByRecursion (λ n. n ≤ greatest_count * accepted_in l) l.sums

-- ---- one report more

-- the votes of a choice in an office's counts
abbrev pub votes_of_choice : Choice → OfficeCount → ℕ
votes_of_choice (choice.Nominal number) o = votes_for number o.nominal
votes_of_choice (choice.Party number) o = votes_for number o.parties
votes_of_choice choice.Blank o = o.blank
votes_of_choice choice.Null o = o.null_votes

-- the votes of a panel's choice in a report
abbrev pub votes_in : ℕ × Choice → Report → ℕ
votes_in (panel, c) r = of_office (votes_of_choice c) panel r

-- the sums of these choices with the votes of a report more
abbrev pub with_votes : List (ℕ × Choice) → Report → List ℕ → List ℕ
with_votes choices r sums = map (λ (x, n). n + votes_in x r) (zip choices sums)

-- the ledger with a report more, whose last part has this hash, of the section in a place
abbrev pub with_report : TablesData → ℕ → List ℕ → Report → LedgerData → LedgerData
with_report t place hash r l = record { last = slice_set l.last place (Some hash); sums = with_votes (panel_choices t) r l.sums }

-- ---- what is asked of it

-- a panel's choice is this one
abbrev pub is_choice_of : ℕ → Choice → ℕ × Choice → Bool
is_choice_of panel c (other, d) = (other == panel) && is_same d c

-- the sum of a panel's choice, where these are the sums of these choices; 0 where it isn't one of them
abbrev pub sum_among : List (ℕ × Choice) → List ℕ → ℕ → Choice → ℕ
sum_among choices sums panel c = option_map_or (λ place. slice_index sums place) (position (is_choice_of panel c) choices) 0

-- the sum of a panel's choice in a ledger of these tables, 0 where the tables lack it
abbrev pub sum_of : TablesData → LedgerData → ℕ → Choice → ℕ
sum_of t l panel c = sum_among (panel_choices t) l.sums panel c
