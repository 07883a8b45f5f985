-- What contracts see of totals, and what they tell
use Rattle.std.specs.Prelude.{◌≡◌, ℕ, ◌≤◌, List, length}
use Rattle.election_tables.specs.TablesData.{TablesData}
use Rattle.vote_kinds.specs.declared.choice.Choice.{Choice}
use Rattle.intake_ledger.specs.Body.{StandsFor, number_in, sums_in}
use Rattle.intake_ledger.specs.Layout.{body_size, most_sums}
use Rattle.intake_ledger.specs.Ledger.{LedgerData, panel_choices, sum_among}

-- the choices of all panels in order, each with its panel, and the body of a ledger, in which their sums stand
pub record TotalsData : Type 0 where
  pub choices : List (ℕ × Choice)
  pub body : List ℕ

-- there are no more choices than tables may have, and as many bytes as a body has, with memory for just them
pub record AreStored (choices : List (ℕ × Choice)) (body : List ℕ) (capacity : ℕ) : Type 0 where
  pub few : length choices ≤ most_sums
  pub whole : length body ≡ body_size
  pub reserved : capacity ≡ body_size

-- how many sections have a report
abbrev pub accepted_told : TotalsData → ℕ
accepted_told d = number_in d.body

-- the sum of a panel's choice, 0 where it isn't one of the choices
abbrev pub sum_told : TotalsData → ℕ → Choice → ℕ
sum_told d panel c = sum_among d.choices (sums_in (length d.choices) d.body) panel c

-- they are the totals of this ledger of these tables
pub record AreTotals (t : TablesData) (l : LedgerData) (d : TotalsData) : Type 0 where
  pub choices : d.choices ≡ panel_choices t
  pub stands : StandsFor t l d.body
