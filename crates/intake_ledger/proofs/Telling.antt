-- What totals tell of the ledger that stands in their body
use Rattle.std.proofs.Common.{◌≡◌, ℕ, ◌<◌, List, length, get_or, Option, Some, sym, ap, ◌∙◌, arith}
use Rattle.std.specs.List.{position}
use Rattle.std.specs.Option.{option_map_or}
use Rattle.std.proofs.lemmas.List.FromFn.{get_or-map-range_with_len}
use Rattle.std.proofs.lemmas.List.Quantifiers.{position-Some}
use Rattle.vote_kinds.specs.declared.choice.Choice.{Choice}
use Rattle.vote_kinds.specs.declared.choice.Choice.TheVariants as choice
use Rattle.intake_ledger.specs.Body.{sum_in, sums_in}
use Rattle.intake_ledger.specs.Laws.{TellLedger}
use Rattle.intake_ledger.specs.Ledger.{LedgerData, accepted_in, is_choice_of, panel_choices, sum_among}
use Rattle.intake_ledger.specs.Totals.{TotalsData, sum_told}
use Rattle.intake_ledger.proofs.Ranking.{number_is}

-- a place that is found is one of a choice
pub place_within : (choices : List (ℕ × Choice)) (panel place : ℕ) (c : Choice) → position (is_choice_of panel c) choices ≡ Some place → place < length choices
place_within choices panel place c at = (position-Some (is_choice_of panel c) choices place (0, choice.Blank) at).0

-- the sum of a choice is that in its place
pub told_there : (d : TotalsData) (panel place : ℕ) (c : Choice) → position (is_choice_of panel c) d.choices ≡ Some place → sum_in d.body place ≡ sum_told d panel c
told_there d panel place c at =
    sym (get_or-map-range_with_len (sum_in d.body) 0 (length d.choices) place place 0 (place_within d.choices panel place c at) (omega arith))
    ∙ ap (λ (found : Option ℕ). option_map_or (λ k. get_or (sums_in (length d.choices) d.body) k 0) found 0) (sym at)

pub tell_ledger : TellLedger
tell_ledger t l d are = (
  number_is t d.body are.stands.whole ∙ ap accepted_in (sym are.stands.same),
  λ panel c.
      ap (λ (choices : List (ℕ × Choice)). sum_among choices (sums_in (length choices) d.body) panel c) are.choices
      ∙ ap (λ (m : LedgerData). sum_among (panel_choices t) m.sums panel c) (sym are.stands.same),
)
