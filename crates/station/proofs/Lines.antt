-- The line of the ballot behind some choices
use Rattle.std.proofs.Common.{◌≡◌, ◌≢◌, ℕ, ◌-◌, ◌≤◌, Bool, true, false, cond, List, length, slice_get, Option, Some, None, option_map, nat_eq, sym, ap, ◌∙◌, arith}
use Rattle.std.proofs.lemmas.Bool.Decides.{nat_tests}
use Rattle.std.proofs.lemmas.Option.{slice_get_past}
use Rattle.election_tables.specs.TablesData.{TablesData, line_panels}
use Rattle.vote_kinds.specs.declared.choice.Choice.{Choice}
use Rattle.vote_kinds.specs.Ballot.{BallotLine, ballot_lines, line_of}
use Rattle.vote_kinds.proofs.Lookups.{line_get, lines_length}
use Rattle.station.specs.Setting.{setting_of}
use Rattle.station.specs.Output.{earlier_of, earlier_for}

-- a line of the ballot is that of its panel
pub found_line : (t : TablesData) (n panel : ℕ) → slice_get (line_panels t) n ≡ Some panel → slice_get (ballot_lines t) n ≡ Some (line_of t panel)
found_line t n panel at = line_get t n ∙ ap (option_map (line_of t)) at

pub no_line : (t : TablesData) (n : ℕ) → length (line_panels t) ≤ n → slice_get (ballot_lines t) n ≡ None
no_line t n h = slice_get_past (ballot_lines t) n (omega (arith, lines_length t))

-- the choice of the line before, where that line is of the panel, and where it is of another one
module _ (t : TablesData) (titles : List ℕ) (choices : List Choice) (panel k : ℕ) (c : Choice)
    (at : slice_get (line_panels t) (length choices - 1) ≡ Some k) (last : slice_get choices (length choices - 1) ≡ Some c) where
  compared : earlier_for (setting_of t titles) choices (line_of t panel) ≡ cond (nat_eq k panel) (Some c) None
  compared =
      ap (λ (o : Option BallotLine). earlier_of o (slice_get choices (length choices - 1)) (line_of t panel)) (found_line t (length choices - 1) k at)
      ∙ ap (λ (o : Option Choice). earlier_of (Some (line_of t k)) o (line_of t panel)) last

  pub of_panel : k ≡ panel → Some c ≡ earlier_for (setting_of t titles) choices (line_of t panel)
  of_panel same = let is : nat_eq k panel ≡ true = grind (arith, nat_tests, same) in sym (compared ∙ ap (λ (b : Bool). cond b (Some c) None) is)

  pub of_another : k ≢ panel → None ≡ earlier_for (setting_of t titles) choices (line_of t panel)
  of_another other = let isnt : nat_eq k panel ≡ false = grind (arith, nat_tests, other) in sym (compared ∙ ap (λ (b : Bool). cond b (Some c) None) isnt)
