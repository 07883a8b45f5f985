use Rattle.std.proofs.Common.{◌≡◌, sum_by, take}
use Rattle.totals.specs.Contest.{party_numbers}
use Rattle.vote_kinds.specs.declared.choice.Choice.TheVariants as choice
use Rattle.intake_ledger.specs.Ledger.{LedgerData, sum_of}
use Rattle.intake_ledger.specs.Totals.{AreTotals}
use Rattle.ledger_commands.proofs.lines.party_votes.Given as goal

-- those of the first parties
abbrev pub invariant-loop-i : goal.invariant-loop-i
invariant-loop-i l = (k : LedgerData) → AreTotals l.tables k l.sums
    → l.votes ≡ sum_by (λ n. sum_of l.tables k l.panel (choice.Party n)) (take l.i (party_numbers l.tables))
