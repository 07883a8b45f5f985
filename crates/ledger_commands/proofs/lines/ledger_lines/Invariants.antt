use Rattle.std.proofs.Common.{◌≡◌, ◌∷◌, length, take}
use Rattle.totals.specs.Lines.{section_line}
use Rattle.intake_ledger.specs.Ledger.{LedgerData, accepted_in}
use Rattle.intake_ledger.specs.Totals.{AreTotals}
use Rattle.ledger_commands.specs.Lines.{panels_lines}
use Rattle.ledger_commands.proofs.lines.ledger_lines.Given as goal

-- the line of the sections, and those of the first panels
abbrev pub invariant-loop-panel : goal.invariant-loop-panel
invariant-loop-panel l = (k : LedgerData) → AreTotals l.tables k l.sums
    → l.lines.items ≡ section_line (accepted_in k) (length l.tables.sections) ∷ panels_lines l.tables k 0 (take l.panel l.tables.panels)
