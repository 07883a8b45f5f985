use Rattle.std.proofs.Common.{◌≡◌, length, map, take}
use Rattle.election_tables.specs.TablesData.{candidates_at}
use Rattle.intake_ledger.specs.Ledger.{LedgerData}
use Rattle.intake_ledger.specs.Totals.{AreTotals}
use Rattle.ledger_commands.specs.Lines.{entry_told}
use Rattle.ledger_commands.proofs.lines.entries_of.Given as goal

-- the first candidates
abbrev pub invariant-loop-i : goal.invariant-loop-i
invariant-loop-i l = record {
  entries : (k : LedgerData) → AreTotals l.tables k l.sums → l.entries ≡ map (entry_told l.tables k l.panel) (take l.i (candidates_at l.panel l.tables));
  count : length l.entries ≡ l.i;
}
