use Rattle.intake_ledger.specs.Calls.{Keeps}
use Rattle.intake_ledger.specs.Kept.{AreDevices}
use Rattle.intake_ledger.specs.Ledger.{LedgerData}
use Rattle.ledger_commands.specs.Receiving.{AreSoFar}
use Rattle.ledger_commands.proofs.recebe.offer_all.Given as goal

-- the first reports were offered
abbrev pub invariant-loop-i : goal.invariant-loop-i
invariant-loop-i g l = record {
  devices : AreDevices (g.M.Machine.told l.machine).sizes;
  so_far : (k : LedgerData) → Keeps l.tables (g.M.Machine.told l.fn.machine) l.fn.ledger k
      → AreSoFar l.tables k l.list l.i l.ledger l.refused (g.C.Cabinet.told l.fn.cabinet) (g.C.Cabinet.told l.cabinet) (g.M.Machine.told l.fn.machine) (g.M.Machine.told l.machine);
}
