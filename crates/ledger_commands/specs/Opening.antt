-- The ledger that the flashes hold is opened, and what is put out from it on
use Rattle.std.specs.Prelude.{◌≡◌, ℕ, List, [], ◌∷◌, ◌++◌, codes}
use Rattle.std.specs.Option.{ForSome}
use Rattle.urna_base.specs.Lines.{number_line}
use Rattle.urna_outside.specs.Faults.{IsFaultless}
use Rattle.urna_outside.specs.Flash.{Op}
use Rattle.urna_outside.specs.Told.{Runs, Told}
use Rattle.election_tables.specs.TablesData.{TablesData}
use Rattle.flash_store.specs.Pieces.{Piece, quiet}
use Rattle.flash_store.specs.Syncs.{both_synced}
use Rattle.intake_ledger.specs.Calls.{IsOpening, Opens}
use Rattle.intake_ledger.specs.Kept.{AreAtRest}
use Rattle.intake_ledger.specs.Ledger.{LedgerData, accepted_in}

-- the line that tells how many sections of a ledger are accepted
abbrev pub ledger_line : ℕ → List ℕ
ledger_line accepted = number_line (codes "LIVRO ") accepted

-- it as a piece, which tells no new ledger
abbrev pub opening : LedgerData → List (Piece LedgerData)
opening l = quiet (ledger_line (accepted_in l) ∷ [])

-- The flashes were synced, and the slots that weren't open with the body of the ledger that they hold were brought to it; no other was touched.
-- They are left at rest with it.
pub record IsOpened (t : TablesData) (l : LedgerData) (old new : Told) : Type 0 where
  pub ran : Runs (λ ops. (rest : List Op) × (ops ≡ both_synced ++ rest) × Opens t l old rest) old new
  pub exact : ForSome old.flashes (λ start. Runs (IsOpening t l start) old new)
  pub rest : ForSome new.flashes (AreAtRest t l)
  pub fine : IsFaultless old new
