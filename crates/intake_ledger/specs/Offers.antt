-- The verdict on a file that is offered to a ledger, the ledger that it leaves, and what is put out (docs/FORMATS.md, "The ledger")
use Rattle.std.specs.Prelude.{◌≡◌, ◌≢◌, ℕ, ◌+◌, false, if◌then◌else◌, List, [], ◌∷◌, ◌++◌, length, Option, Some, None}
use Rattle.election_tables.specs.TablesData.{TablesData, place_with}
use Rattle.poll_report.specs.declared.report.Report.{Report}
use Rattle.section_intake.specs.Accepted.{File, is_accepted}
use Rattle.section_intake.specs.Fits.{Fits}
use Rattle.section_intake.specs.Verdict.{IsReportFile, IsVerdict}
use Rattle.section_intake.specs.declared.verdict.Verdict.{Verdict}
use Rattle.section_intake.specs.declared.verdict.Verdict.TheVariants as verdict
use Rattle.flash_store.specs.Pieces.{Piece}
use Rattle.report_lines.specs.Verdicts.{numbered_line}
use Rattle.intake_ledger.specs.LastHash.{IsLastHash}
use Rattle.intake_ledger.specs.Ledger.{LedgerData, hash_at, with_report}

-- The file is the report of the section in this place of the tables, and this is the hash of its last part.
pub record IsReportAt (t : TablesData) (file : File) (r : Report) (place : ℕ) (hash : List ℕ) : Type 0 where
  pub report : IsReportFile file r
  pub fits : Fits t r
  pub section : place_with r.zone r.section t.sections ≡ Some place
  pub last : IsLastHash file hash

-- A file is offered to a ledger: the verdict on it, and the ledger that it leaves. It is refused by itself; or it is the report of a section
-- that has none yet, and is accepted and entered; or of one that has, and is repeated where the hash of its last part is the one that is
-- kept, and in conflict where it is another. Only an accepted report changes the ledger.
pub data IsOffer (t : TablesData) (l : LedgerData) (file : File) : Verdict → LedgerData → Type 0 where
  by_itself : {v : Verdict} → IsVerdict t file v → is_accepted v ≡ false → IsOffer t l file v l
  first : {r : Report} {place : ℕ} {hash : List ℕ} → IsReportAt t file r place hash → hash_at place l ≡ None
      → IsOffer t l file (verdict.Accepted r.zone r.section) (with_report t place hash r l)
  again : {r : Report} {place : ℕ} {hash : List ℕ} → IsReportAt t file r place hash → hash_at place l ≡ Some hash
      → IsOffer t l file (verdict.Repeated r.zone r.section) l
  another : {r : Report} {place : ℕ} {hash kept : List ℕ} → IsReportAt t file r place hash → hash_at place l ≡ Some kept → kept ≢ hash
      → IsOffer t l file (verdict.Conflict r.zone r.section) l

-- ---- what is put out

-- an accepted report tells the ledger with it; any other verdict tells none
abbrev pub told_by : Verdict → LedgerData → Option LedgerData
told_by v m = if is_accepted v then Some m else None

-- the line of the verdict on the report of a number, behind the commit of the ledger that it tells
abbrev pub offer_piece : ℕ → Verdict → LedgerData → Piece LedgerData
offer_piece number v m = record { line = numbered_line number v; commit = told_by v m }

-- ---- one behind the other

-- Files are offered to a ledger one behind the other, with numbers from 1: their verdicts, what is put out, and the ledger that they leave.
pub data AreOfferedTo (t : TablesData) (l : LedgerData) : List File → List Verdict → List (Piece LedgerData) → LedgerData → Type 0 where
  none_offered : AreOfferedTo t l [] [] [] l
  one_more : {files : List File} {verdicts : List Verdict} {pieces : List (Piece LedgerData)} {m k : LedgerData} {file : File} {v : Verdict}
      → AreOfferedTo t l files verdicts pieces m → IsOffer t m file v k
      → AreOfferedTo t l (files ++ file ∷ []) (verdicts ++ v ∷ []) (pieces ++ offer_piece (length files + 1) v k ∷ []) k
