-- The command recebe, by how the offers of its list end
use Rattle.std.proofs.Common.{◌≡◌, ◌+◌, ℕ, List, [], ◌∷◌, ◌++◌, length, Option, Err, subst, arith}
use Rattle.std.specs.Option.{ForSome}
use Rattle.urna_outside.specs.Cabinet.{CabinetTold, Files}
use Rattle.urna_outside.specs.Faults.{IsFaultless}
use Rattle.urna_outside.specs.Flash.{Op}
use Rattle.urna_outside.specs.ShownLines.{HasShown}
use Rattle.urna_outside.specs.Told.{Runs, Told}
use Rattle.urna_outside.specs.declared.device.Port.{Port}
use Rattle.election_tables.specs.TablesData.{IsTables, TablesData}
use Rattle.section_intake.specs.declared.verdict.Verdict.{Verdict}
use Rattle.flash_store.specs.Pieces.{Piece}
use Rattle.flash_store.specs.Played.{HasPut, HasStopped}
use Rattle.flash_store.specs.Syncs.{both_synced}
use Rattle.flash_store.proofs.Playing.{put_plays, stopped_plays}
use Rattle.intake_ledger.specs.Calls.{IsOpening, Keeps, Opens}
use Rattle.intake_ledger.specs.Kept.{AreAtRest, kept_ledger}
use Rattle.intake_ledger.specs.Ledger.{LedgerData, accepted_in}
use Rattle.intake_ledger.specs.Totals.{TotalsData}
use Rattle.command_parts.specs.Documents.{IsListed}
use Rattle.command_parts.specs.declared.error.Doc.TheVariants as doc
use Rattle.command_parts.proofs.Calls.{taken_more, taken_within}
use Rattle.ledger_commands.specs.Command.{Recebe}
use Rattle.ledger_commands.specs.Documents.{HasTaken, IsFault}
use Rattle.ledger_commands.specs.Errors.{port_status}
use Rattle.ledger_commands.specs.Opening.{ledger_line}
use Rattle.ledger_commands.specs.Receiving.{OffersEnd, one_at_fault, one_cut, one_no_cabinet, one_no_memory}
use Rattle.ledger_commands.specs.Recebe.{AreTakenIn, HasReceived, HasReceivedTo, RecebeEnds, cut, report_no_cabinet, report_no_memory, report_refused}
use Rattle.ledger_commands.specs.declared.status.LedgerStatus.{LedgerStatus}
use Rattle.ledger_commands.specs.declared.status.LedgerStatus.TheVariants as status
use Rattle.ledger_commands.proofs.Opened.{offers_put, offers_safe, offers_stopped, opened}
use Rattle.ledger_commands.proofs.Receiving.{after_pieces}

-- A ledger was opened between a and b, and its line shown up to e; then the offers were made up to n. The cabinet told c before, y behind the tables
-- and the list, and d behind the reports.
module _ (names : Recebe) (t : TablesData) (tables : IsTables t) (listed : List (List ℕ)) (c y d : CabinetTold) (given : IsListed c.files names.tables names.list t listed)
    (first : HasTaken 2 status.Done c y) (l : LedgerData) (kept : TotalsData) (a b e n : Told) (keeps : Keeps t b kept l)
    (ran : Runs (λ ops. (rest : List Op) × (ops ≡ both_synced ++ rest) × Opens t l a rest) a b)
    (exact : ForSome a.flashes (λ start. Runs (IsOpening t l start) a b)) (fine : IsFaultless a b) (shown : HasShown (ledger_line (accepted_in l) ∷ []) b e) where
  before : (left : List (List ℕ)) (verdicts : List Verdict) (pieces : List (Piece LedgerData)) (last : LedgerData) → AreTakenIn y.files t l listed left verdicts pieces last
      → AreTakenIn c.files t l listed left verdicts pieces last
  before left verdicts pieces last are = subst (λ (files : Option Files). AreTakenIn files t l listed left verdicts pieces last) first.files are

  pub received_so : (left : List (List ℕ)) (verdicts : List Verdict) (pieces : List (Piece LedgerData)) (last : LedgerData) → AreTakenIn y.files t l listed left verdicts pieces last
      → HasPut (kept_ledger t) l pieces e n → HasReceived c.files t listed left verdicts a n
  received_so left verdicts pieces last are put =
      record {
        first = l;
        last = last;
        pieces = pieces;
        between = b;
        opened = opened t tables l kept a b keeps ran exact fine;
        are = before left verdicts pieces last are;
        put = offers_put t tables l kept a b keeps ran exact fine e n shown pieces put;
        rest = subst (λ (s : LedgerData). ForSome n.flashes (AreAtRest t s)) (after_pieces t l last are.reports verdicts pieces are.offered) put.rest;
        survives = offers_safe t tables l kept a b keeps ran exact fine e n shown pieces (put_plays (kept_ledger t) l pieces e n put);
      }

  stopped_so : (left : List (List ℕ)) (verdicts : List Verdict) (pieces : List (Piece LedgerData)) (last : LedgerData) (p : Port) → AreTakenIn y.files t l listed left verdicts pieces last
      → HasStopped (kept_ledger t) l pieces p e n → HasReceivedTo c.files t listed left verdicts p a n
  stopped_so left verdicts pieces last p are stopped =
      record {
        first = l;
        last = last;
        pieces = pieces;
        between = b;
        opened = opened t tables l kept a b keeps ran exact fine;
        are = before left verdicts pieces last are;
        stopped = offers_stopped t tables l kept a b keeps ran exact fine e n shown pieces p stopped;
        survives = offers_safe t tables l kept a b keeps ran exact fine e n shown pieces (stopped_plays (kept_ledger t) l pieces p e n stopped);
      }

  -- the calls of the reports behind those of the tables and the list
  pub all_calls : (s : LedgerStatus) → HasTaken (length listed) s y d → HasTaken (length listed + 2) s c d
  all_calls s taken = taken_within (2 + length listed) (length listed + 2) c d (omega arith) (taken_more 2 (length listed) c y d first taken)

  -- an offer that ended the command
  pub offers_stop : (s : LedgerStatus) → OffersEnd t l listed y d e n (Err s) → RecebeEnds names c d a n s
  offers_stop _ (one_cut {left} {verdicts} {pieces} {last} {p} are taken stopped) = cut p given (all_calls (port_status p) taken) (stopped_so left verdicts pieces last p are stopped)
  offers_stop _ (one_no_memory {left} {name} {verdicts} {pieces} {last} are taken put) =
      report_no_memory given (received_so (name ∷ left) verdicts pieces last are put) (all_calls status.Memory taken)
  offers_stop _ (one_no_cabinet {left} {name} {verdicts} {pieces} {last} are taken put) =
      report_no_cabinet given (received_so (name ∷ left) verdicts pieces last are put) (all_calls status.Cabinet taken)
  offers_stop s (one_at_fault {left} {name} {verdicts} {pieces} {last} are fault taken put) =
      report_refused given (received_so (name ∷ left) verdicts pieces last are put)
      (subst (λ (files : Option Files). IsFault files name doc.Report s) first.files fault) (all_calls s taken)
