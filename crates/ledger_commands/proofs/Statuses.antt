-- The statuses of the ledger's program, and the errors of both programs
use Rattle.std.proofs.Common.{◌≡◌, ◌≢◌, ℕ, zero, suc, List, Option, None, Result, Ok, Err, refl, sym, subst}
use Rattle.std.specs.Prelude.{IfErr}
use Rattle.std.specs.Result.{IsErrAnd}
use Rattle.urna_outside.specs.Cabinet.{CabinetTold, Files, Tally}
use Rattle.urna_outside.specs.ShownLines.{HasShown, IsCutOff, Shows}
use Rattle.urna_outside.specs.Told.{Told}
use Rattle.urna_outside.specs.declared.device.Dev.TheVariants as dev
use Rattle.urna_outside.specs.declared.device.Port.{Port}
use Rattle.urna_outside.specs.declared.device.Port.TheVariants as port
use Rattle.command_parts.specs.Documents.{IsBad, IsFault, IsFirstFault, bad, certificate_line, count, first_other, first_tables, lacks, line, longer, name_line, no_document, record_line, roll_line, rule}
use Rattle.command_parts.specs.Taking.{CountsFor, HasTaken as HasTakenOf}
use Rattle.command_parts.specs.declared.error.CommandError.{CommandError}
use Rattle.command_parts.specs.declared.error.CommandError.TheVariants as error
use Rattle.command_parts.specs.declared.error.Doc.{Doc}
use Rattle.command_parts.specs.declared.error.Doc.TheVariants as both
use Rattle.intake_ledger.specs.declared.ledger.LedgerError.{LedgerError}
use Rattle.intake_ledger.specs.declared.ledger.LedgerError.TheVariants as ledger
use Rattle.ledger_commands.specs.Documents.{HasTaken, status_in}
use Rattle.ledger_commands.specs.Errors.{IsOfLedger, IsOfLedgerDoc, error_of, ledger_status, port_status}
use Rattle.ledger_commands.specs.Recebe.{refused_status}
use Rattle.ledger_commands.specs.declared.status.LedgerStatus.{LedgerStatus}
use Rattle.ledger_commands.specs.declared.status.LedgerStatus.TheVariants as status

-- ---- which errors are of this program

bad_of_ledger : (d : Doc) (bytes : List ℕ) (e : CommandError) → IsOfLedgerDoc d → IsBad d bytes e → IsOfLedger e
bad_of_ledger _ bytes _ taken (no_document h) = tt
bad_of_ledger _ bytes _ taken (rule h) = tt
bad_of_ledger _ bytes _ taken (count h) = absurd taken
bad_of_ledger _ bytes _ taken (roll_line h) = absurd taken
bad_of_ledger _ bytes _ taken (line h) = absurd taken
bad_of_ledger _ bytes _ taken (name_line h) = tt
bad_of_ledger _ bytes _ taken (record_line h) = absurd taken
bad_of_ledger _ bytes _ taken (certificate_line h) = absurd taken

fault_of_ledger : (files : Option Files) (name : List ℕ) (d : Doc) (e : CommandError) → IsOfLedgerDoc d → IsFault files name d e → IsOfLedger e
fault_of_ledger files name d _ taken (lacks h) = taken
fault_of_ledger files name d _ taken (longer h) = taken
fault_of_ledger files name d e taken (bad {bytes} held h) = bad_of_ledger d bytes e taken h

first_of_ledger : (files : Option Files) (tables : List ℕ) (d : Doc) (name : List ℕ) (e : CommandError) → IsOfLedgerDoc d → IsFirstFault files tables d name e → IsOfLedger e
first_of_ledger files tables d name e taken (first_tables h) = fault_of_ledger files tables both.Tables e tt h
first_of_ledger files tables d name e taken (first_other has h) = fault_of_ledger files name d e taken h

-- a step's error is one where it is one of a document, or want of memory, or the cabinet's
of_ledger : (P : CommandError → Type 0) (e : CommandError) → ((f : CommandError) → P f → IsOfLedger f) → (e ≢ error.Memory → e ≢ error.Cabinet → P e) → IsOfLedger e
of_ledger P error.Memory of found = tt
of_ledger P error.Cabinet of found = tt
of_ledger P e of found = of e (found (λ same. absurd (cc)) (λ same. absurd (cc)))

pub taken_of_ledger : (files : Option Files) (name : List ℕ) (d : Doc) (e : CommandError) → IsOfLedgerDoc d → (e ≢ error.Memory → e ≢ error.Cabinet → IsFault files name d e) → IsOfLedger e
taken_of_ledger files name d e taken found = of_ledger (IsFault files name d) e (λ f h. fault_of_ledger files name d f taken h) found

pub listed_of_ledger : (files : Option Files) (tables list : List ℕ) (e : CommandError) → (e ≢ error.Memory → e ≢ error.Cabinet → IsFirstFault files tables both.List list e) → IsOfLedger e
listed_of_ledger files tables list e found = of_ledger (IsFirstFault files tables both.List list) e (λ f h. first_of_ledger files tables both.List list f tt h) found

-- ---- how a step ends a command

-- the status of an error that was passed on
pub passed_on : {T : Type 0} {P : LedgerStatus → Type 0} (r : Result T LedgerStatus) (s : LedgerStatus) → IsErrAnd r P → ((u : LedgerStatus) → P u → u ≡ s) → status_in r ≡ s
passed_on (Ok x) s h f = absurd h
passed_on (Err u) s h f = f u h

-- a line that tells the end of a command ends it
pub told : {T : Type 0} (Ends : LedgerStatus → Type 0) (lines : List (List ℕ)) (r : Result T LedgerStatus) (old new : Told) → Shows r lines old new
    → IfErr r (λ s. s ≡ status.Display) → (HasShown lines old new → Ends status.Done) → (IsCutOff lines old new → Ends status.Display) → Ends (status_in r)
told Ends lines (Ok x) old new shown fails whole part = whole shown
told Ends lines (Err s) old new shown fails whole part = subst Ends (sym fails) (part shown)

-- A step that took no document ends a command: for want of memory, by a fault of the cabinet, or as one that refuses the document.
pub fault_ends : (Ends : LedgerStatus → Type 0) (most : ℕ) (c d : CabinetTold) (s : LedgerStatus) → (HasTaken most status.Memory c d → Ends status.Memory)
    → (HasTaken most status.Cabinet c d → Ends status.Cabinet) → (s ≢ status.Memory → s ≢ status.Cabinet → HasTaken most s c d → Ends s) → HasTaken most s c d → Ends s
fault_ends Ends most c d status.Memory memory cabinet refused taken = memory taken
fault_ends Ends most c d status.Cabinet memory cabinet refused taken = cabinet taken
fault_ends Ends most c d s memory cabinet refused taken = refused (λ e. absurd (cc)) (λ e. absurd (cc)) taken

-- ---- statuses that tell no error of the cabinet

pub port_error : (p : Port) → error_of (port_status p) ≡ None
port_error port.Internal = refl
port_error port.External = refl
port_error port.Display = refl

pub refused_error : (n : ℕ) → error_of (refused_status n) ≡ None
refused_error zero = refl
refused_error (suc n) = refl

-- calls without an error, behind which a status tells none
pub taken_still : (n : ℕ) (s : LedgerStatus) (c d : CabinetTold) → error_of s ≡ None → HasTaken n status.Done c d → HasTaken n s c d
taken_still n s c d none taken = subst (λ (e : Option CommandError). HasTakenOf n e c d) (sym none) taken

-- nor does one of a ledger
pub counts_ledger : (e : LedgerError) (old new : Tally) → new ≡ old → CountsFor (error_of (ledger_status e)) old new
counts_ledger ledger.Memory old new same = same
counts_ledger (ledger.Flash dev.Internal) old new same = same
counts_ledger (ledger.Flash dev.External) old new same = same
counts_ledger (ledger.Foreign d) old new same = same
counts_ledger ledger.NoImage old new same = same
counts_ledger (ledger.Busy d) old new same = same
