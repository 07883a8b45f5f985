-- How a call ends whose documents are refused
use Rattle.std.proofs.Common.{◌≡◌, ◌⊎◌, inl, inr, ℕ, List, Option, Some, None, refl, sym, subst, ◌∙◌}
use Rattle.urna_outside.specs.Cabinet.{CabinetTold, Files}
use Rattle.urna_outside.specs.Told.{Told}
use Rattle.election_tables.specs.TablesData.{TablesData}
use Rattle.key_script.specs.Laws.{OneListAnswers}
use Rattle.command_parts.specs.Documents.{HasTables, IsListed}
use Rattle.command_parts.specs.Documents.{IsFault as IsFaultOf, IsFirstFault as IsFirstFaultOf}
use Rattle.command_parts.specs.declared.error.CommandError.{CommandError}
use Rattle.command_parts.specs.declared.error.CommandError.TheVariants as error
use Rattle.command_parts.specs.declared.error.Doc.{Doc}
use Rattle.command_parts.specs.declared.error.Doc.TheVariants as both
use Rattle.command_parts.proofs.Ending.{error_told, one_status, told_by}
use Rattle.command_parts.proofs.Once.{fault_once, first_once, refused_or_listed, tables_not_fault}
use Rattle.ledger_commands.specs.Abre.{AbreEnds, begin_no_cabinet, begin_no_memory, begin_refused, begun, begun_untold, not_begun}
use Rattle.ledger_commands.specs.Command.{Command, Recebe, ToBegin, ToReceive, ToTotal, command_of}
use Rattle.ledger_commands.specs.Documents.{IsFault, IsFirstFault}
use Rattle.ledger_commands.specs.Ending.{CommandEnds}
use Rattle.ledger_commands.specs.Errors.{error_of}
use Rattle.call_laws.specs.LedgerLaws.{AreRefused, RefusedEndSo, RefusedOnce}
use Rattle.ledger_commands.specs.Recebe.{RecebeEnds, cut, list_no_cabinet, list_no_memory, list_refused, not_opened, received, report_no_cabinet, report_no_memory, report_refused}
use Rattle.ledger_commands.specs.Totais.{TotaisEnds, no_lines, none_opened, total_no_cabinet, total_no_memory, total_refused, totals_told, totals_untold}
use Rattle.ledger_commands.specs.declared.status.LedgerDoc.{LedgerDoc}
use Rattle.ledger_commands.specs.declared.status.LedgerDoc.TheVariants as doc
use Rattle.ledger_commands.specs.declared.status.LedgerStatus.{LedgerStatus}
use Rattle.ledger_commands.specs.declared.status.LedgerStatus.TheVariants as status

-- ---- the one status that tells an error

abbrev ledger_doc : Doc → LedgerDoc
ledger_doc both.Tables = doc.Tables
ledger_doc both.Report = doc.Report
ledger_doc both.List = doc.List
ledger_doc both.Roll = doc.Tables
ledger_doc both.Keys = doc.Tables
ledger_doc both.Record = doc.Tables
ledger_doc both.Certificate = doc.Tables

-- of an error that this program hasn't, any
abbrev status_of : CommandError → LedgerStatus
status_of error.Memory = status.Memory
status_of error.Usage = status.Usage
status_of error.TablesNotToml = status.TablesNotToml
status_of (error.TablesRule k) = status.TablesRule k
status_of (error.Line k) = status.Line k
status_of (error.TooLong d) = status.TooLong (ledger_doc d)
status_of (error.Missing d) = status.Missing (ledger_doc d)
status_of error.Cabinet = status.Cabinet
status_of (error.Foreign d) = status.Foreign d
status_of error.NoImage = status.NoImage
status_of (error.Busy d) = status.Busy d
status_of error.RollCount = status.Done
status_of (error.RollLine k) = status.Done
status_of (error.RecordLine k) = status.Done
status_of (error.CertificateLine k) = status.Done

only_status : (s : LedgerStatus) (e : CommandError) → error_of s ≡ Some e → s ≡ status_of e
only_status status.Memory e is = told_by status_of error.Memory e is
only_status status.Usage e is = told_by status_of error.Usage e is
only_status status.TablesNotToml e is = told_by status_of error.TablesNotToml e is
only_status (status.TablesRule k) e is = told_by status_of (error.TablesRule k) e is
only_status (status.Line k) e is = told_by status_of (error.Line k) e is
only_status (status.TooLong doc.Tables) e is = told_by status_of (error.TooLong both.Tables) e is
only_status (status.TooLong doc.Report) e is = told_by status_of (error.TooLong both.Report) e is
only_status (status.TooLong doc.List) e is = told_by status_of (error.TooLong both.List) e is
only_status (status.Missing doc.Tables) e is = told_by status_of (error.Missing both.Tables) e is
only_status (status.Missing doc.Report) e is = told_by status_of (error.Missing both.Report) e is
only_status (status.Missing doc.List) e is = told_by status_of (error.Missing both.List) e is
only_status status.Cabinet e is = told_by status_of error.Cabinet e is
only_status (status.Foreign d) e is = told_by status_of (error.Foreign d) e is
only_status status.NoImage e is = told_by status_of error.NoImage e is
only_status (status.Busy d) e is = told_by status_of (error.Busy d) e is
only_status status.Done e is = absurd (cc)
only_status (status.SomeRefused k) e is = absurd (cc)
only_status status.InternalFlash e is = absurd (cc)
only_status status.ExternalFlash e is = absurd (cc)
only_status status.Display e is = absurd (cc)

-- ---- the documents

one_fault : (files : Files) (name : List ℕ) (d : Doc) (s u : LedgerStatus) → IsFault (Some files) name d s → IsFault (Some files) name d u → s ≡ u
one_fault files name d s u h i = one_status error_of status_of only_status s u (IsFaultOf (Some files) name d) (IsFaultOf (Some files) name d) h i (λ e f p q. fault_once files name d e f p q)

one_first : (files : Files) (tables : List ℕ) (d : Doc) (name : List ℕ) (s u : LedgerStatus) → IsFirstFault (Some files) tables d name s → IsFirstFault (Some files) tables d name u → s ≡ u
one_first files tables d name s u h i =
    one_status error_of status_of only_status s u (IsFirstFaultOf (Some files) tables d name) (IsFirstFaultOf (Some files) tables d name) h i (λ e f p q. first_once files tables d name e f p q)

pub refused_once : RefusedOnce
refused_once None files s u h i = h ∙ sym i
refused_once (Some (ToBegin tables)) files s u h i = one_fault files tables both.Tables s u h i
refused_once (Some (ToReceive names)) files s u h i = one_first files names.tables both.List names.list s u h i
refused_once (Some (ToTotal tables)) files s u h i = one_fault files tables both.Tables s u h i

-- ---- how a call ends with them

abbrev EndsRefused : LedgerStatus → LedgerStatus → Type 0
EndsRefused e s = (s ≡ e) ⊎ (s ≡ status.Memory) ⊎ (s ≡ status.Cabinet)

module _ (c d : CabinetTold) (m b : Told) (files : Files) (told : c.files ≡ Some files) where
  no_tables : {X : Type 0} (name : List ℕ) (e : LedgerStatus) (t : TablesData) → IsFault (Some files) name both.Tables e → HasTables c.files name t → X
  no_tables name e t why given =
      let says = error_told error_of e (IsFaultOf (Some files) name both.Tables) why in
      absurd (tables_not_fault files name says.0 t says.2 (subst (λ (o : Option Files). HasTables o name t) told given))

  no_list : OneListAnswers → {X : Type 0} (names : Recebe) (e : LedgerStatus) (t : TablesData) (listed : List (List ℕ)) → IsFirstFault (Some files) names.tables both.List names.list e
      → IsListed c.files names.tables names.list t listed → X
  no_list answers names e t listed why given =
      let says = error_told error_of e (IsFirstFaultOf (Some files) names.tables both.List names.list) why in
      absurd (refused_or_listed answers files names.tables names.list says.0 t listed says.2 (subst (λ (o : Option Files). IsListed o names.tables names.list t listed) told given))

  abre_so : (name : List ℕ) (e s : LedgerStatus) → IsFault (Some files) name both.Tables e → AbreEnds name c d m b s → EndsRefused e s
  abre_so name e s why (begin_refused also taken un) = inl (one_fault files name both.Tables s e (subst (λ (o : Option Files). IsFault o name both.Tables s) told also) why)
  abre_so name e _ why (begin_no_memory taken un) = inr (inl refl)
  abre_so name e _ why (begin_no_cabinet taken un) = inr (inr refl)
  abre_so name e _ why (not_begun {t} error given taken h) = no_tables name e t why given
  abre_so name e _ why (begun_untold {t} between given taken h off) = no_tables name e t why given
  abre_so name e _ why (begun {t} between given taken h shown) = no_tables name e t why given

  recebe_so : OneListAnswers → (names : Recebe) (e s : LedgerStatus) → IsFirstFault (Some files) names.tables both.List names.list e → RecebeEnds names c d m b s → EndsRefused e s
  recebe_so answers names e s why (list_refused also taken un) =
      inl (one_first files names.tables both.List names.list s e (subst (λ (o : Option Files). IsFirstFault o names.tables both.List names.list s) told also) why)
  recebe_so answers names e _ why (list_no_memory taken un) = inr (inl refl)
  recebe_so answers names e _ why (list_no_cabinet taken un) = inr (inr refl)
  recebe_so answers names e _ why (not_opened {t} {listed} error given taken h) = no_list answers names e t listed why given
  recebe_so answers names e _ why (cut {t} {listed} p given taken h) = no_list answers names e t listed why given
  recebe_so answers names e s why (report_refused {t} {listed} given h fault taken) = no_list answers names e t listed why given
  recebe_so answers names e _ why (report_no_cabinet {t} {listed} given h taken) = no_list answers names e t listed why given
  recebe_so answers names e _ why (report_no_memory {t} {listed} given h taken) = no_list answers names e t listed why given
  recebe_so answers names e _ why (received {t} {listed} given h taken) = no_list answers names e t listed why given

  totais_so : (name : List ℕ) (e s : LedgerStatus) → IsFault (Some files) name both.Tables e → TotaisEnds name c d m b s → EndsRefused e s
  totais_so name e s why (total_refused also taken un) = inl (one_fault files name both.Tables s e (subst (λ (o : Option Files). IsFault o name both.Tables s) told also) why)
  totais_so name e _ why (total_no_memory taken un) = inr (inl refl)
  totais_so name e _ why (total_no_cabinet taken un) = inr (inr refl)
  totais_so name e _ why (none_opened {t} error given taken h) = no_tables name e t why given
  totais_so name e _ why (no_lines {t} given taken opened) = no_tables name e t why given
  totais_so name e _ why (totals_untold {t} between given taken opened off safe) = no_tables name e t why given
  totais_so name e _ why (totals_told {t} between given taken opened shown safe) = no_tables name e t why given

  refused_so : OneListAnswers → (command : Option Command) (e s : LedgerStatus) → AreRefused command files e → CommandEnds command c d m b s → EndsRefused e s
  refused_so answers None e s why ends = inl (ends.usage ∙ sym why)
  refused_so answers (Some (ToBegin name)) e s why ends = abre_so name e s why ends
  refused_so answers (Some (ToReceive names)) e s why ends = recebe_so answers names e s why ends
  refused_so answers (Some (ToTotal name)) e s why ends = totais_so name e s why ends

pub refused_end_so : OneListAnswers → RefusedEndSo
refused_end_so answers words c d m n e s files told why ends = refused_so c d m ends.between files told answers (command_of words) e s why ends.command
