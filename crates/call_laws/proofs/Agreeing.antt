-- The two files of a sealed poll agree
use Rattle.std.proofs.Common.{◌≡◌, ◌⊎◌, inl, inr, ℕ, List, [], ◌∷◌, ◌++◌, codes, Option, Some, refl, ap, arith, subst, ◌∙◌}
use Rattle.std.specs.Prelude.{Contains}
use Rattle.urna_outside.specs.Cabinet.{CabinetTold, Files, Holds}
use Rattle.urna_outside.specs.ShownLines.{HasShown}
use Rattle.urna_outside.specs.Told.{Told}
use Rattle.election_tables.specs.TablesData.{IsTables, TablesData}
use Rattle.election_tables.specs.declared.tables.sections.Section.{Section}
use Rattle.turnout.specs.declared.phase.Phase.TheVariants as phase
use Rattle.vote_record.specs.RecordText.{record_text}
use Rattle.poll_report.specs.Counted.{report_of}
use Rattle.poll_report.specs.declared.report.Report.{Report}
use Rattle.record_audit.specs.Finding.{finding}
use Rattle.record_audit.specs.Record.{section_record}
use Rattle.record_audit.specs.declared.finding.Finding.{Finding}
use Rattle.record_audit.specs.declared.finding.Finding.TheVariants.{Agree}
use Rattle.record_audit.specs.declared.text.RecordText.{RecordText}
use Rattle.record_audit.proofs.Lengths.{text_is_short}
use Rattle.record_audit.proofs.Records.{section_agrees}
use Rattle.image_codec.specs.Encoding.{IsStateOf}
use Rattle.image_codec.specs.State.{State}
use Rattle.result_files.specs.Reports.{record_of, report_file}
use Rattle.result_files.proofs.Reports.{sealed_has_file, sealed_has_report, sealed_is_accepted}
use Rattle.urna_commands.specs.Answering.{Answers, answered, cut_short}
use Rattle.call_laws.specs.AtRest.{AreResults, both_files, no_files}
use Rattle.urna_commands.specs.Command.{Emite, Reconta}
use Rattle.urna_commands.specs.Emite.{EmiteEnds, emit_no_cabinet, emit_no_memory, emit_refused, emitted, files_stopped, not_emitted, not_found, not_sealed}
use Rattle.urna_commands.specs.Emite.{no_files as no_files_made}
use Rattle.urna_commands.specs.Findings.{finding_status, finding_text}
use Rattle.urna_commands.specs.Putting.{record_name, report_name}
use Rattle.urna_commands.specs.Reconta.{HasNoReport, HasRecordAndReport, IsRecountFault, RecontaEnds, first_report, no_recount, recount_no_cabinet, recount_no_memory, record_at_fault, recounted, report_at_fault, then_record}
use Rattle.call_laws.specs.Recounts.{AgreeThere, EmittedAgree, SealedAgree, VotedAgree}
use Rattle.urna_commands.specs.declared.status.Status.{Status}
use Rattle.urna_commands.specs.declared.status.Status.TheVariants as status
use Rattle.call_laws.proofs.Accepting.{first_not_done, store_not_done, there}
use Rattle.call_laws.proofs.AtRest.{done_is_whole}
use Rattle.call_laws.proofs.PutFiles.{both_are_there}
use Rattle.call_laws.proofs.Recounts.{fault_or_both, no_report_not_read, same_record, same_report}

pub sealed_agree : SealedAgree
sealed_agree t section s opened closed tables listed of sealed =
    let agrees = section_agrees t section (record_of s) s.came opened closed tables (sealed_has_report t section s opened closed tables listed of sealed) of.valid.in_order in
    (agrees.0, sealed_has_file t section s opened closed tables listed of sealed, agrees.1)

-- ---- the two files of a word

module _ (now : Files) (out : List ℕ) (t : TablesData) (section : Section) (s : State) (opened closed : ℕ) (tables : IsTables t) (listed : Contains t.sections section)
    (of : IsStateOf t section.voters s) (sealed : s.phase ≡ phase.Sealed opened closed)
    (report : Holds (report_name out) (report_file t section s opened closed) now) (rdv : Holds (record_name out) (record_text t section s.bags) now) where
  abbrev names : Reconta
  names = record { report = report_name out; rdv = record_name out }

  abbrev r : RecordText
  r = section_record t section s.bags

  abbrev p : Report
  p = report_of t section s.bags s.came opened closed

  has : HasRecordAndReport (Some now) names r p
  has =
      let agree = sealed_agree t section s opened closed tables listed of sealed in
      let short = text_is_short (record_text t section s.bags) r agree.0 in
      record {
        report = record {
          bytes = report_file t section s opened closed;
          taken = record {
            held = λ x is. there (report_name out) (report_file t section s opened closed) now x is report;
            short = (sealed_is_accepted t section s opened closed tables listed of sealed).0;
          };
          read = agree.1;
        };
        rdv = record {
          bytes = record_text t section s.bags;
          taken = record { held = λ x is. there (record_name out) (record_text t section s.bags) now x is rdv; short = omega (arith, short) };
          read = agree.0;
        };
      }

  finds : (q : RecordText) (o : Report) → HasRecordAndReport (Some now) names q o → (q ≡ r) × (finding q o ≡ Agree)
  finds q o also =
      let one = same_record now (record_name out) q r also.rdv has.rdv in
      let other = same_report now (report_name out) o p also.report has.report in
      let agree = (sealed_agree t section s opened closed tables listed of sealed).2 in
      (one, ap (λ (x : RecordText). finding x o) one ∙ ap (λ (x : Report). finding r x) other ∙ agree)

  abbrev Result : Told → Told → Status → Type 0
  Result m n answer = ((answer ≡ status.Done) × HasShown ((codes "CONFERE" ++ 10 ∷ []) ∷ []) m n) ⊎ (answer ≡ status.Memory) ⊎ (answer ≡ status.Cabinet) ⊎ (answer ≡ status.Display)

  tells_so : (offices : List ℕ) (f : Finding) (m n : Told) (answer : Status) → f ≡ Agree
      → Answers (finding_text offices f ++ 10 ∷ []) (finding_status f) m n answer → Result m n answer
  tells_so offices f m n _ same (answered shown) =
      inl (ap finding_status same, subst (λ (g : Finding). HasShown ((finding_text offices g ++ 10 ∷ []) ∷ []) m n) same shown)
  tells_so offices f m n _ same (cut_short off) = inr (inr (inr refl))

  reconta_tells : (c d : CabinetTold) (m n : Told) (answer : Status) → c.files ≡ Some now → RecontaEnds names c d m n answer → Result m n answer
  reconta_tells c d m n answer told (report_at_fault h taken un) =
      absurd (fault_or_both now names answer r p (subst (λ (o : Option Files). IsRecountFault o names answer) told (first_report h)) has)
  reconta_tells c d m n answer told (record_at_fault read h taken un) =
      absurd (fault_or_both now names answer r p (subst (λ (o : Option Files). IsRecountFault o names answer) told (then_record read h)) has)
  reconta_tells c d m n _ told (recount_no_memory taken un) = inr (inl refl)
  reconta_tells c d m n _ told (recount_no_cabinet taken un) = inr (inr (inl refl))
  reconta_tells c d m n answer told (no_recount {v} none taken tells) =
      absurd (no_report_not_read now (report_name out) v p (subst (λ (o : Option Files). HasNoReport o (report_name out) v) told none) has.report)
  reconta_tells c d m n answer told (recounted {r = q} {p = o} also taken tells) =
      tells_so _ (finding q o) m n answer (finds q o (subst (λ (x : Option Files). HasRecordAndReport x names q o) told also)).1 tells

  pub agree_there : (d : CabinetTold) → d.files ≡ Some now → AgreeThere out d
  agree_there d told c e m n answer ends same = reconta_tells c e m n answer (same ∙ told) ends

-- ---- behind vota and emite

pub voted_agree : VotedAgree
voted_agree names c d m n t r es section s files is last out run opened closed sealed =
    let whole = done_is_whole names c d m n t r es section s files is last out run in
    go whole.1 whole.2 whole.0.valid whole.3
  where
    go : (now : Files) → d.files ≡ Some now → IsStateOf t section.voters last → AreResults names.out t section last files now → AgreeThere names.out d
    go now told valid (no_files unsealed same) = absurd (unsealed opened closed sealed)
    go now told valid (both_files {opened = o} {closed = k} at both) =
        agree_there now names.out t section last o k is.call.given.tables.valid is.found.loaded.section_fits.listed valid at both.report both.votes d told

module _ (names : Emite) (files : Files) (c d : CabinetTold) (told : c.files ≡ Some files) (m n : Told) where
  emite_done : (answer : Status) → answer ≡ status.Done → EmiteEnds names c d m n answer → AgreeThere names.out d
  emite_done answer done (emit_refused why taken un) = absurd (first_not_done c.files names.tables _ names.roll answer why done)
  emite_done _ done (emit_no_memory taken un) = absurd (cc)
  emite_done _ done (emit_no_cabinet taken un) = absurd (cc)
  emite_done _ done (not_found e also taken h) = absurd (store_not_done e done)
  emite_done _ done (not_sealed also taken h unsealed) = absurd (cc)
  emite_done _ done (no_files_made also taken h sealed) = absurd (cc)
  emite_done _ done (files_stopped after also taken h sealed put) = absurd (cc)
  emite_done _ done (not_emitted after between also taken h sealed put off) = absurd (cc)
  emite_done _ done (emitted {t = t} {section} {s} {opened} {closed} after between also taken h sealed put shown) =
      let (now, is, both) = both_are_there names.out t section s opened closed after d files (taken.files ∙ told) put in
      agree_there now names.out t section s opened closed also.tables.valid h.one_of.listed h.state sealed both.report both.votes d is

pub emitted_agree : EmittedAgree
emitted_agree names c d m n ends files told = emite_done names files c d told m n status.Done refl ends
