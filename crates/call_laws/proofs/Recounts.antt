-- The files of reconta give one status
use Rattle.std.proofs.Common.{◌≡◌, ◌⊎◌, ◌<◌, ◌^◌, inl, inr, ℕ, length, List, Option, Some, refl, ap, subst, ◌∙◌}
use Rattle.urna_outside.specs.Cabinet.{CabinetTold, Files}
use Rattle.urna_outside.specs.Told.{Told}
use Rattle.hash_chain.proofs.Faults as parts
use Rattle.poll_report.specs.declared.report.Report.{Report}
use Rattle.qr_text.specs.Fault.{IsFieldFault}
use Rattle.qr_text.proofs.Faults as fields
use Rattle.record_audit.specs.Finding.{finding}
use Rattle.record_audit.specs.Spelling.{Spells}
use Rattle.record_audit.specs.declared.text.RecordText.{RecordText}
use Rattle.record_audit.proofs.Spellings.{one_spelled}
use Rattle.section_intake.specs.Verdict.{IsReportFile}
use Rattle.section_intake.specs.declared.verdict.Verdict.{Verdict}
use Rattle.section_intake.specs.declared.verdict.Verdict.TheVariants as verdict
use Rattle.section_intake.proofs.VerdictLaws.{no_fault, one_report}
use Rattle.urna_commands.specs.Answering.{Answers, answered, cut_short}
use Rattle.urna_commands.specs.Command.{Reconta}
use Rattle.command_parts.specs.Documents.{HasRecord, HasReport}
use Rattle.urna_commands.specs.Documents.{IsFault}
use Rattle.urna_commands.specs.Findings.{finding_status}
use Rattle.urna_commands.specs.Laws.{OneRecountStatus, RecountEndsSo}
use Rattle.urna_commands.specs.Reconta.{HasRecordAndReport, HasNoReport, IsNoReport, IsRecountFault, IsRecountStatus, RecontaEnds, at_fault, both_read, fields_fault, first_report, no_recount, no_report, parts_fault, recount_no_cabinet, recount_no_memory, record_at_fault, recounted, report_at_fault, then_record}
use Rattle.urna_commands.specs.Verdicts.{verdict_status}
use Rattle.command_parts.specs.declared.error.Doc.TheVariants as doc
use Rattle.urna_commands.specs.declared.status.Status.{Status}
use Rattle.urna_commands.specs.declared.status.Status.TheVariants as status
use Rattle.command_parts.proofs.Once.{same_bytes, small}
use Rattle.urna_commands.proofs.Once.{fault_once, record_not_fault, report_not_fault}

-- ---- the file of a report

pub same_report : (files : Files) (name : List ℕ) (p q : Report) → HasReport (Some files) name p → HasReport (Some files) name q → p ≡ q
same_report files name p q h i =
    let same = same_bytes files doc.Report name h.bytes i.bytes h.taken i.taken in
    one_report i.bytes p q (small _ i.taken.short) (subst (λ (b : List ℕ). IsReportFile b p) same h.read) i.read

refused_or_read : (bytes : List ℕ) (v : Verdict) (p : Report) → IsNoReport bytes v → length bytes < 2 ^ 63 → IsReportFile bytes p → ⊥
refused_or_read bytes _ p (parts_fault {f} h) short i = parts.never_both bytes i.text f short h i.parts
refused_or_read bytes _ p (fields_fault {text} {f} of h) short i = no_fault bytes text f p short of h i

refused_so : (bytes : List ℕ) (v w : Verdict) → length bytes < 2 ^ 63 → IsNoReport bytes v → IsNoReport bytes w → v ≡ w
refused_so bytes _ _ short (parts_fault {f} h) (parts_fault {f = g} i) = ap verdict.Part (parts.one_fault bytes f g h i)
refused_so bytes _ _ short (parts_fault {f} h) (fields_fault {text} of i) = absurd (parts.never_both bytes text f short h of)
refused_so bytes _ _ short (fields_fault {text} of h) (parts_fault {f} i) = absurd (parts.never_both bytes text f short i of)
refused_so bytes _ _ short (fields_fault {text} {f} of h) (fields_fault {text = other} {f = g} also i) =
    let same = parts.one_text bytes text other short of also in
    ap verdict.Fields (fields.one_fault other f g (subst (λ (x : List ℕ). IsFieldFault x f) same h) i)

pub no_report_not_read : (files : Files) (name : List ℕ) (v : Verdict) (p : Report) → HasNoReport (Some files) name v → HasReport (Some files) name p → ⊥
no_report_not_read files name v p h i =
    let same = same_bytes files doc.Report name h.bytes i.bytes h.taken i.taken in
    refused_or_read i.bytes v p (subst (λ (b : List ℕ). IsNoReport b v) same h.refused) (small _ i.taken.short) i.read

same_refusal : (files : Files) (name : List ℕ) (v w : Verdict) → HasNoReport (Some files) name v → HasNoReport (Some files) name w → v ≡ w
same_refusal files name v w h i =
    let same = same_bytes files doc.Report name h.bytes i.bytes h.taken i.taken in
    refused_so i.bytes v w (small _ i.taken.short) (subst (λ (b : List ℕ). IsNoReport b v) same h.refused) i.refused

-- ---- the text of a record

pub same_record : (files : Files) (name : List ℕ) (r q : RecordText) → HasRecord (Some files) name r → HasRecord (Some files) name q → r ≡ q
same_record files name r q h i =
    let same = same_bytes files doc.Record name h.bytes i.bytes h.taken i.taken in
    one_spelled i.bytes q r i.read (subst (λ (b : List ℕ). Spells b r) same h.read)

-- ---- both

module _ (files : Files) (names : Reconta) where
  fault_or_refused : (s : Status) (v : Verdict) → IsRecountFault (Some files) names s → HasNoReport (Some files) names.report v → ⊥
  fault_or_refused s v (first_report h) has = report_not_fault files names.report has.bytes s h has.taken
  fault_or_refused s v (then_record {p} read h) has = no_report_not_read files names.report v p has read

  pub fault_or_both : (s : Status) (r : RecordText) (p : Report) → IsRecountFault (Some files) names s → HasRecordAndReport (Some files) names r p → ⊥
  fault_or_both s r p (first_report h) has = report_not_fault files names.report has.report.bytes s h has.report.taken
  fault_or_both s r p (then_record read h) has = record_not_fault files names.rdv s r h has.rdv

  one_fault : (s u : Status) → IsRecountFault (Some files) names s → IsRecountFault (Some files) names u → s ≡ u
  one_fault s u (first_report h) (first_report i) = fault_once files names.report doc.Report s u h i
  one_fault s u (first_report h) (then_record read i) = absurd (report_not_fault files names.report read.bytes s h read.taken)
  one_fault s u (then_record read h) (first_report i) = absurd (report_not_fault files names.report read.bytes u i read.taken)
  one_fault s u (then_record read h) (then_record also i) = fault_once files names.rdv doc.Record s u h i

  one_status : (s u : Status) → IsRecountStatus (Some files) names s → IsRecountStatus (Some files) names u → s ≡ u
  one_status s u (at_fault h) (at_fault i) = one_fault s u h i
  one_status s _ (at_fault h) (no_report {v} i) = absurd (fault_or_refused s v h i)
  one_status s _ (at_fault h) (both_read {r} {p} i) = absurd (fault_or_both s r p h i)
  one_status _ u (no_report {v} h) (at_fault i) = absurd (fault_or_refused u v i h)
  one_status _ _ (no_report {v} h) (no_report {v = w} i) = ap verdict_status (same_refusal files names.report v w h i)
  one_status _ _ (no_report {v} h) (both_read {r} {p} i) = absurd (no_report_not_read files names.report v p h i.report)
  one_status _ u (both_read {r} {p} h) (at_fault i) = absurd (fault_or_both u r p i h)
  one_status _ _ (both_read {r} {p} h) (no_report {v} i) = absurd (no_report_not_read files names.report v p i h.report)
  one_status _ _ (both_read {r} {p} h) (both_read {r = q} {p = o} i) =
      ap (λ (x : RecordText). finding_status (finding x p)) (same_record files names.rdv r q h.rdv i.rdv)
      ∙ ap (λ (x : Report). finding_status (finding q x)) (same_report files names.report p o h.report i.report)

-- where a document is at fault it ends with that status, or memory was wanted, or the cabinet failed
pub recount_refused : (names : Reconta) (c d : CabinetTold) (m n : Told) (files : Files) (e s : Status) → c.files ≡ Some files → IsRecountFault (Some files) names e
    → RecontaEnds names c d m n s → (s ≡ e) ⊎ (s ≡ status.Memory) ⊎ (s ≡ status.Cabinet)
recount_refused names c d m n files e s told why (report_at_fault h taken un) =
    inl (one_fault files names s e (first_report (subst (λ (o : Option Files). IsFault o names.report doc.Report s) told h)) why)
recount_refused names c d m n files e s told why (record_at_fault {p} has h taken un) =
    inl (one_fault files names s e (then_record (subst (λ (o : Option Files). HasReport o names.report p) told has) (subst (λ (o : Option Files). IsFault o names.rdv doc.Record s) told h)) why)
recount_refused names c d m n files e _ told why (recount_no_memory taken un) = inr (inl refl)
recount_refused names c d m n files e _ told why (recount_no_cabinet taken un) = inr (inr refl)
recount_refused names c d m n files e s told why (no_recount {v} has taken tells) =
    absurd (fault_or_refused files names e v why (subst (λ (o : Option Files). HasNoReport o names.report v) told has))
recount_refused names c d m n files e s told why (recounted {r} {p} has taken tells) =
    absurd (fault_or_both files names e r p why (subst (λ (o : Option Files). HasRecordAndReport o names r p) told has))

pub one_recount_status : OneRecountStatus
one_recount_status files names s u h i = one_status files names s u h i

-- ---- how it ends

abbrev EndsSo : Reconta → CabinetTold → Status → Type 0
EndsSo names c s = IsRecountStatus c.files names s ⊎ (s ≡ status.Memory) ⊎ (s ≡ status.Cabinet) ⊎ (s ≡ status.Display)

answers_so : (names : Reconta) (c : CabinetTold) (line : List ℕ) (given : Status) (m n : Told) (s : Status) → IsRecountStatus c.files names given
    → Answers line given m n s → EndsSo names c s
answers_so names c line given m n _ is (answered shown) = inl is
answers_so names c line given m n _ is (cut_short off) = inr (inr (inr refl))

pub recount_ends_so : RecountEndsSo
recount_ends_so names c d m n s (report_at_fault h taken un) = inl (at_fault (first_report h))
recount_ends_so names c d m n s (record_at_fault has h taken un) = inl (at_fault (then_record has h))
recount_ends_so names c d m n s (recount_no_memory taken un) = inr (inl refl)
recount_ends_so names c d m n s (recount_no_cabinet taken un) = inr (inr (inl refl))
recount_ends_so names c d m n s (no_recount {v} has taken tells) = answers_so names c _ (verdict_status v) m n s (no_report has) tells
recount_ends_so names c d m n s (recounted {r} {p} has taken tells) = answers_so names c _ (finding_status (finding r p)) m n s (both_read has) tells
