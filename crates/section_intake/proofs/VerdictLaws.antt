-- Of a file there is one verdict.
use Rattle.std.proofs.Common.{◌≡◌, inl, inr, ℕ, ◌<◌, ◌^◌, false, List, length, refl, sym, ap, subst}
use Rattle.std.proofs.lemmas.Bool.{cases_Bool}
use Rattle.election_tables.specs.TablesData.{IsTables, TablesData}
use Rattle.hash_chain.specs.Fault.{ArePartsOf}
use Rattle.hash_chain.proofs.Faults as parts
use Rattle.poll_report.specs.declared.report.Report.{Report}
use Rattle.qr_text.specs.Fault.{IsFieldFault}
use Rattle.qr_text.specs.Spelling.{Spells}
use Rattle.qr_text.specs.declared.fault.FieldFault.{FieldFault}
use Rattle.qr_text.proofs.Faults as fields
use Rattle.qr_text.proofs.Spellings as texts
use Rattle.section_intake.specs.Fits.{Fits}
use Rattle.section_intake.specs.Fitting.{fits}
use Rattle.section_intake.specs.Laws.{OneVerdict, SomeVerdict}
use Rattle.section_intake.specs.Verdict.{IsReportFile, IsVerdict, accepted, strange}
use Rattle.section_intake.specs.Verdict as v
use Rattle.section_intake.specs.declared.verdict.Verdict.{Verdict}
use Rattle.section_intake.specs.declared.verdict.Verdict.TheVariants as verdict
use Rattle.section_intake.proofs.FitLaws.{fit_says, says_fit}

pub one_report : (bytes : List ℕ) (r q : Report) → length bytes < 2 ^ 63 → IsReportFile bytes r → IsReportFile bytes q → r ≡ q
one_report bytes r q short h i =
    let same = parts.one_text bytes h.text i.text short h.parts i.parts in
    texts.one_spelled i.text r q (subst (λ (t : List ℕ). Spells t r) same h.spells) i.spells

-- the fields of a report's file have no fault
pub no_fault : (bytes text : List ℕ) (f : FieldFault) (r : Report) → length bytes < 2 ^ 63 → ArePartsOf bytes text → IsFieldFault text f → IsReportFile bytes r → ⊥
no_fault bytes text f r short h fault i =
    let same = parts.one_text bytes text i.text short h i.parts in
    texts.never_both i.text f r (subst (λ (t : List ℕ). IsFieldFault t f) same fault) i.spells

pub one_verdict : OneVerdict
one_verdict t bytes _ _ short (v.parts {f} h) (v.parts {f = g} i) = ap verdict.Part (parts.one_fault bytes f g h i)
one_verdict t bytes _ _ short (v.parts {f} h) (v.fields {text} i _) = absurd (parts.never_both bytes text f short h i)
one_verdict t bytes _ _ short (v.parts {f} h) (strange i _) = absurd (parts.never_both bytes i.text f short h i.parts)
one_verdict t bytes _ _ short (v.parts {f} h) (accepted i _) = absurd (parts.never_both bytes i.text f short h i.parts)
one_verdict t bytes _ _ short (v.fields {text} h _) (v.parts {f} i) = absurd (parts.never_both bytes text f short i h)
one_verdict t bytes _ _ short (v.fields {text} {f} h a) (v.fields {text = other} {f = g} i b) =
    let same = parts.one_text bytes text other short h i in
    ap verdict.Fields (fields.one_fault other f g (subst (λ (x : List ℕ). IsFieldFault x f) same a) b)
one_verdict t bytes _ _ short (v.fields {text} {f} h a) (strange {r} i _) = absurd (no_fault bytes text f r short h a i)
one_verdict t bytes _ _ short (v.fields {text} {f} h a) (accepted {r} i _) = absurd (no_fault bytes text f r short h a i)
one_verdict t bytes _ _ short (strange h _) (v.parts {f} i) = absurd (parts.never_both bytes h.text f short i h.parts)
one_verdict t bytes _ _ short (strange {r} h _) (v.fields {text} {f} i b) = absurd (no_fault bytes text f r short i b h)
one_verdict t bytes _ _ short (strange h _) (strange i _) = refl
one_verdict t bytes _ _ short (strange {r} h not) (accepted {r = q} i does) =
    absurd (not (subst (λ (x : Report). Fits t x) (sym (one_report bytes r q short h i)) does))
one_verdict t bytes _ _ short (accepted h _) (v.parts {f} i) = absurd (parts.never_both bytes h.text f short i h.parts)
one_verdict t bytes _ _ short (accepted {r} h _) (v.fields {text} {f} i b) = absurd (no_fault bytes text f r short i b h)
one_verdict t bytes _ _ short (accepted {r} h does) (strange {r = q} i not) =
    absurd (not (subst (λ (x : Report). Fits t x) (one_report bytes r q short h i) does))
one_verdict t bytes _ _ short (accepted {r} h _) (accepted {r = q} i _) =
    ap (λ (x : Report). verdict.Accepted x.zone x.section) (one_report bytes r q short h i)

-- the verdict on the file of a report
pub by_fits : (t : TablesData) → IsTables t → (bytes : List ℕ) (r : Report) → IsReportFile bytes r → (v : Verdict) × IsVerdict t bytes v
by_fits t is bytes r h = elim (cases_Bool (fits t r)) [
  | inl does ↦ (verdict.Accepted r.zone r.section, accepted h (fit_says t r does))
  | inr fails ↦ (verdict.Strange, strange h (not_fitting t is r fails))
]
  where
    not_fitting : (t : TablesData) → IsTables t → (r : Report) → fits t r ≡ false → ¬ Fits t r
    not_fitting t is r fails has = let yes = says_fit t is r has in absurd (cc)

pub some_verdict : SomeVerdict
some_verdict t bytes is short = elim (parts.one_of_both bytes short) [
  | inl fault ↦ (verdict.Part fault.0, v.parts fault.1)
  | inr text ↦ elim (texts.one_answer text.0) [
    | inl fault ↦ (verdict.Fields fault.0, v.fields text.1 fault.1)
    | inr report ↦ by_fits t is bytes report.0 (record { text = text.0; parts = text.1; spells = report.1 })
  ]
]
