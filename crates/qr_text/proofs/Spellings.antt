-- Texts and the reports that they spell.
use Rattle.std.proofs.Common.{◌≡◌, ℕ, List, inl, inr, refl, sym, ap, ◌∙◌}
use Rattle.std.specs.List.{join_with_byte}
use Rattle.std.proofs.lemmas.List.Splits.{join_with_byte-slice_split}
use Rattle.urna_base.specs.Words.{pieces}
use Rattle.poll_report.specs.Report.{IsReport}
use Rattle.poll_report.specs.declared.report.Report.{Report}
use Rattle.qr_text.specs.Fault.{Says}
use Rattle.qr_text.specs.Laws.{NeverBoth, OneAnswer, OneText, TextHasFields, TextSpellsReport}
use Rattle.qr_text.specs.Said.{fields, texts}
use Rattle.qr_text.specs.Spelling.{Spells, said, report_fields, report_text}
use Rattle.qr_text.specs.declared.said.Said.{Said}
use Rattle.qr_text.proofs.Faults.{one_of_both, not_both, says_one}
use Rattle.qr_text.proofs.Flattening.{one_report}
use Rattle.qr_text.proofs.Rebuilding.{said_is_report}
use Rattle.qr_text.proofs.Reporting.{is_said, passes}
use Rattle.qr_text.proofs.Texts.{report_is_said, some_fields}

spells_says : (bytes : List ℕ) (r : Report) → Spells bytes r → Says bytes (said r)
unfolding report_fields
spells_says bytes r h = record { said = is_said r h.report; same = h.fields; sums = passes r h.report }

pub says_spells : (bytes : List ℕ) (s : Said) (r : Report) → Says bytes s → IsReport r → said r ≡ s → Spells bytes r
unfolding report_fields
says_spells bytes s r h is e = record { report = is; fields = h.same ∙ ap (λ (x : Said). texts (fields x)) (sym e) }

pub one_answer : OneAnswer
one_answer bytes = elim (one_of_both bytes) [
  | inl fault ↦ inl fault
  | inr says ↦
      let found = said_is_report says.0 bytes says.1 in
      inr (
        found.0,
        says_spells bytes says.0 found.0 says.1 found.1 found.2,
        λ q h. one_report q found.0 h.report found.1 (says_one bytes (said q) says.0 (spells_says bytes q h) says.1 ∙ sym found.2),
      )
]

pub never_both : NeverBoth
never_both bytes f r fault h = not_both bytes f (said r) fault (spells_says bytes r h)

-- a text spells one report
pub one_spelled : (text : List ℕ) (r q : Report) → Spells text r → Spells text q → r ≡ q
one_spelled text r q h i = elim (one_answer text) [
  | inl fault ↦ absurd (never_both text fault.0 r fault.1 h)
  | inr report ↦ report.2 r h ∙ sym (report.2 q i)
]

pub one_text : OneText
unfolding report_text report_fields
one_text bytes r is = (
  λ h. sym (join_with_byte-slice_split 32 bytes) ∙ ap (λ (x : List (List ℕ)). join_with_byte 32 x) h.fields,
  λ e. record { report = is; fields = ap (λ (x : List ℕ). pieces x) e ∙ (report_is_said r is).same },
)

pub text_spells_report : TextSpellsReport
text_spells_report r is =
    let spells = (one_text (report_text r) r is).1 refl in (
      spells,
      λ q h. one_report q r h.report is
          (says_one (report_text r) (said q) (said r) (spells_says (report_text r) q h) (spells_says (report_text r) r spells)),
    )

pub text_has_fields : TextHasFields
unfolding report_fields
text_has_fields r is = (((text_spells_report r is).0).fields, some_fields (said r))
