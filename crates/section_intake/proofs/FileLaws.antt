-- The file of a report is accepted by the tables that the report fits.
use Rattle.std.proofs.Common.{◌≡◌, ℕ, ◌≤◌, true, List, [], ◌∷◌, length, refl, sym, subst, arith}
use Rattle.std.specs.Prelude.{nat_lt}
use Rattle.std.specs.List.{AllByRecursion}
use Rattle.std.proofs.lemmas.Bool.Decides.{nat_tests}
use Rattle.hash_chain.specs.Fault.{AreFields}
use Rattle.hash_chain.specs.Lines.{is_field}
use Rattle.hash_chain.specs.Cut.{part_size}
use Rattle.qr_text.specs.Laws.{IsPlain}
use Rattle.qr_text.specs.Spelling.{report_text}
use Rattle.qr_text.proofs.Plain.{fields_are_plain}
use Rattle.qr_text.proofs.Spellings.{text_has_fields, text_spells_report}
use Rattle.section_intake.specs.Laws.{FileIsAccepted, TextHasParts}
use Rattle.section_intake.specs.Verdict.{accepted}

-- a plain field may stand in a part
may_stand : (f : List ℕ) → IsPlain f → (is_field f ≡ true) × (length f ≤ part_size)
may_stand f h =
    let some : nat_lt 0 (length f) ≡ true = let has = h.some in grind (arith, nat_tests) in
    let short = h.short in
    (rw (some, h.seen, h.no_hash) refl, omega arith)

all_may_stand : (fs : List (List ℕ)) → AllByRecursion IsPlain fs → AllByRecursion (λ f. (is_field f ≡ true) × (length f ≤ part_size)) fs
all_may_stand [] h = tt
all_may_stand (f ∷ fs) h = (may_stand f h.0, all_may_stand fs h.1)

pub text_has_parts : TextHasParts
text_has_parts r is =
    let fields = text_has_fields r is in
    subst AreFields (sym fields.0) (fields.1, all_may_stand _ (fields_are_plain r is))

pub file_is_accepted : FileIsAccepted
file_is_accepted t r is fits =
    accepted (record { text = report_text r; parts = record { fields = text_has_parts r is; same = refl }; spells = (text_spells_report r is).0 }) fits
