-- The fields of a text are its pieces again.
use Rattle.std.proofs.Common.{◌≡◌, ℕ, ◌<◌, List, [], ◌∷◌, length, arith, lit<}
use Rattle.std.specs.List.{AllByRecursion, join_with_byte}
use Rattle.urna_base.specs.Words.{pieces}
use Rattle.urna_base.proofs.Lacking.{Lacks, seen_lack}
use Rattle.urna_base.proofs.PieceLaws.{pieces_joined}
use Rattle.qr_text.specs.Laws.{IsPlain, ReportIsSaid}
use Rattle.qr_text.specs.Said.{fields, texts}
use Rattle.qr_text.specs.Spelling.{said, report_fields, report_text}
use Rattle.qr_text.specs.Table.{head_rows}
use Rattle.qr_text.specs.declared.said.Said.{Said}
use Rattle.qr_text.proofs.Plain.{plain_said}
use Rattle.qr_text.proofs.Reporting.{is_said, passes}

plain_lack : (ts : List (List ℕ)) → AllByRecursion IsPlain ts → AllByRecursion (Lacks 32) ts
plain_lack [] h = tt
plain_lack (t ∷ ts) h = (seen_lack 32 t (lit< tt) h.0.seen, plain_lack ts h.1)

-- plain fields are the pieces of their text
split_texts : (ts : List (List ℕ)) → 0 < length ts → AllByRecursion IsPlain ts → pieces (join_with_byte 32 ts) ≡ ts
split_texts [] some h = absurd (omega arith)
split_texts (t ∷ ts) some h = pieces_joined 32 t ts (plain_lack (t ∷ ts) h)

pub some_fields : (s : Said) → 0 < length (texts (fields s))
unfolding fields head_rows
some_fields s = omega arith

pub report_is_said : ReportIsSaid
unfolding report_text report_fields
report_is_said r h =
    let is = is_said r h in
    record {
      said = is;
      same = split_texts (texts (fields (said r))) (some_fields (said r)) (plain_said (said r) is);
      sums = passes r h;
    }
