use Rattle.std.proofs.Common.{sym, ◌∙◌, ap}
use Rattle.qr_text.proofs.PieceLaws.{some_piece}
use Rattle.qr_text.proofs.reader.Reader.has_ended.Goals as goal
use Rattle.qr_text.specs.Sections.{FieldsLeft}
use Rattle.urna_base.specs.Words.{pieces_left}

pub returns-in-Some : goal.returns-in-Some
returns-in-Some c = (
  λ h. absurd (cc),
  λ e. absurd (some_piece c.in-Some.field-0.now (sym (ap pieces_left c.in-Some.is) ∙ (ap (λ (s : FieldsLeft). s.left) c.self.view_is ∙ e))),
)
