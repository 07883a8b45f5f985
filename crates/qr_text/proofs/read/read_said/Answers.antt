use Rattle.std.proofs.Common.{◌≡◌, ℕ, List, sym, ◌∙◌, ap}
use Rattle.std.proofs.lemmas.Result.{err_from_is_err_and}
use Rattle.urna_base.specs.Words.{pieces}
use Rattle.qr_text.proofs.HeadJoin.{head_join}
use Rattle.qr_text.proofs.Joining.{bind_err, bind_ok, fault_above}
use Rattle.qr_text.proofs.read.read_said.Goals as goal
use Rattle.qr_text.specs.Fronts.{at_mode, goes}
use Rattle.qr_text.specs.Reading.{Head, nothing_said, reading, said_by, start}
use Rattle.qr_text.specs.Sections.{FieldsLeft}

-- all fields are left
whole : (bytes : List ℕ) (s : FieldsLeft) → s.left ≡ pieces bytes → s.next ≡ 1 → said_by bytes ≡ goes (at_mode (Head 0) nothing_said) s
unfolding said_by
whole bytes s left next = ap (λ n. reading n start (pieces bytes)) (sym next) ∙ ap (λ l. reading s.next start l) (sym left)

pub returns-in_err-head : goal.returns-in_err-head
returns-in_err-head c =
    let p = err_from_is_err_and c.from_residual.result c.from_residual.ensures.1 in
    rw (p.1, p.2) (whole c.args.bytes.now c.new-reader.result c.new-reader.ensures.left c.new-reader.ensures.next
    ∙ (head_join nothing_said c.new-reader.result ∙ bind_err _ _ _ c.in_err-head.ensures))

pub returns-in_err-offices : goal.returns-in_err-offices
returns-in_err-offices c =
    let p = err_from_is_err_and c.from_residual-in_err-offices.result c.from_residual-in_err-offices.ensures.1 in
    rw (p.1, p.2) (fault_above _ _ _ _ c.in_err-offices.field-0.0 c.in_err-offices.ensures.exact (λ f h.
    whole c.args.bytes.now c.new-reader.result c.new-reader.ensures.left c.new-reader.ensures.next
    ∙ (head_join nothing_said c.new-reader.result ∙ (bind_ok _ _ _ c.in_ok-head.ensures ∙ h))))

pub returns : goal.returns
returns c =
    whole c.args.bytes.now c.new-reader.result c.new-reader.ensures.left c.new-reader.ensures.next
    ∙ (head_join nothing_said c.new-reader.result ∙ (bind_ok _ _ _ c.in_ok-head.ensures ∙ c.in_ok-offices.ensures.exact))
