use Rattle.std.proofs.Common.{sym, ap, ◌∙◌, is_some}
use Rattle.key_script.proofs.LineLaws.{voter_line-form, clerk_line-form}
use Rattle.key_script.proofs.line.has_form.Goals as goal

pub returns-then-is_some : goal.returns-then-is_some
returns-then-is_some c =
    let read = sym c.is_some.ensures ∙ c.if-is_some.true in
    c.if-is_some.true ∙ sym (voter_line-form c.args.line.now c.voter_keys.result c.voter_keys.ensures.value c.voter_keys.ensures.valid read)

pub returns-else-is_some : goal.returns-else-is_some
returns-else-is_some c =
    let unread = sym c.is_some.ensures ∙ c.if-is_some.false in
    let form = clerk_line-form c.args.line.now c.voter_keys.result c.voter_keys.ensures.value unread in
    c.is_some-else-is_some.ensures ∙ (ap is_some c.clerk_key.ensures ∙ sym form)
