use Rattle.std.proofs.Common.{refl, sym, ap, ◌∙◌}
use Rattle.std.specs.Option.{option_copied}
use Rattle.key_script.specs.Script.{voter_line, events_of_keys}
use Rattle.key_script.proofs.LineLaws.{is_some-events_of_keys, none_from_test}
use Rattle.key_script.proofs.line.voter_keys.Goals as goal
use Rattle.key_script.proofs.line.voter_keys.Goals.{else-not-is_empty-via-then-not-is_empty+else-are_keys, else-not-is_empty-via-else-not-is_empty}

pub returns-in_err-keys-clause-value : goal.returns-in_err-keys-clause-value
unfolding voter_line
returns-in_err-keys-clause-value c =
    let text = sym c.after.ensures ∙ ap option_copied c.in_err-keys.was in
    rw (c.from_residual.ensures, text) refl

pub returns-then-are_keys-clause-value : goal.returns-then-are_keys-clause-value
unfolding voter_line
returns-then-are_keys-clause-value c =
    let text = sym c.after.ensures ∙ ap option_copied c.in_ok-keys.was in
    let some = sym c.is_empty.ensures ∙ c.if-not-is_empty.true in
    rw (text, some) refl

pub returns-then-are_keys-clause-valid : goal.returns-then-are_keys-clause-valid
returns-then-are_keys-clause-valid c =
    is_some-events_of_keys c.in_ok-keys.keys.now ∙ (sym c.are_keys.ensures ∙ c.if-are_keys.true)

pub returns-else-not-is_empty-clause-value : goal.returns-else-not-is_empty-clause-value
unfolding voter_line
returns-else-not-is_empty-clause-value c =
    let text = sym c.after.ensures ∙ ap option_copied c.in_ok-keys.was in
    elim c.else-not-is_empty.branch [
      | else-not-is_empty-via-then-not-is_empty+else-are_keys w ↦
          let some = sym c.is_empty.ensures ∙ w.if-not-is_empty.true in
          let bad = is_some-events_of_keys c.in_ok-keys.keys.now ∙ (sym w.are_keys.ensures ∙ w.if-are_keys.false) in
          rw (text, some) (none_from_test (events_of_keys c.in_ok-keys.keys.now) bad)
      | else-not-is_empty-via-else-not-is_empty w ↦
          let none = sym c.is_empty.ensures ∙ w.if-not-is_empty.false in
          rw (text, none) refl
    ]
