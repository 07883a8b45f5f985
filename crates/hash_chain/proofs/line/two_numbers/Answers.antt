use Rattle.std.proofs.Common.{◌≡◌, ◌+◌, Some, None, drop, refl, sym, ◌∙◌}
use Rattle.std.proofs.lemmas.List.{take_rest}
use Rattle.urna_base.specs.Digits.{decimal_value}
use Rattle.hash_chain.proofs.LineParts.{first_none, no_two, second_none, two_at}
use Rattle.hash_chain.proofs.line.two_numbers.Goals as goal

pub returns-in_err-colon : goal.returns-in_err-colon
returns-in_err-colon c = c.from_residual.ensures ∙ sym (no_two c.args.text.now (sym c.in_err-colon.ensures))

pub returns-in_err-first : goal.returns-in_err-first
returns-in_err-first c =
    c.from_residual-in_err-first.ensures ∙ sym (two_at c.args.text.now c.in_ok-colon.colon (sym c.in_ok-colon.ensures)
    ∙ first_none _ _ (sym c.in_err-first.ensures))

pub returns-in_err-second : goal.returns-in_err-second
returns-in_err-second c =
    let second : decimal_value (drop (c.in_ok-colon.colon + 1) c.args.text.now) ≡ None = rw take_rest at (sym c.in_err-second.ensures) in
    c.from_residual-in_err-second.ensures ∙ sym (two_at c.args.text.now c.in_ok-colon.colon (sym c.in_ok-colon.ensures) ∙ second_none _ _ second)

pub returns : goal.returns
returns c =
    let second : decimal_value (drop (c.in_ok-colon.colon + 1) c.args.text.now) ≡ Some c.in_ok-second.second = rw take_rest at (sym c.in_ok-second.ensures) in
    sym (two_at c.args.text.now c.in_ok-colon.colon (sym c.in_ok-colon.ensures) ∙ rw (← c.in_ok-first.ensures, second) refl)
