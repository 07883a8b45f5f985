use Rattle.std.proofs.Common.{◌≡◌, ◌∷◌, [], ◌++◌, ◌+◌, ℕ, List, drop, take, sym, ap, subst, ◌∙◌}
use Rattle.std.proofs.lemmas.List.{take-append-drop, take_more}
use Rattle.urna_outside.specs.ShownLines.{HasShown, IsCutOff}
use Rattle.urna_outside.proofs.ShowingLines.{cut_within, shown_to, shows_err}
use Rattle.command_parts.proofs.lines.show_lines.Goals as goal

pub loop-line-preserved : goal.loop-line-preserved
loop-line-preserved g c =
    let told = g.M.Machine.told in
    let lines = c.args.lines.now in
    let i = c.loop-line.line-index in
    let line = c.line-item.result in
    let more : take (i + 1) lines ≡ take i lines ++ line ∷ [] =
    take_more lines i line c.loop-line-test.true ∙ ap (λ (l : List ℕ). take i lines ++ l ∷ []) (sym c.line-item.is) in
    shown_to (take i lines) (line ∷ []) (take (i + 1) lines) (told c.args.machine.now) (told c.loop-line.machine) (told c.show_line.new.machine) more
    c.loop-line.invariant
    (subst (λ (l : List ℕ). HasShown (l ∷ []) (told c.loop-line.machine) (told c.show_line.new.machine)) c.as_bytes.ensures.bytes c.in_ok-show_line.ensures)

pub returns-in_err-show_line : goal.returns-in_err-show_line
returns-in_err-show_line g c =
    let told = g.M.Machine.told in
    let lines = c.args.lines.now in
    let i = c.loop-line.line-index in
    let line = c.line-item.result in
    let more : take (i + 1) lines ≡ take i lines ++ line ∷ [] =
    take_more lines i line c.loop-line-test.true ∙ ap (λ (l : List ℕ). take i lines ++ l ∷ []) (sym c.line-item.is) in
    let all : lines ≡ (take i lines ++ line ∷ []) ++ drop (i + 1) lines =
    sym (take-append-drop (i + 1) lines) ∙ ap (λ (ls : List (List ℕ)). ls ++ drop (i + 1) lines) more in
    shows_err c.from_residual.result lines (told c.args.machine.now) (told c.show_line.new.machine) c.from_residual.ensures.0
    (cut_within (take i lines) (line ∷ []) (drop (i + 1) lines) lines (told c.args.machine.now) (told c.loop-line.machine) (told c.show_line.new.machine) all
    c.loop-line.invariant
    (subst (λ (l : List ℕ). IsCutOff (l ∷ []) (told c.loop-line.machine) (told c.show_line.new.machine)) c.as_bytes.ensures.bytes c.in_err-show_line.ensures))
