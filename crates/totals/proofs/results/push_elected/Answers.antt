use Rattle.std.proofs.Common.{◌++◌, ℕ, List, take, option_map, ap, ◌∙◌, arith}
use Rattle.std.proofs.lemmas.List.{take_all}
use Rattle.poll_report.proofs.LineLists.{lines_more}
use Rattle.section_intake.specs.Sums.{nominal_sum}
use Rattle.totals.specs.Lines.{elected_line, elected_lines}
use Rattle.totals.proofs.LineLaws.{pushed}
use Rattle.totals.proofs.results.push_elected.Goals as goal

pub loop-i-preserved : goal.loop-i-preserved
loop-i-preserved c t reports made read =
    let ns = c.args.elected.now in
    let i = c.loop-i.i in
    let votes : ℕ → ℕ = λ number. nominal_sum c.args.panel number reports in
    let line : ℕ → List ℕ = λ number. elected_line number (votes number) in
    let counted = c.nominal.ensures.sum t reports made read in
    pushed _ _ c.args.lines.now.items (elected_lines votes (take i ns)) _ _ c.in_ok-push.ensures.items (c.loop-i.invariant t reports made read)
    (lines_more line ns i _ (rw (c.elected_line.ensures, counted) (ap (option_map line) c.get-number.ensures)))

pub returns : goal.returns
returns c t reports made read =
    let votes : ℕ → ℕ = λ number. nominal_sum c.args.panel number reports in
    let whole = take_all c.loop-i.i c.args.elected.now (omega (arith, c.loop-i-test.false, c.len-i-end.ensures)) in
    c.loop-i.invariant t reports made read ∙ ap (λ (l : List ℕ). c.args.lines.now.items ++ elected_lines votes l) whole
