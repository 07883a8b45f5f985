use Rattle.std.proofs.Common.{length, ap, sym, ◌∙◌, arith}
use Rattle.std.proofs.lemmas.Bool.Decides.{nat_tests}
use Rattle.std.proofs.lemmas.List.{take_rest}
use Rattle.urna_base.specs.Lines.{lines_of}
use Rattle.urna_base.proofs.LineLaws.{lines_of-position, lines_of-unplaced}
use Rattle.urna_base.proofs.lines.split_line.Goals as goal

pub returns-in-Some-clause-split : goal.returns-in-Some-clause-split
returns-in-Some-clause-split c = rw take_rest (lines_of-position c.args.text.now c.in-Some.end (sym c.first_place.ensures ∙ c.in-Some.is))

pub returns-in-None-clause-split : goal.returns-in-None-clause-split
unfolding lines_of
returns-in-None-clause-split c = lines_of-unplaced c.args.text.now (λ e. grind (arith, nat_tests, ap length e)) (sym c.first_place.ensures ∙ c.in-None.is)
