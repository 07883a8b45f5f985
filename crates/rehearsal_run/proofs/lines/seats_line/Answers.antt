use Rattle.std.proofs.Common.{◌∙◌, ℕ, ap}
use Rattle.std.specs.Prelude.{codes}
use Rattle.urna_base.specs.Lines.{two_number_line}
use Rattle.rehearsal_run.proofs.lines.seats_line.Goals as goal

pub returns : goal.returns
returns c =
    c.two_number_line.ensures ∙ ap (λ (n : ℕ). two_number_line (codes "CARGO 13 QUOCIENTE ") c.args.quotient (codes " VAGAS 9 VACANTES ") n) c.from.ensures
