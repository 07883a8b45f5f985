use Rattle.std.proofs.Common.{sym, subst, ◌∙◌}
use Rattle.urna_commands.specs.Answering.{Answers, answered, cut_short}
use Rattle.urna_commands.specs.Taking.{status_in}
use Rattle.urna_commands.specs.declared.status.Status.TheVariants as status
use Rattle.urna_commands.proofs.Endings.{passed_on}
use Rattle.urna_commands.proofs.telling.tell_answer.Goals as goal

pub returns-in_err-tell_line : goal.returns-in_err-tell_line
returns-in_err-tell_line g c =
    let m = g.M.Machine.told c.args.machine.now in
    let n = g.M.Machine.told c.tell_line.new.machine in
    subst (Answers c.args.line.now (status_in c.args.answer) m n)
    (sym (passed_on c.from_residual.result status.Display c.from_residual.ensures.1 (λ s h. h ∙ c.in_err-tell_line.ensures.err)))
    (cut_short c.in_err-tell_line.ensures.shown)

pub returns : goal.returns
returns g c = answered c.in_ok-tell_line.ensures.shown
