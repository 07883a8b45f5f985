use Rattle.std.proofs.Common.{◌+◌, length, sym, ◌∙◌}
use Rattle.seat_certificate.proofs.Passing.{bloc_room, blocs_end, blocs_run_out, pushed_bloc}
use Rattle.seat_certificate.proofs.read.read_blocs.Goals as goal

pub returns-in_default-next_bloc-clause-goes : goal.returns-in_default-next_bloc-clause-goes
returns-in_default-next_bloc-clause-goes c =
    λ code q. blocs_end (4 + length c.loop-line.first) code q c.loop-line.first c.loop-line.rest.now c.in-Some.line.now c.in-Some.others.now c.in-Some.ensures.split (sym c.next_bloc.ensures ∙ c.in_default-next_bloc.is)
    ∙ c.loop-line.invariant.goes code q

pub loop-line-preserved : goal.loop-line-preserved
loop-line-preserved c =
    let is = sym c.next_bloc.ensures ∙ c.in-Some-next_bloc.is in
    record {
      goes = λ code q. pushed_bloc code q c.loop-line.first _ _ c.loop-line.rest.now c.in-Some.line.now c.in-Some.others.now c.in-Some.ensures.split is c.in_ok-push.ensures.pushed ∙ c.loop-line.invariant.goes code q;
      few = bloc_room c.loop-line.first _ _ c.in-Some.line.now is c.in_ok-push.ensures.pushed;
    }

pub returns-clause-goes : goal.returns-clause-goes
returns-clause-goes c = λ code q. blocs_run_out (4 + length c.loop-line.first) code q c.loop-line.first c.loop-line.rest.now c.in_default.ensures.split ∙ c.loop-line.invariant.goes code q
