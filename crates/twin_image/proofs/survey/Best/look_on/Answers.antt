use Rattle.std.proofs.Common.{◌++◌, sym, ap, ◌∙◌, append_assoc}
use Rattle.std.proofs.lemmas.Result.{IfOk-weaker}
use Rattle.urna_outside.specs.Flash.{flash_of}
use Rattle.urna_outside.proofs.Doing.{told_after}
use Rattle.twin_image.specs.Held.{bodies_at, held_body}
use Rattle.twin_image.proofs.survey.Best.look_on.Goals as goal

pub returns-clause-best : goal.returns-clause-best
returns-clause-best g c =
    let rank = g.R.Ranked.rank c.args.ranks.now in
    IfOk-weaker c.look-2.result _ _ (λ best more bodies was fs told.
    let image = (flash_of c.args.dev fs).content in
    let first = bodies_at rank g.row.SIZE 0 image in
    let second = bodies_at rank g.row.SIZE 1 image in
    let later = told_after _ _ _ fs c.in_ok-best.ensures.done told in
    ap (held_body rank) (sym (append_assoc bodies first second)) ∙ more (bodies ++ first) (c.in_ok-best.ensures.best bodies was fs told) fs later) c.look-2.ensures.best
