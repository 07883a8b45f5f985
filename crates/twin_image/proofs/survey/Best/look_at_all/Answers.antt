use Rattle.std.proofs.Common.{◌≤◌, ℕ, [], sym, ap, subst, arith}
use Rattle.std.proofs.lemmas.Result.{IfOk-weaker}
use Rattle.std.specs.Option.{option_map}
use Rattle.urna_outside.specs.Told.{Sizes, size_of}
use Rattle.urna_outside.specs.declared.device.Dev.TheVariants.{Internal, External}
use Rattle.urna_outside.proofs.Doing.{told_after}
use Rattle.gate_slot.specs.Slot.{room}
use Rattle.twin_image.specs.Held.{bodies_on}
use Rattle.twin_image.proofs.survey.Best.look_at_all.Goals as goal

pub look_on-requires : goal.look_on-requires
look_on-requires g c =
    (omega arith, (c.requires.room Internal, λ value is. absurd (cc (c.requires.nothing, is))))

pub look_on-requires-2 : goal.look_on-requires-2
look_on-requires-2 g c =
    let fits = subst (λ (z : Sizes). room g.row.SIZE ≤ size_of External z) (sym c.look_on.ensures.done.sizes) (c.requires.room External) in
    (omega arith, (fits, c.in_ok-best.ensures.ranked))

pub returns-clause-best : goal.returns-clause-best
returns-clause-best g c =
    let rank = g.R.Ranked.rank c.args.ranks.now in
    IfOk-weaker c.look_on-2.result _ _ (λ best more start told.
    let later = told_after _ _ _ start c.in_ok-best.ensures.done told in
    let nothing = ap (option_map (λ (r : ℕ). c.args.self.body.items)) (sym c.requires.nothing) in
    more (bodies_on rank g.row.SIZE start.internal.content) (c.in_ok-best.ensures.best [] nothing start told) start later) c.look_on-2.ensures.best
