use Rattle.std.proofs.Common.{ℕ, Some, [], refl, sym, ap, ◌∙◌}
use Rattle.std.specs.Option.{option_map}
use Rattle.urna_outside.specs.Flash.{flash_of}
use Rattle.twin_image.specs.Held.{bodies_on}
use Rattle.twin_image.proofs.Best.{none_held}
use Rattle.twin_image.proofs.twin.Twin.survey_on.Goals as goal

pub returns-in-Some-clause-held : goal.returns-in-Some-clause-held
returns-in-Some-clause-held g c fs told =
    c.in-Ok.ensures.best [] refl fs told ∙ ap (option_map (λ (r : ℕ). c.in-Ok.best.body.items)) c.in-Some.is ∙ ap (λ b. Some b) (sym c.of.ensures)

pub returns-in-None-clause-none : goal.returns-in-None-clause-none
returns-in-None-clause-none g c is fs told =
    let rank = g.R.Ranked.rank c.args.ranks.now in
    none_held rank (bodies_on rank g.row.SIZE (flash_of c.args.dev fs).content)
    (c.in-Ok.ensures.best [] refl fs told ∙ ap (option_map (λ (r : ℕ). c.in-Ok.best.body.items)) c.in-None.is)
