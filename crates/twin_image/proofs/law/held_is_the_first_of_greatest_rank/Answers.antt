use Rattle.std.proofs.Common.{ap}
use Rattle.twin_image.specs.Held.{held_body}
use Rattle.twin_image.proofs.Best.{best_from_held, held_from_best, first_greatest, best_from_first, none_held}
use Rattle.twin_image.proofs.law.held_is_the_first_of_greatest_rank.Goals as goal

pub returns : goal.returns
returns c =
    record {
      body = λ rank bodies best. (
        λ held. first_greatest rank bodies best (best_from_held rank bodies best held),
        λ first. held_from_best rank bodies best (best_from_first rank bodies best first),
      );
      none = λ rank bodies. (none_held rank bodies, λ empty. ap (held_body rank) empty);
    }
