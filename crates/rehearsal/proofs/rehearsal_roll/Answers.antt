use Rattle.std.proofs.Common.{◌≡◌, refl, arith}
use Rattle.rehearsal.specs.Roll.{roll_text}
use Rattle.rehearsal.proofs.Titles.{roll_text-more}
use Rattle.rehearsal.proofs.rehearsal_roll.Goals as goal

pub loop-place-preserved : goal.loop-place-preserved
loop-place-preserved c =
    rw (c.in_ok-push.ensures.items, c.in_ok-put_digits.ensures.ok, c.title.ensures, c.loop-place.invariant, roll_text-more c.loop-place.place) refl

pub returns-clause-read : goal.returns-clause-read
returns-clause-read c =
    let done : c.loop-place.place ≡ c.args.n = omega arith in
    let lines : c.loop-place.text.items ≡ roll_text c.args.n = rw done at c.loop-place.invariant in
    rw lines (c.no_text_is_refused.ensures.roll c.args.n c.requires.some c.requires.few).1
