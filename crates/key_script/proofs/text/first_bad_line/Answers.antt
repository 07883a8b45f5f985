use Rattle.std.proofs.Common.{refl, arith}
use Rattle.urna_base.specs.Lines.{lines_of}
use Rattle.key_script.specs.Script.{first_bad}
use Rattle.key_script.proofs.text.first_bad_line.Goals as goal

pub loop-line-init : goal.loop-line-init
unfolding first_bad
loop-line-init c = record { place = refl; few = omega arith }

pub returns : goal.returns
unfolding lines_of
returns c = let ended = c.in_default.ensures.empty.0 refl in rw ended at c.loop-line.invariant.place
