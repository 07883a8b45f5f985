use Rattle.std.proofs.Common.{◌≡◌, ◌∙◌, arith, rules}
use Rattle.urna_base.specs.Digits.{padded}
use Rattle.urna_base.proofs.DigitLaws.{padded-set}
use Rattle.urna_base.proofs.print.fill_digits.Goals as goal

pub loop-at-preserved : goal.loop-at-preserved
loop-at-preserved c =
    record {
      within = search rules;
      written = padded-set c.loop-at.at c.loop-at.rest c.loop-at.into (omega arith) (omega arith) ∙ c.loop-at.invariant.written;
    }

pub returns : goal.returns
unfolding padded
returns c = let none : c.loop-at.at ≡ 0 = omega arith in rw none at c.loop-at.invariant.written
