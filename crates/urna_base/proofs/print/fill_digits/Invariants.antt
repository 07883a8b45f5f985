use Rattle.std.proofs.Common.{◌≡◌, ◌≤◌, ◌++◌, length, drop}
use Rattle.urna_base.specs.Digits.{padded}
use Rattle.urna_base.proofs.print.fill_digits.Given as goal

-- the digits that are still to be written, and then those that are
abbrev pub invariant-loop-at : goal.invariant-loop-at
invariant-loop-at l =
    record {
      within : l.at ≤ length l.into;
      written : padded l.at l.rest ++ drop l.at l.into ≡ padded (length l.fn.into) l.value;
    }

abbrev pub decreases-loop-at : goal.decreases-loop-at
decreases-loop-at l = l.at
