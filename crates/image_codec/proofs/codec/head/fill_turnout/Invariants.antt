use Rattle.std.proofs.Common.{◌≡◌, ◌-◌, ◌++◌, false, length, replicate}
use Rattle.image_codec.specs.DecodedHead.{marks_in, turnout_of}
use Rattle.image_codec.proofs.codec.head.fill_turnout.Given as goal

abbrev pub invariant-loop-place : goal.invariant-loop-place
invariant-loop-place l = l.turnout ≡ marks_in l.place (turnout_of l.bytes) ++ replicate (length l.initial.turnout - l.place) false
