use Rattle.std.proofs.Common.{◌≡◌, ◌-◌, map}
use Rattle.std.specs.List.{range_with_len}
use Rattle.turnout.specs.Turnout.{has_come}
use Rattle.image_codec.specs.Encoding.{number_of_bits}
use Rattle.image_codec.proofs.codec.writing.eight_places.Given as goal

abbrev pub invariant-loop-place : goal.invariant-loop-place
invariant-loop-place l = l.byte ≡ number_of_bits (map (has_come l.turnout) (range_with_len l.first (l.place - l.first)))
