use Rattle.std.proofs.Common.{◌≡◌, ◌*◌, ◌<◌, ℕ, get_or, length}
use Rattle.image_codec.specs.Encoding.{eight_places}
use Rattle.image_codec.proofs.codec.writing.turnout_bytes.Given as goal

abbrev pub invariant-loop-k : goal.invariant-loop-k
invariant-loop-k l = record {
  whole : length l.bytes ≡ 75;
  marks : (i : ℕ) → i < l.k → get_or l.bytes i 0 ≡ eight_places l.turnout (8 * i);
}
