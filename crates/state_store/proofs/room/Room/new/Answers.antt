use Rattle.std.proofs.Common.{ℕ, length, ap, ◌∙◌}
use Rattle.std.proofs.lemmas.List.{length-replicate}
use Rattle.image_codec.specs.Layout.{body_size}
use Rattle.state_store.proofs.room.Room.new.Goals as goal

pub invariant_of-result : goal.invariant_of-result
invariant_of-result c = record {
  buffer = record {
    whole = ap length c.in_ok-zeros.ensures.bytes ∙ length-replicate {A = ℕ} body_size 0;
    reserved = c.in_ok-zeros.ensures.room;
  };
}
