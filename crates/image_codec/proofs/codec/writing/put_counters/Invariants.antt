use Rattle.std.proofs.Common.{◌≡◌, ◌+◌, ◌++◌, take, length}
use Rattle.std.specs.List.{flat_map, zip}
use Rattle.vote_kinds.specs.Ballot.{lines_by_panel}
use Rattle.image_codec.specs.Encoding.{counter_bytes}
use Rattle.image_codec.proofs.codec.writing.put_counters.Given as goal

abbrev pub invariant-loop-panel : goal.invariant-loop-panel
invariant-loop-panel l = record {
  end : l.end ≡ l.at + length (flat_map counter_bytes (take l.panel (zip (lines_by_panel l.tables) l.votes.bags)));
  text : take l.end l.into ≡ take l.at l.fn.into ++ flat_map counter_bytes (take l.panel (zip (lines_by_panel l.tables) l.votes.bags));
}
