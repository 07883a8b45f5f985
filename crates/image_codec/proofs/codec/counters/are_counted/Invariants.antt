use Rattle.std.proofs.Common.{◌≡◌, ◌≤◌, ◌*◌, length, drop}
use Rattle.std.specs.Option.{is_some}
use Rattle.vote_kinds.specs.Ballot.{lines_by_panel}
use Rattle.image_codec.specs.DecodedCounters.{bags_counted}
use Rattle.image_codec.specs.CodecLaws.{counters_of}
use Rattle.image_codec.proofs.codec.counters.are_counted.Given as goal

abbrev pub invariant-loop-panel : goal.invariant-loop-panel
invariant-loop-panel l = record {
  long : 4 * counters_of (drop l.panel (lines_by_panel l.tables)) ≤ length l.rest;
  same : is_some (bags_counted (drop l.panel (lines_by_panel l.tables)) l.came l.rest) ≡ is_some (bags_counted (lines_by_panel l.tables) l.came l.bytes);
}
