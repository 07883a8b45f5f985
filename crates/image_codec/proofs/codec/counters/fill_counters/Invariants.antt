use Rattle.std.proofs.Common.{◌≡◌, ◌≤◌, ◌-◌, ◌*◌, ◌++◌, [], length, drop, replicate, take, unwrap_or}
use Rattle.vote_kinds.specs.Ballot.{lines_by_panel}
use Rattle.image_codec.specs.Decoded.{bags_second}
use Rattle.image_codec.specs.CodecLaws.{counters_of}
use Rattle.image_codec.proofs.FillCounters.{HasCounters}
use Rattle.image_codec.proofs.codec.counters.fill_counters.Given as goal

abbrev pub invariant-loop-panel : goal.invariant-loop-panel
invariant-loop-panel l = record {
  votes : l.votes ≡ record l.initial.votes { bags = take l.panel (unwrap_or (bags_second (lines_by_panel l.tables) l.came l.bytes) []) ++ replicate (length l.tables.panels - l.panel) [] };
  rest : HasCounters l.tables l.came l.panel l.rest (unwrap_or (bags_second (lines_by_panel l.tables) l.came l.bytes) []);
  long : 4 * counters_of (drop l.panel (lines_by_panel l.tables)) ≤ length l.rest;
}
