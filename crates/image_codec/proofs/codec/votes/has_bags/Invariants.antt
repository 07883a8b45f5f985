use Rattle.std.proofs.Common.{◌≡◌, ◌≤◌, ◌+◌, ◌*◌, length, drop}
use Rattle.std.specs.Option.{is_some}
use Rattle.vote_kinds.specs.Ballot.{lines_by_panel}
use Rattle.image_codec.specs.DecodedVotes.{bags_in}
use Rattle.image_codec.proofs.codec.votes.has_bags.Given as goal

abbrev pub invariant-loop-panel : goal.invariant-loop-panel
invariant-loop-panel l = record {
  long : length l.bytes ≤ l.panel * (4 + 10 * l.came) + length l.rest;
  same : is_some (bags_in (drop l.panel (lines_by_panel l.tables)) l.came l.rest) ≡ is_some (bags_in (lines_by_panel l.tables) l.came l.bytes);
}
