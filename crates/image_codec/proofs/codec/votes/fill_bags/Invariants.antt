use Rattle.std.proofs.Common.{◌≡◌, ◌≤◌, ◌+◌, ◌-◌, ◌*◌, ◌++◌, [], length, replicate, take, unwrap_or}
use Rattle.vote_kinds.specs.Ballot.{lines_by_panel}
use Rattle.image_codec.specs.DecodedVotes.{bags_in}
use Rattle.image_codec.proofs.FillVotes.{HasRest}
use Rattle.image_codec.proofs.codec.votes.fill_bags.Given as goal

abbrev pub invariant-loop-panel : goal.invariant-loop-panel
invariant-loop-panel l = record {
  votes : l.votes ≡ record l.initial.votes { bags = take l.panel (unwrap_or (bags_in (lines_by_panel l.tables) l.came l.bytes) []) ++ replicate (length l.tables.panels - l.panel) [] };
  rest : HasRest l.tables l.came l.panel l.rest (unwrap_or (bags_in (lines_by_panel l.tables) l.came l.bytes) []);
  long : length l.bytes ≤ l.panel * (4 + 10 * l.came) + length l.rest;
}
