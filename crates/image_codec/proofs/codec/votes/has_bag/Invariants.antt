use Rattle.std.proofs.Common.{◌≡◌, ◌≤◌, ◌-◌, ◌*◌, length}
use Rattle.std.specs.Option.{is_some}
use Rattle.vote_kinds.specs.Ballot.{line_of}
use Rattle.image_codec.specs.DecodedVotes.{votes_in, bag_in}
use Rattle.image_codec.proofs.codec.votes.has_bag.Given as goal

abbrev pub invariant-loop : goal.invariant-loop
invariant-loop l = record {
  long : 5 * (l.count - l.counter) ≤ length l.rest;
  same : is_some (votes_in (line_of l.tables l.panel) l.before (l.count - l.counter) l.rest) ≡ is_some (bag_in (line_of l.tables l.panel) l.count l.bytes);
}
