use Rattle.std.proofs.Common.{◌≡◌, ◌*◌, [], slice_set, take, drop, unwrap_or}
use Rattle.vote_kinds.specs.Ballot.{line_of}
use Rattle.image_codec.specs.DecodedVotes.{bag_in}
use Rattle.image_codec.proofs.codec.votes.fill_bag.Given as goal

abbrev pub invariant-loop : goal.invariant-loop
invariant-loop l = record {
  votes : l.votes ≡ record l.initial.votes { bags = slice_set l.initial.votes.bags l.panel (take l.counter (unwrap_or (bag_in (line_of l.tables l.panel) l.count l.bytes) [])) };
  rest : l.rest ≡ drop (5 * l.counter) (drop 4 l.bytes);
}
