use Rattle.std.proofs.Common.{◌≡◌, slice_set}
use Rattle.vote_kinds.specs.Ballot.{choices_of, line_of}
use Rattle.vote_record.specs.Bag.{bag_at}
use Rattle.image_codec.specs.Numbers.{counters_in}
use Rattle.image_codec.proofs.FillCounters.{AreAdded}
use Rattle.image_codec.proofs.codec.counters.fill_panel.Given as goal

abbrev pub invariant-loop-place : goal.invariant-loop-place
invariant-loop-place l = record {
  votes : l.votes ≡ record l.initial.votes { bags = slice_set l.initial.votes.bags l.panel (bag_at l.votes.bags l.panel) };
  added : AreAdded (choices_of (line_of l.tables l.panel)) (counters_in l.counters l.bytes) (bag_at l.votes.bags l.panel) l.place;
}
