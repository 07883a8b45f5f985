use Rattle.std.proofs.Common.{◌≡◌, ◌+◌, ◌*◌, ◌++◌, map, take}
use Rattle.std.specs.Int.{w32, to_be_bytes}
use Rattle.std.specs.List.{flat_map}
use Rattle.vote_kinds.specs.declared.choice.Choice.TheVariants.{Nominal}
use Rattle.vote_kinds.specs.Ballot.{line_of}
use Rattle.vote_record.specs.Bag.{bag_at}
use Rattle.vote_record.specs.Counters.{counts_of}
use Rattle.image_codec.proofs.codec.writing.put_candidates.Given as goal

abbrev pub invariant-loop-i : goal.invariant-loop-i
invariant-loop-i l = record {
  end : l.end ≡ l.at + 4 * l.i;
  text : take l.end l.into ≡ take l.at l.fn.into
      ++ flat_map (to_be_bytes w32) (take l.i (counts_of (map (λ n. Nominal n) (line_of l.tables l.panel).candidates) (bag_at l.votes.bags l.panel)));
}
