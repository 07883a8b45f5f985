use Rattle.std.proofs.Common.{◌≡◌, ◌++◌, take}
use Rattle.std.specs.List.{flat_map}
use Rattle.vote_record.specs.Bag.{bag_at}
use Rattle.vote_record.specs.RecordText.{vote_line}
use Rattle.vote_record.proofs.record_text.put_votes.Given as goal

abbrev pub invariant-loop-i : goal.invariant-loop-i
invariant-loop-i l = l.out.items ≡ l.fn.out.items ++ flat_map vote_line (take l.i (bag_at l.votes.bags l.panel))
