use Rattle.std.proofs.Common.{◌≡◌, ◌++◌, take}
use Rattle.qr_text.specs.Writing.{spaced_votes}
use Rattle.qr_text.proofs.write.put_votes.Given as goal

abbrev pub invariant-loop-count : goal.invariant-loop-count
invariant-loop-count l = l.out.items ≡ l.fn.out.items ++ spaced_votes (take l.count-index l.counts)
