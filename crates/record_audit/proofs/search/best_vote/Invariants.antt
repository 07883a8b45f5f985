use Rattle.std.proofs.Common.{◌≡◌, drop, None}
use Rattle.record_audit.specs.Finding.{differs_at}
use Rattle.record_audit.specs.Walk.{best_of}
use Rattle.record_audit.proofs.search.best_vote.Given as goal

-- what is left of them gives what all give
abbrev pub invariant-loop-vote : goal.invariant-loop-vote
invariant-loop-vote l = best_of (differs_at l.votes l.office) None l.votes ≡ best_of (differs_at l.votes l.office) l.first (drop l.vote-index l.votes)
