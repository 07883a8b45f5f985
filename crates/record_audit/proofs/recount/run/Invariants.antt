use Rattle.std.proofs.Common.{◌≡◌, ◌+◌, drop}
use Rattle.record_audit.specs.Walk.{run}
use Rattle.record_audit.proofs.recount.run.Given as goal

-- so many were counted, and the others are left
abbrev pub invariant-loop-vote : goal.invariant-loop-vote
invariant-loop-vote l = (l.lines ≡ l.vote-index) × (l.lines + run l.choice (drop l.vote-index l.votes) ≡ run l.choice l.votes)
