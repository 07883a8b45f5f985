use Rattle.std.proofs.Common.{◌≡◌, drop, map}
use Rattle.vote_kinds.specs.declared.choice.Choice.TheVariants as choice
use Rattle.record_audit.specs.Finding.{differs_at}
use Rattle.record_audit.specs.Walk.{best_of}
use Rattle.record_audit.proofs.search.best_party.Given as goal

-- what is left of them gives what all give
abbrev pub invariant-loop-count : goal.invariant-loop-count
invariant-loop-count l =
    best_of (differs_at l.votes l.office) l.initial.first (map (λ c. choice.Party c.number) l.counts)
    ≡ best_of (differs_at l.votes l.office) l.first (map (λ c. choice.Party c.number) (drop l.count-index l.counts))
