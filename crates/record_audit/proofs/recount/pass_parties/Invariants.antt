use Rattle.std.proofs.Common.{◌≡◌, drop, map}
use Rattle.record_audit.specs.Walk.{for_party, passed_all}
use Rattle.record_audit.proofs.recount.pass_parties.Given as goal

-- what is left of both gives what all gives
abbrev pub invariant-loop-count : goal.invariant-loop-count
invariant-loop-count l = passed_all (map for_party l.counts) l.votes ≡ passed_all (map for_party (drop l.count-index l.counts)) l.rest
