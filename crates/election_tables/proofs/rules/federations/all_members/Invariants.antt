use Rattle.std.proofs.Common.{◌≡◌, take}
use Rattle.election_tables.specs.Rules.{all_members}
use Rattle.election_tables.proofs.rules.federations.all_members.Given as goal

abbrev pub invariant-loop-federation : goal.invariant-loop-federation
invariant-loop-federation l = l.members.items ≡ all_members (take l.federation-index l.federations)
