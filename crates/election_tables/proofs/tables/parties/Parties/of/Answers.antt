use Rattle.std.proofs.Common.{rules}
use Rattle.std.proofs.lemmas.List.Sorted.{answers_always}
use Rattle.election_tables.proofs.Keys.{parties_sorted, parties_rise}
use Rattle.election_tables.proofs.tables.parties.Parties.of.Goals as goal

pub invariant_of-result : goal.invariant_of-result
invariant_of-result c =
    let sorted = c.sort_unstable_by_key.ensures.sorted (λ s. s.number) (answers_always _ _ _ (λ f a r g h. search rules)) in
    parties_rise c.args.entries.now c.in_ok-items.items.items c.sort_unstable_by_key.new.self.items c.in_ok-items.ensures c.sort_unstable_by_key.ensures.permutation sorted c.requires.distinct

pub returns-clause-ok : goal.returns-clause-ok
returns-clause-ok c = parties_sorted c.args.entries.now c.in_ok-items.items.items c.sort_unstable_by_key.new.self.items c.in_ok-items.ensures c.sort_unstable_by_key.ensures.permutation

pub returns-clause-rise : goal.returns-clause-rise
returns-clause-rise c =
    let sorted = c.sort_unstable_by_key.ensures.sorted (λ s. s.number) (answers_always _ _ _ (λ f a r g h. search rules)) in
    parties_rise c.args.entries.now c.in_ok-items.items.items c.sort_unstable_by_key.new.self.items c.in_ok-items.ensures c.sort_unstable_by_key.ensures.permutation sorted c.requires.distinct
