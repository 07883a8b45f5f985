use Rattle.std.proofs.Common.{◌≡◌, ◌+◌, cond, is_ok, ℕ, List, sym, ap, subst, ◌∙◌, arith}
use Rattle.std.specs.List.{insert}
use Rattle.vote_kinds.specs.Choice.{AreRising}
use Rattle.vote_record.specs.BagData.{IsPlace, choices_in, members_of}
use Rattle.vote_record.specs.declared.counters.Counter.{Counter}
use Rattle.vote_record.proofs.StoredCounters.{few_votes, members-insert, members-set, rise-insert, rise-set}
use Rattle.vote_record.proofs.counters.count_in.Goals as goal

pub overflow_add-index_mut : goal.overflow_add-index_mut
overflow_add-index_mut c =
    let few = few_votes c.args.choice c.args.counters.now.items c.place_near-place.result c.index_mut.result.now c.requires.rise (cc) c.index_mut.ensures.value in
    omega (arith, c.requires.fits)

pub returns-then-stands_at-clause-counted : goal.returns-then-stands_at-clause-counted
returns-then-stands_at-clause-counted c =
    let at = subst (λ (l : List Counter). IsPlace c.args.choice l c.place_near-place.result) c.deref.ensures.value c.place_near-place.ensures in
    members-set c.args.votes c.args.choice c.args.counters.now.items c.place_near-place.result c.index_mut.result.now at (cc) c.index_mut.ensures.value

pub returns-then-stands_at-clause-rise : goal.returns-then-stands_at-clause-rise
returns-then-stands_at-clause-rise c =
    rise-set (c.index_mut.result.now.votes + c.args.votes) c.args.choice c.args.counters.now.items c.place_near-place.result c.index_mut.result.now c.requires.rise (cc) c.index_mut.ensures.value

pub returns-else-stands_at-clause-counted : goal.returns-else-stands_at-clause-counted
returns-else-stands_at-clause-counted c =
    let counters : List Counter = c.args.counters.now.items in
    let place : ℕ = c.place_near-place.result in
    let x : Counter = record { choice = c.args.choice; votes = c.args.votes } in
    let at = subst (λ (l : List Counter). IsPlace c.args.choice l place) c.deref.ensures.value c.place_near-place.ensures in
    ap members_of (c.insert.ensures.items ∙ ap (λ r. cond (is_ok r) (insert counters place x) counters) c.unwrap.ensures) ∙ members-insert x counters place at

pub returns-else-stands_at-clause-rise : goal.returns-else-stands_at-clause-rise
returns-else-stands_at-clause-rise c =
    let counters : List Counter = c.args.counters.now.items in
    let place : ℕ = c.place_near-place.result in
    let x : Counter = record { choice = c.args.choice; votes = c.args.votes } in
    let at = subst (λ (l : List Counter). IsPlace c.args.choice l place) c.deref.ensures.value c.place_near-place.ensures in
    let items : c.insert.new.self.items ≡ insert counters place x = c.insert.ensures.items ∙ ap (λ r. cond (is_ok r) (insert counters place x) counters) c.unwrap.ensures in
    subst (λ (l : List Counter). AreRising (choices_in l)) (sym items) (rise-insert x counters place c.requires.rise at (cc))
