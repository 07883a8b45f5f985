use Rattle.std.proofs.Common.{◌++◌, List, length, map, take, nat_le, ap, ◌∙◌, arith}
use Rattle.std.proofs.lemmas.List.{take_all}
use Rattle.std.proofs.lemmas.List.Sums.{length-filter}
use Rattle.seat_remainders.specs.declared.contest.Entry.{Entry}
use Rattle.seat_remainders.specs.Candidates.{in_order}
use Rattle.seat_remainders.proofs.Sorting.{front_passes, votes_go_up}
use Rattle.seat_remainders.proofs.elected.push_elected.Goals as goal

pub first_of-entry-items-requires : goal.first_of-entry-items-requires
first_of-entry-items-requires c =
    let able = ap (λ (l : List Entry). length l) (c.deref_mut.ensures.value ∙ c.in_ok-put_those_with.ensures) in
    let count = length-filter (λ e. nat_le c.args.least e.votes) c.args.candidates.now in
    omega (arith, able, count, c.requires.seats)

pub returns : goal.returns
returns c =
    let count = length-filter (λ e. nat_le c.args.least e.votes) c.args.candidates.now in
    let first = front_passes (λ e. nat_le c.args.least e.votes) (votes_go_up c.args.least) c.args.seats c.args.candidates.now (omega (arith, count, c.requires.seats)) in
    let all = take_all c.loop-entry.entry-index c.first_of-entry-items.result.now c.loop-entry-test.false in
    let able = ap (λ (l : List Entry). take c.args.seats (in_order l)) (c.deref_mut.ensures.value ∙ c.in_ok-put_those_with.ensures) in
    c.loop-entry.invariant ∙ ap (λ (l : List Entry). c.args.elected.now ++ map (λ (e : Entry). e.number) l) (all ∙ c.first_of-entry-items.ensures ∙ able ∙ first)
