use Rattle.std.proofs.Common.{List, take, sum_by, ap, ◌∙◌, arith}
use Rattle.std.proofs.lemmas.List.{take_all}
use Rattle.seat_remainders.specs.declared.contest.Contestant.{Contestant}
use Rattle.seat_remainders.specs.declared.standing.Standing.{Standing}
use Rattle.seat_remainders.specs.Parties.{first_phase}
use Rattle.seat_remainders.proofs.FirstPhase.{first_within}
use Rattle.seat_remainders.proofs.MadeTable.{place_below}
use Rattle.seat_remainders.proofs.Standings.{counted_more, sum_firsts}
use Rattle.seat_remainders.proofs.standing.standings_of.Goals as goal

pub loop-party-preserved : goal.loop-party-preserved
loop-party-preserved c =
    let items = c.as_slice-party-items.result.now in
    let i = c.loop-party.party-index in
    let p = c.party-item.result in
    let lt = c.loop-party-test.true in
    let place = place_below c.args.contest.now.parties items i p c.requires.rising c.as_slice-party-items.ensures.items lt c.party-item.is in
    record {
      counted = counted_more c.args.qe i items c.loop-party.standings.items _ c.standing_of.result p c.loop-party.invariant.counted c.in_ok-push.ensures.items c.standing_of.ensures.counted lt c.party-item.is;
      count = omega (arith, c.in_ok-push.ensures.len, c.loop-party.invariant.count);
      places = omega (arith, place, c.standing_of.ensures.number);
    }

pub returns-clause-within : goal.returns-clause-within
returns-clause-within c =
    let qe = c.args.qe in
    let items = c.as_slice-party-items.result.now in
    let told = ap (λ (l : List Standing). sum_by (λ (s : Standing). s.first) l) c.loop-party.invariant.counted ∙ sum_firsts qe (take c.loop-party.party-index items) in
    let all = ap (λ (l : List Contestant). first_phase qe l) (take_all c.loop-party.party-index items c.loop-party-test.false ∙ c.as_slice-party-items.ensures.items) in
    let few = first_within qe c.args.contest.now.parties c.requires.some in
    omega (arith, told, all, few, c.requires.votes)
