use Rattle.std.proofs.Common.{◌+◌, [], arith}
use Rattle.std.proofs.lemmas.List.{length-map, get_or-map}
use Rattle.seat_remainders.specs.declared.contest.Contestant.{Contestant}
use Rattle.seat_tests.proofs.owed.rise.Goals as goal

pub returns : goal.returns
returns c = λ _ k lt.
    let parties = c.args.parties.now in
    let len = length-map parties (λ (p : Contestant). p.number) in
    let d : Contestant = record { number = 0; party_votes = 0; candidates = [] } in
    let low = get_or-map (λ (p : Contestant). p.number) parties k d 0 (omega arith) in
    let high = get_or-map (λ (p : Contestant). p.number) parties (k + 1) d 0 (omega arith) in
    let rises = c.loop-i.invariant k d (omega arith) in
    omega arith
