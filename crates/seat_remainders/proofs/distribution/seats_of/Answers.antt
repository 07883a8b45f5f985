use Rattle.std.proofs.Common.{◌≡◌, ◌+◌, ◌/◌, ◌==◌, ◌≤◌, nat_le, ℕ, List, [], ◌∷◌, ◌++◌, length, map, take, count_by, sym, ap, ◌∙◌, subst, arith}
use Rattle.seat_remainders.specs.declared.contest.Entry.{Entry}
use Rattle.seat_remainders.specs.declared.contest.Contestant.{Contestant}
use Rattle.seat_remainders.specs.declared.outcome.Award.{Award}
use Rattle.seat_remainders.specs.declared.outcome.PartySeats.{PartySeats}
use Rattle.seat_remainders.specs.declared.standing.Standing.{Standing}
use Rattle.seat_remainders.specs.Candidates.{in_order}
use Rattle.seat_remainders.specs.Rounds.{seats_after}
use Rattle.seat_remainders.specs.Outcome.{party_seats, elected_of, elected_by}
use Rattle.seat_remainders.specs.Standing.{standing_of}
use Rattle.seat_remainders.proofs.Results.{seats_are, candidates_at, room_at, elected_more, parties_more}
use Rattle.seat_remainders.proofs.Standings.{standing_here}
use Rattle.seat_remainders.proofs.distribution.seats_of.Goals as goal

-- the seats that were counted are those of the standing
counted : (qe seats : ℕ) (s : Standing) (p : Contestant) (slice awards : List Award) → seats ≡ s.first + count_by (λ w. w.party == s.party) slice → s ≡ standing_of qe p → slice ≡ awards → seats ≡ seats_after qe awards p
counted qe seats s p slice awards is stands same = seats_are qe seats p slice awards (is ∙ ap (λ (t : Standing). t.first + count_by (λ w. w.party == t.party) slice) stands) same

pub push_elected-requires-clause-seats : goal.push_elected-requires-clause-seats
push_elected-requires-clause-seats c =
    let stands = standing_here c.args.qe c.loop-i.i c.args.contest.now.parties c.as_slice-party-items.result.now c.args.standings.now _ c.party-item.result c.requires.counted c.as_slice-party-items.ensures.items c.loop-i-test.true c.party-item.is in
    let seats = counted c.args.qe c.seats_after-seats.result _ c.party-item.result c.as_slice.result.now c.args.awards c.seats_after-seats.ensures stands c.as_slice.ensures.items in
    let few = candidates_at _ _ _ _ _ _ _ _ c.requires.rounds c.requires.rising c.as_slice-party-items.ensures.items c.loop-i-test.true c.party-item.is in
    let enough = c.least_votes-least.ensures c.party-item.result stands (omega (arith, seats, few)) in
    subst (λ (l : List Entry). c.seats_after-seats.result ≤ count_by (λ e. nat_le c.least_votes-least.result e.votes) l) (sym c.as_slice-candidates.ensures.items) enough

pub push_elected-requires-clause-room : goal.push_elected-requires-clause-room
push_elected-requires-clause-room c =
    let stands = standing_here c.args.qe c.loop-i.i c.args.contest.now.parties c.as_slice-party-items.result.now c.args.standings.now _ c.party-item.result c.requires.counted c.as_slice-party-items.ensures.items c.loop-i-test.true c.party-item.is in
    let seats = counted c.args.qe c.seats_after-seats.result _ c.party-item.result c.as_slice.result.now c.args.awards c.seats_after-seats.ensures stands c.as_slice.ensures.items in
    let room = room_at _ _ _ _ _ _ _ _ c.requires.rounds c.requires.rising c.requires.within c.as_slice-party-items.ensures.items c.loop-i-test.true c.party-item.is in
    let told = ap (λ (l : List ℕ). length l) c.loop-i.invariant.elected in
    omega arith

same_party : (number votes quotient seats : ℕ) (p : PartySeats) → number ≡ p.number → votes ≡ p.votes → quotient ≡ p.quotient → seats ≡ p.seats → record { number = number; votes = votes; quotient = quotient; seats = seats } ≡ p
same_party number votes quotient seats p a b d e =
    let make : ℕ → ℕ → ℕ → ℕ → PartySeats = λ n v q s. record { number = n; votes = v; quotient = q; seats = s } in
    ap (λ n. make n votes quotient seats) a ∙ ap (λ v. make p.number v quotient seats) b ∙ ap (λ q. make p.number p.votes q seats) d ∙ ap (λ s. make p.number p.votes p.quotient s) e

pub loop-i-preserved : goal.loop-i-preserved
loop-i-preserved c =
    let qe = c.args.qe in
    let awards = c.args.awards in
    let items = c.as_slice-party-items.result.now in
    let i = c.loop-i.i in
    let p = c.party-item.result in
    let lt = c.loop-i-test.true in
    let stands = standing_here qe i c.args.contest.now.parties items c.args.standings.now _ p c.requires.counted c.as_slice-party-items.ensures.items lt c.party-item.is in
    let seats = counted qe c.seats_after-seats.result _ p c.as_slice.result.now awards c.seats_after-seats.ensures stands c.as_slice.ensures.items in
    let votes = ap (λ (s : Standing). s.votes) stands in
    let one = same_party _ _ c.party_quotient.result c.seats_after-seats.result (party_seats qe awards p) (ap (λ (s : Standing). s.party) stands) votes (c.party_quotient.ensures ∙ ap (λ (v : ℕ). v / qe) votes) seats in
    let this : map (λ e. e.number) (take c.seats_after-seats.result (in_order c.as_slice-candidates.result.now)) ≡ elected_of qe awards p =
    ap (λ (n : ℕ). map (λ (e : Entry). e.number) (take n (in_order c.as_slice-candidates.result.now))) seats
    ∙ ap (λ (l : List Entry). map (λ (e : Entry). e.number) (take (seats_after qe awards p) (in_order l))) c.as_slice-candidates.ensures.items in
    record {
      parties = c.in_ok-push.ensures.pushed
          ∙ ap (λ (t : PartySeats). c.loop-i.parties ++ t ∷ []) one
          ∙ ap (λ (l : List PartySeats). l ++ party_seats qe awards p ∷ []) c.loop-i.invariant.parties
          ∙ ap (λ (x : Contestant). map (party_seats qe awards) (take i items) ++ party_seats qe awards x ∷ []) c.party-item.is
          ∙ sym (parties_more qe awards items i p lt);
      elected = c.in_ok-push_elected.ensures
          ∙ ap (λ (l : List ℕ). c.loop-i.elected ++ l) this
          ∙ ap (λ (l : List ℕ). l ++ elected_of qe awards p) c.loop-i.invariant.elected
          ∙ ap (λ (x : Contestant). elected_by qe awards (take i items) ++ elected_of qe awards x) c.party-item.is
          ∙ sym (elected_more qe awards items i p lt);
    }
