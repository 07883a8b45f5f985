-- What is told after the rounds
use Rattle.std.proofs.Common.{◌≡◌, ℕ, ◌+◌, ◌-◌, ◌≤◌, ◌<◌, List, [], ◌∷◌, ◌++◌, length, map, take, get_or, sym, ap, ◌∙◌, subst, append-nil, arith}
use Rattle.std.proofs.lemmas.List.{take_more, map_more}
use Rattle.std.proofs.lemmas.List.Concat.{flat_map-append}
use Rattle.std.proofs.lemmas.List.Sums.{sum_by_more_le}
use Rattle.urna_base.proofs.Every.{every_take}
use Rattle.quotients.specs.Average.{AverageData}
use Rattle.quotients.specs.Quotients.{electoral_quotient}
use Rattle.seat_remainders.specs.declared.contest.Contestant.{Contestant}
use Rattle.seat_remainders.specs.declared.contest.Contest.{Contest}
use Rattle.seat_remainders.specs.declared.outcome.Seats.{Seats as SeatsData}
use Rattle.seat_remainders.specs.declared.outcome.Award.{Award}
use Rattle.seat_remainders.specs.Contest.{PartiesRise}
use Rattle.seat_remainders.specs.Parties.{valid_votes, quotient_of, first_phase}
use Rattle.seat_remainders.specs.Rounds.{seats_after, AreRounds}
use Rattle.seat_remainders.specs.Outcome.{party_seats, elected_of, elected_by, AreSeats}
use Rattle.seat_remainders.specs.Table.{AreAverages, IsTable, limit_of}
use Rattle.seat_remainders.proofs.Awarded.{sum_over, sum_none}
use Rattle.seat_remainders.proofs.Filled.{elected_sum, within_candidates}
use Rattle.seat_remainders.proofs.Lists.{all_of_members}
use Rattle.seat_remainders.proofs.Rising.{are_rising}

pub elected_more : (qe : ℕ) (awards : List Award) (parties : List Contestant) (i : ℕ) (d : Contestant) → i < length parties → elected_by qe awards (take (i + 1) parties) ≡ elected_by qe awards (take i parties) ++ elected_of qe awards (get_or parties i d)
elected_more qe awards parties i d lt =
    ap (λ (t : List Contestant). elected_by qe awards t) (take_more parties i d lt)
    ∙ flat_map-append (elected_of qe awards) (take i parties) (get_or parties i d ∷ [])
    ∙ ap (λ (t : List ℕ). elected_by qe awards (take i parties) ++ t) (append-nil (elected_of qe awards (get_or parties i d)))

pub parties_more : (qe : ℕ) (awards : List Award) (parties : List Contestant) (i : ℕ) (d : Contestant) → i < length parties → map (party_seats qe awards) (take (i + 1) parties) ≡ map (party_seats qe awards) (take i parties) ++ party_seats qe awards (get_or parties i d) ∷ []
parties_more qe awards parties i d lt = map_more (party_seats qe awards) parties i d lt

room_within : (qe left vacant : ℕ) (parties : List Contestant) (awards : List Award) (i : ℕ) (d : Contestant) → AreRounds qe parties left awards vacant → PartiesRise parties → first_phase qe parties + left ≤ 200 → i < length parties
    → length (elected_by qe awards (take i parties)) + seats_after qe awards (get_or parties i d) ≤ 200
room_within qe left vacant parties awards i d rounds rise few lt =
    let all = all_of_members (λ p. seats_after qe awards p ≤ length p.candidates) parties (λ p at. within_candidates qe parties awards p (are_rising parties rise) at rounds.each) in
    let told = elected_sum qe awards (take i parties) (every_take (λ p. seats_after qe awards p ≤ length p.candidates) i parties all) in
    let more = sum_by_more_le (seats_after qe awards) parties i d lt in
    let over = sum_over qe parties [] awards (are_rising parties rise) rounds.each in
    let none = sum_none qe parties in
    omega (arith, rounds.all)

pub seats_are : (qe seats : ℕ) (p : Contestant) (slice awards : List Award) → seats ≡ seats_after qe slice p → slice ≡ awards → seats ≡ seats_after qe awards p
seats_are qe seats p slice awards is same = is ∙ ap (λ (l : List Award). seats_after qe l p) same

pub candidates_at : (qe left vacant : ℕ) (parties items : List Contestant) (awards : List Award) (i : ℕ) (p : Contestant) → AreRounds qe parties left awards vacant → PartiesRise parties → items ≡ parties → i < length items
    → p ≡ get_or items i p → seats_after qe awards p ≤ length p.candidates
candidates_at qe left vacant parties items awards i p rounds rise same lt is =
    let len = ap length same in
    let here : p ≡ get_or parties i p = is ∙ ap (λ (l : List Contestant). get_or l i p) same in
    within_candidates qe parties awards p (are_rising parties rise) (i, omega arith, sym here) rounds.each

pub room_at : (qe left vacant : ℕ) (parties items : List Contestant) (awards : List Award) (i : ℕ) (p : Contestant) → AreRounds qe parties left awards vacant → PartiesRise parties → first_phase qe parties + left ≤ 200 → items ≡ parties → i < length items
    → p ≡ get_or items i p → length (elected_by qe awards (take i items)) + seats_after qe awards p ≤ 200
room_at qe left vacant parties items awards i p rounds rise few same lt is =
    let len = ap length same in
    let here : p ≡ get_or parties i p = is ∙ ap (λ (l : List Contestant). get_or l i p) same in
    let room = room_within qe left vacant parties awards i p rounds rise few (omega arith) in
    let told = ap (λ (l : List Contestant). length (elected_by qe awards (take i l))) same in
    let seats = ap (λ (c : Contestant). seats_after qe awards c) here in
    omega arith

-- what the law says of the seats, from what was counted on the way to them
pub seats_given : (contest : Contest) (s : SeatsData) (qe valid first left : ℕ) (awards : List Award) (averages : List AverageData) → valid ≡ valid_votes contest.parties → qe ≡ electoral_quotient valid contest.seats → 1 ≤ qe
    → first ≡ first_phase qe contest.parties → first ≤ contest.seats → left ≡ contest.seats - first
    → IsTable qe contest.parties [] (limit_of qe 2 [] left) averages → AreRounds qe contest.parties left awards (left - length awards)
    → s.quotient ≡ qe → s.parties ≡ map (party_seats qe awards) contest.parties → s.awards ≡ awards → s.elected ≡ elected_by qe awards contest.parties → s.averages ≡ averages → s.vacant ≡ left - length awards
    → AreSeats contest s
seats_given contest s qe valid first left awards averages votes is some phase within remain table rounds quotient parties given elected listed vacant =
    let total = quotient ∙ is ∙ ap (λ (v : ℕ). electoral_quotient v contest.seats) votes in
    let qe_is : qe ≡ quotient_of contest = sym quotient ∙ total in
    let left_is : left ≡ contest.seats - first_phase qe contest.parties = remain ∙ ap (λ (n : ℕ). contest.seats - n) phase in
    let of_contest : AreAverages contest averages =
    subst (λ (q : ℕ). IsTable q contest.parties [] (limit_of q 2 [] (contest.seats - first_phase q contest.parties)) averages) qe_is (subst (λ (n : ℕ). IsTable qe contest.parties [] (limit_of qe 2 [] n) averages) left_is table) in
    let first_is : first_phase s.quotient contest.parties ≡ first_phase qe contest.parties = ap (λ (q : ℕ). first_phase q contest.parties) quotient in
    let vacant_is : s.vacant ≡ left - length s.awards = vacant ∙ ap (λ (l : List Award). left - length l) (sym given) in
    let played : AreRounds qe contest.parties left s.awards s.vacant =
    subst (λ (v : ℕ). AreRounds qe contest.parties left s.awards v) (sym vacant_is) (subst (λ (l : List Award). AreRounds qe contest.parties left l (left - length l)) (sym given) rounds) in
    record {
      quotient = total;
      some = omega arith;
      within = omega arith;
      rounds = subst (λ (q : ℕ). AreRounds q contest.parties (contest.seats - first_phase q contest.parties) s.awards s.vacant) (sym quotient) (subst (λ (n : ℕ). AreRounds qe contest.parties n s.awards s.vacant) left_is played);
      parties = parties ∙ ap (λ (l : List Award). map (party_seats qe l) contest.parties) (sym given) ∙ ap (λ (q : ℕ). map (party_seats q s.awards) contest.parties) (sym quotient);
      elected = elected ∙ ap (λ (l : List Award). elected_by qe l contest.parties) (sym given) ∙ ap (λ (q : ℕ). elected_by q s.awards contest.parties) (sym quotient);
      averages = subst (λ (l : List AverageData). AreAverages contest l) (sym listed) of_contest;
    }
