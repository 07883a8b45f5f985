-- Two sorted tables in place of all rounds
use Rattle.std.proofs.Common.{◌≡◌, ℕ, zero, suc, ◌+◌, ◌-◌, ◌≤◌, ◌<◌, ◌⊎◌, min, false, ltb, ◌==◌, List, [], ◌∷◌, ◌++◌, length, take, get_or, Some, inl, inr, refl, sym, ap, ◌∙◌, subst, length-append, append-nil, append_assoc, arith}
use Rattle.std.specs.List.{AllByRecursion, slice_get}
use Rattle.std.proofs.lemmas.Bool.{cases_Bool, cases_lt, ltb-true, ltb-false}
use Rattle.std.proofs.lemmas.List.{length-map, length-take, map_more, take_all}
use Rattle.std.proofs.lemmas.List.Sums.{sum_by-append}
use Rattle.std.proofs.lemmas.Option.{get_or_from_slice_get, slice_get_within}
use Rattle.quotients.specs.Average.{AverageData}
use Rattle.seat_remainders.specs.declared.contest.Contestant.{Contestant}
use Rattle.seat_remainders.specs.declared.outcome.Award.{Award}
use Rattle.seat_remainders.specs.Contest.{PartiesRise}
use Rattle.seat_remainders.specs.Rounds.{seats_after, meets_minimums, is_eligible, next_phase, EachFollows, NobodyLeft, AreRounds}
use Rattle.seat_remainders.specs.Table.{most_seats, limit_of, IsTable, awards_for, awards_of}
use Rattle.seat_remainders.proofs.Awarded.{moved_on}
use Rattle.seat_remainders.proofs.Eligible.{eligible_below}
use Rattle.seat_remainders.proofs.Front.{LeavesRoom, StaysInPhase, front_follows, front_ends, TakesNext, next_takes}
use Rattle.seat_remainders.proofs.Lists.{of_member, all_of_members, any_of_member, none_by_recursion}
use Rattle.seat_remainders.proofs.Rising.{AreRising, are_rising, one_if}

-- Phases

-- while a party meets the minimums, rounds are of phase 2
two_stays : (qe : ℕ) (parties : List Contestant) (before : List Award) → StaysInPhase qe 2 parties before
two_stays qe parties before later p at e =
    let some = any_of_member (meets_minimums qe (before ++ later)) parties p at e in
    rw some refl

seats_only_rise : (qe : ℕ) (p : Contestant) (before later : List Award) → seats_after qe before p ≤ seats_after qe (before ++ later) p
seats_only_rise qe p before later = let both = sum_by-append (λ (w : Award). one_if (w.party == p.number)) before later in omega arith

-- who isn't eligible in a phase isn't after more awards
never_again : (qe phase : ℕ) (p : Contestant) (before later : List Award) → is_eligible qe before phase p ≡ false → is_eligible qe (before ++ later) phase p ≡ false
never_again qe phase p before later h =
    let now = ltb-false _ _ (sym (eligible_below qe before phase p) ∙ h) in
    let rise = seats_only_rise qe p before later in
    let below : ltb (seats_after qe (before ++ later) p) (most_seats qe phase p) ≡ false = elim (cases_Bool (ltb (seats_after qe (before ++ later) p) (most_seats qe phase p))) [ inl t ↦ let lt = ltb-true _ _ t in absurd (omega arith) | inr f ↦ f ] in
    eligible_below qe (before ++ later) phase p ∙ below

-- phase 3 stays where nobody meets the minimums
three_stays : (qe : ℕ) (parties : List Contestant) (before : List Award) → AllByRecursion (λ p. is_eligible qe before 2 p ≡ false) parties → StaysInPhase qe 3 parties before
three_stays qe parties before none later p at e =
    let nobody = none_by_recursion (meets_minimums qe (before ++ later)) parties (all_of_members (λ q. meets_minimums qe (before ++ later) q ≡ false) parties (λ q there.
    never_again qe 2 q before later (of_member (λ q. is_eligible qe before 2 q ≡ false) parties q none there))) in
    rw nobody refl

no_phase_two : (qe : ℕ) (parties : List Contestant) (before : List Award) → AllByRecursion (λ p. is_eligible qe before 2 p ≡ false) parties → next_phase qe before parties ≡ 3
no_phase_two qe parties before none = let nobody = none_by_recursion (meets_minimums qe before) parties none in rw nobody refl

-- the limits of a table leave room
limit_fits : (qe phase : ℕ) (parties : List Contestant) (before : List Award) (left : ℕ) → LeavesRoom qe phase parties before left (limit_of qe phase before left)
limit_fits qe phase parties before left =
    record {
      within = all_of_members (λ p. limit_of qe phase before left p ≤ most_seats qe phase p) parties (λ p at. least_left (most_seats qe phase p) (seats_after qe before p + left));
      enough = all_of_members (λ p. (most_seats qe phase p ≤ limit_of qe phase before left p) ⊎ (seats_after qe before p + left ≤ limit_of qe phase before left p)) parties (λ p at. least_one (most_seats qe phase p) (seats_after qe before p + left));
    }
  where
    least_left : (a b : ℕ) → min a b ≤ a
    least_left a b = omega arith

    least_one : (a b : ℕ) → (a ≤ min a b) ⊎ (b ≤ min a b)
    least_one a b = elim (cases_lt a b) [ inl lt ↦ inl (omega arith) | inr le ↦ inr (omega arith) ]

follows_append : (qe : ℕ) (parties : List Contestant) (before a b : List Award) → EachFollows qe parties before a → EachFollows qe parties (before ++ a) b → EachFollows qe parties before (a ++ b)
follows_append qe parties before [] b f g = subst (λ (t : List Award). EachFollows qe parties t b) (append-nil before) g
follows_append qe parties before (w ∷ a) b f g = (f.0, follows_append qe parties (before ++ w ∷ []) a b f.1 (subst (λ (t : List Award). EachFollows qe parties t b) (moved_on before a w) g))

awards-length : (phase n : ℕ) (table : List AverageData) → length (awards_for phase (take n table)) ≡ min n (length table)
awards-length phase n table = length-map (take n table) (λ a. record { phase = phase; party = a.party }) ∙ length-take n table

-- Both tables

pub next_of_table : (qe phase left : ℕ) (parties : List Contestant) (before : List Award) (front : List AverageData) (a : AverageData) (behind : List AverageData) → 1 ≤ qe → PartiesRise parties
    → IsTable qe parties before (limit_of qe phase before left) (front ++ a ∷ behind) → length front < left → TakesNext qe phase parties a (before ++ awards_for phase front)
next_of_table qe phase left parties before front a behind some rise table short =
    next_takes qe phase parties left before (limit_of qe phase before left) front a behind some (are_rising parties rise) table (limit_fits qe phase parties before left) short

-- where it has fewer averages than seats remain, all are taken, and then nobody is eligible in phase 2
pub none_in_two : (qe : ℕ) (parties : List Contestant) (left : ℕ) (two : List AverageData) → 1 ≤ qe → AreRising parties → IsTable qe parties [] (limit_of qe 2 [] left) two → length two < left
    → AllByRecursion (λ p. is_eligible qe (awards_for 2 (take left two)) 2 p ≡ false) parties
none_in_two qe parties left two some rising table short =
    subst (λ (t : List AverageData). AllByRecursion (λ p. is_eligible qe (awards_for 2 t) 2 p ≡ false) parties) (sym (take_all left two (omega arith)))
    (front_ends qe 2 parties left [] (limit_of qe 2 [] left) two some rising table (limit_fits qe 2 parties [] left) short)

-- where seats remain after the front of the table of phase 2, the rounds that follow are the front of that of phase 3
third_follows : (qe : ℕ) (parties : List Contestant) (left : ℕ) (two three : List AverageData) → 1 ≤ qe → AreRising parties → IsTable qe parties [] (limit_of qe 2 [] left) two
    → (rest : ℕ) → rest ≡ left - length (awards_for 2 (take left two)) → IsTable qe parties (awards_for 2 (take left two)) (limit_of qe 3 (awards_for 2 (take left two)) rest) three
    → EachFollows qe parties (awards_for 2 (take left two)) (awards_for 3 (take rest three))
third_follows qe parties left two three some rising table zero is next = tt
third_follows qe parties left two three some rising table (suc rest) is next =
    let before = awards_for 2 (take left two) in
    let len = awards-length 2 left two in
    let none = none_in_two qe parties left two some rising table (omega arith) in
    front_follows qe 3 parties (suc rest) before (limit_of qe 3 before (suc rest)) three some rising (three_stays qe parties before none) next (limit_fits qe 3 parties before (suc rest))

-- a seat stays vacant only where nobody is left
third_ends : (qe : ℕ) (parties : List Contestant) (left : ℕ) (two three : List AverageData) → 1 ≤ qe → AreRising parties → IsTable qe parties [] (limit_of qe 2 [] left) two
    → (rest : ℕ) → rest ≡ left - length (awards_for 2 (take left two)) → IsTable qe parties (awards_for 2 (take left two)) (limit_of qe 3 (awards_for 2 (take left two)) rest) three
    → length three < rest → NobodyLeft qe parties (awards_for 2 (take left two) ++ awards_for 3 (take rest three))
third_ends qe parties left two three some rising table rest is next fewer =
    let before = awards_for 2 (take left two) in
    let len = awards-length 2 left two in
    let none = none_in_two qe parties left two some rising table (omega arith) in
    let whole : take rest three ≡ three = take_all rest three (omega arith) in
    let ends = front_ends qe 3 parties rest before (limit_of qe 3 before rest) three some rising next (limit_fits qe 3 parties before rest) fewer in
    let nobody = subst (λ (t : List AverageData). AllByRecursion (λ p. is_eligible qe (before ++ awards_for 3 t) 3 p ≡ false) parties) (sym whole) ends in
    let awards = before ++ awards_for 3 (take rest three) in
    let phase = no_phase_two qe parties awards (all_of_members (λ p. is_eligible qe awards 2 p ≡ false) parties (λ p at.
    never_again qe 2 p before (awards_for 3 (take rest three)) (of_member (λ p. is_eligible qe before 2 p ≡ false) parties p none at))) in
    subst (λ (f : ℕ). AllByRecursion (λ p. is_eligible qe awards f p ≡ false) parties) (sym phase) nobody

pub phase_two_follows : (qe : ℕ) (parties : List Contestant) (left : ℕ) (two : List AverageData) → 1 ≤ qe → AreRising parties → IsTable qe parties [] (limit_of qe 2 [] left) two → EachFollows qe parties [] (awards_for 2 (take left two))
phase_two_follows qe parties left two some rising table = front_follows qe 2 parties left [] (limit_of qe 2 [] left) two some rising (two_stays qe parties []) table (limit_fits qe 2 parties [] left)

pub fronts_are_rounds : (qe : ℕ) (parties : List Contestant) (left : ℕ) (two three : List AverageData) → 1 ≤ qe → AreRising parties → IsTable qe parties [] (limit_of qe 2 [] left) two
    → IsTable qe parties (awards_for 2 (take left two)) (limit_of qe 3 (awards_for 2 (take left two)) (left - length (awards_for 2 (take left two)))) three
    → AreRounds qe parties left (awards_of left two three) (left - length (awards_of left two three))
fronts_are_rounds qe parties left two three some rising table next =
    let before = awards_for 2 (take left two) in
    let rest = left - length before in
    let one = phase_two_follows qe parties left two some rising table in
    let more = third_follows qe parties left two three some rising table rest refl next in
    let len_two = awards-length 2 left two in
    let len_three = awards-length 3 rest three in
    let len = length-append before (awards_for 3 (take rest three)) in
    record {
      each = follows_append qe parties [] before (awards_for 3 (take rest three)) one more;
      all = omega arith;
      vacant_only = λ h. third_ends qe parties left two three some rising table rest refl next (omega arith);
    }

-- As the code takes them

pub pushed_award : (old now : List Award) (phase : ℕ) (averages : List AverageData) (i : ℕ) (a : AverageData) (party : ℕ) → now ≡ old ++ awards_for phase (take i averages) → slice_get averages i ≡ Some a → party ≡ a.party
    → now ++ (record { phase = phase; party = party }) ∷ [] ≡ old ++ awards_for phase (take (i + 1) averages)
pushed_award old now phase averages i a party so_far at named =
    let award : AverageData → Award = λ b. record { phase = phase; party = b.party } in
    let here : get_or averages i a ≡ a = get_or_from_slice_get averages i a a at in
    let one : award a ≡ record { phase = phase; party = party } = ap (λ (n : ℕ). let w : Award = record { phase = phase; party = n } in w) (sym named) in
    ap (λ (l : List Award). l ++ (record { phase = phase; party = party }) ∷ []) so_far
    ∙ append_assoc old (awards_for phase (take i averages)) ((record { phase = phase; party = party }) ∷ [])
    ∙ ap (λ (w : Award). old ++ (awards_for phase (take i averages) ++ w ∷ [])) (sym one)
    ∙ ap (λ (b : AverageData). old ++ (awards_for phase (take i averages) ++ award b ∷ [])) (sym here)
    ∙ ap (λ (l : List Award). old ++ l) (sym (map_more award averages i a (slice_get_within averages i a at)))

pub all_taken : (averages : List AverageData) (i seats : ℕ) → i ≡ min (length averages) seats → take i averages ≡ take seats averages
all_taken averages i seats is = elim (cases_lt (length averages) seats) [
  | inl lt ↦ take_all i averages (omega arith) ∙ sym (take_all seats averages (omega arith))
  | inr le ↦ let e : i ≡ seats = omega arith in ap (λ (n : ℕ). take n averages) e
]

-- where the table of phase 2 has all seats that remain, its front is all rounds
pub first_enough : (qe : ℕ) (parties : List Contestant) (left : ℕ) (two : List AverageData) (awards : List Award) → 1 ≤ qe → PartiesRise parties → IsTable qe parties [] (limit_of qe 2 [] left) two
    → awards ≡ awards_for 2 (take left two) → left - length awards ≡ 0 → AreRounds qe parties left awards (left - length awards)
first_enough qe parties left two awards some rise table is none =
    let len = awards-length 2 left two in
    let told = ap length is in
    record {
      each = subst (λ (l : List Award). EachFollows qe parties [] l) (sym is) (phase_two_follows qe parties left two some (are_rising parties rise) table);
      all = omega arith;
      vacant_only = λ h. absurd (omega arith);
    }

pub both_taken : (qe : ℕ) (parties : List Contestant) (left n : ℕ) (two three : List AverageData) (before slice awards : List Award) → 1 ≤ qe → PartiesRise parties → IsTable qe parties [] (limit_of qe 2 [] left) two
    → before ≡ awards_for 2 (take left two) → slice ≡ before → n ≡ length before → IsTable qe parties slice (limit_of qe 3 slice (left - n)) three → awards ≡ before ++ awards_for 3 (take (left - n) three)
    → AreRounds qe parties left awards (left - length awards)
both_taken qe parties left n two three before slice awards some rise table is same count next told =
    let first = awards_for 2 (take left two) in
    let n_is : n ≡ length first = count ∙ ap length is in
    let next_is : IsTable qe parties first (limit_of qe 3 first (left - length first)) three =
    subst (λ (m : ℕ). IsTable qe parties first (limit_of qe 3 first (left - m)) three) n_is (subst (λ (l : List Award). IsTable qe parties l (limit_of qe 3 l (left - n)) three) (same ∙ is) next) in
    let awards_is : awards ≡ awards_of left two three =
    told ∙ ap (λ (l : List Award). l ++ awards_for 3 (take (left - n) three)) is ∙ ap (λ (m : ℕ). first ++ awards_for 3 (take (left - m) three)) n_is in
    subst (λ (l : List Award). AreRounds qe parties left l (left - length l)) (sym awards_is) (fronts_are_rounds qe parties left two three some (are_rising parties rise) table next_is)
