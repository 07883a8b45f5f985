-- The front of the sorted table is the rounds of a phase.
use Rattle.std.proofs.Common.{◌≡◌, ◌≢◌, ℕ, zero, suc, ◌+◌, ◌≤◌, ◌<◌, ◌⊎◌, Bool, true, false, cond, ltb, ◌==◌, List, [], ◌∷◌, ◌++◌, length, take, inl, inr, refl, sym, ap, ◌∙◌, subst, append-nil, append_assoc, arith}
use Rattle.std.specs.List.{AllByRecursion, Contains}
use Rattle.std.proofs.lemmas.Bool.{cases_Bool, cases_eq, cases_lt, ltb-true, lt-ltb}
use Rattle.std.proofs.lemmas.Bool.Decides.{nat_tests}
use Rattle.quotients.specs.Average.{AverageData, comes_before}
use Rattle.quotients.specs.Quotients.{has_four_fifths}
use Rattle.quotients.proofs.Averages.{not_itself, not_both, falls}
use Rattle.seat_remainders.specs.declared.contest.Contestant.{Contestant}
use Rattle.seat_remainders.specs.declared.outcome.Award.{Award}
use Rattle.seat_remainders.specs.Parties.{votes_of}
use Rattle.seat_remainders.specs.Rounds.{seats_after, is_eligible, next_phase, average_of, beats, TakesSeat, EachFollows}
use Rattle.seat_remainders.specs.Table.{fifths_of, most_in_two, most_in_three, most_seats, average_over, IsEntry, IsTable, awards_for}
use Rattle.seat_remainders.proofs.Awarded.{seats_more}
use Rattle.seat_remainders.proofs.Eligible.{eligible_below}
use Rattle.seat_remainders.proofs.Lists.{contains_first, contains_there, contains_cases, of_member, all_of_members}
use Rattle.seat_remainders.proofs.OneTable.{in_none}
use Rattle.seat_remainders.proofs.Rising.{AreRising, one_if, one_party}

-- limits of parties for so many rounds of a phase: no more seats than a party can have, and that many, or as many more as there are rounds
pub record LeavesRoom (qe : ℕ) (phase : ℕ) (parties : List Contestant) (before : List Award) (left : ℕ) (limit : Contestant → ℕ) : Type 0 where
  pub within : AllByRecursion (λ p. limit p ≤ most_seats qe phase p) parties
  pub enough : AllByRecursion (λ p. (most_seats qe phase p ≤ limit p) ⊎ (seats_after qe before p + left ≤ limit p)) parties

-- One entry at the front

voted_two : (qe : ℕ) (p : Contestant) (b : Bool) → 1 ≤ qe → has_four_fifths (votes_of p) qe ≡ b → 0 < cond b (fifths_of qe p) 0 → 1 ≤ votes_of p
voted_two qe p true some is h = grind (arith, nat_tests)
voted_two qe p false some is h = absurd (omega arith)

voted_three : (p : Contestant) (b : Bool) → ltb 0 (votes_of p) ≡ b → 0 < cond b (length p.candidates) 0 → 1 ≤ votes_of p
voted_three p true is h = ltb-true _ _ is
voted_three p false is h = absurd (omega arith)

voted_at : (qe phase : ℕ) (p : Contestant) (b : Bool) → 1 ≤ qe → 0 < cond b (most_in_two qe p) (most_in_three p) → 1 ≤ votes_of p
voted_at qe phase p true some h = voted_two qe p (has_four_fifths (votes_of p) qe) some refl h
voted_at qe phase p false some h = voted_three p (ltb 0 (votes_of p)) refl h

-- a party that can have a seat has a vote
voted : (qe phase : ℕ) (p : Contestant) → 1 ≤ qe → 0 < most_seats qe phase p → 1 ≤ votes_of p
voted qe phase p some h = voted_at qe phase p (phase == 2) some h

-- the next average of an eligible party is an entry
next_entry : (qe phase : ℕ) (parties : List Contestant) (before : List Award) (left : ℕ) (limit : Contestant → ℕ) (p : Contestant) → Contains parties p → LeavesRoom qe phase parties before (suc left) limit
    → seats_after qe before p < most_seats qe phase p → IsEntry qe parties before limit (average_of qe before p)
next_entry qe phase parties before left limit p at room lt =
    let enough = of_member (λ p. (most_seats qe phase p ≤ limit p) ⊎ (seats_after qe before p + suc left ≤ limit p)) parties p room.enough at in
    record {
      party = p;
      stands = at;
      is = refl;
      above = omega arith;
      within = elim enough [ inl le ↦ omega arith | inr le ↦ omega arith ];
    }

same_divisor : (a b : AverageData) → a ≡ b → a.divisor ≡ b.divisor
same_divisor a b e = ap (λ (x : AverageData). x.divisor) e

-- the entry at the front is the next average of its party
front_is_next : (qe phase : ℕ) (parties : List Contestant) (before : List Award) (left : ℕ) (limit : Contestant → ℕ) (e : AverageData) (rest : List AverageData) → 1 ≤ qe
    → IsTable qe parties before limit (e ∷ rest) → LeavesRoom qe phase parties before (suc left) limit → (entry : IsEntry qe parties before limit e) → e.divisor ≡ seats_after qe before entry.party + 1
front_is_next qe phase parties before left limit e rest some table room entry =
    let p = entry.party in
    let within = of_member (λ p. limit p ≤ most_seats qe phase p) parties p room.within entry.stands in
    let lt : seats_after qe before p < most_seats qe phase p = omega (arith, entry.above, entry.within) in
    let next = next_entry qe phase parties before left limit p entry.stands room lt in
    elim (contains_cases e (average_of qe before p) rest (table.all (average_of qe before p) next)) [
      | inl same ↦ same_divisor e (average_of qe before p) same
      | inr later ↦
          let first = of_member (λ b. comes_before e b ≡ true) rest (average_of qe before p) table.ordered.0 later in
          elim (cases_lt (seats_after qe before p + 1) e.divisor) [
            | inr le ↦ omega (arith, entry.above)
            | inl gt ↦
                let fall = falls (votes_of p) p.number (seats_after qe before p + 1) e.divisor (voted qe phase p some (omega arith)) gt in
                let back : comes_before e (average_of qe before p) ≡ false = subst (λ (a : AverageData). comes_before a (average_of qe before p) ≡ false) (sym entry.is) (not_both (average_of qe before p) (average_over p e.divisor) fall) in
                absurd (cc)
          ]
    ]

-- so it is the average of a party that no eligible one beats
front_takes : (qe phase : ℕ) (parties : List Contestant) (before : List Award) (left : ℕ) (limit : Contestant → ℕ) (e : AverageData) (rest : List AverageData) → 1 ≤ qe
    → next_phase qe before parties ≡ phase → IsTable qe parties before limit (e ∷ rest) → LeavesRoom qe phase parties before (suc left) limit → (entry : IsEntry qe parties before limit e)
    → TakesSeat qe parties before (record { phase = phase; party = e.party }) entry.party
front_takes qe phase parties before left limit e rest some is table room entry =
    let p = entry.party in
    let next = front_is_next qe phase parties before left limit e rest some table room entry in
    let same : e ≡ average_of qe before p = entry.is ∙ ap (λ (d : ℕ). average_over p d) next in
    let within = of_member (λ p. limit p ≤ most_seats qe phase p) parties p room.within entry.stands in
    record {
      stands = entry.stands;
      named = ap (λ (a : AverageData). a.party) entry.is;
      phase = sym is;
      eligible = eligible_below qe before phase p ∙ lt-ltb _ _ (omega (arith, entry.above, entry.within));
      unbeaten = all_of_members (λ q. is_eligible qe before phase q ≡ true → beats qe before q p ≡ false) parties (λ q at h.
          let lt = ltb-true _ _ (sym (eligible_below qe before phase q) ∙ h) in
          let other = next_entry qe phase parties before left limit q at room lt in
          elim (contains_cases e (average_of qe before q) rest (table.all (average_of qe before q) other)) [
            | inl one ↦ subst (λ (a : AverageData). comes_before a (average_of qe before p) ≡ false) (sym same ∙ one) (not_itself (average_of qe before p))
            | inr later ↦
                let first = of_member (λ b. comes_before e b ≡ true) rest (average_of qe before q) table.ordered.0 later in
                subst (λ (a : AverageData). comes_before (average_of qe before q) a ≡ false) same (not_both e (average_of qe before q) first)
          ]);
    }

-- the awards after one more
abbrev and_then : ℕ → List Award → AverageData → List Award
and_then phase before e = before ++ (record { phase = phase; party = e.party }) ∷ []

more_or_same : (qe phase : ℕ) (before : List Award) (e : AverageData) (p : Contestant) → seats_after qe before p ≤ seats_after qe (and_then phase before e) p
more_or_same qe phase before e p = let more = seats_more qe before (record { phase = phase; party = e.party }) p in omega arith

one_more_at_most : (qe phase : ℕ) (before : List Award) (e : AverageData) (p : Contestant) → seats_after qe (and_then phase before e) p ≤ seats_after qe before p + 1
one_more_at_most qe phase before e p = let more = seats_more qe before (record { phase = phase; party = e.party }) p in let few : one_if (e.party == p.number) ≤ 1 = grind (arith, nat_tests) in omega arith

one_more_for : (qe phase : ℕ) (before : List Award) (e : AverageData) (p : Contestant) → e.party ≡ p.number → seats_after qe (and_then phase before e) p ≡ seats_after qe before p + 1
one_more_for qe phase before e p is = let more = seats_more qe before (record { phase = phase; party = e.party }) p in let one : one_if (e.party == p.number) ≡ 1 = grind (arith, nat_tests) in omega arith

same_for_others : (qe phase : ℕ) (before : List Award) (e : AverageData) (p : Contestant) → e.party ≢ p.number → seats_after qe (and_then phase before e) p ≡ seats_after qe before p
same_for_others qe phase before e p ne = let more = seats_more qe before (record { phase = phase; party = e.party }) p in let none : one_if (e.party == p.number) ≡ 0 = grind (arith, nat_tests) in omega arith

room_left : (qe phase : ℕ) (parties : List Contestant) (before : List Award) (left : ℕ) (limit : Contestant → ℕ) (e : AverageData) → LeavesRoom qe phase parties before (suc left) limit → LeavesRoom qe phase parties (and_then phase before e) left limit
room_left qe phase parties before left limit e room =
    record {
      within = room.within;
      enough = all_of_members (λ p. (most_seats qe phase p ≤ limit p) ⊎ (seats_after qe (and_then phase before e) p + left ≤ limit p)) parties (λ p at.
          let enough = of_member (λ p. (most_seats qe phase p ≤ limit p) ⊎ (seats_after qe before p + suc left ≤ limit p)) parties p room.enough at in
          let few = one_more_at_most qe phase before e p in
          elim enough [ inl le ↦ inl le | inr le ↦ inr (omega arith) ]);
    }

-- the rest is the table after that award
table_left : (qe phase : ℕ) (parties : List Contestant) (before : List Award) (left : ℕ) (limit : Contestant → ℕ) (e : AverageData) (rest : List AverageData) → 1 ≤ qe → AreRising parties
    → IsTable qe parties before limit (e ∷ rest) → LeavesRoom qe phase parties before (suc left) limit → IsTable qe parties (and_then phase before e) limit rest
table_left qe phase parties before left limit e rest some rising table room =
    let entry = table.only e (contains_first e e rest refl) in
    let next = front_is_next qe phase parties before left limit e rest some table room entry in
    let named : e.party ≡ entry.party.number = ap (λ (a : AverageData). a.party) entry.is in
    record {
      ordered = table.ordered.1;
      only = λ f at.
          let other = table.only f (contains_there e f rest at) in
          let first = of_member (λ b. comes_before e b ≡ true) rest f table.ordered.0 at in
          record {
            party = other.party;
            stands = other.stands;
            is = other.is;
            within = other.within;
            above = elim (cases_eq e.party other.party.number) [
              | inr ne ↦ let same = same_for_others qe phase before e other.party ne in omega (arith, other.above)
              | inl one ↦
                  let party : other.party ≡ entry.party = one_party other.party entry.party parties rising other.stands entry.stands (sym one ∙ named) in
                  let seats = ap (λ (c : Contestant). seats_after qe before c) party in
                  let more = one_more_for qe phase before e other.party one in
                  elim (cases_eq f.divisor e.divisor) [
                    | inl d ↦
                        let same : f ≡ e = other.is ∙ ap (λ (c : Contestant). average_over c f.divisor) party ∙ ap (λ (n : ℕ). average_over entry.party n) d ∙ sym entry.is in
                        let back = subst (λ (a : AverageData). comes_before e a ≡ true) same first in
                        let never = not_itself e in
                        absurd (cc)
                    | inr nd ↦ omega (arith, other.above)
                  ]
            ];
          };
      all = λ f other.
          let more = more_or_same qe phase before e other.party in
          elim (contains_cases e f rest (table.all f (record { party = other.party; stands = other.stands; is = other.is; within = other.within; above = omega (arith, other.above) }))) [
            | inr later ↦ later
            | inl same ↦
                let number : e.party ≡ other.party.number = ap (λ (a : AverageData). a.party) (same ∙ other.is) in
                let party : other.party ≡ entry.party = one_party other.party entry.party parties rising other.stands entry.stands (sym number ∙ named) in
                let seats = ap (λ (c : Contestant). seats_after qe before c) party in
                let one = one_more_for qe phase before e other.party number in
                let divisors = same_divisor e f same in
                absurd (omega (arith, other.above))
          ];
    }

-- The front of the table

-- while a party is eligible in this phase after more awards, the next round is one of it
abbrev pub StaysInPhase : ℕ → ℕ → List Contestant → List Award → Type 0
StaysInPhase qe phase parties before = (later : List Award) (p : Contestant) → Contains parties p → is_eligible qe (before ++ later) phase p ≡ true → next_phase qe (before ++ later) parties ≡ phase

stays : (qe phase : ℕ) (parties : List Contestant) (before more : List Award) → StaysInPhase qe phase parties before → StaysInPhase qe phase parties (before ++ more)
stays qe phase parties before more h later p at e =
    let same = append_assoc before more later in
    subst (λ (t : List Award). next_phase qe t parties ≡ phase) (sym same) (h (more ++ later) p at (subst (λ (t : List Award). is_eligible qe t phase p ≡ true) same e))

pub front_follows : (qe phase : ℕ) (parties : List Contestant) (left : ℕ) (before : List Award) (limit : Contestant → ℕ) (table : List AverageData) → 1 ≤ qe → AreRising parties
    → StaysInPhase qe phase parties before → IsTable qe parties before limit table → LeavesRoom qe phase parties before left limit → EachFollows qe parties before (awards_for phase (take left table))
front_follows qe phase parties zero before limit table some rising phases is room = tt
front_follows qe phase parties (suc left) before limit [] some rising phases is room = tt
front_follows qe phase parties (suc left) before limit (e ∷ rest) some rising phases is room =
    let entry = is.only e (contains_first e e rest refl) in
    let within = of_member (λ p. limit p ≤ most_seats qe phase p) parties entry.party room.within entry.stands in
    let eligible : is_eligible qe before phase entry.party ≡ true = eligible_below qe before phase entry.party ∙ lt-ltb _ _ (omega (arith, entry.above, entry.within)) in
    let same = append-nil before in
    let now : next_phase qe before parties ≡ phase = subst (λ (t : List Award). next_phase qe t parties ≡ phase) same (phases [] entry.party entry.stands (subst (λ (t : List Award). is_eligible qe t phase entry.party ≡ true) (sym same) eligible)) in
    let takes = front_takes qe phase parties before left limit e rest some now is room entry in (
      (entry.party, takes),
      front_follows qe phase parties left (and_then phase before e) limit rest some rising (stays qe phase parties before _ phases)
          (table_left qe phase parties before left limit e rest some rising is room) (room_left qe phase parties before left limit e room),
    )

-- where the table ends before the rounds do, nobody is eligible any more
pub front_ends : (qe phase : ℕ) (parties : List Contestant) (left : ℕ) (before : List Award) (limit : Contestant → ℕ) (table : List AverageData) → 1 ≤ qe → AreRising parties
    → IsTable qe parties before limit table → LeavesRoom qe phase parties before left limit → length table < left
    → AllByRecursion (λ p. is_eligible qe (before ++ awards_for phase table) phase p ≡ false) parties
front_ends qe phase parties zero before limit table some rising is room short = absurd (omega arith)
front_ends qe phase parties (suc left) before limit [] some rising is room short =
    all_of_members (λ p. is_eligible qe (before ++ []) phase p ≡ false) parties (λ p at.
    subst (λ (t : List Award). is_eligible qe t phase p ≡ false) (sym (append-nil before)) (elim (cases_Bool (is_eligible qe before phase p)) [
      | inr f ↦ f
      | inl t ↦
          let lt = ltb-true _ _ (sym (eligible_below qe before phase p) ∙ t) in
          let none = is.all (average_of qe before p) (next_entry qe phase parties before left limit p at room lt) in
          absurd (in_none (average_of qe before p) none)
    ]))
front_ends qe phase parties (suc left) before limit (e ∷ rest) some rising is room short =
    subst (λ (t : List Award). AllByRecursion (λ p. is_eligible qe t phase p ≡ false) parties) (append_assoc before _ (awards_for phase rest))
    (front_ends qe phase parties left (and_then phase before e) limit rest some rising (table_left qe phase parties before left limit e rest some rising is room) (room_left qe phase parties before left limit e room) (omega arith))

-- Each entry in its turn

-- an entry is the next average of a party, and takes the next seat for it
abbrev pub TakesNext : ℕ → ℕ → List Contestant → AverageData → List Award → Type 0
TakesNext qe phase parties a before = next_phase qe before parties ≡ phase → (p : Contestant) × (a ≡ average_of qe before p) × TakesSeat qe parties before (record { phase = phase; party = a.party }) p

pub next_takes : (qe phase : ℕ) (parties : List Contestant) (left : ℕ) (before : List Award) (limit : Contestant → ℕ) (front : List AverageData) (a : AverageData) (behind : List AverageData) → 1 ≤ qe → AreRising parties
    → IsTable qe parties before limit (front ++ a ∷ behind) → LeavesRoom qe phase parties before left limit → length front < left → TakesNext qe phase parties a (before ++ awards_for phase front)
next_takes qe phase parties zero before limit front a behind some rising table room short = absurd (omega arith)
next_takes qe phase parties (suc left) before limit [] a behind some rising table room short =
    subst (λ (t : List Award). TakesNext qe phase parties a t) (sym (append-nil before)) (λ is.
    let entry = table.only a (contains_first a a behind refl) in
    let next = front_is_next qe phase parties before left limit a behind some table room entry in (
      entry.party,
      entry.is ∙ ap (λ (d : ℕ). average_over entry.party d) next,
      front_takes qe phase parties before left limit a behind some is table room entry,
    ))
next_takes qe phase parties (suc left) before limit (e ∷ front) a behind some rising table room short =
    subst (λ (t : List Award). TakesNext qe phase parties a t) (append_assoc before _ (awards_for phase front))
    (next_takes qe phase parties left (and_then phase before e) limit front a behind some rising (table_left qe phase parties before left limit e (front ++ a ∷ behind) some rising table room)
    (room_left qe phase parties before left limit e room) (omega arith))
