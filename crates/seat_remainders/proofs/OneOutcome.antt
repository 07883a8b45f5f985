-- A contest has one outcome: the rounds go on, and only in one way.
use Rattle.std.proofs.Common.{◌≡◌, ◌↔◌, ℕ, zero, suc, ◌+◌, ◌-◌, ◌≤◌, ◌<◌, true, false, ltb, List, [], ◌∷◌, ◌++◌, length, map, Option, None, Some, inl, inr, refl, sym, ap, ◌∙◌, subst, length-append, append-nil, arith}
use Rattle.std.proofs.lemmas.Bool.{cases_Bool, ltb-true, ltb-false, true≢false}
use Rattle.quotients.specs.Average.{AverageData}
use Rattle.seat_remainders.specs.declared.contest.Contestant.{Contestant}
use Rattle.seat_remainders.specs.declared.contest.Contest.{Contest}
use Rattle.seat_remainders.specs.declared.outcome.Award.{Award}
use Rattle.seat_remainders.specs.declared.outcome.PartySeats.{PartySeats}
use Rattle.seat_remainders.specs.declared.outcome.Seats.{Seats as SeatsData}
use Rattle.seat_remainders.specs.declared.outcome.Outcome.{Outcome}
use Rattle.seat_remainders.specs.declared.outcome.Outcome.TheVariants as outcome
use Rattle.seat_remainders.specs.Parties.{valid_votes, quotient_of, first_phase}
use Rattle.seat_remainders.specs.Rounds.{is_eligible, next_phase, TakesSeat, EachFollows, NobodyLeft, AreRounds}
use Rattle.seat_remainders.specs.Outcome.{party_seats, elected_by, AreSeats, IsOutcome, is_without_quotient, is_over}
use Rattle.seat_remainders.specs.Computed.{award_to, awards_over, seats_with, outcome_with, outcome_of}
use Rattle.seat_remainders.proofs.Awarded.{moved_on}
use Rattle.seat_remainders.proofs.ComputedTable.{computed_averages}
use Rattle.seat_remainders.proofs.Lists.{of_member}
use Rattle.seat_remainders.proofs.OneTable.{one_list}
use Rattle.seat_remainders.proofs.Winner.{IsBest, IsFound, winner-found, one_best}

-- One round

best_from_takes : (qe : ℕ) (parties : List Contestant) (before : List Award) (award : Award) (p : Contestant) → TakesSeat qe parties before award p → IsBest qe before (next_phase qe before parties) parties p
best_from_takes qe parties before award p t =
    subst (λ (f : ℕ). IsBest qe before f parties p) t.phase (record { stands = t.stands; eligible = t.eligible; unbeaten = t.unbeaten })

pub takes_from_best : (qe : ℕ) (parties : List Contestant) (before : List Award) (p : Contestant) → IsBest qe before (next_phase qe before parties) parties p
    → TakesSeat qe parties before (record { phase = next_phase qe before parties; party = p.number }) p
takes_from_best qe parties before p best = record { stands = best.stands; named = refl; phase = refl; eligible = best.eligible; unbeaten = best.unbeaten }

same_award : (a b : Award) → a.phase ≡ b.phase → a.party ≡ b.party → a ≡ b
same_award a b e f =
    let one : a ≡ record { phase = b.phase; party = a.party } = ap (λ (n : ℕ). let r : Award = record { phase = n; party = a.party } in r) e in
    let two : record { phase = b.phase; party = a.party } ≡ b = ap (λ (n : ℕ). let r : Award = record { phase = b.phase; party = n } in r) f in
    one ∙ two

-- the award of a round is one
pub one_award : (qe : ℕ) (parties : List Contestant) (before : List Award) (a b : Award) (p q : Contestant) → TakesSeat qe parties before a p → TakesSeat qe parties before b q → a ≡ b
one_award qe parties before a b p q t u =
    let numbers = one_best qe before (next_phase qe before parties) parties p q (best_from_takes qe parties before a p t) (best_from_takes qe parties before b q u) in
    same_award a b (t.phase ∙ sym u.phase) (t.named ∙ numbers ∙ sym u.named)

-- nobody takes a seat where nobody is left
pub no_round : (qe : ℕ) (parties : List Contestant) (before : List Award) (award : Award) (p : Contestant) → TakesSeat qe parties before award p → NobodyLeft qe parties before → ⊥
no_round qe parties before award p t none =
    let best = best_from_takes qe parties before award p t in
    let f = of_member (λ q. is_eligible qe before (next_phase qe before parties) q ≡ false) parties p none best.stands in
    let e = best.eligible in
    cc

-- Many rounds

-- one award more at the end
pub follows_more : (qe : ℕ) (parties : List Contestant) (before awards : List Award) (award : Award) (p : Contestant)
    → EachFollows qe parties before awards → TakesSeat qe parties (before ++ awards) award p → EachFollows qe parties before (awards ++ award ∷ [])
follows_more qe parties before [] award p each t = ((p, subst (λ (b : List Award). TakesSeat qe parties b award p) (append-nil before) t), tt)
follows_more qe parties before (w ∷ awards) award p each t =
    (each.0, follows_more qe parties (before ++ w ∷ []) awards award p each.1 (subst (λ (b : List Award). TakesSeat qe parties b award p) (moved_on before awards w) t))

pub one_row : (qe : ℕ) (parties : List Contestant) (before : List Award) (u v : ℕ) (a b : List Award)
    → EachFollows qe parties before a → EachFollows qe parties before b → length a + u ≡ length b + v
    → (0 < u → NobodyLeft qe parties (before ++ a)) → (0 < v → NobodyLeft qe parties (before ++ b)) → a ≡ b
one_row qe parties before u v [] [] f g e l r = refl
one_row qe parties before u v [] (w ∷ b) f g e l r =
    let none = subst (λ (t : List Award). NobodyLeft qe parties t) (append-nil before) (l (omega arith)) in
    absurd (no_round qe parties before w g.0.0 g.0.1 none)
one_row qe parties before u v (w ∷ a) [] f g e l r =
    let none = subst (λ (t : List Award). NobodyLeft qe parties t) (append-nil before) (r (omega arith)) in
    absurd (no_round qe parties before w f.0.0 f.0.1 none)
one_row qe parties before u v (w ∷ a) (x ∷ b) f g e l r =
    let first : w ≡ x = one_award qe parties before w x f.0.0 g.0.0 f.0.1 g.0.1 in
    let g' : EachFollows qe parties (before ++ w ∷ []) b = subst (λ (t : Award). EachFollows qe parties (before ++ t ∷ []) b) (sym first) g.1 in
    let others : a ≡ b = one_row qe parties (before ++ w ∷ []) u v a b f.1 g' (omega arith)
    (λ h. subst (λ (t : List Award). NobodyLeft qe parties t) (moved_on before a w) (l h))
    (λ h. subst (λ (t : List Award). NobodyLeft qe parties t) (moved_on before b x ∙ ap (λ (t : Award). (before ++ t ∷ []) ++ b) (sym first)) (r h)) in
    ap (λ (t : Award). t ∷ a) first ∙ ap (λ (t : List Award). x ∷ t) others

pub one_rounds : (qe : ℕ) (parties : List Contestant) (seats u v : ℕ) (a b : List Award) → AreRounds qe parties seats a u → AreRounds qe parties seats b v → a ≡ b
one_rounds qe parties seats u v a b f g = one_row qe parties [] u v a b f.each g.each (f.all ∙ sym g.all) f.vacant_only g.vacant_only

-- The rounds as they are computed

-- after so many rounds each award follows, and fewer awards are where nobody is left
pub record GoOn (qe : ℕ) (parties : List Contestant) (seats : ℕ) (awards : List Award) : Type 0 where
  pub each : EachFollows qe parties [] awards
  pub within : length awards ≤ seats
  pub fewer : length awards < seats → NobodyLeft qe parties awards

next_round : (qe : ℕ) (parties : List Contestant) (seats : ℕ) (awards : List Award) (found : Option Contestant) → GoOn qe parties seats awards → IsFound qe awards (next_phase qe awards parties) parties found
    → GoOn qe parties (suc seats) (awards ++ award_to (next_phase qe awards parties) found)
next_round qe parties seats awards None on none =
    subst (λ (t : List Award). GoOn qe parties (suc seats) t) (sym (append-nil awards)) (record { each = on.each; within = omega (arith, on.within); fewer = λ h. none })
next_round qe parties seats awards (Some p) on best =
    let t = takes_from_best qe parties awards p best in
    let len = length-append awards ((record { phase = next_phase qe awards parties; party = p.number }) ∷ []) in
    let full : seats ≤ length awards = elim (cases_Bool (ltb (length awards) seats)) [
      | inl lt ↦ absurd (no_round qe parties awards _ p t (on.fewer (ltb-true _ _ lt)))
      | inr ge ↦ ltb-false _ _ ge
    ] in
    record {
      each = follows_more qe parties [] awards _ p on.each t;
      within = omega (arith, on.within);
      fewer = λ h. absurd (omega arith);
    }

pub go_on : (qe : ℕ) (parties : List Contestant) (seats : ℕ) → GoOn qe parties seats (awards_over qe parties seats)
go_on qe parties zero = record { each = tt; within = omega arith; fewer = λ h. absurd (omega arith) }
go_on qe parties (suc seats) =
    let before = awards_over qe parties seats in
    next_round qe parties seats before _ (go_on qe parties seats) (winner-found qe before (next_phase qe before parties) parties)

pub rounds_over : (qe : ℕ) (parties : List Contestant) (seats : ℕ) → AreRounds qe parties seats (awards_over qe parties seats) (seats - length (awards_over qe parties seats))
rounds_over qe parties seats =
    let on = go_on qe parties seats in
    record { each = on.each; all = omega (arith, on.within); vacant_only = λ h. on.fewer (omega arith) }

-- The outcome

pub same_seats : (s t : SeatsData) → s.quotient ≡ t.quotient → s.parties ≡ t.parties → s.awards ≡ t.awards → s.elected ≡ t.elected → s.vacant ≡ t.vacant → s.averages ≡ t.averages → s ≡ t
same_seats s t a b c d e f =
    let make : ℕ → List PartySeats → List Award → List ℕ → ℕ → List AverageData → SeatsData = λ q p w n v l. record { quotient = q; parties = p; awards = w; elected = n; vacant = v; averages = l } in
    ap (λ q. make q s.parties s.awards s.elected s.vacant s.averages) a
    ∙ ap (λ p. make t.quotient p s.awards s.elected s.vacant s.averages) b
    ∙ ap (λ w. make t.quotient t.parties w s.elected s.vacant s.averages) c
    ∙ ap (λ n. make t.quotient t.parties t.awards n s.vacant s.averages) d
    ∙ ap (λ v. make t.quotient t.parties t.awards t.elected v s.averages) e
    ∙ ap (λ l. make t.quotient t.parties t.awards t.elected t.vacant l) f

seats_given : (contest : Contest) (qe : ℕ) (s : SeatsData) → s.quotient ≡ qe → AreSeats contest s
    → s ≡ seats_with contest qe (awards_over qe contest.parties (contest.seats - first_phase qe contest.parties))
seats_given contest qe s is given =
    let left = contest.seats - first_phase qe contest.parties in
    let rounds : AreRounds qe contest.parties left s.awards s.vacant = subst (λ (q : ℕ). AreRounds q contest.parties (contest.seats - first_phase q contest.parties) s.awards s.vacant) is given.rounds in
    let computed = rounds_over qe contest.parties left in
    let awards : s.awards ≡ awards_over qe contest.parties left = one_rounds qe contest.parties left _ _ _ _ rounds computed in
    let lengths = ap length awards in
    same_seats s (seats_with contest qe (awards_over qe contest.parties left)) is
    (given.parties ∙ ap (λ (q : ℕ). map (party_seats q s.awards) contest.parties) is ∙ ap (λ (w : List Award). map (party_seats qe w) contest.parties) awards)
    awards
    (given.elected ∙ ap (λ (q : ℕ). elected_by q s.awards contest.parties) is ∙ ap (λ (w : List Award). elected_by qe w contest.parties) awards)
    (omega (arith, rounds.all, computed.all))
    (one_list contest _ _ given.averages (computed_averages contest qe (sym is ∙ given.quotient)))

some_outcome : (contest : Contest) (qe : ℕ) → qe ≡ quotient_of contest → IsOutcome contest (outcome_with contest qe)
some_outcome contest zero is = record { none = sym is; votes_told = refl; seats_told = refl }
some_outcome contest (suc n) is = elim (cases_Bool (ltb contest.seats (first_phase (suc n) contest.parties))) [
  | inl t ↦
      let over = ltb-true contest.seats (first_phase (suc n) contest.parties) t in
      rw t (record {
        some = omega arith;
        over = subst (λ (q : ℕ). contest.seats < first_phase q contest.parties) is over;
        first_told = ap (λ (q : ℕ). first_phase q contest.parties) is;
        seats_told = refl;
      })
  | inr f ↦
      rw f (record {
        quotient = is;
        some = omega arith;
        within = ltb-false contest.seats (first_phase (suc n) contest.parties) f;
        rounds = rounds_over (suc n) contest.parties (contest.seats - first_phase (suc n) contest.parties);
        parties = refl;
        elected = refl;
        averages = computed_averages contest (suc n) is;
      })
]

pub outcome_is : (contest : Contest) → IsOutcome contest (outcome_of contest)
outcome_is contest = some_outcome contest (quotient_of contest) refl

only_with : (contest : Contest) (qe : ℕ) (o : Outcome) → qe ≡ quotient_of contest → IsOutcome contest o → o ≡ outcome_with contest qe
only_with contest zero (outcome.NoQuotient valid seats) is h = ap (λ (v : ℕ). outcome.NoQuotient v seats) h.votes_told ∙ ap (λ (s : ℕ). outcome.NoQuotient (valid_votes contest.parties) s) h.seats_told
only_with contest (suc n) (outcome.NoQuotient valid seats) is h = let none = h.none in absurd (omega arith)
only_with contest zero (outcome.Over first seats) is h = let some = h.some in absurd (omega arith)
only_with contest (suc n) (outcome.Over first seats) is h =
    let e = ap (λ (q : ℕ). first_phase q contest.parties) is in
    let over : contest.seats < first_phase (suc n) contest.parties = omega (arith, h.over) in
    let t : ltb contest.seats (first_phase (suc n) contest.parties) ≡ true = elim (cases_Bool (ltb contest.seats (first_phase (suc n) contest.parties))) [ inl t ↦ t | inr f ↦ absurd (omega (arith, ltb-false _ _ f)) ] in
    rw t (ap (λ (v : ℕ). outcome.Over v seats) (h.first_told ∙ sym e) ∙ ap (λ (s : ℕ). outcome.Over (first_phase (suc n) contest.parties) s) h.seats_told)
only_with contest zero (outcome.Seats s) is h = let some = h.some in let q = h.quotient in absurd (omega arith)
only_with contest (suc n) (outcome.Seats s) is h =
    let q : s.quotient ≡ suc n = h.quotient ∙ sym is in
    let e = ap (λ (q : ℕ). first_phase q contest.parties) q in
    let within = h.within in
    let f : ltb contest.seats (first_phase (suc n) contest.parties) ≡ false = elim (cases_Bool (ltb contest.seats (first_phase (suc n) contest.parties))) [ inl t ↦ absurd (omega (arith, ltb-true _ _ t)) | inr f ↦ f ] in
    rw f (ap (λ (d : SeatsData). outcome.Seats d) (seats_given contest (suc n) s q h))

pub only_outcome : (contest : Contest) (o : Outcome) → IsOutcome contest o → o ≡ outcome_of contest
only_outcome contest o h = only_with contest (quotient_of contest) o refl h

-- Of which kind it is

pub no_quotient_at_zero : (contest : Contest) (o : Outcome) → IsOutcome contest o → (is_without_quotient o ≡ true) ↔ (quotient_of contest ≡ 0)
no_quotient_at_zero contest (outcome.Seats s) h = ((λ e. absurd (true≢false (sym e))), (λ e. let some = h.some in let q = h.quotient in absurd (omega arith)))
no_quotient_at_zero contest (outcome.NoQuotient valid seats) h = ((λ e. h.none), (λ e. refl))
no_quotient_at_zero contest (outcome.Over first seats) h = ((λ e. absurd (true≢false (sym e))), (λ e. let some = h.some in absurd (omega arith)))

pub over_beyond_all : (contest : Contest) (o : Outcome) → IsOutcome contest o → (is_over o ≡ true) ↔ ((1 ≤ quotient_of contest) × (contest.seats < first_phase (quotient_of contest) contest.parties))
over_beyond_all contest (outcome.Seats s) h = (
  (λ e. absurd (true≢false (sym e))),
  (λ w. let within = subst (λ (q : ℕ). first_phase q contest.parties ≤ contest.seats) h.quotient h.within in absurd (omega (arith, w.1, within))),
)
over_beyond_all contest (outcome.NoQuotient valid seats) h = ((λ e. absurd (true≢false (sym e))), (λ w. let none = h.none in absurd (omega (arith, w.0))))
over_beyond_all contest (outcome.Over first seats) h = ((λ e. (h.some, h.over)), (λ w. refl))
