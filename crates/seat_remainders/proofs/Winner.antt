-- The party that no other beats, as it is computed
use Rattle.std.proofs.Common.{◌≡◌, ℕ, true, false, cond, List, [], ◌∷◌, Option, None, Some, inl, inr, sym, ap, ◌∙◌, arith}
use Rattle.std.specs.List.{AllByRecursion, Contains}
use Rattle.std.proofs.lemmas.Bool.{cases_Bool, true≢false}
use Rattle.std.proofs.lemmas.List.Elements.{Contains-get_or}
use Rattle.quotients.specs.Average.{AverageData}
use Rattle.quotients.proofs.Averages.{not_itself, not_both, not_before_all, some_order}
use Rattle.seat_remainders.specs.declared.contest.Contestant.{Contestant}
use Rattle.seat_remainders.specs.declared.outcome.Award.{Award}
use Rattle.seat_remainders.specs.Rounds.{is_eligible, average_of, beats}
use Rattle.seat_remainders.specs.Computed.{better_of, winner}
use Rattle.seat_remainders.proofs.Lists.{contains_there, of_member}

-- the party is of the list, is eligible, and no eligible party of the list beats it
pub record IsBest (qe : ℕ) (before : List Award) (phase : ℕ) (parties : List Contestant) (p : Contestant) : Type 0 where
  pub stands : Contains parties p
  pub eligible : is_eligible qe before phase p ≡ true
  pub unbeaten : AllByRecursion (λ q. is_eligible qe before phase q ≡ true → beats qe before q p ≡ false) parties

beats_none_behind : (qe : ℕ) (before : List Award) (p q r : Contestant) → beats qe before q p ≡ false → beats qe before r q ≡ false → beats qe before r p ≡ false
beats_none_behind qe before p q r h g = not_before_all (average_of qe before p) (average_of qe before q) (average_of qe before r) (omega arith) (omega arith) (omega arith) h g

all_behind : (qe : ℕ) (before : List Award) (phase : ℕ) (p q : Contestant) (parties : List Contestant) → beats qe before q p ≡ false
    → AllByRecursion (λ r. is_eligible qe before phase r ≡ true → beats qe before r q ≡ false) parties
    → AllByRecursion (λ r. is_eligible qe before phase r ≡ true → beats qe before r p ≡ false) parties
all_behind qe before phase p q [] h all = tt
all_behind qe before phase p q (r ∷ parties) h all = ((λ e. beats_none_behind qe before p q r h (all.0 e)), all_behind qe before phase p q parties h all.1)

-- one party more that is eligible, beside the best of the others
best_of_two : (qe : ℕ) (before : List Award) (phase : ℕ) (p q : Contestant) (parties : List Contestant) → is_eligible qe before phase p ≡ true → IsBest qe before phase parties q
    → IsBest qe before phase (p ∷ parties) (cond (beats qe before q p) q p)
best_of_two qe before phase p q parties e best = elim (cases_Bool (beats qe before q p)) [
  | inl t ↦ rw t (record {
    stands = contains_there p q parties best.stands;
    eligible = best.eligible;
    unbeaten = ((λ _. not_both (average_of qe before q) (average_of qe before p) t), best.unbeaten);
  })
  | inr f ↦ rw f (record {
    stands = Contains-get_or (p ∷ parties) 0 p (omega arith);
    eligible = e;
    unbeaten = ((λ _. not_itself (average_of qe before p)), all_behind qe before phase p q parties f best.unbeaten);
  })
]

-- none of the parties is eligible
abbrev pub NoneEligible : ℕ → List Award → ℕ → List Contestant → Type 0
NoneEligible qe before phase parties = AllByRecursion (λ p. is_eligible qe before phase p ≡ false) parties

all_unbeaten : (qe : ℕ) (before : List Award) (phase : ℕ) (p : Contestant) (parties : List Contestant) → NoneEligible qe before phase parties
    → AllByRecursion (λ q. is_eligible qe before phase q ≡ true → beats qe before q p ≡ false) parties
all_unbeaten qe before phase p [] none = tt
all_unbeaten qe before phase p (q ∷ parties) none = ((λ e. absurd (true≢false (sym e ∙ none.0))), all_unbeaten qe before phase p parties none.1)

best_alone : (qe : ℕ) (before : List Award) (phase : ℕ) (p : Contestant) (parties : List Contestant) → is_eligible qe before phase p ≡ true → NoneEligible qe before phase parties → IsBest qe before phase (p ∷ parties) p
best_alone qe before phase p parties e none =
    record {
      stands = Contains-get_or (p ∷ parties) 0 p (omega arith);
      eligible = e;
      unbeaten = ((λ _. not_itself (average_of qe before p)), all_unbeaten qe before phase p parties none);
    }

best_behind : (qe : ℕ) (before : List Award) (phase : ℕ) (p q : Contestant) (parties : List Contestant) → is_eligible qe before phase p ≡ false → IsBest qe before phase parties q → IsBest qe before phase (p ∷ parties) q
best_behind qe before phase p q parties f best =
    record {
      stands = contains_there p q parties best.stands;
      eligible = best.eligible;
      unbeaten = ((λ e. absurd (true≢false (sym e ∙ f))), best.unbeaten);
    }

-- what is found
abbrev pub IsFound : ℕ → List Award → ℕ → List Contestant → Option Contestant → Type 0
IsFound qe before phase parties None = NoneEligible qe before phase parties
IsFound qe before phase parties (Some p) = IsBest qe before phase parties p

found_more : (qe : ℕ) (before : List Award) (phase : ℕ) (p : Contestant) (parties : List Contestant) (found : Option Contestant) → is_eligible qe before phase p ≡ true → IsFound qe before phase parties found
    → IsBest qe before phase (p ∷ parties) (better_of qe before p found)
found_more qe before phase p parties None e none = best_alone qe before phase p parties e none
found_more qe before phase p parties (Some q) e best = best_of_two qe before phase p q parties e best

found_behind : (qe : ℕ) (before : List Award) (phase : ℕ) (p : Contestant) (parties : List Contestant) (found : Option Contestant) → is_eligible qe before phase p ≡ false → IsFound qe before phase parties found → IsFound qe before phase (p ∷ parties) found
found_behind qe before phase p parties None f none = (f, none)
found_behind qe before phase p parties (Some q) f best = best_behind qe before phase p q parties f best

pub winner-found : (qe : ℕ) (before : List Award) (phase : ℕ) (parties : List Contestant) → IsFound qe before phase parties (winner qe before phase parties)
winner-found qe before phase [] = tt
winner-found qe before phase (p ∷ parties) = elim (cases_Bool (is_eligible qe before phase p)) [
  | inl t ↦ rw t (found_more qe before phase p parties (winner qe before phase parties) t (winner-found qe before phase parties))
  | inr f ↦ rw f (found_behind qe before phase p parties (winner qe before phase parties) f (winner-found qe before phase parties))
]

-- two best parties have one number
pub one_best : (qe : ℕ) (before : List Award) (phase : ℕ) (parties : List Contestant) (p q : Contestant) → IsBest qe before phase parties p → IsBest qe before phase parties q → p.number ≡ q.number
one_best qe before phase parties p q a b =
    let pq = of_member (λ r. is_eligible qe before phase r ≡ true → beats qe before r q ≡ false) parties p b.unbeaten a.stands a.eligible in
    let qp = of_member (λ r. is_eligible qe before phase r ≡ true → beats qe before r p ≡ false) parties q a.unbeaten b.stands b.eligible in
    elim (some_order (average_of qe before p) (average_of qe before q)) [
      | inl t ↦ absurd (true≢false (sym t ∙ pq))
      | inr w ↦ elim w [
        | inl t ↦ absurd (true≢false (sym t ∙ qp))
        | inr e ↦ ap (λ (a : AverageData). a.party) e
      ]
    ]
