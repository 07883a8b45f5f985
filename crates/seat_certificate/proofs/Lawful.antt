-- A round is the law's exactly where its tests pass.
use Rattle.std.proofs.Common.{◌≡◌, ℕ, true, false, List, [], ◌∷◌, ◌++◌, length, take, drop, get_or, filter, suc, Some, refl, sym, ap, ◌∙◌, subst, append-nil, arith}
use Rattle.std.specs.Prelude.{slice_get}
use Rattle.std.specs.List.{AllByRecursion}
use Rattle.quotients.specs.Average.{AverageData, comes_before}
use Rattle.seat_remainders.specs.declared.contest.Contest.{Contest}
use Rattle.seat_remainders.specs.declared.contest.Contestant.{Contestant}
use Rattle.seat_remainders.specs.declared.outcome.Award.{Award}
use Rattle.seat_remainders.specs.Rounds.{EachFollows, TakesSeat, average_of, beats, is_eligible, next_phase}
use Rattle.seat_remainders.proofs.Awarded.{moved_on}
use Rattle.seat_remainders.proofs.Lists.{all_of_members, of_member}
use Rattle.seat_certificate.specs.declared.certificate.Round.{Round}
use Rattle.seat_certificate.specs.Certificate.{IsLawful, award_in, awards_in, competing}
use Rattle.seat_certificate.specs.Blocs.{TakesSeatOf, Unbeaten}
use Rattle.seat_certificate.proofs.Members.{contains_filter, contains_map, filter_member, map_member}

-- no average that competes comes before this one exactly where no eligible bloc beats its bloc
unbeaten_to : (qe : ℕ) (before : List Award) (phase : ℕ) (p : Contestant) (own : AverageData) (parties : List Contestant) → average_of qe before p ≡ own
    → Unbeaten (competing qe before phase parties) own
    → AllByRecursion (λ q. is_eligible qe before phase q ≡ true → beats qe before q p ≡ false) parties
unbeaten_to qe before phase p own parties is unbeaten =
    all_of_members (λ q. is_eligible qe before phase q ≡ true → beats qe before q p ≡ false) parties (λ q at e.
    let able = contains_filter (is_eligible qe before phase) parties q at e in
    let member = contains_map (average_of qe before) (filter (is_eligible qe before phase) parties) q able in
    let none = of_member (λ a. comes_before a own ≡ false) (competing qe before phase parties) (average_of qe before q) unbeaten member in
    subst (λ (a : AverageData). comes_before (average_of qe before q) a ≡ false) (sym is) none)

unbeaten_from : (qe : ℕ) (before : List Award) (phase : ℕ) (p : Contestant) (parties : List Contestant)
    → AllByRecursion (λ q. is_eligible qe before phase q ≡ true → beats qe before q p ≡ false) parties
    → Unbeaten (competing qe before phase parties) (average_of qe before p)
unbeaten_from qe before phase p parties unbeaten =
    all_of_members (λ a. comes_before a (average_of qe before p) ≡ false) (competing qe before phase parties) (λ a at.
    let found = map_member (average_of qe before) (filter (is_eligible qe before phase) parties) a at in
    let able = filter_member (is_eligible qe before phase) parties found.0 found.1 in
    let none = of_member (λ q. is_eligible qe before phase q ≡ true → beats qe before q p ≡ false) parties found.0 unbeaten able.0 able.1 in
    subst (λ (b : AverageData). comes_before b (average_of qe before p) ≡ false) found.2 none)

-- the bloc of a round takes its seat exactly where one of the averages is its own and no other comes before that
pub takes_to : (qe : ℕ) (parties : List Contestant) (before : List Award) (award : Award) → award.phase ≡ next_phase qe before parties
    → TakesSeatOf (competing qe before award.phase parties) award.party → (p : Contestant) × TakesSeat qe parties before award p
takes_to qe parties before award phase takes =
    let found = map_member (average_of qe before) (filter (is_eligible qe before award.phase) parties) takes.0 takes.1 in
    let able = filter_member (is_eligible qe before award.phase) parties found.0 found.1 in (
      found.0,
      record {
        stands = able.0;
        named = sym takes.2 ∙ sym (ap (λ (a : AverageData). a.party) found.2);
        phase = phase;
        eligible = able.1;
        unbeaten = unbeaten_to qe before award.phase found.0 takes.0 parties found.2 takes.3;
      },
    )

pub takes_from : (qe : ℕ) (parties : List Contestant) (before : List Award) (award : Award) (p : Contestant) → TakesSeat qe parties before award p
    → TakesSeatOf (competing qe before award.phase parties) award.party
takes_from qe parties before award p t = (
  average_of qe before p,
  contains_map (average_of qe before) (filter (is_eligible qe before award.phase) parties) p (contains_filter (is_eligible qe before award.phase) parties p t.stands t.eligible),
  sym t.named,
  unbeaten_from qe before award.phase p parties t.unbeaten,
)

-- ---- rounds in a row

-- each round is the law's after these awards and the rounds before it
abbrev pub EachBehind : Contest → ℕ → List Award → List Round → Type 0
EachBehind contest qe before rounds = (i : ℕ) (r : Round) → slice_get rounds i ≡ Some r → IsLawful contest qe (before ++ awards_in (take i rounds)) r

pub others_behind : (contest : Contest) (qe : ℕ) (before : List Award) (r : Round) (rounds : List Round) → EachBehind contest qe before (r ∷ rounds) → EachBehind contest qe (before ++ award_in r ∷ []) rounds
others_behind contest qe before r rounds each i s at =
    subst (λ (b : List Award). IsLawful contest qe b s) (moved_on before (awards_in (take i rounds)) (award_in r)) (each (suc i) s at)

pub first_behind : (contest : Contest) (qe : ℕ) (before : List Award) (r : Round) (rounds : List Round) → EachBehind contest qe before (r ∷ rounds) → IsLawful contest qe before r
first_behind contest qe before r rounds each = subst (λ (b : List Award). IsLawful contest qe b r) (append-nil before) (each 0 r refl)

-- lawful rounds give their awards
pub follow : (contest : Contest) (qe : ℕ) (before : List Award) (rounds : List Round) → EachBehind contest qe before rounds → EachFollows qe contest.parties before (awards_in rounds)
follow contest qe before [] each = tt
follow contest qe before (r ∷ rounds) each =
    ((first_behind contest qe before r rounds each).award, follow contest qe (before ++ award_in r ∷ []) rounds (others_behind contest qe before r rounds each))

same_round : (r s : Round) → r.phase ≡ s.phase → r.party ≡ s.party → r.averages ≡ s.averages → r ≡ s
same_round r s e f g =
    let make : ℕ → ℕ → List AverageData → Round = λ n p a. record { phase = n; party = p; averages = a } in
    ap (λ n. make n r.party r.averages) e ∙ ap (λ p. make s.phase p r.averages) f ∙ ap (λ a. make s.phase s.party a) g

-- and are known by them
pub same_rounds : (contest : Contest) (qe : ℕ) (before : List Award) (xs ys : List Round) → EachBehind contest qe before xs → EachBehind contest qe before ys → awards_in xs ≡ awards_in ys → xs ≡ ys
same_rounds contest qe before [] [] h g e = refl
same_rounds contest qe before [] (y ∷ ys) h g e = let n = ap (λ (l : List Award). length l) e in absurd (omega arith)
same_rounds contest qe before (x ∷ xs) [] h g e = let n = ap (λ (l : List Award). length l) e in absurd (omega arith)
same_rounds contest qe before (x ∷ xs) (y ∷ ys) h g e =
    let one : award_in x ≡ award_in y = ap (λ (l : List Award). get_or l 0 (award_in x)) e in
    let rest : awards_in xs ≡ awards_in ys = ap (λ (l : List Award). drop 1 l) e in
    let phase : x.phase ≡ y.phase = ap (λ (w : Award). w.phase) one in
    let averages : x.averages ≡ y.averages =
    (first_behind contest qe before x xs h).averages
    ∙ ap (λ (n : ℕ). competing qe before n contest.parties) phase
    ∙ sym (first_behind contest qe before y ys g).averages in
    let first : x ≡ y = same_round x y phase (ap (λ (w : Award). w.party) one) averages in
    let g' : EachBehind contest qe (before ++ award_in x ∷ []) ys = subst (λ (w : Award). EachBehind contest qe (before ++ w ∷ []) ys) (sym one) (others_behind contest qe before y ys g) in
    let others = same_rounds contest qe (before ++ award_in x ∷ []) xs ys (others_behind contest qe before x xs h) g' rest in
    ap (λ (r : Round). r ∷ xs) first ∙ ap (λ (l : List Round). y ∷ l) others
