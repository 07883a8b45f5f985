-- The blocs between two rounds are those of the law.
use Rattle.std.proofs.Common.{◌≡◌, ◌≢◌, ◌↔◌, ℕ, ◌+◌, ◌^◌, ◌≤◌, ◌<◌, ◌==◌, ◌||◌, not, Bool, true, false, cond, List, [], ◌∷◌, ◌++◌, length, map, take, drop, get_or, set, filter, Some, inl, inr, append-nil, append_assoc, refl, sym, ap, ◌∙◌, subst, arith}
use Rattle.std.specs.Prelude.{slice_get}
use Rattle.std.proofs.Math.ListN.{drop_of_length-le}
use Rattle.std.specs.List.{AllByRecursion, list_any, refill}
use Rattle.std.proofs.lemmas.Bool.{cases_Bool, not-true}
use Rattle.std.proofs.lemmas.Bool.Decides.{nat_tests}
use Rattle.std.proofs.lemmas.List.{get_or_default, length-map, length-take-le, map-append, map_more, take_all, take-append-drop, take_more}
use Rattle.std.proofs.lemmas.List.Edits.{map_over_more}
use Rattle.std.proofs.lemmas.List.Elements.{filter-append}
use Rattle.std.proofs.lemmas.List.Sums.{count_by-le-length, sum_by-cons}
use Rattle.quotients.specs.Average.{AverageData}
use Rattle.seat_remainders.specs.declared.contest.Contest.{Contest}
use Rattle.seat_remainders.specs.declared.contest.Contestant.{Contestant}
use Rattle.seat_remainders.specs.declared.outcome.Award.{Award}
use Rattle.seat_remainders.specs.declared.standing.Standing.{Standing}
use Rattle.seat_remainders.specs.Parties.{first_phase, first_seats}
use Rattle.seat_remainders.specs.Rounds.{NobodyLeft, average_of, is_eligible, next_phase, seats_after}
use Rattle.seat_remainders.proofs.Awarded.{seats_more}
use Rattle.seat_remainders.proofs.Eligible.{eligible_below}
use Rattle.seat_remainders.proofs.Lists.{all_of_members, any_of_member, none_by_recursion}
use Rattle.seat_remainders.proofs.Rising.{one_if}
use Rattle.seat_remainders.specs.Standing.{standing_of}
use Rattle.seat_certificate.specs.declared.blocs.Bloc.{Bloc}
use Rattle.seat_certificate.specs.declared.certificate.Certificate.{Certificate}
use Rattle.seat_certificate.specs.declared.certificate.Round.{Round}
use Rattle.seat_certificate.specs.Blocs.{IsNext, averages_of, bloc_after, blocs_after, competes, next_average, phase_of, seated}
use Rattle.seat_certificate.specs.Certificate.{IsLawful, awards_in, competing}
use Rattle.seat_certificate.proofs.Checked.{lawful, lawful_seat}
use Rattle.seat_certificate.proofs.Members.{slice_get_seam}

-- ---- a bloc competes where it is eligible

pub competes_is : (qe : ℕ) (before : List Award) (phase : ℕ) (p : Contestant) → competes phase (bloc_after qe before p) ≡ is_eligible qe before phase p
competes_is qe before phase p = sym (eligible_below qe before phase p)

pub averages_are : (qe : ℕ) (before : List Award) (phase : ℕ) (parties : List Contestant) → averages_of phase (blocs_after qe before parties) ≡ competing qe before phase parties
averages_are qe before phase [] = refl
averages_are qe before phase (p ∷ parties) = elim (cases_Bool (is_eligible qe before phase p)) [
  | inl t ↦
      let here : competes phase (bloc_after qe before p) ≡ true = competes_is qe before phase p ∙ t in
      rw (here, t) (ap (λ (l : List AverageData). average_of qe before p ∷ l) (averages_are qe before phase parties))
  | inr f ↦
      let here : competes phase (bloc_after qe before p) ≡ false = competes_is qe before phase p ∙ f in
      rw (here, f) (averages_are qe before phase parties)
]

any_is : (qe : ℕ) (before : List Award) (phase : ℕ) (parties : List Contestant) → list_any (competes phase) (blocs_after qe before parties) ≡ list_any (is_eligible qe before phase) parties
any_is qe before phase [] = refl
any_is qe before phase (p ∷ parties) =
    ap (λ (b : Bool). b || list_any (competes phase) (blocs_after qe before parties)) (competes_is qe before phase p)
    ∙ ap (λ (b : Bool). is_eligible qe before phase p || b) (any_is qe before phase parties)

pub phase_is : (qe : ℕ) (before : List Award) (parties : List Contestant) → phase_of (blocs_after qe before parties) ≡ next_phase qe before parties
phase_is qe before parties = ap (λ (b : Bool). cond b 2 3) (any_is qe before 2 parties)

none_is : (f : Contestant → Bool) (parties : List Contestant) → list_any f parties ≡ false → AllByRecursion (λ p. f p ≡ false) parties
none_is f parties none = all_of_members (λ p. f p ≡ false) parties (λ p at. elim (cases_Bool (f p)) [ inl t ↦ let any = any_of_member f parties p at t in absurd (cc) | inr e ↦ e ])

-- nobody is left where none competes
pub nobody_is : (qe : ℕ) (before : List Award) (parties : List Contestant) → (list_any (competes (phase_of (blocs_after qe before parties))) (blocs_after qe before parties) ≡ false) ↔ NobodyLeft qe parties before
nobody_is qe before parties =
    let any = any_is qe before (phase_of (blocs_after qe before parties)) parties in
    let phase = phase_is qe before parties in (
      (λ none. subst (λ (n : ℕ). AllByRecursion (λ p. is_eligible qe before n p ≡ false) parties) phase (none_is (is_eligible qe before (phase_of (blocs_after qe before parties))) parties (sym any ∙ none))),
      (λ left. any ∙ none_by_recursion (is_eligible qe before (phase_of (blocs_after qe before parties))) parties (subst (λ (n : ℕ). AllByRecursion (λ p. is_eligible qe before n p ≡ false) parties) (sym phase) left)),
    )

seat_is : (n seats party : ℕ) → cond (n == party) (seats + 1) seats ≡ seats + one_if (party == n)
seat_is n seats party = grind (arith, nat_tests)

-- a seat more
pub seated_are : (qe : ℕ) (before : List Award) (w : Award) (parties : List Contestant) → map (seated w.party) (blocs_after qe before parties) ≡ blocs_after qe (before ++ w ∷ []) parties
seated_are qe before w [] = refl
seated_are qe before w (p ∷ parties) =
    let seats : cond (p.number == w.party) (seats_after qe before p + 1) (seats_after qe before p) ≡ seats_after qe (before ++ w ∷ []) p = seat_is p.number (seats_after qe before p) w.party ∙ sym (seats_more qe before w p) in
    let make : ℕ → Bloc = λ n. record { standing = standing_of qe p; seats = n } in
    ap (λ (n : ℕ). make n ∷ map (seated w.party) (blocs_after qe before parties)) seats
    ∙ ap (λ (l : List Bloc). bloc_after qe (before ++ w ∷ []) p ∷ l) (seated_are qe before w parties)

-- the seats so far are few
pub few_seats : (qe : ℕ) (before : List Award) (parties : List Contestant) → first_phase qe parties + length before ≤ 200 → AllByRecursion (λ b. b.seats + 1 < 2 ^ 32) (blocs_after qe before parties)
few_seats qe before [] few = tt
few_seats qe before (p ∷ parties) few =
    let sum = sum_by-cons (first_seats qe) p parties in
    let taken = count_by-le-length (λ (w : Award). w.party == p.number) before in
    (omega arith, few_seats qe before parties (omega arith))

-- ---- a round follows where it is the law's

pub next_to : (contest : Contest) (qe : ℕ) (before : List Award) (r : Round) → first_phase qe contest.parties + length before < contest.seats → IsNext (blocs_after qe before contest.parties) r → IsLawful contest qe before r
next_to contest qe before r left next =
    lawful contest qe before r left (next.phase ∙ phase_is qe before contest.parties) (next.averages ∙ averages_are qe before r.phase contest.parties) next.seat

pub next_from : (contest : Contest) (qe : ℕ) (before : List Award) (r : Round) → IsLawful contest qe before r → IsNext (blocs_after qe before contest.parties) r
next_from contest qe before r is = record {
  phase = is.award.1.phase ∙ sym (phase_is qe before contest.parties);
  averages = is.averages ∙ sym (averages_are qe before r.phase contest.parties);
  seat = lawful_seat contest qe before r is;
}

-- ---- the averages of blocs, one by one

averages-append : (phase : ℕ) (xs ys : List Bloc) → averages_of phase (xs ++ ys) ≡ averages_of phase xs ++ averages_of phase ys
averages-append phase xs ys = ap (λ (l : List Bloc). map next_average l) (filter-append (competes phase) xs ys) ∙ map-append next_average (filter (competes phase) xs) (filter (competes phase) ys)

one_competes : (phase : ℕ) (b : Bloc) → competes phase b ≡ true → averages_of phase (b ∷ []) ≡ next_average b ∷ []
one_competes phase b e = rw e refl

one_fails : (phase : ℕ) (b : Bloc) → competes phase b ≡ false → averages_of phase (b ∷ []) ≡ []
one_fails phase b e = rw e refl

pub averages_more : (phase : ℕ) (blocs : List Bloc) (i : ℕ) (d : Bloc) → i < length blocs → competes phase (get_or blocs i d) ≡ true
    → averages_of phase (take (i + 1) blocs) ≡ averages_of phase (take i blocs) ++ next_average (get_or blocs i d) ∷ []
averages_more phase blocs i d lt e =
    ap (λ (l : List Bloc). averages_of phase l) (take_more blocs i d lt)
    ∙ averages-append phase (take i blocs) (get_or blocs i d ∷ [])
    ∙ ap (λ (l : List AverageData). averages_of phase (take i blocs) ++ l) (one_competes phase (get_or blocs i d) e)

pub averages_same : (phase : ℕ) (blocs : List Bloc) (i : ℕ) (d : Bloc) → i < length blocs → competes phase (get_or blocs i d) ≡ false
    → averages_of phase (take (i + 1) blocs) ≡ averages_of phase (take i blocs)
averages_same phase blocs i d lt e =
    ap (λ (l : List Bloc). averages_of phase l) (take_more blocs i d lt)
    ∙ averages-append phase (take i blocs) (get_or blocs i d ∷ [])
    ∙ ap (λ (l : List AverageData). averages_of phase (take i blocs) ++ l) (one_fails phase (get_or blocs i d) e)
    ∙ append-nil (averages_of phase (take i blocs))

-- what stands at the place of a bloc that competes
pub averages_at : (phase : ℕ) (blocs : List Bloc) (i place : ℕ) (d : Bloc) (averages : List AverageData) → i < length blocs → competes phase (get_or blocs i d) ≡ true
    → place ≤ length averages → take place averages ≡ averages_of phase (take i blocs) → averages ≡ averages_of phase blocs → slice_get averages place ≡ Some (next_average (get_or blocs i d))
averages_at phase blocs i place d averages lt e within front same =
    let behind = averages_of phase (drop (i + 1) blocs) in
    let a = next_average (get_or blocs i d) in
    let whole : averages ≡ (take place averages ++ a ∷ []) ++ behind =
    same
    ∙ ap (λ (l : List Bloc). averages_of phase l) (sym (take-append-drop (i + 1) blocs))
    ∙ averages-append phase (take (i + 1) blocs) (drop (i + 1) blocs)
    ∙ ap (λ (l : List AverageData). l ++ behind) (averages_more phase blocs i d lt e ∙ ap (λ (l : List AverageData). l ++ a ∷ []) (sym front)) in
    let len : length (take place averages) ≡ place = length-take-le place averages within in
    ap (λ (l : List AverageData). slice_get l place) (whole ∙ append_assoc (take place averages) (a ∷ []) behind)
    ∙ ap (λ (n : ℕ). slice_get (take place averages ++ a ∷ behind) n) (sym len)
    ∙ slice_get_seam (take place averages) a behind

-- ---- the blocs are counted, one by one

fresh : (qe : ℕ) (p : Contestant) (s : Standing) → s ≡ standing_of qe p → (record { standing = s; seats = s.first }) ≡ bloc_after qe [] p
fresh qe p s is =
    let make : Standing → ℕ → Bloc = λ t n. record { standing = t; seats = n } in
    let none : s.first ≡ seats_after qe [] p = ap (λ (t : Standing). t.first) is ∙ omega arith in
    ap (λ (t : Standing). make t s.first) is ∙ ap (λ (n : ℕ). make (standing_of qe p) n) none

pub blocs_more : (qe : ℕ) (parties : List Contestant) (i : ℕ) (p : Contestant) (s : Standing) (old new : List Bloc) → i < length parties → p ≡ get_or parties i p → s ≡ standing_of qe p → old ≡ blocs_after qe [] (take i parties)
    → new ≡ old ++ (record { standing = s; seats = s.first }) ∷ [] → new ≡ blocs_after qe [] (take (i + 1) parties)
blocs_more qe parties i p s old new lt at is so_far pushed =
    pushed
    ∙ ap (λ (b : Bloc). old ++ b ∷ []) (fresh qe p s is)
    ∙ ap (λ (l : List Bloc). l ++ bloc_after qe [] p ∷ []) so_far
    ∙ ap (λ (q : Contestant). blocs_after qe [] (take i parties) ++ bloc_after qe [] q ∷ []) at
    ∙ sym (map_more (bloc_after qe []) parties i p lt)

pub blocs-length : (qe : ℕ) (before : List Award) (parties : List Contestant) (i : ℕ) (blocs : List Bloc) → blocs ≡ blocs_after qe before (take i parties) → i < length parties → length blocs ≡ i
blocs-length qe before parties i blocs is lt = ap (λ (l : List Bloc). length l) is ∙ length-map (take i parties) (bloc_after qe before) ∙ length-take-le i parties (omega arith)

-- ---- a seat is given, bloc by bloc

pub seated_yes : (party : ℕ) (b : Bloc) → b.standing.party ≡ party → seated party b ≡ record { standing = b.standing; seats = b.seats + 1 }
seated_yes party b e = let is : (b.standing.party == party) ≡ true = grind (arith, nat_tests) in rw is refl

pub seated_no : (party : ℕ) (b : Bloc) → b.standing.party ≢ party → seated party b ≡ b
seated_no party b ne = let is : (b.standing.party == party) ≡ false = grind (arith, nat_tests) in rw is refl

pub seat_step : (party i : ℕ) (d : Bloc) (xs ys : List Bloc) → i < length xs → length ys ≡ length xs → ys ≡ map (seated party) (take i xs) ++ drop i xs
    → set ys i (seated party (get_or ys i d)) ≡ map (seated party) (take (i + 1) xs) ++ drop (i + 1) xs
seat_step party i d xs ys lt len is = map_over_more (seated party) xs ys i (get_or ys i d) lt is (get_or_default ys i d (get_or ys i d) (omega arith))

-- what was written through a slice of all blocs
pub refilled : (xs ws : List Bloc) → length ws ≡ length xs → refill (length xs) xs ws ≡ ws
refilled xs ws len =
    ap (λ (l : List Bloc). take (length xs) (ws ++ l)) (drop_of_length-le xs (omega arith))
    ∙ ap (λ (l : List Bloc). take (length xs) l) (append-nil ws)
    ∙ take_all (length xs) ws (omega arith)

-- behind one round more
pub blocs_next : (qe : ℕ) (parties : List Contestant) (before after : List Award) (w : Award) (now slice new : List Bloc) → now ≡ blocs_after qe before parties → slice ≡ now → new ≡ map (seated w.party) slice → after ≡ before ++ w ∷ []
    → refill (length now) now new ≡ blocs_after qe after parties
blocs_next qe parties before after w now slice new are same given more =
    let len : length new ≡ length now = ap (λ (l : List Bloc). length l) given ∙ length-map slice (seated w.party) ∙ ap (λ (l : List Bloc). length l) same in
    refilled now new len
    ∙ given
    ∙ ap (λ (l : List Bloc). map (seated w.party) l) (same ∙ are)
    ∙ seated_are qe before w parties
    ∙ ap (λ (l : List Award). blocs_after qe l parties) (sym more)

-- nobody is left, as the code is told of it
pub nobody_told : (contest : Contest) (c : Certificate) (qe : ℕ) (rounds : List Round) (blocs slice : List Bloc) (told : Bool) → c.quotient ≡ qe → rounds ≡ c.rounds → blocs ≡ blocs_after qe (awards_in rounds) contest.parties → slice ≡ blocs
    → told ≡ not (list_any (competes (phase_of slice)) slice) → (told ≡ true) ↔ NobodyLeft c.quotient contest.parties (awards_in c.rounds)
nobody_told contest c qe rounds blocs slice told quotient turns are same is =
    let whole : slice ≡ blocs_after c.quotient (awards_in c.rounds) contest.parties =
    same ∙ are ∙ ap (λ (l : List Round). blocs_after qe (awards_in l) contest.parties) turns ∙ ap (λ (q : ℕ). blocs_after q (awards_in c.rounds) contest.parties) (sym quotient) in
    let answer = is ∙ ap (λ (l : List Bloc). not (list_any (competes (phase_of l)) l)) whole in
    let law = nobody_is c.quotient (awards_in c.rounds) contest.parties in
    ((λ yes. law.0 (not-true _ (sym answer ∙ yes))), (λ none. answer ∙ ap not (law.1 none)))
