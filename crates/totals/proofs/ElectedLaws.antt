-- Whoever is elected is a candidate of the office, and has one seat
use Rattle.std.proofs.Common.{◌≡◌, ◌==◌, ◌<◌, ◌*◌, ◌≤◌, ◌&&◌, leb, ℕ, Bool, nat_lt, List, [], ◌∷◌, ◌++◌, length, map, filter, take, get_or, sum_by, cond, refl, sym, ap, subst, ◌∙◌, inl, inr, arith}
use Rattle.std.specs.List.{All, Any, Contains, flat_map}
use Rattle.std.specs.List.Sorted.{IsStrictlyIncreasing}
use Rattle.std.proofs.lemmas.Bool.{cases_Bool, eqb-true, ltb-true}
use Rattle.std.proofs.lemmas.List.Elements.{All-append, All-cons, All-contains_itself, All-filter, All-head, All-map, All-nil, All-tail, All-take, filter_passes}
use Rattle.std.proofs.lemmas.List.{length-map, length-take}
use Rattle.std.proofs.lemmas.List.Sorted.{All-permutation}
use Rattle.std.proofs.lemmas.List.Sums.{length-filter, sum_by-append, sum_by-cons, sum_by-take-le}
use Rattle.election_tables.specs.Fields.{first_two}
use Rattle.election_tables.specs.TablesData.{IsTables, TablesData, bloc_of}
use Rattle.election_tables.specs.declared.tables.candidates.NamedCandidate.{NamedCandidate}
use Rattle.election_tables.specs.declared.tables.panels.Panel.{Panel}
use Rattle.poll_report.specs.declared.report.Report.{Report}
use Rattle.vote_kinds.specs.Ballot.{line_of, panel_at}
use Rattle.section_intake.proofs.NumberSums.{value_at, value_at_most}
use Rattle.section_intake.proofs.TallyLaws.{candidates_rise}
use Rattle.seat_remainders.specs.Candidates.{in_order}
use Rattle.seat_remainders.specs.Majority.{decided, majority_outcome}
use Rattle.seat_remainders.specs.Outcome.{elected_by, elected_of}
use Rattle.seat_remainders.specs.Parties.{nominal_votes}
use Rattle.seat_remainders.specs.Rounds.{seats_after}
use Rattle.seat_remainders.specs.declared.contest.Contestant.{Contestant}
use Rattle.seat_remainders.specs.declared.contest.Entry.{Entry}
use Rattle.seat_remainders.specs.declared.outcome.Award.{Award}
use Rattle.seat_remainders.proofs.Ordered.{in_order-permutation, in_order-sum}
use Rattle.totals.specs.Contest.{bloc_of_candidate, blocs_of, contestant_in, entries_in, entry_of}
use Rattle.totals.specs.Giving.{candidates_of}
use Rattle.totals.specs.Laws.{ElectedAreCandidates, ElectedHaveVotes, MajorityIsOfCandidates, NobodyHasTwoSeats, NobodyIsElectedTwice, SeatsAreOfBlocs, SeatsAreOfCandidates, SeatsAreTaken, named_by}
use Rattle.totals.proofs.BlocLaws.{blocs_rise}
use Rattle.totals.proofs.ContestVotes.{of_all, once_at_most, sum_mapped}
use Rattle.totals.proofs.SimpleRule.{own_numbers, sum_by-filter-le}

-- ---- candidates of the office

-- what is so of the candidates' numbers is so of the entries'
of_entries : (P : ℕ → Type 0) (reports : List Report) (panel : ℕ) (cs : List NamedCandidate) → All P (map (λ c. c.number) cs)
    → All (λ (e : Entry). P e.number) (map (entry_of reports panel) cs)
of_entries P reports panel [] all = All-nil (λ (e : Entry). P e.number)
of_entries P reports panel (c ∷ cs) all =
    let ns : List ℕ = map (λ c. c.number) cs in
    All-cons (λ (e : Entry). P e.number) (entry_of reports panel c) (map (entry_of reports panel) cs) (All-head P c.number ns all)
    (of_entries P reports panel cs (All-tail P c.number ns all))

in_order_too : (Q : Entry → Type 0) (entries : List Entry) → All Q entries → All Q (in_order entries)
in_order_too Q entries all = All-permutation Q entries (in_order entries) (in_order-permutation entries) all

-- and of the elected
of_elected : (P : ℕ → Type 0) (qe : ℕ) (awards : List Award) (t : TablesData) (reports : List Report) (panel : ℕ) (p : Panel) (blocs : List ℕ)
    → All (λ (e : Entry). P e.number) (entries_in reports panel p) → All P (elected_by qe awards (map (contestant_in t reports panel p) blocs))
of_elected P qe awards t reports panel p [] all = All-nil P
of_elected P qe awards t reports panel p (b ∷ blocs) all =
    let Q : Entry → Type 0 = λ e. P e.number in
    let c : Contestant = contestant_in t reports panel p b in
    let own = All-filter (λ (e : Entry). bloc_of_candidate t p.office.digits e == b) Q (entries_in reports panel p) all in
    let first = All-take Q (seats_after qe awards c) (in_order c.candidates) (in_order_too Q c.candidates own) in
    All-append P (elected_of qe awards c) (elected_by qe awards (map (contestant_in t reports panel p) blocs))
    (All-map P (λ (e : Entry). e.number) (take (seats_after qe awards c) (in_order c.candidates)) first)
    (of_elected P qe awards t reports panel p blocs all)

-- the entries are of the office's candidates
are_candidates : (t : TablesData) (reports : List Report) (panel : ℕ)
    → All (λ (e : Entry). Contains (line_of t panel).candidates e.number) (entries_in reports panel (panel_at t panel))
are_candidates t reports panel =
    let ns = (line_of t panel).candidates in
    of_entries (Contains ns) reports panel (panel_at t panel).candidates (All-contains_itself ns)

pub seats_are_of_candidates : SeatsAreOfCandidates
seats_are_of_candidates t reports panel s given =
    let P : ℕ → Type 0 = Contains (line_of t panel).candidates in
    subst (All P) (sym given.elected) (of_elected P s.quotient s.awards t reports panel (panel_at t panel) (blocs_of t) (are_candidates t reports panel))

bloc_by_bloc : (qe : ℕ) (awards : List Award) (of_bloc : ℕ → Contestant) (blocs : List ℕ)
    → elected_by qe awards (map of_bloc blocs) ≡ flat_map (λ bloc. elected_of qe awards (of_bloc bloc)) blocs
bloc_by_bloc qe awards of_bloc [] = refl
bloc_by_bloc qe awards of_bloc (b ∷ blocs) = ap (λ (l : List ℕ). elected_of qe awards (of_bloc b) ++ l) (bloc_by_bloc qe awards of_bloc blocs)

own_elected : (t : TablesData) (reports : List Report) (panel qe bloc : ℕ) (awards : List Award)
    → All (λ number. bloc_of t.federations (first_two (panel_at t panel).office.digits number) ≡ bloc)
    (elected_of qe awards (contestant_in t reports panel (panel_at t panel) bloc))
own_elected t reports panel qe bloc awards =
    let p = panel_at t panel in
    let P : ℕ → Type 0 = λ n. bloc_of t.federations (first_two p.office.digits n) ≡ bloc in
    let Q : Entry → Type 0 = λ e. P e.number in
    let c : Contestant = contestant_in t reports panel p bloc in
    let own : All Q c.candidates = λ i d lt. eqb-true _ _ (filter_passes (λ (e : Entry). bloc_of_candidate t p.office.digits e == bloc) (entries_in reports panel p) i d lt) in
    All-map P (λ (e : Entry). e.number) (take (seats_after qe awards c) (in_order c.candidates))
    (All-take Q (seats_after qe awards c) (in_order c.candidates) (in_order_too Q c.candidates own))

pub seats_are_of_blocs : SeatsAreOfBlocs
seats_are_of_blocs t reports panel s given =
    let make = contestant_in t reports panel (panel_at t panel) in (
      λ bloc. elected_of s.quotient s.awards (make bloc),
      given.elected ∙ bloc_by_bloc s.quotient s.awards make (blocs_of t),
      λ bloc. (refl, own_elected t reports panel s.quotient bloc s.awards),
    )

-- ---- of a majority office

of_decided : (P : ℕ → Type 0) (total : ℕ) (absolute : Bool) (ordered : List Entry) → All (λ (e : Entry). P e.number) ordered
    → All P (named_by (decided total absolute ordered))
of_decided P total absolute [] all = All-nil P
of_decided P total absolute (a ∷ []) all =
    let one = All-cons P a.number [] (All-head (λ (e : Entry). P e.number) a [] all) (All-nil P) in
    elim (cases_Bool (absolute && leb (2 * a.votes) total)) [
      | inl half ↦ rw half one
      | inr more ↦ rw more one
    ]
of_decided P total absolute (a ∷ b ∷ others) all =
    let Q : Entry → Type 0 = λ e. P e.number in
    let first : P a.number = All-head Q a (b ∷ others) all in
    let second : P b.number = All-head Q b others (All-tail Q a (b ∷ others) all) in
    elim (cases_Bool (absolute && leb (2 * a.votes) total)) [
      | inl half ↦ rw half (All-cons P a.number (b.number ∷ []) first (All-cons P b.number [] second (All-nil P)))
      | inr more ↦ rw more (All-cons P a.number [] first (All-nil P))
    ]

of_majority : (P : ℕ → Type 0) (entries : List Entry) (absolute : Bool) → All (λ (e : Entry). P e.number) entries
    → All P (named_by (majority_outcome entries absolute))
of_majority P entries absolute all = elim (cases_Bool (nominal_votes entries == 0)) [
  | inl none ↦ rw none (All-nil P)
  | inr some ↦ rw some (of_decided P (nominal_votes entries) absolute (in_order entries) (in_order_too (λ (e : Entry). P e.number) entries all))
]

pub majority_is_of_candidates : MajorityIsOfCandidates
majority_is_of_candidates t reports panel absolute =
    of_majority (Contains (line_of t panel).candidates) (entries_in reports panel (panel_at t panel)) absolute (are_candidates t reports panel)

-- ---- one seat

-- the elected of a bloc count no more than its candidates
few_of : (f : ℕ → ℕ) (qe : ℕ) (awards : List Award) (c : Contestant) → sum_by f (elected_of qe awards c) ≤ sum_by (λ e. f e.number) c.candidates
few_of f qe awards c =
    let g : Entry → ℕ = λ e. f e.number in
    let first = take (seats_after qe awards c) (in_order c.candidates) in
    let numbers = sum_mapped f (λ (e : Entry). e.number) first in
    let part = sum_by-take-le g (in_order c.candidates) (seats_after qe awards c) in
    let whole = in_order-sum g c.candidates in
    omega (arith, numbers, part, whole)

-- nor those of all blocs
few_by : (f : ℕ → ℕ) (qe : ℕ) (awards : List Award) (t : TablesData) (reports : List Report) (panel : ℕ) (p : Panel) (blocs : List ℕ)
    → sum_by f (elected_by qe awards (map (contestant_in t reports panel p) blocs))
    ≤ of_all (λ e. f e.number) (bloc_of_candidate t p.office.digits) blocs (entries_in reports panel p)
few_by f qe awards t reports panel p [] = omega arith
few_by f qe awards t reports panel p (b ∷ blocs) =
    let c : Contestant = contestant_in t reports panel p b in
    let es = entries_in reports panel p in
    let both = sum_by-append f (elected_of qe awards c) (elected_by qe awards (map (contestant_in t reports panel p) blocs)) in
    let own = few_of f qe awards c in
    let others = few_by f qe awards t reports panel p blocs in
    let all = sum_by-cons (λ n. sum_by (λ (e : Entry). f e.number) (candidates_of t p.office.digits n es)) b blocs in
    omega (arith, both, own, others, all)

pub nobody_has_two : NobodyHasTwoSeats
nobody_has_two t reports panel number s is lt given =
    let p = panel_at t panel in
    let f : ℕ → ℕ = λ n. value_at number 1 n in
    let few = few_by f s.quotient s.awards t reports panel p (blocs_of t) in
    let once = once_at_most (λ (e : Entry). f e.number) (bloc_of_candidate t p.office.digits) (blocs_of t) (entries_in reports panel p) (blocs_rise t is) in
    let entries = sum_mapped (λ (e : Entry). f e.number) (entry_of reports panel) p.candidates in
    let numbers = sum_mapped f (λ (c : NamedCandidate). c.number) p.candidates in
    let one = value_at_most number 1 (line_of t panel).candidates (candidates_rise t is panel lt) in
    subst (λ (l : List ℕ). sum_by f l ≤ 1) (sym given.elected) (omega (arith, few, once, entries, numbers, one))

-- ---- by the simple rule

abbrev has_vote : Entry → Bool
has_vote c = nat_lt 0 c.votes

-- those of the candidates who have a vote, in order
abbrev with_votes : List Entry → List Entry
with_votes candidates = filter has_vote (in_order candidates)

pub elected_are_candidates : ElectedAreCandidates
elected_are_candidates t reports panel seats =
    let P : ℕ → Type 0 = Contains (line_of t panel).candidates in
    let Q : Entry → Type 0 = λ e. P e.number in
    let es = entries_in reports panel (panel_at t panel) in
    let ordered = in_order_too Q es (are_candidates t reports panel) in
    All-map P (λ (e : Entry). e.number) (take seats (with_votes es)) (All-take Q seats (with_votes es) (All-filter has_vote Q (in_order es) ordered))

numbers_are : (reports : List Report) (panel : ℕ) (cs : List NamedCandidate) → map (λ e. e.number) (map (entry_of reports panel) cs) ≡ map (λ c. c.number) cs
numbers_are reports panel [] = refl
numbers_are reports panel (c ∷ cs) = ap (λ (l : List ℕ). c.number ∷ l) (numbers_are reports panel cs)

-- the numbers of the entries rise
pub entries_rise : (t : TablesData) (reports : List Report) (panel : ℕ) → IsTables t → panel < length t.panels
    → IsStrictlyIncreasing (map (λ c. c.number) (entries_in reports panel (panel_at t panel)))
entries_rise t reports panel is lt =
    subst IsStrictlyIncreasing (sym (numbers_are reports panel (panel_at t panel).candidates)) (candidates_rise t is panel lt)

pub nobody_is_elected_twice : NobodyIsElectedTwice
nobody_is_elected_twice t reports panel seats number is lt =
    let es = entries_in reports panel (panel_at t panel) in
    let g : Entry → ℕ = λ e. value_at number 1 e.number in
    let numbers = sum_mapped (value_at number 1) (λ (e : Entry). e.number) (take seats (with_votes es)) in
    let first = sum_by-take-le g (with_votes es) seats in
    let voted = sum_by-filter-le has_vote g (in_order es) in
    let whole = in_order-sum g es in
    let one = own_numbers es (entries_rise t reports panel is lt) number in
    omega (arith, numbers, first, voted, whole, one)

pub elected_have_votes : ElectedHaveVotes
elected_have_votes seats candidates =
    let P : ℕ → Type 0 = λ n. Any (λ (c : Entry). (c.number ≡ n) × (0 < c.votes)) candidates in
    let Q : Entry → Type 0 = λ e. P e.number in
    let there = All-filter has_vote (Contains candidates) (in_order candidates) (in_order_too (Contains candidates) candidates (All-contains_itself candidates)) in
    let vote = filter_passes has_vote (in_order candidates) in
    let all : All Q (with_votes candidates) = λ k d lt.
    let c = get_or (with_votes candidates) k d in
    let place = there k d lt in
    (place.0, c, place.1, place.2, (refl, ltb-true 0 c.votes (vote k d lt))) in
    All-map P (λ (e : Entry). e.number) (take seats (with_votes candidates)) (All-take Q seats (with_votes candidates) all)

pub seats_are_taken : SeatsAreTaken
seats_are_taken seats candidates =
    let numbers = length-map (take seats (with_votes candidates)) (λ (e : Entry). e.number) in
    let first = length-take seats (with_votes candidates) in
    let voted = length-filter has_vote (in_order candidates) in
    let whole = in_order-sum (λ e. cond (has_vote e) 1 0) candidates in
    omega (arith, numbers, first, voted, whole)
