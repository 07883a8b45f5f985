-- The blocs of the tables, each party and each candidate of one
use Rattle.std.proofs.Common.{◌≡◌, ◌==◌, ◌+◌, ℕ, zero, suc, Bool, true, false, List, [], ◌∷◌, ◌++◌, map, filter, take, slice_get, Some, sum_by, cond, refl, sym, ap, subst, ◌∙◌, inl, inr, arith}
use Rattle.std.specs.Prelude.{nat_eq}
use Rattle.std.specs.List.{AllByRecursion, list_any}
use Rattle.std.specs.List.Sorted.{IsStrictlyIncreasing}
use Rattle.std.proofs.lemmas.Bool.{cases_Bool}
use Rattle.std.proofs.lemmas.Bool.Decides.{nat_tests}
use Rattle.std.proofs.lemmas.List.Elements.{filter_more}
use Rattle.std.proofs.lemmas.Option.{get_or_from_slice_get, slice_get_within}
use Rattle.std.proofs.lemmas.List.Kept.{IsStrictlyIncreasing-filter}
use Rattle.election_tables.specs.Fields.{first_two}
use Rattle.election_tables.specs.TablesData.{IsCandidate, IsTables, TablesData, bloc_of}
use Rattle.election_tables.specs.declared.tables.candidates.NamedCandidate.{NamedCandidate}
use Rattle.election_tables.specs.declared.tables.parties.Party.{Party}
use Rattle.poll_report.specs.declared.report.Report.{Report}
use Rattle.section_intake.proofs.NumberSums.{sum_same, value_at, value_once}
use Rattle.section_intake.specs.Sums.{party_sum}
use Rattle.std.proofs.lemmas.List.Sums.{sum_by-cons}
use Rattle.election_tables.specs.declared.tables.federations.Federation.{Federation}
use Rattle.election_tables.specs.declared.tables.panels.Panel.{Panel}
use Rattle.vote_kinds.specs.Ballot.{panel_at}
use Rattle.seat_remainders.specs.declared.contest.Contestant.{Contestant}
use Rattle.election_tables.proofs.Blocs.{bloc_is_lowest, bloc_is_party}
use Rattle.totals.specs.Contest.{bloc_of_candidate, blocs_of, entries_in, entry_of, parties_of, party_numbers}
use Rattle.totals.specs.Laws.{EachPartyHasOneBloc, WithoutFederations, party_in}

-- blocs rise, since parties do
pub blocs_rise : (t : TablesData) → IsTables t → IsStrictlyIncreasing (blocs_of t)
blocs_rise t is = IsStrictlyIncreasing-filter (λ party. bloc_of t.federations party == party) (party_numbers t) is.parties_rise

-- ---- what is listed

pub party_listed : (x : ℕ) (parties : List Party) → list_any (nat_eq x) (map (λ q. q.number) parties) ≡ list_any (λ q. q.number == x) parties
party_listed x [] = refl
party_listed x (q ∷ parties) =
    let same : nat_eq x q.number ≡ (q.number == x) = elim (cases_Bool (q.number == x)) [
      | inl here ↦ let is : nat_eq x q.number ≡ true = grind (arith, nat_tests) in is ∙ sym here
      | inr other ↦ let is : nat_eq x q.number ≡ false = grind (arith, nat_tests) in is ∙ sym other
    ] in
    rw (same, party_listed x parties) refl

listed_still : (x : ℕ) (test : ℕ → Bool) (ns : List ℕ) → list_any (nat_eq x) ns ≡ true → test x ≡ true → list_any (nat_eq x) (filter test ns) ≡ true
listed_still x test [] there passes = absurd (cc)
listed_still x test (n ∷ ns) there passes = elim (cases_Bool (nat_eq x n)) [
  | inl here ↦
      let same : x ≡ n = grind (arith, nat_tests) in
      let kept : test n ≡ true = ap test (sym same) ∙ passes in
      rw (kept, here) refl
  | inr other ↦ elim (cases_Bool (test n)) [
    | inl kept ↦ rw (kept, other) (listed_still x test ns (rw other at there) passes)
    | inr dropped ↦ rw dropped (listed_still x test ns (rw other at there) passes)
  ]
]

-- the bloc of a party of the tables is one of their blocs
pub bloc_listed : (t : TablesData) (party : ℕ) → IsTables t → list_any (nat_eq party) (party_numbers t) ≡ true
    → list_any (nat_eq (bloc_of t.federations party)) (blocs_of t) ≡ true
bloc_listed t party is listed =
    let number : list_any (nat_eq (bloc_of t.federations party)) (party_numbers t) ≡ true =
    party_listed (bloc_of t.federations party) t.parties ∙ bloc_is_party t party is (sym (party_listed party t.parties) ∙ listed) in
    let same = (bloc_is_lowest t party is).1 in
    let passes : (bloc_of t.federations (bloc_of t.federations party) == bloc_of t.federations party) ≡ true = grind (arith, nat_tests, same) in
    listed_still (bloc_of t.federations party) (λ q. bloc_of t.federations q == q) (party_numbers t) number passes

each_is : (P : ℕ → Type 0) (ns all : List ℕ) → ((n : ℕ) → list_any (nat_eq n) all ≡ true → P n)
    → ((n : ℕ) → list_any (nat_eq n) ns ≡ true → list_any (nat_eq n) all ≡ true) → AllByRecursion P ns
each_is P [] all is within = tt
each_is P (m ∷ ns) all is within =
    let itself : nat_eq m m ≡ true = grind (arith, nat_tests) in (
      is m (within m (rw itself refl)),
      each_is P ns all is (λ n there. within n (elim (cases_Bool (nat_eq n m)) [
        | inl here ↦ rw here refl
        | inr other ↦ rw other there
      ])),
    )

-- so each party is of one of them,
pub parties_listed : (t : TablesData) → IsTables t → AllByRecursion (λ party. list_any (nat_eq (bloc_of t.federations party)) (blocs_of t) ≡ true) (party_numbers t)
parties_listed t is =
    each_is (λ party. list_any (nat_eq (bloc_of t.federations party)) (blocs_of t) ≡ true) (party_numbers t) (party_numbers t) (λ party there. bloc_listed t party is there)
    (λ n there. there)

-- and each candidate
pub candidates_listed : (t : TablesData) → IsTables t → (digits : ℕ) (reports : List Report) (panel : ℕ) (cs : List NamedCandidate)
    → AllByRecursion (IsCandidate digits t.parties) cs
    → AllByRecursion (λ c. list_any (nat_eq (bloc_of_candidate t digits c)) (blocs_of t) ≡ true) (map (entry_of reports panel) cs)
candidates_listed t is digits reports panel [] all = tt
candidates_listed t is digits reports panel (c ∷ cs) all =
    let party = first_two digits c.number in
    (bloc_listed t party is (party_listed party t.parties ∙ all.0.party), candidates_listed t is digits reports panel cs all.1)

-- ---- each party has one bloc

not_of_bloc : (t : TablesData) (party bloc : ℕ) (ns : List ℕ) → (bloc_of t.federations party == bloc) ≡ false
    → list_any (nat_eq party) (filter (λ q. bloc_of t.federations q == bloc) ns) ≡ false
not_of_bloc t party bloc [] other = refl
not_of_bloc t party bloc (n ∷ ns) other = elim (cases_Bool (bloc_of t.federations n == bloc)) [
  | inl own ↦ elim (cases_Bool (nat_eq party n)) [
    | inl here ↦
        let same : n ≡ party = grind (arith, nat_tests) in
        absurd (let both : (bloc_of t.federations party == bloc) ≡ true = ap (λ (m : ℕ). bloc_of t.federations m == bloc) (sym same) ∙ own in cc)
    | inr apart ↦ rw (own, apart) (not_of_bloc t party bloc ns other)
  ]
  | inr none ↦ rw none (not_of_bloc t party bloc ns other)
]

of_bloc : (t : TablesData) (party bloc : ℕ) (ns : List ℕ) → list_any (nat_eq party) ns ≡ true
    → list_any (nat_eq party) (filter (λ q. bloc_of t.federations q == bloc) ns) ≡ (bloc_of t.federations party == bloc)
of_bloc t party bloc [] there = absurd (cc)
of_bloc t party bloc (n ∷ ns) there = elim (cases_Bool (nat_eq party n)) [
  | inl here ↦
      let same : n ≡ party = grind (arith, nat_tests) in
      elim (cases_Bool (bloc_of t.federations n == bloc)) [
        | inl own ↦ rw (own, here) (sym (ap (λ (m : ℕ). bloc_of t.federations m == bloc) (sym same) ∙ own))
        | inr other ↦ rw other (not_of_bloc t party bloc ns (ap (λ (m : ℕ). bloc_of t.federations m == bloc) (sym same) ∙ other) ∙ sym (ap (λ (m : ℕ). bloc_of t.federations m == bloc) (sym same) ∙ other))
      ]
  | inr other ↦
      let rest = of_bloc t party bloc ns (rw other at there) in
      elim (cases_Bool (bloc_of t.federations n == bloc)) [
        | inl own ↦ rw (own, other) rest
        | inr none ↦ rw none rest
      ]
]

pub each_party_has_one_bloc : EachPartyHasOneBloc
each_party_has_one_bloc t party is listed =
    let there = party_listed party t.parties ∙ listed in
    sum_same (λ bloc. cond (list_any (nat_eq party) (parties_of t bloc)) 1 0) (value_at (bloc_of t.federations party) 1) (blocs_of t)
    (λ bloc. ap (λ (b : Bool). cond b 1 0) (of_bloc t party bloc (party_numbers t) there))
    ∙ value_once (bloc_of t.federations party) 1 (blocs_of t) (blocs_rise t is) (bloc_listed t party is there)

-- ---- without federations

-- of numbers that rise the one that is a given one
only_one : (g : ℕ → ℕ) (n : ℕ) (ns : List ℕ) → sum_by g (filter (λ m. m == n) ns) ≡ sum_by (value_at n (g n)) ns
only_one g n [] = refl
only_one g n (m ∷ ns) = elim (cases_Bool (m == n)) [
  | inl here ↦
      let same : m ≡ n = grind (arith, nat_tests) in
      let at : value_at n (g n) m ≡ g m = ap (λ (k : ℕ). value_at k (g k) m) (sym same) ∙ rw (let is : (m == m) ≡ true = grind (arith, nat_tests) in is) refl in
      let left = sum_by-cons g m (filter (λ k. k == n) ns) in
      let right = sum_by-cons (value_at n (g n)) m ns in
      let rest = only_one g n ns in
      rw here (omega (arith, left, right, rest, at))
  | inr other ↦
      let differs : (n == m) ≡ false = grind (arith, nat_tests) in
      let at : value_at n (g n) m ≡ 0 = rw differs refl in
      let right = sum_by-cons (value_at n (g n)) m ns in
      let rest = only_one g n ns in
      rw other (omega (arith, right, rest, at))
]

-- a bloc of which only the party of its number is one
abbrev alone : TablesData → List Report → ℕ → Panel → List Federation → ℕ → Contestant
alone t reports panel p federations bloc = record {
  number = bloc;
  party_votes = sum_by (λ party. party_sum panel party reports) (filter (λ party. bloc_of federations party == bloc) (party_numbers t));
  candidates = filter (λ c. bloc_of federations (first_two p.office.digits c.number) == bloc) (entries_in reports panel p);
}

each_alone : (t : TablesData) (reports : List Report) (panel : ℕ) (p : Panel) (parties : List Party) → IsTables t
    → ((n : ℕ) → list_any (nat_eq n) (map (λ q. q.number) parties) ≡ true → list_any (nat_eq n) (party_numbers t) ≡ true)
    → map (alone t reports panel p []) (filter (λ party. party == party) (map (λ q. q.number) parties)) ≡ map (party_in reports panel p) parties
each_alone t reports panel p [] is within = refl
each_alone t reports panel p (q ∷ parties) is within =
    let n : ℕ = q.number in
    let own : (n == n) ≡ true = grind (arith, nat_tests) in
    let itself : nat_eq n n ≡ true = grind (arith, nat_tests) in
    let g : ℕ → ℕ = λ party. party_sum panel party reports in
    let one = only_one g n (party_numbers t) ∙ value_once n (g n) (party_numbers t) is.parties_rise (within n (rw itself refl)) in
    let rest = each_alone t reports panel p parties is (λ m there. within m (elim (cases_Bool (nat_eq m n)) [
      | inl here ↦ rw here refl
      | inr other ↦ rw other there
    ])) in
    let make : ℕ → Contestant = λ votes. record { number = n; party_votes = votes; candidates = filter (λ c. first_two p.office.digits c.number == n) (entries_in reports panel p) } in
    rw own (ap (λ (v : ℕ). make v ∷ map (alone t reports panel p []) (filter (λ party. party == party) (map (λ q. q.number) parties))) one
    ∙ ap (λ (l : List Contestant). party_in reports panel p q ∷ l) rest)

pub without_federations : WithoutFederations
without_federations t reports panel is none =
    let p = panel_at t panel in
    subst (λ (fs : List Federation). map (alone t reports panel p fs) (filter (λ party. bloc_of fs party == party) (party_numbers t)) ≡ map (party_in reports panel p) t.parties)
    (sym none) (each_alone t reports panel p t.parties is (λ n there. there))

-- ---- the first parties

-- those among the first that pass, with one more
pub one_more : (test : ℕ → Bool) (ns : List ℕ) (i n : ℕ) → slice_get ns i ≡ Some n
    → filter test (take (i + 1) ns) ≡ filter test (take i ns) ++ cond (test n) (n ∷ []) []
one_more test ns i n at =
    filter_more test ns i n (slice_get_within ns i n at) ∙ ap (λ (m : ℕ). filter test (take i ns) ++ cond (test m) (m ∷ []) []) (get_or_from_slice_get ns i n n at)

-- a party at its place is one of them
pub party_there : (ns : List ℕ) (i n : ℕ) → slice_get ns i ≡ Some n → list_any (nat_eq n) ns ≡ true
party_there [] i n at = absurd (cc)
party_there (m ∷ ns) zero n at = let same : m ≡ n = cc in let is : nat_eq n m ≡ true = grind (arith, nat_tests) in rw is refl
party_there (m ∷ ns) (suc i) n at = elim (cases_Bool (nat_eq n m)) [
  | inl here ↦ rw here refl
  | inr other ↦ rw other (party_there ns i n at)
]
