-- The votes of a contest: those of its parties and of its candidates, each of one bloc
use Rattle.std.proofs.Common.{◌≡◌, ◌==◌, ◌+◌, ◌≤◌, ℕ, true, List, [], ◌∷◌, map, filter, sum_by, refl, inl, inr, ◌∙◌, arith}
use Rattle.std.specs.List.{AllByRecursion, list_any}
use Rattle.std.specs.List.Sorted.{IsStrictlyIncreasing}
use Rattle.std.specs.Prelude.{nat_eq}
use Rattle.std.proofs.lemmas.Bool.{cases_Bool}
use Rattle.std.proofs.lemmas.List.Sums.{sum_by-cons}
use Rattle.election_tables.specs.TablesData.{TablesData, bloc_of}
use Rattle.election_tables.specs.declared.tables.candidates.NamedCandidate.{NamedCandidate}
use Rattle.election_tables.specs.declared.tables.panels.Panel.{Panel}
use Rattle.poll_report.specs.declared.report.Report.{Report}
use Rattle.section_intake.specs.Sums.{nominal_sum, party_sum}
use Rattle.section_intake.proofs.NumberSums.{sum_both, sum_same, sum_zero, value_at, value_at_most, value_once}
use Rattle.seat_remainders.specs.Parties.{nominal_votes, valid_votes, votes_of}
use Rattle.seat_remainders.specs.declared.contest.Entry.{Entry}
use Rattle.totals.specs.Contest.{bloc_of_candidate, contestant_in, entries_in, entry_of, party_numbers}
use Rattle.totals.specs.Giving.{candidates_of, party_votes_for}

pub sum_mapped : {X Y : Type 0} (f : Y → ℕ) (g : X → Y) (xs : List X) → sum_by f (map g xs) ≡ sum_by (λ x. f (g x)) xs
sum_mapped f g [] = refl
sum_mapped {X} f g (x ∷ xs) =
    let left = sum_by-cons f (g x) (map g xs) in
    let right = sum_by-cons (λ (y : X). f (g y)) x xs in
    let rest = sum_mapped f g xs in
    omega (arith, left, right, rest)

-- the candidates have the nominal votes of their numbers
pub entries_sum : (reports : List Report) (panel : ℕ) (cs : List NamedCandidate)
    → nominal_votes (map (entry_of reports panel) cs) ≡ sum_by (λ n. nominal_sum panel n reports) (map (λ c. c.number) cs)
entries_sum reports panel cs =
    let left = sum_mapped (λ (e : Entry). e.votes) (entry_of reports panel) cs in
    let right = sum_mapped (λ n. nominal_sum panel n reports) (λ (c : NamedCandidate). c.number) cs in
    omega (arith, left, right)

-- ---- number by number

-- what those of the elements count whose key is one of these numbers
abbrev pub of_all : {X : Type 0} → (X → ℕ) → (X → ℕ) → List ℕ → List X → ℕ
of_all f key ns xs = sum_by (λ n. sum_by f (filter (λ x. key x == n) xs)) ns

none_of_all : {X : Type 0} (f key : X → ℕ) (ns : List ℕ) → of_all f key ns [] ≡ 0
none_of_all f key ns = sum_zero (λ (n : ℕ). sum_by f []) ns (λ n. refl)

split_one : {X : Type 0} (f key : X → ℕ) (x : X) (xs : List X) (n : ℕ)
    → sum_by f (filter (λ y. key y == n) (x ∷ xs)) ≡ value_at (key x) (f x) n + sum_by f (filter (λ y. key y == n) xs)
split_one {X} f key x xs n = elim (cases_Bool (key x == n)) [
  | inl is ↦ let cons = sum_by-cons f x (filter (λ (y : X). key y == n) xs) in rw is cons
  | inr other ↦ rw other (omega arith)
]

one_of_all : {X : Type 0} (f key : X → ℕ) (x : X) (ns : List ℕ) (xs : List X)
    → of_all f key ns (x ∷ xs) ≡ sum_by (value_at (key x) (f x)) ns + of_all f key ns xs
one_of_all {X} f key x ns xs =
    sum_same (λ n. sum_by f (filter (λ (y : X). key y == n) (x ∷ xs))) (λ n. value_at (key x) (f x) n + sum_by f (filter (λ (y : X). key y == n) xs)) ns
    (split_one f key x xs)
    ∙ sum_both (value_at (key x) (f x)) (λ n. sum_by f (filter (λ (y : X). key y == n) xs)) ns

-- each element has one number at most,
pub once_at_most : {X : Type 0} (f key : X → ℕ) (ns : List ℕ) (xs : List X) → IsStrictlyIncreasing ns → of_all f key ns xs ≤ sum_by f xs
once_at_most f key ns [] rise = let none = none_of_all f key ns in omega arith
once_at_most f key ns (x ∷ xs) rise =
    let split = one_of_all f key x ns xs in
    let this = value_at_most (key x) (f x) ns rise in
    let rest = once_at_most f key ns xs rise in
    let cons = sum_by-cons f x xs in
    omega (arith, split, this, rest, cons)

-- and one where its key is among them
pub each_once : {X : Type 0} (f key : X → ℕ) (ns : List ℕ) (xs : List X) → IsStrictlyIncreasing ns
    → AllByRecursion (λ x. list_any (nat_eq (key x)) ns ≡ true) xs → of_all f key ns xs ≡ sum_by f xs
each_once f key ns [] rise all = none_of_all f key ns
each_once f key ns (x ∷ xs) rise all =
    let split = one_of_all f key x ns xs in
    let this = value_once (key x) (f x) ns rise all.0 in
    let rest = each_once f key ns xs rise all.1 in
    let cons = sum_by-cons f x xs in
    omega (arith, split, this, rest, cons)

-- the valid votes of blocs are the party votes of their parties and the votes of their candidates
pub blocs_sum : (t : TablesData) (reports : List Report) (panel : ℕ) (p : Panel) (blocs : List ℕ)
    → valid_votes (map (contestant_in t reports panel p) blocs)
    ≡ of_all (λ q. party_sum panel q reports) (bloc_of t.federations) blocs (party_numbers t)
    + of_all (λ c. c.votes) (bloc_of_candidate t p.office.digits) blocs (entries_in reports panel p)
blocs_sum t reports panel p [] = refl
blocs_sum t reports panel p (b ∷ blocs) =
    let es = entries_in reports panel p in
    let all = sum_by-cons votes_of (contestant_in t reports panel p b) (map (contestant_in t reports panel p) blocs) in
    let party = sum_by-cons (λ n. party_votes_for t reports panel n) b blocs in
    let own = sum_by-cons (λ n. nominal_votes (candidates_of t p.office.digits n es)) b blocs in
    let more = blocs_sum t reports panel p blocs in
    omega (arith, all, party, own, more)
