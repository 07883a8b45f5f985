-- The counts of the first candidates, parties and panels
use Rattle.std.proofs.Common.{◌≡◌, ℕ, zero, suc, ◌+◌, ◌<◌, ◌≤◌, Bool, List, [], ◌∷◌, ◌++◌, map, length, take, slice_get, Some, option_map, inl, inr, refl, sym, ap, ◌∙◌, add-one, arith}
use Rattle.std.specs.Prelude.{nat_lt}
use Rattle.std.specs.List.{filter}
use Rattle.std.proofs.lemmas.Bool.{cases_Bool}
use Rattle.std.proofs.lemmas.List.{take_all}
use Rattle.std.proofs.lemmas.List.Sums.{length-filter, count_by-le-length}
use Rattle.election_tables.specs.TablesData.{TablesData}
use Rattle.election_tables.specs.declared.tables.panels.Panel.{Panel}
use Rattle.vote_kinds.specs.declared.choice.Choice.{Choice}
use Rattle.vote_kinds.specs.Ballot.{panel_at}
use Rattle.vote_record.specs.Bag.{bag_at, count_of}
use Rattle.poll_report.specs.declared.report.Count.{Count}
use Rattle.poll_report.specs.declared.report.OfficeCount.{OfficeCount}
use Rattle.poll_report.specs.Counted.{counted, listed, office_count, counts_of_panels, office_counts}
use Rattle.poll_report.proofs.LineLists.{lines_more, known}

-- ---- numbers

abbrev pub has_votes : Count → Bool
has_votes c = nat_lt 0 c.votes

-- one number more
listed_snoc : (choose : ℕ → Choice) (ns : List ℕ) (n : ℕ) (bag : List Choice) → listed choose (ns ++ n ∷ []) bag ≡ listed choose ns bag ++ filter has_votes (counted choose bag n ∷ [])
listed_snoc choose [] n bag = refl
listed_snoc choose (m ∷ ns) n bag = elim (cases_Bool (nat_lt 0 (count_of (choose m) bag))) [
  | inl t ↦ rw t (ap (λ (l : List Count). counted choose bag m ∷ l) (listed_snoc choose ns n bag))
  | inr f ↦ rw f (listed_snoc choose ns n bag)
]

pub listed_more : {X : Type 0} (choose : ℕ → Choice) (bag : List Choice) (f : X → ℕ) (xs : List X) (i n votes : ℕ) → option_map f (slice_get xs i) ≡ Some n
    → votes ≡ count_of (choose n) bag
    → listed choose (map f (take (i + 1) xs)) bag ≡ listed choose (map f (take i xs)) bag ++ filter has_votes (record { number = n; votes = votes } ∷ [])
listed_more choose bag f xs i n votes there counts =
    ap (λ (ns : List ℕ). listed choose ns bag) (lines_more f xs i n there)
    ∙ listed_snoc choose (map f (take i xs)) n bag
    ∙ ap (λ (k : ℕ). listed choose (map f (take i xs)) bag ++ filter has_votes (record { number = n; votes = k } ∷ [])) (sym counts)

few_first : {X Y : Type 0} (f : X → Y) (xs : List X) (i : ℕ) → length (map f (take i xs)) ≤ i
few_first f xs zero = omega arith
few_first f [] (suc i) = omega arith
few_first f (x ∷ xs) (suc i) = let rest = few_first f xs i in omega arith

-- there are no more of them than numbers
pub few_listed : {X : Type 0} (choose : ℕ → Choice) (bag : List Choice) (f : X → ℕ) (xs : List X) (i : ℕ) → length (listed choose (map f (take i xs)) bag) ≤ i
few_listed choose bag f xs i =
    let ns = map f (take i xs) in
    omega (
      arith,
      length-filter has_votes (map (counted choose bag) ns),
      count_by-le-length has_votes (map (counted choose bag) ns),
      few_first (counted choose bag) ns (length ns),
      few_first f xs i,
      ap (λ (l : List ℕ). length (map (counted choose bag) l)) (take_all (length ns) ns (omega arith)),
    )

-- ---- panels

counts_more : (t : TablesData) (bags : List (List Choice)) (first : ℕ) (panels : List Panel) (i : ℕ) (p : Panel) → slice_get panels i ≡ Some p
    → counts_of_panels t bags first (take (suc i) panels) ≡ counts_of_panels t bags first (take i panels) ++ office_count t p (bag_at bags (first + i)) ∷ []
counts_more t bags first [] i p e = absurd (cc)
counts_more t bags first (q ∷ panels) zero p e =
    let same : q ≡ p = cc in
    ap (λ (r : Panel). office_count t r (bag_at bags first) ∷ []) same ∙ ap (λ (k : ℕ). office_count t p (bag_at bags k) ∷ []) (omega arith)
counts_more t bags first (q ∷ panels) (suc i) p e =
    ap (λ (os : List OfficeCount). office_count t q (bag_at bags first) ∷ os) (counts_more t bags (first + 1) panels i p e)
    ∙ ap (λ (k : ℕ). office_count t q (bag_at bags first) ∷ (counts_of_panels t bags (first + 1) (take i panels) ++ office_count t p (bag_at bags k) ∷ [])) (omega arith)

-- the counts of the first panels
abbrev pub first_counts : TablesData → List (List Choice) → ℕ → List OfficeCount
first_counts t bags i = counts_of_panels t bags 0 (take i t.panels)

pub first_counts_more : (t : TablesData) (bags : List (List Choice)) (i : ℕ) → i < length t.panels
    → first_counts t bags (i + 1) ≡ first_counts t bags i ++ office_count t (panel_at t i) (bag_at bags i) ∷ []
first_counts_more t bags i h =
    ap (λ (k : ℕ). first_counts t bags k) (add-one i)
    ∙ (counts_more t bags 0 t.panels i (panel_at t i) (known t.panels i h)
    ∙ ap (λ (k : ℕ). first_counts t bags i ++ office_count t (panel_at t i) (bag_at bags k) ∷ []) (omega arith))

pub first_counts_all : (t : TablesData) (bags : List (List Choice)) (i : ℕ) → length t.panels ≤ i → first_counts t bags i ≡ office_counts t bags
unfolding office_counts
first_counts_all t bags i h = ap (λ (ps : List Panel). counts_of_panels t bags 0 ps) (take_all i t.panels h)

pub few_counts : (t : TablesData) (bags : List (List Choice)) (first : ℕ) (panels : List Panel) (i : ℕ) → length (counts_of_panels t bags first (take i panels)) ≤ i
few_counts t bags first panels zero = omega arith
few_counts t bags first [] (suc i) = omega arith
few_counts t bags first (p ∷ panels) (suc i) = let rest = few_counts t bags (first + 1) panels i in omega arith
