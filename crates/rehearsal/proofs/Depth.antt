-- The generated document is no deeper than three levels.
use Rattle.std.proofs.Common.{◌≡◌, ℕ, ◌≤◌, max, List, [], ◌∷◌, ◌++◌, map, arith, refl, true}
use Rattle.toml.specs.Data.{Data, depth, items_depth, members_depth, members_have_valid_dates}
use Rattle.toml.specs.View.{items_of}
use Rattle.rehearsal.specs.Numbers.{parties, councillors, mayors}
use Rattle.rehearsal.specs.Document.{candidate_table, candidate_tables, party_table, party_tables, document}

items_depth-map : (f : ℕ → Data) (k : ℕ) → ((n : ℕ) → depth (f n) ≤ k) → (xs : List ℕ) → items_depth (items_of (map f xs)) ≤ k
items_depth-map f k low [] = omega arith
items_depth-map f k low (x ∷ xs) = omega (arith, low x, items_depth-map f k low xs)

items_depth-append : (xs ys : List Data) → items_depth (items_of (xs ++ ys)) ≡ max (items_depth (items_of xs)) (items_depth (items_of ys))
items_depth-append [] ys = omega arith
items_depth-append (x ∷ xs) ys = omega (arith, items_depth-append xs ys)

candidates_depth : items_depth (items_of candidate_tables) ≤ 1
candidates_depth = omega (
  arith,
  items_depth-append (map (candidate_table 13) councillors) (map (candidate_table 11) mayors),
  items_depth-map (candidate_table 13) 1 (λ n. omega arith) councillors,
  items_depth-map (candidate_table 11) 1 (λ n. omega arith) mayors,
)

parties_depth : items_depth (items_of party_tables) ≤ 1
parties_depth = items_depth-map party_table 1 (λ n. omega arith) parties

pub members_depth-document : (voters : ℕ) → members_depth (document voters) ≤ 80
unfolding document
members_depth-document voters = omega (arith, candidates_depth, parties_depth)

-- and has no dates
pub dates_valid : (voters : ℕ) → members_have_valid_dates (document voters) ≡ true
unfolding document councillors mayors parties
dates_valid voters = refl
