-- The order of candidates (arts. 109, paragraph 1, and 110; docs/RULES.md, "The seats")
use Rattle.std.specs.Prelude.{◌≡◌, Bool, true, nat_lt, nat_le, ◌==◌, ◌&&◌, ◌||◌, if◌then◌else◌, List, [], ◌∷◌}
use Rattle.std.specs.List.{AllByRecursion}
use Rattle.seat_remainders.specs.declared.contest.Entry.{Entry}

-- the first candidate stands before the second, or they are one: more votes, of equal votes the older, of one day of birth the lower number
abbrev pub stands_first : Entry → Entry → Bool
stands_first a b = nat_lt b.votes a.votes || (a.votes == b.votes && (nat_lt a.birth b.birth || (a.birth == b.birth && nat_le a.number b.number)))

-- ordered candidates with one more in its place
abbrev pub with_candidate : Entry → List Entry → List Entry
with_candidate c [] = c ∷ []
with_candidate c (d ∷ ordered) = if stands_first c d then c ∷ d ∷ ordered else d ∷ with_candidate c ordered

-- candidates in their order
abbrev pub in_order : List Entry → List Entry
in_order [] = []
in_order (c ∷ candidates) = with_candidate c (in_order candidates)

-- each candidate stands before all that are behind it
abbrev pub AreInOrder : List Entry → Type 0
AreInOrder [] = Unit {0}
AreInOrder (c ∷ candidates) = AllByRecursion (λ d. stands_first c d ≡ true) candidates × AreInOrder candidates
