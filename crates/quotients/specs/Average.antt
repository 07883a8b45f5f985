-- Averages (art. 109, I) and their order
use Rattle.std.specs.Prelude.{ℕ, ◌*◌, Bool, nat_lt, ◌==◌, ◌&&◌, ◌||◌}

-- an average of a party: its valid votes over a divisor; its next average is that over its seats so far plus one
pub record AverageData : Type 0 where
  pub votes : ℕ
  pub divisor : ℕ
  pub party : ℕ

-- the first average is greater; two fractions are compared by products, so that nothing is rounded
abbrev pub is_greater : AverageData → AverageData → Bool
is_greater a b = nat_lt (b.votes * a.divisor) (a.votes * b.divisor)

-- both are equal
abbrev pub is_equal : AverageData → AverageData → Bool
is_equal a b = a.votes * b.divisor == b.votes * a.divisor

-- among equal averages: more votes, then the lower party, and of one party the lower divisor
abbrev pub precedes_equal : AverageData → AverageData → Bool
precedes_equal a b = nat_lt b.votes a.votes || (a.votes == b.votes && (nat_lt a.party b.party || (a.party == b.party && nat_lt a.divisor b.divisor)))

-- the first average comes before the second: it is greater, or precedes an equal one
abbrev pub comes_before : AverageData → AverageData → Bool
comes_before a b = is_greater a b || (is_equal a b && precedes_equal a b)
