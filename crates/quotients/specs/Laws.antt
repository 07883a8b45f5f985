-- What is so of all quotients and averages
use Rattle.std.specs.Prelude.{◌≡◌, ℕ, ◌+◌, ◌*◌, ◌≤◌, ◌<◌, true, false, ◌⊎◌}
use Rattle.quotients.specs.Quotients.{electoral_quotient}
use Rattle.std.specs.Ordering.{is_lt}
use Rattle.quotients.specs.declared.average.Average.{Average}
use Rattle.quotients.specs.Average.{AverageData, is_greater, comes_before}
use Rattle.quotients.specs.Order.{parts_of, average_cmp}

-- a whole number is nearest to votes over seats, and of two that are equally near it is the lower one
abbrev pub IsNearest : ℕ → ℕ → ℕ → Type 0
IsNearest valid seats q = (2 * (seats * q) < 2 * valid + seats) × (2 * valid ≤ 2 * (seats * q) + seats)

-- so is the electoral quotient
abbrev pub QuotientIsNearest : Type 0
QuotientIsNearest = (valid seats : ℕ) → 1 ≤ seats → IsNearest valid seats (electoral_quotient valid seats)

-- and no other number
abbrev pub OnlyQuotientIsNearest : Type 0
OnlyQuotientIsNearest = (valid seats q : ℕ) → 1 ≤ seats → IsNearest valid seats q → q ≡ electoral_quotient valid seats

-- no average comes before itself
abbrev pub NeverBeforeItself : Type 0
NeverBeforeItself = (a : AverageData) → comes_before a a ≡ false

-- of two averages one comes before the other, or they are one
abbrev pub ComeInSomeOrder : Type 0
ComeInSomeOrder = (a b : AverageData) → (comes_before a b ≡ true) ⊎ ((comes_before b a ≡ true) ⊎ (a ≡ b))

-- what comes before an average comes before all that come behind that one; a divisor is at least 1
abbrev pub ComesBeforeAllBehind : Type 0
ComesBeforeAllBehind = (a b c : AverageData) → 1 ≤ a.divisor → 1 ≤ b.divisor → 1 ≤ c.divisor
    → comes_before a b ≡ true → comes_before b c ≡ true → comes_before a c ≡ true

-- and that is the order of the type `Average`
abbrev pub TypeIsInOrder : Type 0
TypeIsInOrder = (a b : Average) → is_lt (average_cmp a b) ≡ comes_before (parts_of a) (parts_of b)

-- a party's average falls as its divisor grows: of two averages of the same votes, at least one, that over the lower divisor is greater
abbrev pub FallsAsDivisorGrows : Type 0
FallsAsDivisorGrows = (a b : AverageData) → 1 ≤ a.votes → a.votes ≡ b.votes → a.divisor < b.divisor → is_greater a b ≡ true
