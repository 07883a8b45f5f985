-- The order of the type `Average`. The law `averages` says that it is the order of specs/Average.antt.
use Rattle.std.specs.Prelude.{◌*◌}
use Rattle.std.specs.Ordering.{nat_cmp, on, flip_args, then_cmp}
use Rattle.std.specs.declared.cmp.Ordering.{Ordering}
use Rattle.quotients.specs.Average.{AverageData}
use Rattle.quotients.specs.declared.average.Average.{Average}

-- the three parts of an average
abbrev pub parts_of : Average → AverageData
parts_of a = record { votes = a.votes; divisor = a.divisor; party = a.party }

-- the greater quotient first, by products
abbrev pub quotient_cmp : Average → Average → Ordering
quotient_cmp a b = nat_cmp (b.votes * a.divisor) (a.votes * b.divisor)

-- of equal quotients more votes, then the lower party, then the lower divisor
abbrev pub equal_cmp : Average → Average → Ordering
equal_cmp = then_cmp (flip_args (on (λ a. a.votes) nat_cmp)) (then_cmp (on (λ a. a.party) nat_cmp) (on (λ a. a.divisor) nat_cmp))

-- both
abbrev pub average_cmp : Average → Average → Ordering
average_cmp = then_cmp quotient_cmp equal_cmp
