-- The first two of ordered candidates, as `majority` keeps them
use Rattle.std.specs.Prelude.{List, [], ◌∷◌}
use Rattle.seat_remainders.specs.declared.contest.Entry.{Entry}
use Rattle.seat_remainders.specs.declared.majority_rule.Leaders.{Leaders}
use Rattle.seat_remainders.specs.declared.majority_rule.Leaders.TheVariants as leaders

-- the first two, or as many as there are
abbrev pub leaders_of : List Entry → Leaders
leaders_of [] = leaders.None
leaders_of (a ∷ []) = leaders.One a
leaders_of (a ∷ b ∷ others) = leaders.Two a b
