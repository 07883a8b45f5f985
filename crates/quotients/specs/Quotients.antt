-- The quotients of the seat law (docs/RULES.md, "The seats") and its three minimums. They are told in whole
-- numbers: a percentage is never rounded.
use Rattle.std.specs.Prelude.{ℕ, ◌+◌, ◌*◌, ◌/◌, ◌%◌, Bool, nat_le, if◌then◌else◌}

-- art. 106: the electoral quotient, valid votes over seats; a fraction of at most one half is dropped, a larger one counts as one
abbrev pub electoral_quotient : ℕ → ℕ → ℕ
electoral_quotient valid seats = valid / seats + (if nat_le (2 * (valid % seats)) seats then 0 else 1)

-- art. 107: the party quotient, a party's valid votes over the electoral quotient, the fraction dropped
abbrev pub party_quotient : ℕ → ℕ → ℕ
party_quotient votes qe = votes / qe

-- art. 108: a candidate's votes are at least 10% of the electoral quotient
abbrev pub has_tenth : ℕ → ℕ → Bool
has_tenth votes qe = nat_le qe (10 * votes)

-- art. 109, paragraph 2: a candidate's votes are at least 20% of it
abbrev pub has_fifth : ℕ → ℕ → Bool
has_fifth votes qe = nat_le qe (5 * votes)

-- art. 109, paragraph 2: a party's votes are at least 80% of it
abbrev pub has_four_fifths : ℕ → ℕ → Bool
has_four_fifths votes qe = nat_le (4 * qe) (5 * votes)
