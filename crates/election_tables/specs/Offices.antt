-- The offices that there are: a table with a row for each code, and what is looked up there.
use Rattle.std.specs.Prelude.{ℕ, List, [], ◌∷◌, Option, Bool, true, false, nat_le, option_map, ◌==◌, ◌&&◌, if◌then◌else◌}
use Rattle.std.specs.List.{find}
use Rattle.std.specs.Option.{option_map_or}
use Rattle.election_tables.specs.Limits.{proportional_seats}
use Rattle.election_tables.specs.declared.office.Kind.{Kind}
use Rattle.election_tables.specs.declared.office.Kind.TheVariants as kind
use Rattle.election_tables.specs.declared.office.Kinds.{Kinds}
use Rattle.election_tables.specs.declared.office.Kinds.TheVariants as by
use Rattle.election_tables.specs.declared.office.OfficeRow.{OfficeRow}

-- president, governor, senator, federal deputy, state deputy, district deputy, mayor and councillor: how many digits a
-- candidate's number has, by which kinds the office may be decided, and its most seats; in some years two senators are elected
abbrev pub office_rows : List OfficeRow
office_rows =
    record { code = 1; digits = 2; kinds = by.EitherMajority; most_seats = 1 }
    ∷ record { code = 3; digits = 2; kinds = by.EitherMajority; most_seats = 1 }
    ∷ record { code = 5; digits = 3; kinds = by.SimpleMajority; most_seats = 2 }
    ∷ record { code = 6; digits = 4; kinds = by.Proportional; most_seats = proportional_seats }
    ∷ record { code = 7; digits = 5; kinds = by.Proportional; most_seats = proportional_seats }
    ∷ record { code = 8; digits = 5; kinds = by.Proportional; most_seats = proportional_seats }
    ∷ record { code = 11; digits = 2; kinds = by.EitherMajority; most_seats = 1 }
    ∷ record { code = 13; digits = 5; kinds = by.Proportional; most_seats = proportional_seats }
    ∷ []

-- no office has a greater code
abbrev pub greatest_code : ℕ
greatest_code = 13

-- the row of a code, if an office has it
unfoldable pub row_of : ℕ → Option OfficeRow
row_of code = find (λ row. code == row.code) office_rows

-- how many digits a candidate's number has
abbrev pub code_digits : ℕ → Option ℕ
code_digits code = option_map (λ row. row.digits) (row_of code)

-- the kinds allow this kind
abbrev pub kinds_allow : Kinds → Kind → Bool
kinds_allow by.Proportional kind.Proportional = true
kinds_allow by.SimpleMajority kind.Simple = true
kinds_allow by.EitherMajority kind.Absolute = true
kinds_allow by.EitherMajority kind.Simple = true
kinds_allow _ _ = false

-- the code allows the kind; one that no office has allows none
abbrev pub allows : ℕ → Kind → Bool
allows code k = option_map_or (λ row. kinds_allow row.kinds k) (row_of code) false

-- deputies and councillors are elected in proportion
abbrev pub code_proportional : ℕ → Bool
code_proportional code = allows code kind.Proportional

-- the most seats of an office; none for a code that no office has
abbrev pub most_seats : ℕ → ℕ
most_seats code = option_map_or (λ row. row.most_seats) (row_of code) 0

-- the votes of a voter for an office of so many seats: one where it is decided in proportion, else one for each seat
abbrev pub places_by : ℕ → ℕ → ℕ
places_by code seats = if code_proportional code then 1 else seats

-- tables may give a voter so many votes for an office
abbrev pub may_have_places : ℕ → ℕ → Bool
may_have_places code places = nat_le 1 places && nat_le places (places_by code (most_seats code))
