-- A key and its value set in a table.
use Rattle.std.specs.Prelude.{ℕ, List}
use Rattle.std.specs.Ordering.{nat_cmp, match_ordering}
use Rattle.std.specs.Cmp.Lexicographic.{slice_cmp}
use Rattle.toml.specs.Data.{Data, Members, no_members, member}

-- the members with this value at the key: in front of the first key above it, or in the place of the value that the key had
abbrev pub with_member : List ℕ → Data → Members → Members
with_member key value no_members = member key value no_members
with_member key value (member other old ms) =
    match_ordering (slice_cmp nat_cmp key other)
    (member key value (member other old ms))
    (member other value ms)
    (member other old (with_member key value ms))
