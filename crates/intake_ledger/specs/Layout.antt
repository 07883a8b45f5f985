-- Where the fields of a ledger's body stand
use Rattle.std.specs.Prelude.{ℕ, ◌+◌, ◌-◌, ◌*◌}
use Rattle.election_tables.specs.Limits.{most_candidates, most_offices, most_parties}

-- how many bytes a body has
abbrev pub body_size : ℕ
body_size = 262144

-- the version of a body, which is its first byte
abbrev pub version : ℕ
version = 1

-- where the number of accepted sections begins
abbrev pub number_offset : ℕ
number_offset = 4

-- how many bytes it takes
abbrev pub number_size : ℕ
number_size = 4

-- where the marks of the sections begin, a bit for each
abbrev pub marks_offset : ℕ
marks_offset = 8

-- where they end
abbrev pub marks_end : ℕ
marks_end = 258

-- how many sections they have marks for
abbrev pub marked_sections : ℕ
marked_sections = 8 * (marks_end - marks_offset)

-- where the hashes begin, one for each of these sections
abbrev pub hashes_offset : ℕ
hashes_offset = 512

-- how many bytes a hash takes
abbrev pub hash_size : ℕ
hash_size = 64

-- where the sums begin
abbrev pub sums_offset : ℕ
sums_offset = hashes_offset + hash_size * marked_sections

-- how many bytes a sum takes
abbrev pub sum_size : ℕ
sum_size = 8

-- the most sums that tables need: one for each candidate, and in each panel one for each party, blank and null
abbrev pub most_sums : ℕ
most_sums = most_candidates + most_offices * (most_parties + 2)
