-- Where the fields of a body stand (docs/FORMATS.md, "The body"). Both versions have the same head.
use Rattle.std.specs.Prelude.{ℕ, ◌*◌}

-- how many bytes a body has
abbrev pub body_size : ℕ
body_size = 65536

-- the version of the image that is written, which is the first byte
abbrev pub version : ℕ
version = 2

-- the version that is read besides
abbrev pub first_version : ℕ
first_version = 1

-- the byte of the phase
abbrev pub phase_offset : ℕ
phase_offset = 1

-- where the opening moment begins
abbrev pub opening_offset : ℕ
opening_offset = 2

-- where the closing moment begins
abbrev pub closing_offset : ℕ
closing_offset = 10

-- where the number of those who came begins
abbrev pub count_offset : ℕ
count_offset = 18

-- where the marks of those who came begin
abbrev pub turnout_offset : ℕ
turnout_offset = 22

-- how many bytes the marks of those who came take
abbrev pub turnout_size : ℕ
turnout_size = 75

-- how many places they have marks for
abbrev pub turnout_places : ℕ
turnout_places = 8 * turnout_size

-- the byte of the number of panels
abbrev pub panels_offset : ℕ
panels_offset = 97

-- how many bytes the head has, in which all these fields stand
abbrev pub head_size : ℕ
head_size = 98

-- how many bytes stand in a bag of the first version before its votes
abbrev pub bag_head_size : ℕ
bag_head_size = 4

-- how many bytes a vote takes there
abbrev pub vote_size : ℕ
vote_size = 5

-- where the counters begin
abbrev pub counters_offset : ℕ
counters_offset = 512

-- how many bytes a counter takes
abbrev pub counter_size : ℕ
counter_size = 4
