-- How much the tables and the roll may have.
use Rattle.std.specs.Prelude.{ℕ}

-- the most offices, each of which is a panel of the ballot
abbrev pub most_offices : ℕ
most_offices = 8

-- the most lines of a ballot
abbrev pub most_lines : ℕ
most_lines = 9

-- the most parties
abbrev pub most_parties : ℕ
most_parties = 40

-- the most federations
abbrev pub most_federations : ℕ
most_federations = 20

-- the fewest parties of a federation
abbrev pub fewest_members : ℕ
fewest_members = 2

-- and the most
abbrev pub most_members : ℕ
most_members = 40

-- the most candidates, of all offices together
abbrev pub most_candidates : ℕ
most_candidates = 4096

-- the most sections
abbrev pub most_sections : ℕ
most_sections = 2000

-- the most voters of a section, and so the most titles of a roll
abbrev pub most_voters : ℕ
most_voters = 600

-- the most seats of an office that is decided in proportion
abbrev pub proportional_seats : ℕ
proportional_seats = 200

-- the greatest number of a zone, and of a section
abbrev pub greatest_section : ℕ
greatest_section = 9999

-- the greatest number of an election
abbrev pub greatest_process : ℕ
greatest_process = 99999

-- the most bytes of a name
abbrev pub longest_name : ℕ
longest_name = 70
