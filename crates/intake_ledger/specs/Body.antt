-- What stands in the body of a slot, place by place, and which bytes stand for a ledger
use Rattle.std.specs.Prelude.{◌≡◌, ℕ, ◌+◌, ◌-◌, ◌*◌, ◌/◌, ◌%◌, ◌^◌, Bool, true, not, ◌&&◌, ◌||◌, ◌==◌, nat_le, nat_lt, if◌then◌else◌, List, length, map, slice_index, Option, Some, None, option_map}
use Rattle.std.specs.Int.{w32, w64, from_be_bytes}
use Rattle.std.specs.List.{count_by, list_all, range_with_len}
use Rattle.urna_outside.specs.Flash.{part}
use Rattle.election_tables.specs.TablesData.{TablesData}
use Rattle.poll_report.specs.Report.{greatest_count}
use Rattle.intake_ledger.specs.Layout.{body_size, hash_size, hashes_offset, marked_sections, marks_end, marks_offset, number_offset, number_size, sum_size, sums_offset, version}
use Rattle.intake_ledger.specs.Ledger.{LedgerData, accepted_in, panel_choices}

-- each place from one up to another passes a test
unfoldable pub all_from : (ℕ → Bool) → ℕ → ℕ → Bool
all_from test from end = list_all test (range_with_len from (end - from))

-- ---- the fields of a body

-- how many sections have a report, as the body says it
abbrev pub number_in : List ℕ → ℕ
number_in bytes = from_be_bytes w32 (part bytes number_offset number_size)

-- the section in a place has a report: its bit is set, the highest bit of a byte being that of the first place
abbrev pub is_marked : List ℕ → ℕ → Bool
is_marked bytes place = slice_index bytes (marks_offset + place / 8) / 2 ^ (7 - place % 8) % 2 == 1

-- how many of the first so many sections have one
unfoldable pub marked_before : ℕ → List ℕ → ℕ
marked_before sections bytes = count_by (is_marked bytes) (range_with_len 0 sections)

-- where the hash of the section in a place stands
abbrev pub hash_offset : ℕ → ℕ
hash_offset place = hashes_offset + hash_size * place

-- the hash of the section in a place
abbrev pub hash_in : List ℕ → ℕ → List ℕ
hash_in bytes place = part bytes (hash_offset place) hash_size

-- where the sum in a place stands
abbrev pub sum_offset : ℕ → ℕ
sum_offset place = sums_offset + sum_size * place

-- the sum in a place
abbrev pub sum_in : List ℕ → ℕ → ℕ
sum_in bytes place = from_be_bytes w64 (part bytes (sum_offset place) sum_size)

-- zeros stand from one place up to another
abbrev pub are_zero : ℕ → ℕ → List ℕ → Bool
are_zero from end bytes = all_from (λ k. slice_index bytes k == 0) from end

-- ---- which bytes stand for a ledger

-- as many bytes as a body has, each below 256
unfoldable pub has_size : List ℕ → Bool
has_size bytes = length bytes == body_size && list_all (λ b. nat_lt b 256) bytes

-- the version stands in front, and zeros up to the number
abbrev pub has_version : List ℕ → Bool
has_version bytes = slice_index bytes 0 == version && are_zero 1 number_offset bytes

-- past the first so many sections no bit is set
abbrev pub no_more_marks : ℕ → List ℕ → Bool
no_more_marks sections bytes = all_from (λ place. not (is_marked bytes place)) sections marked_sections

-- the number is that of the set bits; past the sections no bit is set, and zeros stand up to the hashes
abbrev pub has_marks : ℕ → List ℕ → Bool
has_marks sections bytes =
    number_in bytes == marked_before sections bytes && (no_more_marks sections bytes && are_zero marks_end hashes_offset bytes)

-- where the bit isn't set there are zeros in the place of the hash
abbrev pub has_hash : List ℕ → ℕ → Bool
has_hash bytes place = is_marked bytes place || are_zero (hash_offset place) (hash_offset place + hash_size) bytes

-- so it is in each place
abbrev pub have_hashes : List ℕ → Bool
have_hashes bytes = all_from (has_hash bytes) 0 marked_sections

-- a sum is at most 9,999 for each of so many reports
abbrev pub is_within : ℕ → List ℕ → ℕ → Bool
is_within number bytes place = nat_le (sum_in bytes place) (greatest_count * number)

-- each of so many sums is, for the number that the body says, and behind them there are zeros
abbrev pub has_sums : ℕ → List ℕ → Bool
has_sums sums bytes = all_from (is_within (number_in bytes) bytes) 0 sums && are_zero (sum_offset sums) body_size bytes

-- each field is as it is in a body of a ledger of these tables
unfoldable pub has_fields : TablesData → List ℕ → Bool
has_fields t bytes =
    has_version bytes && (has_marks (length t.sections) bytes && (have_hashes bytes && has_sums (length (panel_choices t)) bytes))

-- the bytes stand for a ledger of these tables
abbrev pub is_body : TablesData → List ℕ → Bool
is_body t bytes = has_size bytes && has_fields t bytes

-- ---- and for which

-- the hash that is kept for the section in a place, if it has a report
abbrev pub kept_in : List ℕ → ℕ → Option (List ℕ)
kept_in bytes place = if is_marked bytes place then Some (hash_in bytes place) else None

-- those of so many sections
abbrev pub hashes_in : ℕ → List ℕ → List (Option (List ℕ))
hashes_in sections bytes = map (kept_in bytes) (range_with_len 0 sections)

-- so many sums
abbrev pub sums_in : ℕ → List ℕ → List ℕ
sums_in sums bytes = map (sum_in bytes) (range_with_len 0 sums)

-- the ledger that stands in some bytes
abbrev pub ledger_in : TablesData → List ℕ → LedgerData
ledger_in t bytes = record { last = hashes_in (length t.sections) bytes; sums = sums_in (length (panel_choices t)) bytes }

-- the bytes stand for this ledger of these tables
pub record StandsFor (t : TablesData) (l : LedgerData) (bytes : List ℕ) : Type 0 where
  pub whole : is_body t bytes ≡ true
  pub same : l ≡ ledger_in t bytes

-- the ledger that some bytes stand for, if they do
unfoldable pub decoded : TablesData → List ℕ → Option LedgerData
decoded t bytes = if is_body t bytes then Some (ledger_in t bytes) else None

-- the rank of a body: how many sections have a report
abbrev pub rank_in : TablesData → List ℕ → Option ℕ
rank_in t bytes = option_map accepted_in (decoded t bytes)
