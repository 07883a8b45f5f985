-- What a change of some bytes of a body leaves as it was, and what it adds
use Rattle.std.specs.Prelude.{◌≡◌, ◌≢◌, ◌⊎◌, ℕ, ◌+◌, ◌*◌, ◌/◌, ◌<◌, true, List, length, slice_get, slice_index, Some}
use Rattle.urna_outside.specs.Confined.{IsInRange}
use Rattle.poll_report.specs.declared.report.Report.{Report}
use Rattle.vote_kinds.specs.declared.choice.Choice.{Choice}
use Rattle.intake_ledger.specs.Body.{hash_in, hash_offset, is_marked, number_in, sum_in}
use Rattle.intake_ledger.specs.Layout.{hash_size, marked_sections, marks_offset, number_offset, number_size, sum_size, sums_offset}
use Rattle.intake_ledger.specs.Ledger.{votes_in}

-- as many bytes, and outside of the places that have In each is as before
pub record KeepsBytes (In : ℕ → Type 0) (old new : List ℕ) : Type 0 where
  pub size : length new ≡ length old
  pub bytes : (k : ℕ) → ¬ In k → slice_index new k ≡ slice_index old k

-- a byte of the number, that with the bit of the section in a place, or one of its hash
abbrev pub IsOfSection : ℕ → ℕ → Type 0
IsOfSection place k = IsInRange number_offset number_size k ⊎ (k ≡ marks_offset + place / 8) ⊎ IsInRange (hash_offset place) hash_size k

-- One section more has a report, that in a place, and this is the hash of the report's last part. All other bytes are as before.
pub record HasSection (place : ℕ) (hash old new : List ℕ) : Type 0 where
  pub number : number_in new ≡ number_in old + 1
  pub marked : is_marked new place ≡ true
  pub others : (other : ℕ) → other < marked_sections → other ≢ place → is_marked new other ≡ is_marked old other
  pub last : hash_in new place ≡ hash
  pub kept : KeepsBytes (IsOfSection place) old new

-- The sums of the first so many of these choices have the votes of a report more; all other bytes are as before.
pub record HasAdded (choices : List (ℕ × Choice)) (r : Report) (many : ℕ) (old new : List ℕ) : Type 0 where
  pub sums : (place : ℕ) (x : ℕ × Choice) → place < many → slice_get choices place ≡ Some x → sum_in new place ≡ sum_in old place + votes_in x r
  pub kept : KeepsBytes (IsInRange sums_offset (sum_size * many)) old new
