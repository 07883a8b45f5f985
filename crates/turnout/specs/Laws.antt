-- What is so of all marks: they are a set of places, and a new mark makes it one larger
use Rattle.std.specs.Prelude.{◌≡◌, ◌≢◌, ℕ, ◌+◌, ◌<◌, ◌≤◌, Bool, true, false, List, length, slice_set, replicate}
use Rattle.turnout.specs.Turnout.{has_come, number_came}

abbrev pub NobodyCame : Type 0
NobodyCame = (voters place : ℕ) → (has_come (replicate voters false) place ≡ false) × (number_came (replicate voters false) ≡ 0)

abbrev pub MarkedComes : Type 0
MarkedComes = (came : List Bool) (place : ℕ) → place < length came → has_come (slice_set came place true) place ≡ true

abbrev pub OthersStay : Type 0
OthersStay = (came : List Bool) (place other : ℕ) → other ≢ place → has_come (slice_set came place true) other ≡ has_come came other

abbrev pub CountsOneMore : Type 0
CountsOneMore = (came : List Bool) (place : ℕ) → place < length came → has_come came place ≡ false → number_came (slice_set came place true) ≡ number_came came + 1

abbrev pub AtMostAll : Type 0
AtMostAll = (came : List Bool) → number_came came ≤ length came

-- marks of as many places are known by who came
abbrev pub KnownByWhoCame : Type 0
KnownByWhoCame = (a b : List Bool) → length a ≡ length b → ((place : ℕ) → has_come a place ≡ has_come b place) → a ≡ b
