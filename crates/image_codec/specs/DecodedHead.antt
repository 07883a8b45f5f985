-- What stands in the head of a body, of whichever version, read from left to right
use Rattle.std.specs.Prelude.{ℕ, ◌-◌, ◌/◌, ◌%◌, ◌^◌, Bool, true, not, ◌&&◌, ◌==◌, nat_le, if◌then◌else◌, List, map, take, drop, slice_index, Option, Some, None}
use Rattle.std.specs.Option.{option_and_then}
use Rattle.std.specs.List.{list_all, range_with_len}
use Rattle.urna_base.specs.Moment.{is_moment}
use Rattle.turnout.specs.Turnout.{number_came}
use Rattle.turnout.specs.declared.phase.Phase.{Phase}
use Rattle.turnout.specs.declared.phase.Phase.TheVariants as phase
use Rattle.image_codec.specs.Layout.{closing_offset, count_offset, opening_offset, panels_offset, phase_offset, turnout_offset, turnout_places, turnout_size}
use Rattle.image_codec.specs.Numbers.{number4_at, number8_at}

-- The phase

-- the phase of a byte and two moments, each of which is what the phase has
unfoldable pub phase_with : ℕ → ℕ → ℕ → Option Phase
phase_with code opened closed =
    if code == 0 then (if opened == 0 && closed == 0 then Some phase.Ready else None)
    else (if code == 1 then (if is_moment opened && closed == 0 then Some (phase.Polling opened) else None)
    else (if code == 2 then (if is_moment opened && is_moment closed && nat_le opened closed then Some (phase.Sealed opened closed) else None)
    else None))

-- before the poll nobody came
abbrev pub is_started : Phase → ℕ → Bool
is_started phase.Ready n = n == 0
is_started (phase.Polling opened) n = true
is_started (phase.Sealed opened closed) n = true

-- Who came

-- whether a place is marked, in the bytes of the turnout
abbrev pub is_marked : List ℕ → ℕ → Bool
is_marked field place = slice_index field (place / 8) / 2 ^ (7 - place % 8) % 2 == 1

-- the marks of so many voters
unfoldable pub marks_in : ℕ → List ℕ → List Bool
marks_in voters field = map (is_marked field) (range_with_len 0 voters)

-- no place past the roll is marked
unfoldable pub has_no_more : ℕ → List ℕ → Bool
has_no_more voters field = list_all (λ place. not (is_marked field place)) (range_with_len voters (turnout_places - voters))

-- the bytes of the turnout
abbrev pub turnout_of : List ℕ → List ℕ
turnout_of bytes = take turnout_size (drop turnout_offset bytes)

-- The head

-- so many came, none of them past the roll, and there are so many panels
unfoldable pub has_counts : ℕ → ℕ → ℕ → List ℕ → Bool
has_counts voters n panels bytes =
    number4_at bytes count_offset == n && has_no_more voters (turnout_of bytes) && slice_index bytes panels_offset == panels

-- the phase, if all of the head but its version is as it is written
unfoldable pub phase_in : ℕ → ℕ → List ℕ → Option Phase
phase_in voters panels bytes =
    let n : ℕ = number_came (marks_in voters (turnout_of bytes)) in
    if has_counts voters n panels bytes
    then option_and_then (λ p. if is_started p n then Some p else None) (phase_with (slice_index bytes phase_offset) (number8_at bytes opening_offset) (number8_at bytes closing_offset))
    else None
