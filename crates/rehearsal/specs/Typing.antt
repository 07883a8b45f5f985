-- Which voters come, and what each of them types.
use Rattle.std.specs.Prelude.{ℕ, ◌+◌, ◌-◌, ◌*◌, ◌/◌, ◌%◌, ◌^◌, ◌<◌, ◌==◌, Bool, List, [], ◌∷◌, ◌++◌, map, Option, None, Some, if◌then◌else◌}
use Rattle.std.specs.List.{list_any}
use Rattle.urna_base.specs.Digits.{padded}
use Rattle.key_script.specs.declared.keys.Key.{Key}
use Rattle.key_script.specs.declared.keys.Key.TheVariants as key
use Rattle.rehearsal.specs.declared.typing.Typed.{Typed}
use Rattle.rehearsal.specs.declared.typing.Typed.TheVariants.{Five, Two, Blank}

-- the keys of a number's digits
abbrev pub digit_keys : ℕ → ℕ → List Key
digit_keys digits number = map (λ c. key.Digit (c - 48)) (padded digits number)

-- the keys of what is typed: five digits, two digits, or BRANCO
abbrev pub choice_keys : Typed → List Key
choice_keys (Five number) = digit_keys 5 number
choice_keys (Two number) = digit_keys 2 number
choice_keys Blank = key.Blank ∷ []

-- and then CONFIRMA
abbrev pub typed_keys : Typed → List Key
typed_keys typed = choice_keys typed ++ key.Confirm ∷ []

-- a number has no more digits than are typed
abbrev pub IsTyped : Typed → Type 0
IsTyped (Five number) = number < 10 ^ 5
IsTyped (Two number) = number < 10 ^ 2
IsTyped Blank = Unit {0}

-- what a voter types in panel 1 and in panel 2
abbrev pub TypedPair : Type 0
TypedPair = Typed × Typed

-- neither number has more digits than are typed
abbrev pub IsTypedPair : TypedPair → Type 0
IsTypedPair pair = IsTyped pair.0 × IsTyped pair.1

-- a party's candidate whom the voter at a place types: the first one at the first 160 places, the next one at the next 160, and so on
abbrev pub councillor_at : ℕ → ℕ → Typed
councillor_at place party = Five (1000 * party + 100 + place / 20 / 8)

-- remainders by 20, and what the voters at places with such a remainder type
abbrev pub TypingRow : Type 0
TypingRow = List ℕ × TypedPair

-- in panel 1 a candidate, a party or BRANCO; in panel 2 a candidate, BRANCO or 99, which is nobody's number
abbrev pub typing_rows : ℕ → List TypingRow
typing_rows place =
    (0 ∷ 1 ∷ 2 ∷ 5 ∷ [], (councillor_at place 10, Two 10))
    ∷ (3 ∷ [], (Two 10, Two 10))
    ∷ (6 ∷ 7 ∷ 10 ∷ [], (councillor_at place 11, Two 11))
    ∷ (11 ∷ [], (councillor_at place 11, Two 12))
    ∷ (12 ∷ [], (councillor_at place 12, Two 12))
    ∷ (13 ∷ [], (Two 12, Two 13))
    ∷ (15 ∷ [], (councillor_at place 12, Two 14))
    ∷ (16 ∷ [], (councillor_at place 13, Two 15))
    ∷ (17 ∷ [], (councillor_at place 14, Blank))
    ∷ (8 ∷ 18 ∷ [], (Blank, Two 99))
    ∷ []

-- the row that has the remainder, if one has it
abbrev pub row_with : ℕ → List TypingRow → Option TypedPair
row_with remainder [] = None
row_with remainder (row ∷ rows) = if list_any (λ r. remainder == r) row.0 then Some row.1 else row_with remainder rows

-- what the voter at a place types; a voter whose remainder is in no row (4, 9, 14, 19) doesn't come
abbrev pub typed_at : ℕ → Option TypedPair
typed_at place = row_with (place % 20) (typing_rows place)

-- the clerk suspends the voter at a place behind panel 1
abbrev pub is_suspended : ℕ → Bool
is_suspended place = place % 80 == 7
