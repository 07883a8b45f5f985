-- Worked rows: what the three texts spell for one voter, and what 400 voters vote.
use Rattle.std.proofs.Common.{◌≡◌, ℕ, ◌+◌, ◌*◌, ◌/◌, ◌==◌, Bool, true, false, not, ◌&&◌, [], ◌∷◌, map, length, is_some, refl, codes}
use Rattle.std.specs.List.{range_with_len, filter, flat_map}
use Rattle.std.specs.Option.{option_map_or}
use Rattle.urna_base.specs.Digits.{padded}
use Rattle.key_script.specs.declared.keys.Key.TheVariants as key
use Rattle.key_script.specs.declared.keys.ClerkKey.TheVariants.{Abre, Titulo, Libera, Encerra}
use Rattle.key_script.specs.declared.keys.Event.TheVariants.{Clerk, Voter}
use Rattle.rehearsal.specs.declared.typing.Typed.{Typed}
use Rattle.rehearsal.specs.declared.typing.Typed.TheVariants.{Five, Two, Blank}
use Rattle.rehearsal.specs.Numbers.{councillors, mayors, parties}
use Rattle.rehearsal.specs.Roll.{roll_text, generated_roll}
use Rattle.rehearsal.specs.Script.{generated_events, script_text}
use Rattle.rehearsal.specs.Tables.{generated_tables}
use Rattle.rehearsal.specs.Typing.{TypedPair, is_suspended, typed_at}

-- ---- one voter

candidates_of_one : map (λ p. length p.candidates) (generated_tables 1 []).panels ≡ 1000 ∷ 6 ∷ []
unfolding councillors parties mayors
candidates_of_one = refl

title_of_one : (generated_roll 1 []).titles ≡ 100000000000 ∷ []
title_of_one = refl

roll_of_one : roll_text 1 ≡ codes "100000000000\n"
unfolding padded
roll_of_one = refl

script_of_one : script_text 1 ≡ codes "M ABRE 20261004080000\nM TITULO 100000000000\nM LIBERA\nE 10100C\nE 10C\nM ENCERRA 20261004170000\n"
unfolding padded
script_of_one = refl

events_of_one : generated_events 1
    ≡ Clerk (Abre 20261004080000)
    ∷ Clerk (Titulo 100000000000)
    ∷ Clerk Libera
    ∷ Voter (key.Digit 1) ∷ Voter (key.Digit 0) ∷ Voter (key.Digit 1) ∷ Voter (key.Digit 0) ∷ Voter (key.Digit 0) ∷ Voter key.Confirm
    ∷ Voter (key.Digit 1) ∷ Voter (key.Digit 0) ∷ Voter key.Confirm
    ∷ Clerk (Encerra 20261004170000)
    ∷ []
unfolding padded
events_of_one = refl

-- ---- 400 voters

abbrev count : (ℕ → Bool) → ℕ
count is = length (filter is (range_with_len 0 400))

came : count (λ place. is_some (typed_at place)) ≡ 320
came = refl

suspended : count is_suspended ≡ 5
suspended = refl

-- the voter at the place comes and types such a pair
abbrev types : (TypedPair → Bool) → ℕ → Bool
types is place = option_map_or is (typed_at place) false

abbrev is_of_party : ℕ → Typed → Bool
is_of_party party (Five number) = number / 1000 == party
is_of_party party (Two number) = number == party
is_of_party party Blank = false

abbrev has_number : ℕ → Typed → Bool
has_number n (Five number) = number == n
has_number n (Two number) = number == n
has_number n Blank = false

abbrev is_blank : Typed → Bool
is_blank Blank = true
is_blank _ = false

-- panel 1: the votes of the parties, those of their candidates too
votes_of_parties :
    map (λ party. count (types (λ pair. is_of_party party pair.0))) (10 ∷ 11 ∷ 12 ∷ 13 ∷ 14 ∷ 15 ∷ [])
    ≡ 100 ∷ 80 ∷ 60 ∷ 20 ∷ 20 ∷ 0 ∷ []
votes_of_parties = refl

abbrev votes_in_first : ℕ → ℕ
votes_in_first n = count (types (λ pair. has_number n pair.0))

party_votes : map votes_in_first (10 ∷ 11 ∷ 12 ∷ 13 ∷ 14 ∷ []) ≡ 20 ∷ 0 ∷ 20 ∷ 0 ∷ 0 ∷ []
party_votes = refl

-- the first three candidates of parties 10 to 14
votes_of_councillors :
    map votes_in_first (flat_map (λ party. range_with_len (1000 * party + 100) 3) (range_with_len 10 5))
    ≡ 32 ∷ 32 ∷ 16 ∷ 32 ∷ 32 ∷ 16 ∷ 16 ∷ 16 ∷ 8 ∷ 8 ∷ 8 ∷ 4 ∷ 8 ∷ 8 ∷ 4 ∷ []
votes_of_councillors = refl

blanks_in_first : count (types (λ pair. is_blank pair.0)) ≡ 40
blanks_in_first = refl

-- panel 2: whoever is suspended types nothing there
abbrev types_second : (Typed → Bool) → ℕ → Bool
types_second is place = not (is_suspended place) && types (λ pair. is pair.1) place

votes_of_mayors :
    map (λ mayor. count (types_second (has_number mayor))) (10 ∷ 11 ∷ 12 ∷ 13 ∷ 14 ∷ 15 ∷ [])
    ≡ 100 ∷ 55 ∷ 40 ∷ 20 ∷ 20 ∷ 20 ∷ []
votes_of_mayors = refl

-- number 99 is nobody's
nulls_in_second : count (types_second (has_number 99)) ≡ 40
nulls_in_second = refl

blanks_in_second : count (types_second is_blank) ≡ 20
blanks_in_second = refl
