-- Worked rows of the definitions.
use Rattle.std.proofs.Common.{◌≡◌, ℕ, true, false, List, [], ◌∷◌, ◌++◌, refl, Some, None}
use Rattle.std.specs.Prelude.{codes, replicate}
use Rattle.std.specs.List.{flat_map}
use Rattle.std.specs.Str.{chars, is_utf8}
use Rattle.std.specs.Char.{encode_utf8}
use Rattle.urna_base.specs.Digits.{digits_value}
use Rattle.urna_base.specs.Lines.{lines_of}
use Rattle.urna_base.specs.Moment.{is_date, is_moment}
use Rattle.key_script.specs.declared.keys.Key.TheVariants.{Digit, Blank, Correct, Confirm}
use Rattle.key_script.specs.declared.keys.ClerkKey.TheVariants.{Abre, Titulo, Libera, Encerra}
use Rattle.key_script.specs.declared.keys.Event.TheVariants.{Clerk, Voter}
use Rattle.key_script.specs.Names.{is_name, names_of, first_bad_name}
use Rattle.key_script.specs.Script.{clerk_line, events_of_keys, voter_line, events_of_line, events_of, first_bad}

abbrev feed : List ℕ
feed = 10 ∷ []

-- one voter, from the opening to the closing; the last line has no line feed
one_voter : events_of (codes "M ABRE 20261004080000" ++ feed ++ codes "M TITULO 010000000001" ++ feed ++ codes "M LIBERA" ++ feed ++ codes "E 13C" ++ feed ++ codes "M ENCERRA 20261004170000") ≡ Some (Clerk (Abre 20261004080000) ∷ Clerk (Titulo 10000000001) ∷ Clerk Libera ∷ Voter (Digit 1) ∷ Voter (Digit 3) ∷ Voter Confirm ∷ Clerk (Encerra 20261004170000) ∷ [])
unfolding events_of lines_of events_of_line voter_line clerk_line events_of_keys digits_value is_moment is_date
one_voter = refl

second_line_bad : first_bad (codes "E 12" ++ feed ++ codes "E 1X") ≡ Some 2
unfolding first_bad lines_of events_of_line voter_line clerk_line events_of_keys
second_line_bad = refl

no_events_of_a_bad_text : events_of (codes "E 12" ++ feed ++ codes "E 1X") ≡ None
unfolding events_of lines_of events_of_line voter_line clerk_line events_of_keys
no_events_of_a_bad_text = refl

an_empty_text : events_of [] ≡ Some []
unfolding events_of lines_of
an_empty_text = refl

an_empty_line : first_bad (codes "E B" ++ feed ++ feed) ≡ Some 2
unfolding first_bad lines_of events_of_line voter_line clerk_line events_of_keys
an_empty_line = refl

no_moment : events_of_line (codes "M ABRE 20261304080000") ≡ None
unfolding events_of_line voter_line clerk_line digits_value is_moment is_date
no_moment = refl

two_spaces : events_of_line (codes "E  1") ≡ None
unfolding events_of_line voter_line clerk_line events_of_keys
two_spaces = refl

no_key : events_of_line (codes "E ") ≡ None
unfolding events_of_line voter_line clerk_line
no_key = refl

title_of_11_digits : events_of_line (codes "M TITULO 10000000001") ≡ None
unfolding events_of_line voter_line clerk_line digits_value
title_of_11_digits = refl

all_four_kinds : events_of_line (codes "E 0BRC") ≡ Some (Voter (Digit 0) ∷ Voter Blank ∷ Voter Correct ∷ Voter Confirm ∷ [])
unfolding events_of_line voter_line events_of_keys
all_four_kinds = refl

no_names : names_of [] ≡ Some []
unfolding names_of lines_of
no_names = refl

-- the last line has no line feed
two_names : names_of (codes "a.bu" ++ feed ++ codes "b.bu") ≡ Some (codes "a.bu" ∷ codes "b.bu" ∷ [])
unfolding names_of lines_of is_name is_utf8 chars encode_utf8
two_names = refl

no_names_of_an_empty_line : names_of (codes "a.bu" ++ feed ++ feed) ≡ None
unfolding names_of lines_of is_name is_utf8 chars encode_utf8
no_names_of_an_empty_line = refl

an_empty_line_of_a_list : first_bad_name (codes "a.bu" ++ feed ++ feed) ≡ Some 2
unfolding first_bad_name lines_of is_name is_utf8 chars encode_utf8
an_empty_line_of_a_list = refl

-- a carriage return is a byte of the name
with_carriage_return : is_name (97 ∷ 13 ∷ []) ≡ true
unfolding is_name is_utf8 chars encode_utf8
with_carriage_return = refl

with_zero : is_name (97 ∷ 0 ∷ []) ≡ false
unfolding is_name
with_zero = refl

-- 195 and 161 are one letter
letter_of_two_bytes : is_name (195 ∷ 161 ∷ []) ≡ true
unfolding is_name is_utf8 chars encode_utf8
letter_of_two_bytes = refl

half_a_letter : is_name (97 ∷ 195 ∷ []) ≡ false
unfolding is_name is_utf8 chars encode_utf8
half_a_letter = refl

name_of_255_bytes : is_name (replicate 255 97) ≡ true
unfolding is_name is_utf8 chars encode_utf8
name_of_255_bytes = refl

name_of_256_bytes : is_name (replicate 256 97) ≡ false
unfolding is_name
name_of_256_bytes = refl

-- so many lines of one letter
abbrev letters : ℕ → List ℕ
letters count = flat_map (λ c. c ∷ feed) (replicate count 97)

list_of_4096_lines : first_bad_name (letters 4096) ≡ None
unfolding first_bad_name lines_of is_name is_utf8 chars encode_utf8
list_of_4096_lines = refl

-- whatever the last line holds
list_of_4097_lines : first_bad_name (letters 4096 ++ feed) ≡ Some 4097
unfolding first_bad_name lines_of is_name is_utf8 chars encode_utf8
list_of_4097_lines = refl

-- a bad line before it comes first
second_of_4098_lines : first_bad_name (codes "a.bu" ++ feed ++ feed ++ letters 4096) ≡ Some 2
unfolding first_bad_name lines_of is_name is_utf8 chars encode_utf8
second_of_4098_lines = refl
