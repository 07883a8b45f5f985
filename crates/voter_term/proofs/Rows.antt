-- Worked examples of fields and choices
use Rattle.std.proofs.Common.{◌≡◌, List, [], ◌∷◌, true, false, None, Some, refl}
use Rattle.vote_kinds.specs.Ballot.{BallotLine, is_confirmable, choice_of}
use Rattle.voter_term.specs.Field.{field_after}
use Rattle.key_script.specs.declared.keys.Key.{Key}
use Rattle.key_script.specs.declared.keys.Key.TheVariants.{Digit, Blank, Correct, Confirm}
use Rattle.vote_kinds.specs.declared.choice.Field.TheVariants as field
use Rattle.vote_kinds.specs.declared.choice.Choice.{Choice}
use Rattle.vote_kinds.specs.declared.choice.Choice.TheVariants as choice

abbrev councillor : BallotLine
councillor = record { panel = 0; code = 13; digits = 5; proportional = true; places = 1; candidates = 13001 ∷ 45001 ∷ []; parties = 13 ∷ 45 ∷ [] }

abbrev mayor : BallotLine
mayor = record { panel = 1; code = 11; digits = 2; proportional = false; places = 1; candidates = 13 ∷ 45 ∷ []; parties = 13 ∷ 45 ∷ [] }

-- the choice after a word, without its last CONFIRMA
abbrev chosen : BallotLine → List Key → Choice
chosen line w = choice_of line None (field_after line.digits w)

row_4 : chosen councillor (Digit 4 ∷ Digit 5 ∷ []) ≡ choice.Party 45
row_4 = refl

row_5 : chosen councillor (Digit 4 ∷ Digit 5 ∷ Digit 9 ∷ Digit 9 ∷ []) ≡ choice.Party 45
row_5 = refl

row_5_all : chosen councillor (Digit 4 ∷ Digit 5 ∷ Digit 9 ∷ Digit 9 ∷ Digit 9 ∷ []) ≡ choice.Party 45
row_5_all = refl

row_6 : chosen councillor (Digit 9 ∷ Digit 9 ∷ []) ≡ choice.Null
row_6 = refl

row_6_stays : is_confirmable mayor (field_after 2 (Digit 9 ∷ [])) ≡ false
row_6_stays = refl

row_6_again : chosen mayor (Digit 9 ∷ Confirm ∷ Digit 9 ∷ []) ≡ choice.Null
row_6_again = refl

row_7 : chosen councillor (Digit 4 ∷ Blank ∷ Digit 5 ∷ []) ≡ choice.Party 45
row_7 = refl

row_7_blank : chosen councillor (Blank ∷ []) ≡ choice.Blank
row_7_blank = refl

row_7_corrected : chosen councillor (Blank ∷ Digit 4 ∷ Digit 5 ∷ Correct ∷ Digit 4 ∷ Digit 5 ∷ []) ≡ choice.Party 45
row_7_corrected = refl

a_candidate : chosen councillor (Digit 4 ∷ Digit 5 ∷ Digit 0 ∷ Digit 0 ∷ Digit 1 ∷ Digit 7 ∷ []) ≡ choice.Nominal 45001
a_candidate = refl

-- in an office of two places, the same candidate again
twice : choice_of mayor (Some (choice.Nominal 13)) (field.Digits 2 13) ≡ choice.Null
twice = refl
