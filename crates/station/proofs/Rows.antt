-- Worked sessions, and what they show: a section with two offices and three voters
use Rattle.std.proofs.Common.{◌≡◌, List, [], ◌∷◌, ◌++◌, true, false, map, refl, Option, Some, None}
use Rattle.std.specs.Prelude.{flat_map}
use Rattle.key_script.specs.declared.keys.Key.{Key}
use Rattle.key_script.specs.declared.keys.Key.TheVariants.{Digit, Blank, Correct, Confirm}
use Rattle.key_script.specs.declared.keys.Event.{Event}
use Rattle.key_script.specs.declared.keys.Event.TheVariants.{Clerk, Voter}
use Rattle.key_script.specs.declared.keys.ClerkKey.TheVariants as clerk
use Rattle.vote_kinds.specs.Ballot.{BallotLine}
use Rattle.vote_kinds.specs.declared.choice.Choice.{Choice}
use Rattle.vote_kinds.specs.declared.choice.Choice.TheVariants as choice
use Rattle.vote_kinds.specs.declared.choice.Field.TheVariants as field
use Rattle.turnout.specs.declared.phase.Phase.TheVariants as phase
use Rattle.image_codec.specs.State.{State}
use Rattle.station.specs.Setting.{Setting}
use Rattle.station.specs.Press.{idle_at, outputs, after}
use Rattle.station.specs.Screens.{lines_told, screens_of}
use Rattle.station.specs.declared.line.Line.{Line}
use Rattle.station.specs.declared.line.Line.TheVariants as line

abbrev councillor : BallotLine
councillor = record { panel = 0; code = 13; digits = 5; proportional = true; places = 1; candidates = 13001 ∷ 45001 ∷ []; parties = 13 ∷ 45 ∷ [] }

abbrev mayor : BallotLine
mayor = record { panel = 1; code = 11; digits = 2; proportional = false; places = 1; candidates = 13 ∷ 45 ∷ []; parties = 13 ∷ 45 ∷ [] }

abbrev setting : Setting
setting = record { lines = councillor ∷ mayor ∷ []; places = 1 ∷ 1 ∷ []; roll = 10000000001 ∷ 10000000002 ∷ 10000000003 ∷ [] }

abbrev polling : State
polling = record { phase = phase.Polling 20261004080000; came = false ∷ false ∷ false ∷ []; places = 1 ∷ 1 ∷ []; bags = [] ∷ [] ∷ [] }

abbrev told : State → List Event → List Line
told s es = flat_map lines_told (outputs setting (idle_at s) es)

abbrev admitted : List Event
admitted = Clerk (clerk.Titulo 10000000001) ∷ Clerk clerk.Libera ∷ []

abbrev greeted : List Line
greeted = line.Voter 10000000001 ∷ line.Released ∷ line.Ballot 1 13 ∷ []

abbrev keys : List Key → List Event
keys ks = map Voter ks

abbrev party_45 : List Key
party_45 = Digit 4 ∷ Digit 5 ∷ Confirm ∷ []

abbrev at_4 : Line
at_4 = line.Screen 0 None (field.Digits 1 4)

abbrev at_45 : Line
at_45 = line.Screen 0 None (field.Digits 2 45)

-- a party's vote is confirmed with two digits of five
party_vote : told polling (admitted ++ keys party_45) ≡ greeted ++ at_4 ∷ at_45 ∷ line.Ballot 2 11 ∷ []
party_vote = refl

-- the digits after a party's don't name a candidate
party_with_more_digits : told polling (admitted ++ keys (Digit 4 ∷ Digit 5 ∷ Digit 9 ∷ Digit 9 ∷ Digit 9 ∷ Confirm ∷ []))
    ≡ greeted ++ at_4 ∷ at_45 ∷ line.Screen 0 None (field.Digits 3 459) ∷ line.Screen 0 None (field.Digits 4 4599)
    ∷ line.Screen 0 None (field.Digits 5 45999) ∷ line.Ballot 2 11 ∷ []
party_with_more_digits = refl

-- null in both offices; one digit of two may not be confirmed in a majority office
null_votes : told polling (admitted ++ keys (Digit 9 ∷ Digit 9 ∷ Confirm ∷ Digit 9 ∷ Confirm ∷ Digit 9 ∷ Confirm ∷ []))
    ≡ greeted ++ line.Screen 0 None (field.Digits 1 9) ∷ line.Screen 0 None (field.Digits 2 99) ∷ line.Ballot 2 11
    ∷ line.Screen 1 None (field.Digits 1 9) ∷ line.Screen 1 None (field.Digits 2 99) ∷ line.Ended ∷ []
null_votes = refl

-- a digit after BRANCO is ignored, and CORRIGE empties the field
corrected : told polling (admitted ++ keys (Blank ∷ Digit 4 ∷ Digit 5 ∷ Correct ∷ Confirm ∷ party_45))
    ≡ greeted ++ line.Screen 0 None field.Blank ∷ line.Screen 0 None field.Empty ∷ at_4 ∷ at_45 ∷ line.Ballot 2 11 ∷ []
corrected = refl

-- a voter who is suspended before the first choice may come again
abbrev comes_again : List Event
comes_again = admitted ++ keys (Digit 4 ∷ Digit 5 ∷ []) ++ Clerk clerk.Suspende ∷ (admitted ++ keys party_45 ++ keys (Digit 1 ∷ Digit 3 ∷ Confirm ∷ []))

suspended : told polling comes_again
    ≡ greeted ++ at_4 ∷ at_45 ∷ line.Suspended ∷ (greeted ++ at_4 ∷ at_45 ∷ line.Ballot 2 11
    ∷ line.Screen 1 None (field.Digits 1 1) ∷ line.Screen 1 None (field.Digits 2 13) ∷ line.Ended ∷ [])
suspended = refl

suspended_state : (after setting (idle_at polling) comes_again).state
    ≡ record { phase = phase.Polling 20261004080000; came = true ∷ false ∷ false ∷ []; places = 1 ∷ 1 ∷ []; bags = (choice.Party 45 ∷ []) ∷ (choice.Nominal 13 ∷ []) ∷ [] }
suspended_state = refl

-- after the first choice the ballot counts
cut_short : told polling (admitted ++ keys party_45 ++ Clerk clerk.Suspende ∷ []) ≡ greeted ++ at_4 ∷ at_45 ∷ line.Ballot 2 11 ∷ line.Ended ∷ []
cut_short = refl

cut_short_state : (after setting (idle_at polling) (admitted ++ keys party_45 ++ Clerk clerk.Suspende ∷ [])).state
    ≡ record { phase = phase.Polling 20261004080000; came = true ∷ false ∷ false ∷ []; places = 1 ∷ 1 ∷ []; bags = (choice.Party 45 ∷ []) ∷ (choice.Null ∷ []) ∷ [] }
cut_short_state = refl

-- the clerk's keys in the middle of a visit
refused_in_a_visit : told polling (admitted ++ Voter (Digit 4) ∷ Clerk (clerk.Titulo 10000000002) ∷ Clerk clerk.Libera ∷ Clerk (clerk.Encerra 20261004170000) ∷ keys (Digit 5 ∷ Confirm ∷ []))
    ≡ greeted ++ at_4 ∷ line.Refused 6 ∷ line.Refused 6 ∷ line.Refused 6 ∷ at_45 ∷ line.Ballot 2 11 ∷ []
refused_in_a_visit = refl

refused_before_the_opening : told (record polling { phase = phase.Ready }) (Clerk (clerk.Titulo 10000000001) ∷ []) ≡ line.Refused 1 ∷ []
refused_before_the_opening = refl

refused_with_nobody_there : told (after setting (idle_at polling) comes_again).state (Clerk (clerk.Titulo 10000000001) ∷ Clerk (clerk.Titulo 999999999999) ∷ Clerk clerk.Suspende ∷ Clerk (clerk.Encerra 20261004075959) ∷ [])
    ≡ line.Refused 5 ∷ line.Refused 4 ∷ line.Refused 8 ∷ line.Refused 9 ∷ []
refused_with_nobody_there = refl

refused_when_sealed : told polling (Clerk (clerk.Encerra 20261004170000) ∷ Clerk (clerk.Abre 20261004180000) ∷ Clerk clerk.Cancela ∷ [])
    ≡ line.Sealed 20261004170000 0 ∷ line.Refused 3 ∷ line.Refused 3 ∷ []
refused_when_sealed = refl

-- the second of two places: a second line of the ballot for the same panel
abbrev senator : BallotLine
senator = record { panel = 0; code = 5; digits = 3; proportional = false; places = 2; candidates = 101 ∷ 102 ∷ 201 ∷ []; parties = 10 ∷ 20 ∷ [] }

abbrev two_senators : Setting
two_senators = record { lines = senator ∷ senator ∷ []; places = 2 ∷ []; roll = 10000000001 ∷ [] }

abbrev eva : Option Choice
eva = Some (choice.Nominal 101)

abbrev same_twice : List Event
same_twice = admitted ++ keys (Digit 1 ∷ Digit 0 ∷ Digit 1 ∷ Confirm ∷ Digit 1 ∷ Digit 0 ∷ Digit 1 ∷ Confirm ∷ [])

same_candidate_twice : flat_map lines_told (outputs two_senators (idle_at polling) same_twice)
    ≡ line.Voter 10000000001 ∷ line.Released ∷ line.Ballot 1 5 ∷ line.Screen 0 None (field.Digits 1 1) ∷ line.Screen 0 None (field.Digits 2 10)
    ∷ line.Screen 0 None (field.Digits 3 101) ∷ line.Ballot 2 5 ∷ line.Screen 0 eva (field.Digits 1 1)
    ∷ line.Screen 0 eva (field.Digits 2 10) ∷ line.Screen 0 eva (field.Digits 3 101) ∷ line.Ended ∷ []
same_candidate_twice = refl

second_is_null : (after two_senators (idle_at (record polling { places = 2 ∷ []; bags = [] ∷ [] })) same_twice).state.bags ≡ (choice.Nominal 101 ∷ choice.Null ∷ []) ∷ []
second_is_null = refl

-- the screens, by the lines of the ballot
screens_of_a_visit : screens_of (outputs setting (idle_at polling) (admitted ++ keys (Blank ∷ Correct ∷ party_45 ++ Digit 9 ∷ Confirm ∷ [])))
    ≡ (line.Screen 0 None field.Blank ∷ line.Screen 0 None field.Empty ∷ at_4 ∷ at_45 ∷ []) ∷ (line.Screen 1 None (field.Digits 1 9) ∷ []) ∷ []
screens_of_a_visit = refl
