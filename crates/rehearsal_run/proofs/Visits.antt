-- A visit of the rehearsal, from the release to the end of the ballot.
use Rattle.std.proofs.Common.{◌≡◌, ℕ, Bool, true, false, List, [], ◌∷◌, ◌++◌, refl}
use Rattle.std.specs.Prelude.{slice_set}
use Rattle.urna_base.specs.Digits.{padded}
use Rattle.key_script.specs.declared.keys.Event.{Event}
use Rattle.key_script.specs.declared.keys.Event.TheVariants.{Clerk}
use Rattle.key_script.specs.declared.keys.ClerkKey.TheVariants as clerk
use Rattle.vote_kinds.specs.declared.choice.Choice.{Choice}
use Rattle.vote_kinds.specs.Ballot.{BallotLine}
use Rattle.turnout.specs.declared.phase.Phase.TheVariants as phase
use Rattle.image_codec.specs.State.{State}
use Rattle.station.specs.Setting.{Setting}
use Rattle.station.specs.Press.{Standing, idle_at, identified_at, after}
use Rattle.rehearsal.specs.declared.typing.Typed.{Typed}
use Rattle.rehearsal.specs.declared.typing.Typed.TheVariants.{Five, Two, Blank}
use Rattle.rehearsal.specs.Script.{voter, script_line_events}
use Rattle.rehearsal.specs.Typing.{typed_keys}

-- the two lines of the ballot, whatever their candidates and parties are
abbrev pub councillor_line : List ℕ → List ℕ → BallotLine
councillor_line candidates parties = record { panel = 0; code = 13; digits = 5; proportional = true; places = 1; candidates = candidates; parties = parties }

abbrev pub mayor_line : List ℕ → List ℕ → BallotLine
mayor_line candidates parties = record { panel = 1; code = 11; digits = 2; proportional = false; places = 1; candidates = candidates; parties = parties }

-- the numbers that a setting has
pub record Numbers : Type 0 where
  pub councillors : List ℕ
  pub mayors : List ℕ
  pub parties : List ℕ

abbrev pub setting_with : Numbers → List ℕ → Setting
setting_with n roll = record {
  lines = councillor_line n.councillors n.parties ∷ mayor_line n.mayors n.parties ∷ [];
  places = 1 ∷ 1 ∷ [];
  roll = roll;
}

-- a poll that was opened at a moment
abbrev pub polling : ℕ → List Bool → List ℕ → List (List Choice) → State
polling opened came places bags = record { phase = phase.Polling opened; came = came; places = places; bags = bags }

-- the station is idle again, the voter of the place came, and the poll goes on
abbrev pub HasVoted : ℕ → List Bool → List ℕ → ℕ → Standing → Type 0
HasVoted opened came places place x = (bags : List (List Choice)) × (x ≡ idle_at (polling opened (slice_set came place true) places bags))

-- at most two digits
abbrev pub IsShort : Typed → Type 0
IsShort (Five number) = ⊥
IsShort (Two number) = Unit {0}
IsShort Blank = Unit {0}

abbrev pub events_typed : Typed → List Event
events_typed typed = script_line_events (voter (typed_keys typed))

-- The voter is suspended behind panel 1. All computes, whatever the numbers are.
pub suspended : (n : Numbers) (roll : List ℕ) (opened place : ℕ) (came : List Bool) (places : List ℕ) (bags : List (List Choice)) (first : Typed)
    → HasVoted opened came places place
    (after (setting_with n roll) (identified_at (polling opened came places bags) place) (Clerk clerk.Libera ∷ (events_typed first ++ Clerk clerk.Suspende ∷ [])))
unfolding padded
suspended n roll opened place came places bags (Five number) = (_, refl)
suspended n roll opened place came places bags (Two number) = (_, refl)
suspended n roll opened place came places bags Blank = (_, refl)

-- The voter types in both panels.
pub whole : (n : Numbers) (roll : List ℕ) (opened place : ℕ) (came : List Bool) (places : List ℕ) (bags : List (List Choice)) (first second : Typed) → IsShort second
    → HasVoted opened came places place
    (after (setting_with n roll) (identified_at (polling opened came places bags) place) (Clerk clerk.Libera ∷ (events_typed first ++ events_typed second)))
unfolding padded
whole n roll opened place came places bags first (Five number) short = absurd short
whole n roll opened place came places bags (Five number) (Two other) short = (_, refl)
whole n roll opened place came places bags (Five number) Blank short = (_, refl)
whole n roll opened place came places bags (Two number) (Two other) short = (_, refl)
whole n roll opened place came places bags (Two number) Blank short = (_, refl)
whole n roll opened place came places bags Blank (Two other) short = (_, refl)
whole n roll opened place came places bags Blank Blank short = (_, refl)
