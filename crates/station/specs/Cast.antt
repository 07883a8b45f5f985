-- The ballots of a run, and how many FIM lines a shown text reaches into
use Rattle.std.specs.Prelude.{◌≡◌, ◌<◌, ℕ, List, [], ◌∷◌, ◌++◌, Some, codes, count_by, slice_get, take}
use Rattle.std.specs.Str.{bytes_eq}
use Rattle.key_script.specs.declared.keys.Event.{Event}
use Rattle.vote_kinds.specs.declared.choice.Choice.{Choice}
use Rattle.vote_kinds.specs.declared.choice.Choice.TheVariants as choice
use Rattle.vote_kinds.specs.Ballot.{BallotLine}
use Rattle.image_codec.specs.CodecLaws.{Ballot}
use Rattle.image_codec.specs.State.{State, filled_up}
use Rattle.flash_store.specs.Pieces.{lines_reached}
use Rattle.station.specs.Output.{Output}
use Rattle.station.specs.Run.{IsRun, ends, ignores, refuses, opens, seals, waits, cancels, visits, cut_off, Visit, whole, suspended}
use Rattle.station.specs.Setting.{Setting}

-- A voter who is suspended before the first choice casts none; after it the ballot has Null on each line that is left.
abbrev pub suspended_ballot : List BallotLine → ℕ → List Choice → List Ballot
suspended_ballot lines place [] = []
suspended_ballot lines place (c ∷ choices) = record { place = place; choices = filled_up lines (c ∷ choices) } ∷ []

-- the ballot of a visit, if it has one
abbrev pub ballot_of : {v : Setting} {s t : State} {place : ℕ} {es : List Event} {out : List Output} → Visit v s place es t out → List Ballot
ballot_of {place} (whole {choices} votes at) = record { place = place; choices = choices } ∷ []
ballot_of {v} {place} (suspended {choices} on) = suspended_ballot v.lines place choices

-- the ballots of a run, in the order of its visits: of each the voter's place in the roll, and the choices
abbrev pub ballots_of : {v : Setting} {s t : State} {es : List Event} {out : List Output} → IsRun v s es t out → List Ballot
ballots_of ends = []
ballots_of (ignores run) = ballots_of run
ballots_of (refuses reply run) = ballots_of run
ballots_of (opens reply run) = ballots_of run
ballots_of (seals reply run) = ballots_of run
ballots_of (waits before reply waiting) = []
ballots_of (cancels before reply waiting run) = ballots_of run
ballots_of (visits before reply waiting visit run) = ballot_of visit ++ ballots_of run
ballots_of (cut_off before reply waiting on) = []

-- no candidate has two votes: of two lines of one panel the choices are never the same candidate
abbrev pub GivesOneVoteEach : List BallotLine → List Choice → Type 0
GivesOneVoteEach lines choices = (i j number : ℕ) (l m : BallotLine) → i < j → slice_get lines i ≡ Some l → slice_get lines j ≡ Some m → l.panel ≡ m.panel
    → slice_get choices i ≡ Some (choice.Nominal number) → slice_get choices j ≡ Some (choice.Nominal number) → ⊥

-- FIM, as the display shows it

-- the line that ends a visit
abbrev pub fim : List ℕ
fim = codes "FIM" ++ 10 ∷ []

-- how many of the lines that the first n bytes of their text reach into are FIM
abbrev pub fims_reached : List (List ℕ) → ℕ → ℕ
fims_reached lines n = count_by (bytes_eq fim) (take (lines_reached lines n) lines)
