-- The state after a prefix of the events
use Rattle.std.specs.Prelude.{◌≡◌, ℕ, Some, List, ◌∷◌, ◌++◌, length, slice_get}
use Rattle.key_script.specs.declared.keys.Event.{Event}
use Rattle.image_codec.specs.CodecLaws.{Ballot}
use Rattle.image_codec.specs.State.{State}
use Rattle.station.specs.Cast.{ballots_of}
use Rattle.station.specs.Output.{Output, commits_of}
use Rattle.station.specs.Run.{IsRun}
use Rattle.station.specs.Setting.{Setting}

-- The run over a prefix of these events ends at u, and commits n states. It puts out the first of these outputs, and has the first of these
-- ballots.
pub record IsAfterPrefix (v : Setting) (s : State) (es : List Event) (out : List Output) (ballots : List Ballot) (n : ℕ) (u : State) : Type 0 where
  pub prefix : List Event
  pub more : List Event
  pub events : es ≡ prefix ++ more
  pub put : List Output
  pub later : List Output
  pub texts : out ≡ put ++ later
  pub run : IsRun v s prefix u put
  pub committed : length (commits_of put) ≡ n
  pub others : List Ballot
  pub cast : ballots ≡ ballots_of run ++ others

-- of each run: its state of number n, from the one at its start on, is that after such a prefix
abbrev pub StatesAreAfterPrefixes : Type 0
StatesAreAfterPrefixes =
    (v : Setting) (s last : State) (es : List Event) (out : List Output) (run : IsRun v s es last out) (n : ℕ) (u : State)
    → slice_get (s ∷ commits_of out) n ≡ Some u → IsAfterPrefix v s es out (ballots_of run) n u
