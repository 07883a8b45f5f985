-- What does not change while a station works
use Rattle.std.specs.Prelude.{◌≡◌, ◌<◌, ℕ, List, Some, slice_get}
use Rattle.election_tables.specs.TablesData.{TablesData, places_of}
use Rattle.vote_kinds.specs.Ballot.{BallotLine, ballot_lines}
use Rattle.key_script.specs.declared.keys.ClerkKey.{ClerkKey}
use Rattle.clerk_term.specs.declared.replies.Mode.{Mode}
use Rattle.clerk_term.specs.declared.replies.ClerkAnswer.{ClerkAnswer}
use Rattle.clerk_term.specs.Reply.{answer_to}
use Rattle.image_codec.specs.State.{State}

-- the lines of the ballot, how many votes a voter has in each panel, and the titles of the roll
pub record Setting : Type 0 where
  pub lines : List BallotLine
  pub places : List ℕ
  pub roll : List ℕ

-- the setting of some tables and the titles of a roll
abbrev pub setting_of : TablesData → List ℕ → Setting
setting_of t titles = record { lines = ballot_lines t; places = places_of t; roll = titles }

-- on each line of the ballot a digit may be typed
abbrev pub IsSetting : Setting → Type 0
IsSetting v = (n : ℕ) (line : BallotLine) → slice_get v.lines n ≡ Some line → 0 < line.digits

-- the cell of the reply table for a key, at a state and with somebody or nobody at the station
abbrev pub reply_at : Setting → State → Mode → ClerkKey → ClerkAnswer
reply_at v s m k = answer_to v.roll s.phase s.came m k
