-- Both terminals in memory
use Rattle.std.specs.Prelude.{◌≡◌, ℕ, Some}
use Rattle.vote_kinds.specs.Ballot.{BallotLine}
use Rattle.clerk_term.specs.declared.replies.Mode.TheVariants.{Voting}
use Rattle.station.specs.Output.{line_at}
use Rattle.station.specs.Press.{Standing}
use Rattle.station.specs.Setting.{Setting}

-- what stands at the station, and how many digits the panel has on which the voter types
pub record SessionData : Type 0 where
  pub standing : Standing
  pub digits : ℕ

-- While somebody votes, the panel has the digits of the line of the ballot that stands.
pub record FitsLine (v : Setting) (x : Standing) (digits : ℕ) : Type 0 where
  pub fits : (place : ℕ) (l : BallotLine) → x.mode ≡ Voting place → line_at v x.choices ≡ Some l → l.digits ≡ digits
