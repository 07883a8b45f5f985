-- Each step of a poll leads to a state of greater rank
use Rattle.std.proofs.Common.{◌≡◌, ℕ, ◌+◌, ◌<◌, List, ap, sym, subst, arith}
use Rattle.vote_kinds.specs.declared.choice.Choice.{Choice}
use Rattle.vote_kinds.specs.Ballot.{BallotLine}
use Rattle.turnout.specs.Turnout.{number_came}
use Rattle.turnout.specs.declared.phase.Phase.{Phase}
use Rattle.turnout.specs.declared.phase.Phase.TheVariants as phase
use Rattle.turnout.proofs.Marks.{number_came-set}
use Rattle.image_codec.specs.State.{State, rank_in, rank_of, opened_at, with_ballot, sealed_at, sealed_by, MayVote, IsPolling}

pub rank-opened_at : (s : State) (m : ℕ) → s.phase ≡ phase.Ready → rank_of s < rank_of (opened_at s m)
rank-opened_at s m ready =
    let before : rank_of s ≡ 0 = ap (λ (p : Phase). rank_in p (number_came s.came)) ready in
    omega arith

rank-more : (p : Phase) (n : ℕ) → IsPolling p → rank_in p n < rank_in p (n + 1)
rank-more phase.Ready n polling = absurd polling
rank-more (phase.Polling opened) n polling = omega arith
rank-more (phase.Sealed opened closed) n polling = absurd polling

pub rank-with_ballot : (lines : List BallotLine) (s : State) (place : ℕ) (choices : List Choice) → MayVote s place → rank_of s < rank_of (with_ballot lines s place choices)
rank-with_ballot lines s place choices may =
    let more = number_came-set s.came place may.known may.absent in
    subst (λ (n : ℕ). rank_of s < rank_in s.phase n) (sym more) (rank-more s.phase (number_came s.came) may.polling)

rank-sealed : (p : Phase) (n m : ℕ) → IsPolling p → rank_in p n < rank_in (sealed_by p m) n
rank-sealed phase.Ready n m polling = absurd polling
rank-sealed (phase.Polling opened) n m polling = omega arith
rank-sealed (phase.Sealed opened closed) n m polling = absurd polling

pub rank-sealed_at : (s : State) (m : ℕ) → IsPolling s.phase → rank_of s < rank_of (sealed_at s m)
rank-sealed_at s m polling = rank-sealed s.phase (number_came s.came) m polling
