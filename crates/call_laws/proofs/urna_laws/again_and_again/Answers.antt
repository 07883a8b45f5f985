use Rattle.call_laws.proofs.Again.{either_may_be_exchanged, exchange_leaves_it, next_is_safe, rest_stands_alone, steps_keep_votes, still_stands_alone}
use Rattle.call_laws.proofs.Loads.{load_makes_ready, load_may_follow}
use Rattle.call_laws.proofs.Opened.{led_has_ballots, opened_stays}
use Rattle.call_laws.proofs.urna_laws.again_and_again.Goals as goal

pub returns : goal.returns
returns c =
    record {
      kept = steps_keep_votes;
      next = next_is_safe;
      ballots = led_has_ballots;
      exchange = either_may_be_exchanged;
      still = still_stands_alone;
      exchanged = exchange_leaves_it;
      rest = rest_stands_alone;
      opened = opened_stays;
      load = load_makes_ready;
      anew = load_may_follow;
    }
