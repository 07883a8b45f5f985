-- The slots with one encoding of a state are brought to another one.
use Rattle.std.proofs.Common.{◌≡◌, ℕ, ◌≤◌, Some, List, [], ◌∷◌, length, option_map, ap, arith}
use Rattle.std.specs.Option.{ForSome}
use Rattle.urna_outside.specs.Flash.{Flashes}
use Rattle.urna_outside.specs.Stop.{AtEachStop, IsLeft, Left}
use Rattle.urna_outside.specs.Told.{Told, Runs}
use Rattle.urna_outside.proofs.Doing.{does_nothing}
use Rattle.urna_outside.proofs.Stages.{left_image}
use Rattle.twin_image.specs.Level.{CommitsTo, IsLevel}
use Rattle.twin_image.proofs.Committing.{level_holds}
use Rattle.election_tables.specs.Limits.{most_voters}
use Rattle.election_tables.specs.TablesData.{IsTables, TablesData}
use Rattle.image_codec.specs.Decoded.{decoded, rank_in}
use Rattle.image_codec.specs.Layout.{body_size}
use Rattle.image_codec.specs.State.{State, rank_of}
use Rattle.flash_store.specs.Held.{HoldAll}
use Rattle.flash_store.proofs.Holding.{hold_all}
use Rattle.state_store.specs.Calls.{BringsUp}
use Rattle.state_store.specs.Held.{KeepFrames, poll}
use Rattle.state_store.proofs.Stored.{reads}

module _ (t : TablesData) (voters : ℕ) (tables : IsTables t) (few : voters ≤ most_voters) (s : State) where
  -- a commit of one encoding of a state over another keeps the state
  pub brings_up : (old new : List ℕ) → decoded t voters old ≡ Some s → decoded t voters new ≡ Some s → (a b : Told) → Runs (CommitsTo a (rank_in t voters) body_size old new) a b → Runs (BringsUp t voters s a) a b
  brings_up old new old_is new_is a b run = (
    run.0,
    run.1,
    record {
      slots = record { within = run.2.within; syncs = run.2.syncs };
      stops = λ start told done stop left is. (
        hold_all (poll t voters) (decoded t voters) (reads t voters tables few) s old new old_is new_is left (run.2.stops start told done stop left is),
        run.2.frames start told done stop left is,
      );
    },
  )

  -- and so it is where nothing is done
  module _ (body : List ℕ) (known : decoded t voters body ≡ Some s) (long : length body ≡ body_size) where
    keeps_clean : (start : Flashes) (left : Left) → IsLevel body_size body start → IsLeft start [] left → KeepFrames start left
    keeps_clean start left level is d =
        let image = left_image d start [] left is in
        record { same_length = image.same_length; bytes = λ k out. image.clean k (level.clean d k) }

    none_done : (start : Flashes) → IsLevel body_size body start → AtEachStop start [] (λ left. HoldAll (poll t voters) s left × KeepFrames start left)
    none_done start level [] stop left is = (
      hold_all (poll t voters) (decoded t voters) (reads t voters tables few) s body body known known left (level_holds (rank_in t voters) body_size body (rank_of s) (ap (option_map rank_of) known) long start level left is.internal is.external),
      keeps_clean start left level is,
    )
    none_done start level (one ∷ done) stop left is = absurd stop

    pub brings_up_none : (a : Told) → ForSome a.flashes (IsLevel body_size body) → Runs (BringsUp t voters s a) a a
    brings_up_none a level = (
      [],
      does_nothing a,
      record {
        slots = record { within = tt; syncs = omega arith };
        stops = λ start told. none_done start (level start told);
      },
    )
