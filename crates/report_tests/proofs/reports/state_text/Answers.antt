use Rattle.std.proofs.Common.{◌*◌, ℕ, Bool, List, length, map, sym, ap, subst, ◌∙◌}
use Rattle.std.specs.List.{AllByRecursion}
use Rattle.election_tables.specs.TablesData.{places_of}
use Rattle.vote_kinds.specs.declared.choice.Choice.{Choice}
use Rattle.vote_record.specs.Bag.{bag_at}
use Rattle.vote_record.specs.RdvData.{IsVote}
use Rattle.turnout.specs.Turnout.{number_came}
use Rattle.turnout.specs.declared.phase.Phase.TheVariants as phase
use Rattle.image_codec.specs.Valid.{HasMoments}
use Rattle.image_codec.proofs.Counting.{only_votes}
use Rattle.report_tests.proofs.reports.state_text.Goals as goal

pub of-requires : goal.of-requires
of-requires c =
    let t = c.args.tables.now in
    let s = c.args.state.now in
    let moments : HasMoments (phase.Sealed c.in-Sealed.opened c.in-Sealed.closed) = subst HasMoments (sym c.in-Sealed.ensures.phase) c.requires.state.valid.moments in
    record {
      votes = subst (λ (b : List (List Choice)). (panel : ℕ) → AllByRecursion (IsVote t panel) (bag_at b panel)) (sym c.votes.ensures.bags)
          (only_votes t c.args.section.voters s c.requires.state);
      totals = ap (map length) c.votes.ensures.bags ∙ c.requires.state.valid.full
          ∙ ap (map (λ votes. number_came s.came * votes)) c.requires.state.places
          ∙ ap (λ (came : List Bool). map (λ votes. number_came came * votes) (places_of t)) (sym c.turnout.ensures);
      section = c.requires.section;
      voters = sym (ap length c.turnout.ensures ∙ c.requires.state.roll);
      opened = moments.0;
      closed = moments.1;
      order = moments.2;
    }
