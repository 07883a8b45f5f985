use Rattle.std.proofs.Common.{◌≡◌, ◌+◌, ℕ, List, true, get_or, slice_set, Option, IsSomeAnd, sym, ap, subst, ◌∙◌, arith}
use Rattle.std.proofs.lemmas.Option.{get_or_from_slice_get, slice_get-get_or}
use Rattle.vote_kinds.specs.declared.choice.Choice.{Choice}
use Rattle.vote_kinds.specs.declared.choice.Choice.TheVariants as choice
use Rattle.vote_kinds.specs.Ballot.{BallotLine, choices_of, is_choice, line_of}
use Rattle.vote_kinds.proofs.LineChoices.{choices_are}
use Rattle.vote_record.specs.Bag.{bag_at, with_choices}
use Rattle.vote_record.specs.RdvData.{RdvData, room_at}
use Rattle.vote_kinds.proofs.Lookups.{line_found}
use Rattle.image_codec.specs.Numbers.{counters_in}
use Rattle.image_codec.proofs.FillCounters.{AreAdded, added_none, added_more, added_nothing, added_fits, added_all}
use Rattle.image_codec.proofs.Fills.{bag_again, bag_kept, with_bags}
use Rattle.image_codec.proofs.FillVotes.{all_get}
use Rattle.image_codec.proofs.codec.counters.fill_panel.Goals as goal
use Rattle.image_codec.proofs.codec.counters.fill_panel.Goals.{then-count-gt0, else-count-gt0}

pub loop-place-init : goal.loop-place-init
loop-place-init c = record {
  votes = ap (with_bags c.args.votes.now) (bag_kept c.args.votes.now.bags c.args.panel);
  added = added_none c.args.tables.now c.args.panel (counters_in c.args.counters c.args.bytes.now) (bag_at c.args.votes.now.bags c.args.panel) c.requires.tables c.requires.none;
}

pub add_votes-requires-clause-choice : goal.add_votes-requires-clause-choice
add_votes-requires-clause-choice c =
    let line : BallotLine = line_of c.args.tables.now c.args.panel in
    let choices : List Choice = choices_of line in
    let same : get_or choices c.loop-place.place choice.Null ≡ c.choice_at.result = get_or_from_slice_get choices c.loop-place.place c.choice_at.result choice.Null c.choice_at.ensures in
    let vote : is_choice line c.choice_at.result ≡ true =
    ap (is_choice line) (sym same) ∙ all_get (λ d. is_choice line d ≡ true) choices c.loop-place.place choice.Null (choices_are line) (omega (arith, c.requires.counters)) in
    subst (λ (o : Option BallotLine). IsSomeAnd o (λ l. is_choice l c.choice_at.result ≡ true)) (sym (line_found c.args.tables.now c.args.panel c.requires.panel)) vote

pub add_votes-requires-clause-room : goal.add_votes-requires-clause-room
add_votes-requires-clause-room c =
    let room = ap (λ (r : RdvData). room_at r c.args.panel) c.loop-place.invariant.votes in
    let fits = added_fits (choices_of (line_of c.args.tables.now c.args.panel)) c.args.bytes.now c.args.counters c.loop-place.place c.number4_at-count.result
    (bag_at c.loop-place.votes.bags c.args.panel) (omega arith) c.number4_at-count.ensures c.loop-place.invariant.added in
    omega (arith, c.requires.room)

pub loop-place-preserved : goal.loop-place-preserved
loop-place-preserved c =
    let t = c.args.tables.now in
    let panel : ℕ = c.args.panel in
    let place : ℕ = c.loop-place.place in
    let n : ℕ = c.args.counters in
    let choices : List Choice = choices_of (line_of t panel) in
    let bag : List Choice = bag_at c.loop-place.votes.bags panel in
    let count : ℕ = c.number4_at-count.result in
    elim c.if-count-gt0.branch [
      | then-count-gt0 w ↦
          let more = with_choices count w.choice_at.result bag in
          let has = bag_again c.args.votes.now c.loop-place.votes c.if-count-gt0.votes panel more (omega (arith, c.requires.panel, c.requires.panels))
          c.loop-place.invariant.votes (w.votes-is ∙ w.add_votes.ensures) in
          record {
            votes = has.votes;
            added = subst (λ (b : List Choice). AreAdded choices (counters_in n c.args.bytes.now) b (place + 1)) (sym has.is)
                (added_more choices c.args.bytes.now n place count bag w.choice_at.result c.requires.counters (omega arith) w.choice_at.ensures c.number4_at-count.ensures c.loop-place.invariant.added);
          }
      | else-count-gt0 w ↦
          let next : Choice = get_or choices place choice.Null in
          let added = added_nothing choices c.args.bytes.now n place count bag next c.requires.counters (omega arith)
          (slice_get-get_or choices place choice.Null (omega (arith, c.requires.counters))) c.number4_at-count.ensures (omega (arith, w.if-count-gt0.false)) c.loop-place.invariant.added in
          record {
            votes = w.votes-is ∙ c.loop-place.invariant.votes ∙ ap (λ (r : RdvData). with_bags c.args.votes.now (slice_set c.args.votes.now.bags panel (bag_at r.bags panel))) (sym w.votes-is);
            added = subst (λ (r : RdvData). AreAdded choices (counters_in n c.args.bytes.now) (bag_at r.bags panel) (place + 1)) (sym w.votes-is) added;
          }
    ]

pub returns : goal.returns
returns c =
    c.loop-place.invariant.votes
    ∙ ap (λ (b : List Choice). with_bags c.args.votes.now (slice_set c.args.votes.now.bags c.args.panel b))
    (added_all (choices_of (line_of c.args.tables.now c.args.panel)) c.args.bytes.now c.args.counters c.loop-place.place (bag_at c.loop-place.votes.bags c.args.panel)
    c.requires.counters (omega arith) c.loop-place.invariant.added)
