use Rattle.std.proofs.Common.{◌≡◌, ◌<◌, length, slice_get, get_or, IsSomeAnd, Some, true, option_map, subst, sym, ap, ◌∙◌, Option, arith}
use Rattle.vote_kinds.specs.Ballot.{BallotLine, ballot_lines, is_choice, line_of}
use Rattle.vote_kinds.specs.declared.choice.Choice.{Choice}
use Rattle.vote_kinds.specs.declared.choice.Choice.TheVariants as choice
use Rattle.vote_kinds.proofs.Lookups.{line_found, line_get, lines_length}
use Rattle.image_codec.proofs.Ballots.{choice_at}
use Rattle.image_codec.proofs.AddChoices.{added_none, added_more, added_all, room_here}
use Rattle.image_codec.proofs.state.add_choices.Goals as goal

pub bounds-choices-line : goal.bounds-choices-line
bounds-choices-line c = omega (arith, lines_length c.args.tables.now, c.requires.ballot.1)

pub add-requires-clause-choice : goal.add-requires-clause-choice
add-requires-clause-choice c =
    let t = c.args.tables.now in
    let d : Choice = choice.Nominal 0 in
    let chosen : Choice = get_or c.args.choices.now c.loop-line.line d in
    let panel = c.line_panel.result in
    let lt : c.loop-line.line < length c.args.choices.now = omega (arith, lines_length t, c.requires.ballot.1) in
    let here : slice_get (ballot_lines t) c.loop-line.line ≡ Some (line_of t panel) = line_get t c.loop-line.line ∙ ap (option_map (line_of t)) c.line_panel.ensures.panel in
    let same = here ∙ sym (line_found t panel c.line_panel.ensures.within) in
    subst (λ (o : Option BallotLine). IsSomeAnd o (λ line. is_choice line chosen ≡ true)) same
    (choice_at (ballot_lines t) c.args.choices.now c.loop-line.line d c.requires.ballot.0 lt)

pub add-requires-clause-room : goal.add-requires-clause-room
add-requires-clause-room c = room_here c.args.tables.now c.loop-line.line c.line_panel.result c.line_panel.ensures.panel c.args.choices.now c.args.votes.now c.loop-line.votes c.loop-line.invariant (omega arith)

pub loop-line-init : goal.loop-line-init
loop-line-init c = added_none c.args.tables.now c.args.choices.now c.args.votes.now c.requires.panels c.requires.places c.requires.room

pub loop-line-preserved : goal.loop-line-preserved
loop-line-preserved c =
    let lt : c.loop-line.line < length c.args.choices.now = omega (arith, lines_length c.args.tables.now, c.requires.ballot.1) in
    added_more c.args.tables.now c.loop-line.line c.line_panel.result c.line_panel.ensures.panel c.args.choices.now c.args.votes.now c.loop-line.votes c.add.new.self (choice.Nominal 0)
    c.loop-line.invariant lt c.add.ensures

pub returns : goal.returns
returns c =
    added_all c.args.tables.now c.args.choices.now c.args.votes.now c.loop-line.votes c.loop-line.line c.loop-line.invariant
    (omega (arith, lines_length c.args.tables.now))
