use Rattle.std.proofs.Common.{◌≡◌, sym, ap, subst, ◌∙◌}
use Rattle.election_tables.specs.TablesData.{places_of}
use Rattle.image_codec.specs.State.{State, MayVote}
use Rattle.image_codec.proofs.Valid.{bag_for_each, has_room, ballot_valid, state_of}
use Rattle.image_codec.proofs.state.State.ballot.Goals as goal

pub add_choices-requires-clause-room : goal.add_choices-requires-clause-room
add_choices-requires-clause-room c =
    let may = subst (λ (s : State). MayVote s c.args.place) (sym c.self.view_is) c.requires.voter in
    has_room c.self.inside.turnout c.self.inside.votes c.args.place c.self.invariant.0.full c.self.invariant.1 may.known may.absent

pub add_choices-requires-clause-panels : goal.add_choices-requires-clause-panels
add_choices-requires-clause-panels c =
    let places : c.self.inside.votes.places ≡ places_of c.args.tables.now = ap (λ (s : State). s.places) c.self.view_is ∙ c.requires.places in
    bag_for_each c.args.tables.now (state_of c.self.inside.phase c.self.inside.turnout c.self.inside.votes) c.self.invariant.0 places

pub invariant_of-self : goal.invariant_of-self
invariant_of-self c =
    ballot_valid c.args.tables.now c.self.inside.phase c.self.inside.turnout c.mark.new.self c.self.inside.votes c.add_choices.new.votes c.args.self.now c.args.place c.args.choices.now
    c.self.invariant c.self.view_is c.requires.voter c.requires.ballot c.requires.places c.mark.ensures c.add_choices.ensures
