use Rattle.image_codec.proofs.AddChoices.{AreAdded}
use Rattle.image_codec.proofs.state.add_choices.Given as goal

abbrev pub invariant-loop-line : goal.invariant-loop-line
invariant-loop-line l = AreAdded l.tables l.choices l.initial.votes l.votes l.line
