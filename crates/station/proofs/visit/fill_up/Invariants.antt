use Rattle.std.proofs.Common.{◌≡◌, ◌++◌, ◌-◌, replicate, length}
use Rattle.vote_kinds.specs.declared.choice.Choice.TheVariants as choice
use Rattle.station.proofs.visit.fill_up.Given as goal

-- the choices so far and a Null for each that is left
abbrev pub invariant-loop-choices : goal.invariant-loop-choices
invariant-loop-choices l =
    (l.choices.items ++ replicate (l.lines - length l.choices.items) choice.Null ≡ l.fn.choices.items ++ replicate (l.lines - length l.fn.choices.items) choice.Null)

abbrev pub decreases-loop-choices : goal.decreases-loop-choices
decreases-loop-choices l = l.lines - length l.choices.items
