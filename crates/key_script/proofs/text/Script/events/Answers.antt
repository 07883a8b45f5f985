use Rattle.std.proofs.Common.{refl, subst, List, arith}
use Rattle.std.specs.Prelude.{All}
use Rattle.key_script.specs.declared.keys.Event.{Event}
use Rattle.key_script.specs.Event.{IsEvent}
use Rattle.key_script.specs.Script.{events_of_keys}
use Rattle.key_script.proofs.EventCounts.{events_of-count}
use Rattle.key_script.proofs.ScriptLaws.{events_of-valid}
use Rattle.key_script.proofs.text.Script.events.Goals as goal

pub invariant_of-result : goal.invariant_of-result
unfolding events_of_keys
invariant_of-result c = (refl, rw c.deref.ensures.value c.self.invariant.0)

pub returns-clause-all : goal.returns-clause-all
unfolding events_of_keys
returns-clause-all c = rw (c.deref.ensures.value, ← c.self.view_is) refl

pub returns-clause-valid : goal.returns-clause-valid
returns-clause-valid c =
    subst (λ (events : List Event). All IsEvent events) c.self.view_is (events_of-valid c.self.inside.text.items c.self.invariant.0)

pub returns-clause-few : goal.returns-clause-few
returns-clause-few c =
    let few = events_of-count c.self.inside.text.items c.self.invariant.0 in
    rw (← c.self.view_is) (omega arith)
