use Rattle.std.proofs.Common.{◌≡◌, None, sym, ◌∙◌, arith}
use Rattle.key_script.specs.Script.{first_bad, events_of}
use Rattle.key_script.proofs.ScriptLaws.{events_of-some, unwrap_or-some}
use Rattle.key_script.proofs.text.Script.read.Goals as goal

no_bad_line : (c : goal.In-None) → first_bad c.args.bytes.items ≡ None
no_bad_line c = rw (← c.deref.ensures.value) (sym c.first_bad_line.ensures ∙ c.in-None.is)

pub invariant_of-result : goal.invariant_of-result
invariant_of-result c = (events_of-some c.args.bytes.items (no_bad_line c), omega arith)

pub returns-in-None-clause-script : goal.returns-in-None-clause-script
returns-in-None-clause-script c =
    unwrap_or-some (events_of c.args.bytes.items) (events_of-some c.args.bytes.items (no_bad_line c))
