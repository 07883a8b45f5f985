use Rattle.std.proofs.Common.{◌+◌, ◌≤◌, ap, rules, arith, length, take}
use Rattle.memory_outside.specs.Chip.{flash}
use Rattle.urna_outside.specs.declared.device.Dev.TheVariants.{Internal}
use Rattle.memory_outside.specs.declared.tape.Operation.TheVariants as kept
use Rattle.memory_outside.proofs.KeptLemmas.{length-kept_ops}
use Rattle.memory_outside.proofs.Replays.{next_fits, next_inside, replayed_all, replayed_more, replayed_none, row_part}
use Rattle.memory_outside.proofs.replay.replay.Goals as goal

pub slice_bounds-first-end : goal.slice_bounds-first-end
slice_bounds-first-end c =
    let as_many = length-kept_ops c.args.tape.now.trail.items c.args.tape.now.puts.items c.args.tape.now.shown.items in
    let within : c.args.ops ≤ length c.deref.result.now = omega (arith, as_many, c.requires, ap length c.deref.ensures.value) in
    search rules

pub loop-op-init : goal.loop-op-init
loop-op-init c =
    replayed_none c.args.tape.now c.args.dev c.args.ops c.deref.result.now (flash c.in_ok-chip.chip) c.deref.ensures.value (search rules)

pub overflow_add-end : goal.overflow_add-end
overflow_add-end c =
    let inside = next_inside c.args.tape.now c.args.dev (take c.args.ops c.deref.result.now) c.loop-op.op-index c.loop-op.from (flash c.loop-op.chip) (kept.Put Internal 0 0) c.loop-op.invariant c.loop-op-test.true in
    search rules

pub slice_bounds-redo-end : goal.slice_bounds-redo-end
slice_bounds-redo-end c =
    let inside = next_inside c.args.tape.now c.args.dev (take c.args.ops c.deref.result.now) c.loop-op.op-index c.loop-op.from (flash c.loop-op.chip) (kept.Put Internal 0 0) c.loop-op.invariant c.loop-op-test.true in
    let within : c.loop-op.from + c.put_length.result ≤ length c.deref-in-loop-op.result.now = omega (arith, inside, c.put_length.ensures, ap length c.deref-in-loop-op.ensures.value) in
    search rules

pub redo-requires-clause-within : goal.redo-requires-clause-within
redo-requires-clause-within c =
    next_fits c.args.tape.now c.args.dev (take c.args.ops c.deref.result.now) c.loop-op.op-index c.loop-op.from (flash c.loop-op.chip) (kept.Put Internal 0 0) c.loop-op.invariant c.loop-op-test.true

pub loop-op-preserved : goal.loop-op-preserved
loop-op-preserved c =
    replayed_more c.args.tape.now c.args.dev (take c.args.ops c.deref.result.now) c.loop-op.op-index c.loop-op.from c.put_length.result (flash c.loop-op.chip) (flash c.redo.new.chip) (kept.Put Internal 0 0) _ c.loop-op.invariant c.loop-op-test.true c.put_length.ensures (row_part c.loop-op.from c.put_length.result _ c.deref-in-loop-op.result.now c.args.tape.now.puts.items c.put_length.ensures c.deref-in-loop-op.ensures.value) c.redo.ensures.done c.redo.ensures.size

pub returns : goal.returns
returns c =
    replayed_all c.args.tape.now c.args.dev c.args.ops c.deref.result.now c.loop-op.op-index c.loop-op.from (flash c.loop-op.chip) c.deref.ensures.value c.loop-op.invariant c.loop-op-test.false
