use Rattle.std.proofs.Common.{length, refl, subst}
use Rattle.memory_outside.specs.Chips.{flashes_in}
use Rattle.memory_outside.specs.Steady.{steady_told}
use Rattle.image_codec.specs.Encoding.{IsStateOf}
use Rattle.image_codec.specs.Valid.{ready_state}
use Rattle.state_store.specs.Rest.{AreAtRest}
use Rattle.state_store.specs.declared.load.Load.{Load}
use Rattle.rehearsal_run.proofs.Holding.{devices_stay, loads}
use Rattle.rehearsal_run.proofs.poll.hold_poll.Goals as goal

pub unreachable-requires : goal.unreachable-requires
unreachable-requires c =
    let is = loads c.args.machine.now c.format.new.m c.in-Err-Flash.field-0 c.requires.blank c.in-Err-Flash.ensures.fails in
    let other = c.in-Err-Flash.field-0-is in
    absurd (cc)

pub unreachable-requires-in-Err-Busy : goal.unreachable-requires-in-Err-Busy
unreachable-requires-in-Err-Busy c =
    let is = loads c.args.machine.now c.format.new.m c.in-Err-Busy.field-0 c.requires.blank c.in-Err-Busy.ensures.fails in
    let other = c.in-Err-Busy.field-0-is in
    absurd (cc)

pub run_loaded-requires-clause-rest : goal.run_loaded-requires-clause-rest
run_loaded-requires-clause-rest c =
    let ready = ready_state c.args.tables.now (length c.args.roll.now.titles) in
    let flashes = flashes_in c.format.new.m.chips in
    subst (λ (l : Load). AreAtRest c.args.tables.now l ready flashes) c.in-Ok.ensures.store (c.in-Ok.ensures.kept.rest flashes refl)

pub run_loaded-requires-clause-state : goal.run_loaded-requires-clause-state
run_loaded-requires-clause-state c =
    let ready = ready_state c.args.tables.now (length c.args.roll.now.titles) in
    subst (λ (l : Load). IsStateOf c.args.tables.now l.section.voters ready) c.in-Ok.ensures.store c.in-Ok.ensures.kept.state

pub run_loaded-requires-clause-devices : goal.run_loaded-requires-clause-devices
run_loaded-requires-clause-devices c =
    let (ops, does, ran) = c.in-Ok.ensures.ran in devices_stay (steady_told c.args.machine.now) (steady_told c.format.new.m) c.requires.blank does.sizes
