use Rattle.std.proofs.Common.{Option, subst, arith}
use Rattle.urna_outside.specs.Cabinet.{Files}
use Rattle.command_parts.specs.Documents.{IsFault as IsFaultOf, IsFirstFault as IsFirstFaultOf}
use Rattle.urna_commands.specs.Command.{Vota}
use Rattle.urna_commands.specs.Documents.{IsFault}
use Rattle.urna_commands.specs.Taking.{HasTaken}
use Rattle.urna_commands.specs.Vota.{VotaEnds, documents, keys, no_cabinet, no_memory, refused}
use Rattle.command_parts.specs.declared.error.Doc.TheVariants as doc
use Rattle.urna_commands.specs.declared.status.Status.TheVariants as status
use Rattle.command_parts.proofs.Calls.{taken_more, taken_within}
use Rattle.urna_commands.proofs.Endings.{fault_ends, given_keys, untouched}
use Rattle.urna_commands.proofs.vota.vota.Goals as goal

pub returns-in_err-tables : goal.returns-in_err-tables
returns-in_err-tables g c =
    let names : Vota = record { tables = c.args.names.tables.now; roll = c.args.names.roll.now; keys = c.args.names.keys.now; out = c.args.names.out.now } in
    let x = g.C.Cabinet.told c.args.cabinet.now in
    let y = g.C.Cabinet.told c.take_tables_and.new.cabinet in
    let m = g.M.Machine.told c.args.machine.now in
    fault_ends (VotaEnds names x y m m) 3 x y (IsFirstFaultOf x.files names.tables doc.Roll names.roll) c.from_residual.result c.in_err-tables.field-0.0 c.from_residual.ensures.1 (λ taken. no_memory taken (untouched m)) (λ taken. no_cabinet taken (untouched m))
    (λ s why taken. refused (documents why) taken (untouched m)) c.in_err-tables.ensures.fault
    (taken_within 2 3 x y (omega arith) c.in_err-tables.ensures.taken)

pub returns-in_err-script : goal.returns-in_err-script
returns-in_err-script g c =
    let names : Vota = record { tables = c.args.names.tables.now; roll = c.args.names.roll.now; keys = c.args.names.keys.now; out = c.args.names.out.now } in
    let x = g.C.Cabinet.told c.args.cabinet.now in
    let y = g.C.Cabinet.told c.take_tables_and.new.cabinet in
    let z = g.C.Cabinet.told c.take_document.new.cabinet in
    let m = g.M.Machine.told c.args.machine.now in
    let taken : HasTaken 2 status.Done x y = c.in_ok-tables.ensures.taken in
    fault_ends (VotaEnds names x z m m) 3 x z (IsFaultOf y.files names.keys doc.Keys) c.from_residual-in_err-script.result c.in_err-script.field-0.0 c.from_residual-in_err-script.ensures.1 (λ all. no_memory all (untouched m)) (λ all. no_cabinet all (untouched m))
    (λ s why all. refused
    (keys c.in_ok-tables.ensures.tables c.in_ok-tables.ensures.other (subst (λ (fs : Option Files). IsFault fs names.keys doc.Keys s) taken.files why)) all (untouched m))
    c.in_err-script.ensures.fault (taken_more 2 1 x y z taken c.in_err-script.ensures.taken)

pub returns : goal.returns
returns g c =
    let names : Vota = record { tables = c.args.names.tables.now; roll = c.args.names.roll.now; keys = c.args.names.keys.now; out = c.args.names.out.now } in
    let x = g.C.Cabinet.told c.args.cabinet.now in
    let y = g.C.Cabinet.told c.take_tables_and.new.cabinet in
    let z = g.C.Cabinet.told c.take_document.new.cabinet in
    let taken : HasTaken 2 status.Done x y = c.in_ok-tables.ensures.taken in
    c.vota_over.ensures x
    (given_keys names x y c.in_ok-tables.tables c.in_ok-tables.roll c.in_ok-script.script c.in_ok-tables.ensures.tables c.in_ok-tables.ensures.other taken c.in_ok-script.ensures.read)
    (taken_more 2 1 x y z taken c.in_ok-script.ensures.taken)
