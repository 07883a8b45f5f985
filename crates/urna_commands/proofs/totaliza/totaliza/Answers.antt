use Rattle.command_parts.specs.Documents.{IsFirstFault as IsFirstFaultOf}
use Rattle.command_parts.specs.declared.error.Doc.TheVariants as doc
use Rattle.urna_commands.specs.Command.{Totaliza}
use Rattle.urna_commands.specs.Totaliza.{TotalizaEnds, list_no_cabinet, list_no_memory, list_refused}
use Rattle.urna_commands.proofs.Endings.{fault_ends, untouched}
use Rattle.urna_commands.proofs.totaliza.totaliza.Goals as goal

pub returns-in_err-tables : goal.returns-in_err-tables
returns-in_err-tables g c =
    let names : Totaliza = record { tables = c.args.names.tables.now; list = c.args.names.list.now } in
    let x = g.C.Cabinet.told c.args.cabinet.now in
    let y = g.C.Cabinet.told c.take_tables_and.new.cabinet in
    let m = g.M.Machine.told c.args.machine.now in
    fault_ends (TotalizaEnds names x y m m) 2 x y (IsFirstFaultOf x.files names.tables doc.List names.list) c.from_residual.result c.in_err-tables.field-0.0 c.from_residual.ensures.1 (λ taken. list_no_memory taken (untouched m)) (λ taken. list_no_cabinet taken (untouched m))
    (λ s why taken. list_refused why taken (untouched m)) c.in_err-tables.ensures.fault c.in_err-tables.ensures.taken

pub returns : goal.returns
returns g c =
    c.totaliza_over.ensures (record { tables = c.args.names.tables.now; list = c.args.names.list.now }) (g.C.Cabinet.told c.args.cabinet.now) (record { tables = c.in_ok-tables.ensures.tables; list = c.in_ok-tables.ensures.other })
    c.in_ok-tables.ensures.taken
