use Rattle.std.proofs.Common.{refl, sym, subst}
use Rattle.ledger_commands.specs.Command.{Recebe}
use Rattle.ledger_commands.specs.Recebe.{RecebeEnds, list_no_cabinet, list_no_memory, list_refused}
use Rattle.ledger_commands.proofs.Statuses.{fault_ends, passed_on}
use Rattle.ledger_commands.proofs.recebe.recebe.Goals as goal

pub returns-in_err-tables : goal.returns-in_err-tables
returns-in_err-tables g c =
    let names : Recebe = record { tables = c.args.names.tables.now; list = c.args.names.list.now } in
    let x = g.C.Cabinet.told c.args.cabinet.now in
    let y = g.C.Cabinet.told c.take_tables_and_list.new.cabinet in
    let m = g.M.Machine.told c.args.machine.now in
    let s = c.in_err-tables.field-0.0 in
    subst (RecebeEnds names x y m m) (sym (passed_on c.from_residual.result s c.from_residual.ensures.1 (λ e h. h)))
    (fault_ends (RecebeEnds names x y m m) 2 x y s (λ taken. list_no_memory taken refl) (λ taken. list_no_cabinet taken refl)
    (λ memory failed taken. list_refused (c.in_err-tables.ensures.fault memory failed) taken refl) c.in_err-tables.ensures.taken)

pub returns : goal.returns
returns g c = c.recebe_over.ensures (record { tables = c.args.names.tables.now; list = c.args.names.list.now }) (g.C.Cabinet.told c.args.cabinet.now) c.in_ok-tables.ensures.given c.in_ok-tables.ensures.taken
