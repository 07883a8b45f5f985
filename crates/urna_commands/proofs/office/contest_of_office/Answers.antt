use Rattle.std.proofs.lemmas.Result.{err_from_is_err_and}
use Rattle.urna_commands.proofs.Offices.{office_stops}
use Rattle.urna_commands.proofs.office.contest_of_office.Goals as goal

pub returns-in_err-tables-clause-known : goal.returns-in_err-tables-clause-known
returns-in_err-tables-clause-known g c =
    let p = err_from_is_err_and c.from_residual.result c.from_residual.ensures.1 in
    rw (p.1, p.2)
    (office_stops c.args.tables.now c.args.list.now c.args.code (g.C.Cabinet.told c.args.cabinet.now) (g.C.Cabinet.told c.take_office.new.cabinet)
    (g.M.Machine.told c.args.machine.now) c.in_err-tables.field-0.0 c.in_err-tables.ensures.fault c.in_err-tables.ensures.taken)

pub returns-clause-known : goal.returns-clause-known
returns-clause-known g c =
    c.contest_over.ensures.known c.args.tables.now c.args.list.now c.args.code (g.C.Cabinet.told c.args.cabinet.now)
    (record { tables = c.in_ok-tables.ensures.tables; list = c.in_ok-tables.ensures.list }) c.in_ok-tables.ensures.office c.in_ok-tables.ensures.taken
