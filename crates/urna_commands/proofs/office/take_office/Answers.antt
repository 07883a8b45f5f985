use Rattle.std.proofs.Common.{Option, sym, subst}
use Rattle.std.proofs.lemmas.Result.{err_from_is_err_and}
use Rattle.urna_outside.specs.Cabinet.{Files}
use Rattle.command_parts.specs.declared.error.CommandError.{CommandError}
use Rattle.command_parts.specs.declared.error.Doc.TheVariants as doc
use Rattle.command_parts.specs.Taking.{HasTaken as HasTakenOf}
use Rattle.urna_commands.specs.Documents.{IsFault}
use Rattle.urna_commands.specs.Office.{of_list, of_office, of_tables}
use Rattle.urna_commands.specs.Taking.{HasTaken}
use Rattle.urna_commands.specs.declared.status.Status.TheVariants as status
use Rattle.command_parts.proofs.Calls.{taken_more}
use Rattle.urna_commands.proofs.Offices.{fault_told}
use Rattle.urna_commands.proofs.office.take_office.Goals as goal

pub returns-in_err-tables-clause-fault : goal.returns-in_err-tables-clause-fault
returns-in_err-tables-clause-fault g c =
    let files = (g.C.Cabinet.told c.args.cabinet.now).files in
    let p = err_from_is_err_and c.from_residual.result c.from_residual.ensures.1 in
    rw p.1 (λ memory failed. of_tables (fault_told files c.args.tables.now doc.Tables p.0 c.in_err-tables.field-0.0 p.2 c.in_err-tables.ensures.fault memory failed))

pub returns-in_default-clause-fault : goal.returns-in_default-clause-fault
returns-in_default-clause-fault g c = λ memory failed. of_office c.in_ok-tables.ensures.read c.in_default.ensures

pub returns-in_err-list-clause-fault : goal.returns-in_err-list-clause-fault
returns-in_err-list-clause-fault g c =
    let x = g.C.Cabinet.told c.args.cabinet.now in
    let y = g.C.Cabinet.told c.take_document.new.cabinet in
    let first : HasTaken 1 status.Done x y = c.in_ok-tables.ensures.taken in
    let p = err_from_is_err_and c.from_residual-in_err-list.result c.from_residual-in_err-list.ensures.1 in
    rw p.1
    (λ memory failed. of_list c.in_ok-tables.ensures.read c.in-Some.ensures
    (subst (λ (files : Option Files). IsFault files c.args.list.now doc.List p.0) first.files
    (fault_told y.files c.args.list.now doc.List p.0 c.in_err-list.field-0.0 p.2 c.in_err-list.ensures.fault memory failed)))

pub returns-in_err-list-clause-taken : goal.returns-in_err-list-clause-taken
returns-in_err-list-clause-taken g c =
    let x = g.C.Cabinet.told c.args.cabinet.now in
    let y = g.C.Cabinet.told c.take_document.new.cabinet in
    let z = g.C.Cabinet.told c.take_document-2.new.cabinet in
    let p = err_from_is_err_and c.from_residual-in_err-list.result c.from_residual-in_err-list.ensures.1 in
    rw p.1
    (subst (λ (e : Option CommandError). HasTakenOf 2 e x z) (sym p.2) (taken_more 1 1 x y z c.in_ok-tables.ensures.taken c.in_err-list.ensures.taken))

pub returns-clause-taken : goal.returns-clause-taken
returns-clause-taken g c =
    taken_more 1 1 (g.C.Cabinet.told c.args.cabinet.now) (g.C.Cabinet.told c.take_document.new.cabinet) (g.C.Cabinet.told c.take_document-2.new.cabinet) c.in_ok-tables.ensures.taken c.in_ok-list.ensures.taken
