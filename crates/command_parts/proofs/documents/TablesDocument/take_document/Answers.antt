use Rattle.std.proofs.Common.{Err, sym, ap, subst}
use Rattle.std.proofs.lemmas.Result.{err_from_is_err_and}
use Rattle.command_parts.specs.Documents.{IsTaken}
use Rattle.command_parts.specs.declared.error.Doc.TheVariants as doc
use Rattle.command_parts.proofs.Calls.{counts_tables, taken_as}
use Rattle.command_parts.proofs.Faults.{not_tables}
use Rattle.command_parts.proofs.documents.TablesDocument.take_document.Goals as goal

pub returns-in_err-tables-clause-fault : goal.returns-in_err-tables-clause-fault
returns-in_err-tables-clause-fault g c =
    let told = g.C.Cabinet.told c.args.cabinet.now in
    let name = c.args.name.now in
    let taken = subst (IsTaken told.files doc.Tables name) (sym c.deref.ensures.value) c.in_ok-bytes.ensures.bytes in
    let p = err_from_is_err_and c.from_residual-in_err-tables.result c.from_residual-in_err-tables.ensures.1 in
    rw (p.1, p.2) (λ memory failed. not_tables told.files name c.deref.result.now c.in_err-tables.field-0.0 taken (λ e. c.in_err-tables.ensures.not_toml (ap Err e))
    (λ k e. c.in_err-tables.ensures.rule k (ap Err e)) memory)

pub returns-in_err-tables-clause-taken : goal.returns-in_err-tables-clause-taken
returns-in_err-tables-clause-taken g c =
    let e = c.in_err-tables.field-0.0 in
    let p = err_from_is_err_and c.from_residual-in_err-tables.result c.from_residual-in_err-tables.ensures.1 in
    rw (p.1, p.2) (taken_as 1 _ _ (counts_tables e _ _) c.in_ok-bytes.ensures.taken)
