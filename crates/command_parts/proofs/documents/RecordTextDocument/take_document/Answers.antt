use Rattle.std.proofs.Common.{Err, sym, ap, subst}
use Rattle.std.proofs.lemmas.Result.{err_from_is_err_and}
use Rattle.command_parts.specs.Documents.{IsTaken}
use Rattle.command_parts.specs.declared.error.Doc.TheVariants as doc
use Rattle.command_parts.proofs.Calls.{counts_record, taken_as}
use Rattle.command_parts.proofs.Faults.{no_record}
use Rattle.command_parts.proofs.documents.RecordTextDocument.take_document.Goals as goal

pub returns-in_err-text-clause-fault : goal.returns-in_err-text-clause-fault
returns-in_err-text-clause-fault g c =
    let told = g.C.Cabinet.told c.args.cabinet.now in
    let name = c.args.name.now in
    let taken = subst (IsTaken told.files doc.Record name) (sym c.deref.ensures.value) c.in_ok-bytes.ensures.bytes in
    let p = err_from_is_err_and c.from_residual-in_err-text.result c.from_residual-in_err-text.ensures.1 in
    rw (p.1, p.2) (λ memory failed. no_record told.files name c.deref.result.now c.in_err-text.field-0.0 taken (λ k e. c.in_err-text.ensures.fault k (ap Err e)) memory)

pub returns-in_err-text-clause-taken : goal.returns-in_err-text-clause-taken
returns-in_err-text-clause-taken g c =
    let e = c.in_err-text.field-0.0 in
    let p = err_from_is_err_and c.from_residual-in_err-text.result c.from_residual-in_err-text.ensures.1 in
    rw (p.1, p.2) (taken_as 1 _ _ (counts_record e _ _) c.in_ok-bytes.ensures.taken)
