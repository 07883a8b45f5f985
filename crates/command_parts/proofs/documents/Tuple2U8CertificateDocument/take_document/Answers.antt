use Rattle.std.proofs.Common.{Err, sym, ap, subst}
use Rattle.std.proofs.lemmas.Result.{err_from_is_err_and}
use Rattle.command_parts.specs.Documents.{IsTaken}
use Rattle.command_parts.specs.declared.error.Doc.TheVariants as doc
use Rattle.command_parts.proofs.Calls.{counts_certificate, taken_as}
use Rattle.command_parts.proofs.Faults.{no_certificate}
use Rattle.command_parts.proofs.documents.Tuple2U8CertificateDocument.take_document.Goals as goal

pub returns-in_err-read-clause-fault : goal.returns-in_err-read-clause-fault
returns-in_err-read-clause-fault g c =
    let told = g.C.Cabinet.told c.args.cabinet.now in
    let name = c.args.name.now in
    let taken = subst (IsTaken told.files doc.Certificate name) (sym c.deref.ensures.value) c.in_ok-bytes.ensures.bytes in
    let p = err_from_is_err_and c.from_residual-in_err-read.result c.from_residual-in_err-read.ensures.1 in
    rw (p.1, p.2) (λ memory failed. no_certificate told.files name c.deref.result.now c.in_err-read.field-0.0 taken (λ k e. c.in_err-read.ensures.line k (ap Err e)) memory)

pub returns-in_err-read-clause-taken : goal.returns-in_err-read-clause-taken
returns-in_err-read-clause-taken g c =
    let e = c.in_err-read.field-0.0 in
    let p = err_from_is_err_and c.from_residual-in_err-read.result c.from_residual-in_err-read.ensures.1 in
    rw (p.1, p.2) (taken_as 1 _ _ (counts_certificate e _ _) c.in_ok-bytes.ensures.taken)
