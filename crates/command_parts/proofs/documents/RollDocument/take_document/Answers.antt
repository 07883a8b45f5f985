use Rattle.std.proofs.Common.{Err, sym, ap, subst}
use Rattle.std.proofs.lemmas.Result.{err_from_is_err_and}
use Rattle.command_parts.specs.Documents.{IsTaken}
use Rattle.command_parts.specs.declared.error.Doc.TheVariants as doc
use Rattle.command_parts.proofs.Calls.{counts_roll, taken_as}
use Rattle.command_parts.proofs.Faults.{no_roll}
use Rattle.command_parts.proofs.documents.RollDocument.take_document.Goals as goal

pub returns-in_err-roll-clause-fault : goal.returns-in_err-roll-clause-fault
returns-in_err-roll-clause-fault g c =
    let told = g.C.Cabinet.told c.args.cabinet.now in
    let name = c.args.name.now in
    let taken = subst (IsTaken told.files doc.Roll name) (sym c.deref.ensures.value) c.in_ok-bytes.ensures.bytes in
    let p = err_from_is_err_and c.from_residual-in_err-roll.result c.from_residual-in_err-roll.ensures.1 in
    rw (p.1, p.2) (λ memory failed. no_roll told.files name c.deref.result.now c.in_err-roll.field-0.0 taken (λ e. c.in_err-roll.ensures.count (ap Err e))
    (λ k e. c.in_err-roll.ensures.line k (ap Err e)) memory)

pub returns-in_err-roll-clause-taken : goal.returns-in_err-roll-clause-taken
returns-in_err-roll-clause-taken g c =
    let e = c.in_err-roll.field-0.0 in
    let p = err_from_is_err_and c.from_residual-in_err-roll.result c.from_residual-in_err-roll.ensures.1 in
    rw (p.1, p.2) (taken_as 1 _ _ (counts_roll e _ _) c.in_ok-bytes.ensures.taken)
