use Rattle.std.proofs.lemmas.Result.{err_from_is_err_and}
use Rattle.command_parts.specs.Documents.{bad, name_line}
use Rattle.command_parts.proofs.Calls.{taken_as}
use Rattle.command_parts.proofs.documents.NamesDocument.take_document.Goals as goal

pub returns-in_err-names-clause-fault : goal.returns-in_err-names-clause-fault
returns-in_err-names-clause-fault g c =
    let p = err_from_is_err_and c.from_residual-in_err-names.result c.from_residual-in_err-names.ensures.1 in
    rw (p.1, p.2) (λ memory failed. bad c.in_ok-bytes.ensures.bytes (name_line c.in_err-names.ensures.fault))

pub returns-in_err-names-clause-taken : goal.returns-in_err-names-clause-taken
returns-in_err-names-clause-taken g c =
    let p = err_from_is_err_and c.from_residual-in_err-names.result c.from_residual-in_err-names.ensures.1 in
    rw (p.1, p.2) (taken_as 1 _ _ (λ same. same) c.in_ok-bytes.ensures.taken)
