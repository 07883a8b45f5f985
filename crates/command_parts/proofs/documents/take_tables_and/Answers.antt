use Rattle.std.proofs.Common.{None, Option, subst}
use Rattle.std.proofs.lemmas.Result.{err_from_is_err_and}
use Rattle.urna_outside.specs.Cabinet.{Files}
use Rattle.command_parts.specs.Documents.{IsFault, first_other, first_tables}
use Rattle.command_parts.specs.Taking.{HasTaken}
use Rattle.command_parts.proofs.Calls.{taken_more}
use Rattle.command_parts.proofs.documents.take_tables_and.Goals as goal

pub returns-in_err-tables-clause-fault : goal.returns-in_err-tables-clause-fault
returns-in_err-tables-clause-fault g c =
    let p = err_from_is_err_and c.from_residual.result c.from_residual.ensures.1 in
    rw (p.1, p.2) (λ memory failed. first_tables (c.in_err-tables.ensures.fault memory failed))

pub returns-in_err-other-clause-fault : goal.returns-in_err-other-clause-fault
returns-in_err-other-clause-fault g c =
    let p = err_from_is_err_and c.from_residual-in_err-other.result c.from_residual-in_err-other.ensures.1 in
    let s = c.in_err-other.field-0.0 in
    let first : HasTaken 1 None (g.C.Cabinet.told c.args.cabinet.now) (g.C.Cabinet.told c.take_document.new.cabinet) = c.in_ok-tables.ensures.taken in
    rw (p.1, p.2) (λ memory failed. first_other c.in_ok-tables.ensures.read
    (subst (λ (fs : Option Files). IsFault fs c.args.other.now g.D.Document.doc s) first.files (c.in_err-other.ensures.fault memory failed)))

pub returns-in_err-other-clause-taken : goal.returns-in_err-other-clause-taken
returns-in_err-other-clause-taken g c =
    let p = err_from_is_err_and c.from_residual-in_err-other.result c.from_residual-in_err-other.ensures.1 in
    rw (p.1, p.2) (taken_more 1 1 _ _ _ c.in_ok-tables.ensures.taken c.in_err-other.ensures.taken)

pub returns-clause-taken : goal.returns-clause-taken
returns-clause-taken g c = taken_more 1 1 _ _ _ c.in_ok-tables.ensures.taken c.in_ok-other.ensures.taken
