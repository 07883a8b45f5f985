use Rattle.std.proofs.Common.{Err, refl, sym, subst}
use Rattle.std.proofs.lemmas.Result.{err_from_is_err_and}
use Rattle.command_parts.specs.Documents.{IsTaken}
use Rattle.command_parts.specs.declared.error.Doc.TheVariants as doc
use Rattle.ledger_commands.specs.Receiving.{OfferEnds, offer_at_fault, offer_no_cabinet, offer_no_memory, offered}
use Rattle.ledger_commands.specs.declared.status.LedgerStatus.{LedgerStatus}
use Rattle.ledger_commands.proofs.Receiving.{offer_fails}
use Rattle.ledger_commands.proofs.Statuses.{fault_ends}
use Rattle.ledger_commands.proofs.recebe.offer.Goals as goal

pub returns-in_err-bytes : goal.returns-in_err-bytes
returns-in_err-bytes g c l keeps =
    let x = g.C.Cabinet.told c.args.cabinet.now in
    let y = g.C.Cabinet.told c.take.new.cabinet in
    let m = g.M.Machine.told c.args.machine.now in
    let p = err_from_is_err_and c.from_residual.result c.from_residual.ensures.1 in
    rw (p.1, p.2)
    (fault_ends (λ (u : LedgerStatus). OfferEnds c.args.tables.now l c.args.name.now c.args.number x y m m (Err u)) 1 x y c.in_err-bytes.field-0.0 (λ taken. offer_no_memory taken refl)
    (λ taken. offer_no_cabinet taken refl) (λ memory failed taken. offer_at_fault (c.in_err-bytes.ensures.fault memory failed) taken refl) c.in_err-bytes.ensures.taken)

pub returns-in_err-offered : goal.returns-in_err-offered
returns-in_err-offered g c l keeps =
    let x = g.C.Cabinet.told c.args.cabinet.now in
    let y = g.C.Cabinet.told c.take.new.cabinet in
    let m = g.M.Machine.told c.args.machine.now in
    let n = g.M.Machine.told c.offer.new.m in
    let has = subst (IsTaken x.files doc.Report c.args.name.now) (sym c.deref.ensures.value) c.in_ok-bytes.ensures.read in
    let p = err_from_is_err_and c.from_residual-in_err-offered.result c.from_residual-in_err-offered.ensures.1 in
    rw (p.1, p.2)
    (offer_fails c.args.tables.now l c.args.name.now c.deref.result.now c.args.number c.args.ledger x y m n c.in_err-offered.field-0.0 has c.in_ok-bytes.ensures.taken keeps
    c.in_err-offered.ensures.fails)

pub returns : goal.returns
returns g c l keeps =
    let x = g.C.Cabinet.told c.args.cabinet.now in
    let has = subst (IsTaken x.files doc.Report c.args.name.now) (sym c.deref.ensures.value) c.in_ok-bytes.ensures.read in
    offered has c.in_ok-bytes.ensures.taken (c.in_ok-offered.ensures.offered l keeps)
