use Rattle.std.proofs.Common.{◌∷◌, [], ℕ, List, sym, subst, refl}
use Rattle.urna_outside.specs.ShownLines.{Shows}
use Rattle.intake_ledger.specs.Ledger.{empty_ledger}
use Rattle.intake_ledger.proofs.Offering.{at_rest}
use Rattle.command_parts.specs.Documents.{HasTables}
use Rattle.command_parts.proofs.Calls.{taken_as}
use Rattle.ledger_commands.specs.Abre.{AbreEnds, HasBegun, begin_no_cabinet, begin_no_memory, begin_refused, begun, begun_untold, not_begun}
use Rattle.ledger_commands.specs.Documents.{HasTaken}
use Rattle.ledger_commands.specs.Errors.{ledger_status}
use Rattle.ledger_commands.specs.Opening.{ledger_line}
use Rattle.ledger_commands.specs.declared.status.LedgerStatus.TheVariants as status
use Rattle.ledger_commands.proofs.Statuses.{counts_ledger, fault_ends, passed_on, told}
use Rattle.ledger_commands.proofs.abre.abre.Goals as goal

pub returns-in_err-tables : goal.returns-in_err-tables
returns-in_err-tables g c =
    let x = g.C.Cabinet.told c.args.cabinet.now in
    let y = g.C.Cabinet.told c.take.new.cabinet in
    let m = g.M.Machine.told c.args.machine.now in
    let s = c.in_err-tables.field-0.0 in
    subst (AbreEnds c.args.tables.now x y m m) (sym (passed_on c.from_residual.result s c.from_residual.ensures.1 (λ e h. h)))
    (fault_ends (AbreEnds c.args.tables.now x y m m) 1 x y s (λ taken. begin_no_memory taken refl) (λ taken. begin_no_cabinet taken refl)
    (λ memory failed taken. begin_refused (c.in_err-tables.ensures.fault memory failed) taken refl) c.in_err-tables.ensures.taken)

pub returns-in_err-_ledger : goal.returns-in_err-_ledger
returns-in_err-_ledger g c =
    let x = g.C.Cabinet.told c.args.cabinet.now in
    let y = g.C.Cabinet.told c.take.new.cabinet in
    let m = g.M.Machine.told c.args.machine.now in
    let n = g.M.Machine.told c.format.new.m in
    let e = c.in_err-_ledger.field-0.0 in
    let has : HasTables x.files c.args.tables.now c.in_ok-tables.tables = c.in_ok-tables.ensures.read in
    let taken : HasTaken 1 status.Done x y = c.in_ok-tables.ensures.taken in
    subst (AbreEnds c.args.tables.now x y m n) (sym (passed_on c.from_residual-in_err-_ledger.result (ledger_status e) c.from_residual-in_err-_ledger.ensures.1 (λ s h. h)))
    (not_begun e has (taken_as 1 x y (counts_ledger e x.tally y.tally) taken) (record { fails = c.in_err-_ledger.ensures.fails; order = c.in_err-_ledger.ensures.order }))

pub returns : goal.returns
returns g c =
    let x = g.C.Cabinet.told c.args.cabinet.now in
    let y = g.C.Cabinet.told c.take.new.cabinet in
    let m = g.M.Machine.told c.args.machine.now in
    let b = g.M.Machine.told c.format.new.m in
    let n = g.M.Machine.told c.tell_line.new.machine in
    let t = c.in_ok-tables.tables in
    let has : HasTables x.files c.args.tables.now t = c.in_ok-tables.ensures.read in
    let taken : HasTaken 1 status.Done x y = c.in_ok-tables.ensures.taken in
    let done = c.in_ok-_ledger.ensures in
    let laid : HasBegun t m b = record { ran = done.ran; order = done.order; rest = at_rest t b c.in_ok-_ledger._ledger (empty_ledger t) done.kept; fine = done.fine } in
    told (AbreEnds c.args.tables.now x y m n) (ledger_line 0 ∷ []) c.tell_line.result b n
    (subst (λ (bytes : List ℕ). Shows c.tell_line.result (bytes ∷ []) b n) {y = ledger_line 0} c.ledger_line.ensures c.tell_line.ensures.shown) c.tell_line.ensures.err
    (begun b has taken laid) (begun_untold b has (taken_as 1 x y (λ same. same) taken) laid)
