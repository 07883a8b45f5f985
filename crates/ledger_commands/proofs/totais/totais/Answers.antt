use Rattle.std.proofs.Common.{◌≡◌, ℕ, List, length, sym, subst, ◌∙◌, refl}
use Rattle.urna_outside.specs.ShownLines.{Shows}
use Rattle.totals.specs.Lines.{section_line}
use Rattle.intake_ledger.specs.Ledger.{accepted_in}
use Rattle.intake_ledger.specs.Totals.{AreTotals}
use Rattle.command_parts.specs.Documents.{HasTables}
use Rattle.command_parts.proofs.Calls.{taken_as}
use Rattle.ledger_commands.specs.Documents.{HasTaken}
use Rattle.ledger_commands.specs.Errors.{ledger_status}
use Rattle.ledger_commands.specs.Lines.{ledger_lines, panels_lines}
use Rattle.ledger_commands.specs.Totais.{TotaisEnds, no_lines, none_opened, total_no_cabinet, total_no_memory, total_refused, totals_told, totals_untold}
use Rattle.ledger_commands.specs.declared.status.LedgerStatus.TheVariants as status
use Rattle.ledger_commands.proofs.Opened.{cut_safe, opened, told_safe}
use Rattle.ledger_commands.proofs.Statuses.{counts_ledger, fault_ends, passed_on, told}
use Rattle.ledger_commands.proofs.totais.totais.Goals as goal

pub returns-in_err-tables : goal.returns-in_err-tables
returns-in_err-tables g c =
    let x = g.C.Cabinet.told c.args.cabinet.now in
    let y = g.C.Cabinet.told c.take.new.cabinet in
    let m = g.M.Machine.told c.args.machine.now in
    let s = c.in_err-tables.field-0.0 in
    subst (TotaisEnds c.args.tables.now x y m m) (sym (passed_on c.from_residual.result s c.from_residual.ensures.1 (λ e h. h)))
    (fault_ends (TotaisEnds c.args.tables.now x y m m) 1 x y s (λ taken. total_no_memory taken refl) (λ taken. total_no_cabinet taken refl)
    (λ memory failed taken. total_refused (c.in_err-tables.ensures.fault memory failed) taken refl) c.in_err-tables.ensures.taken)

pub returns-in_err-ledger : goal.returns-in_err-ledger
returns-in_err-ledger g c =
    let x = g.C.Cabinet.told c.args.cabinet.now in
    let y = g.C.Cabinet.told c.take.new.cabinet in
    let m = g.M.Machine.told c.args.machine.now in
    let n = g.M.Machine.told c.open.new.m in
    let e = c.in_err-ledger.field-0.0 in
    let has : HasTables x.files c.args.tables.now c.in_ok-tables.tables = c.in_ok-tables.ensures.read in
    let taken : HasTaken 1 status.Done x y = c.in_ok-tables.ensures.taken in
    subst (TotaisEnds c.args.tables.now x y m n) (sym (passed_on c.from_residual-in_err-ledger.result (ledger_status e) c.from_residual-in_err-ledger.ensures.1 (λ s h. h)))
    (none_opened e has (taken_as 1 x y (counts_ledger e x.tally y.tally) taken) c.in_err-ledger.ensures.fails)

pub returns-in_err-lines : goal.returns-in_err-lines
returns-in_err-lines g c =
    let x = g.C.Cabinet.told c.args.cabinet.now in
    let y = g.C.Cabinet.told c.take.new.cabinet in
    let m = g.M.Machine.told c.args.machine.now in
    let n = g.M.Machine.told c.open.new.m in
    let t = c.in_ok-tables.tables in
    let has : HasTables x.files c.args.tables.now t = c.in_ok-tables.ensures.read in
    let taken : HasTaken 1 status.Done x y = c.in_ok-tables.ensures.taken in
    let (l, keeps, ran, exact) = c.in_ok-ledger.ensures.opened in
    subst (TotaisEnds c.args.tables.now x y m n) (sym (passed_on c.from_residual-in_err-lines.result status.Memory c.from_residual-in_err-lines.ensures.1 (λ s h. h)))
    (no_lines has (taken_as 1 x y (λ same. same) taken) (opened t has.valid l c.in_ok-ledger.ledger m n keeps ran exact c.in_ok-ledger.ensures.fine))

pub ledger_lines-requires-clause-sums : goal.ledger_lines-requires-clause-sums
ledger_lines-requires-clause-sums g c =
    let (l, keeps, ran, exact) = c.in_ok-ledger.ensures.opened in
    (l, subst (AreTotals c.in_ok-tables.tables l) (sym c.totals.ensures) keeps.totals)

pub returns : goal.returns
returns g c =
    let x = g.C.Cabinet.told c.args.cabinet.now in
    let y = g.C.Cabinet.told c.take.new.cabinet in
    let m = g.M.Machine.told c.args.machine.now in
    let b = g.M.Machine.told c.open.new.m in
    let n = g.M.Machine.told c.tell_lines.new.machine in
    let t = c.in_ok-tables.tables in
    let kept = c.in_ok-ledger.ledger in
    let has : HasTables x.files c.args.tables.now t = c.in_ok-tables.ensures.read in
    let taken : HasTaken 1 status.Done x y = c.in_ok-tables.ensures.taken in
    let (l, keeps, ran, exact) = c.in_ok-ledger.ensures.opened in
    let fine = c.in_ok-ledger.ensures.fine in
    let found = opened t has.valid l kept m b keeps ran exact fine in
    let told_by : c.deref.result.now ≡ ledger_lines t l = c.deref.ensures.value ∙ c.in_ok-lines.ensures l (subst (AreTotals t l) (sym c.totals.ensures) keeps.totals) in
    let line = section_line (accepted_in l) (length t.sections) in
    let lines = panels_lines t l 0 t.panels in
    told (TotaisEnds c.args.tables.now x y m n) (ledger_lines t l) c.tell_lines.result b n
    (subst (λ (ls : List (List ℕ)). Shows c.tell_lines.result ls b n) {y = ledger_lines t l} told_by c.tell_lines.ensures.shown) c.tell_lines.ensures.err
    (λ shown. totals_told b has taken found shown (told_safe t has.valid l kept m b keeps ran exact fine line lines n shown))
    (λ off. totals_untold b has (taken_as 1 x y (λ same. same) taken) found off (cut_safe t has.valid l kept m b keeps ran exact fine line lines n off))
