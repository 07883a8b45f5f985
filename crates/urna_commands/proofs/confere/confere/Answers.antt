use Rattle.std.proofs.Common.{◌∷◌, [], ℕ, List, sym, subst, ◌∙◌}
use Rattle.urna_outside.specs.ShownLines.{HasShown, IsCutOff}
use Rattle.section_intake.specs.Verdict.{IsVerdict}
use Rattle.command_parts.specs.Documents.{IsFirstFault as IsFirstFaultOf}
use Rattle.command_parts.specs.declared.error.Doc.TheVariants as doc
use Rattle.urna_commands.specs.Command.{Confere}
use Rattle.urna_commands.specs.Confere.{ConfereEnds, HasVerdict, check_no_cabinet, check_no_memory, check_not_told, check_refused, checked}
use Rattle.urna_commands.specs.Taking.{HasTaken}
use Rattle.urna_commands.specs.declared.status.Status.TheVariants as status
use Rattle.command_parts.proofs.Calls.{taken_as}
use Rattle.urna_commands.proofs.Endings.{counts_verdict, fault_ends, passed_on, untouched}
use Rattle.urna_commands.proofs.confere.confere.Goals as goal

pub returns-in_err-tables : goal.returns-in_err-tables
returns-in_err-tables g c =
    let names : Confere = record { tables = c.args.names.tables.now; report = c.args.names.report.now } in
    let x = g.C.Cabinet.told c.args.cabinet.now in
    let y = g.C.Cabinet.told c.take_tables_and.new.cabinet in
    let m = g.M.Machine.told c.args.machine.now in
    fault_ends (ConfereEnds names x y m m) 2 x y (IsFirstFaultOf x.files names.tables doc.Report names.report) c.from_residual.result c.in_err-tables.field-0.0 c.from_residual.ensures.1 (λ taken. check_no_memory taken (untouched m)) (λ taken. check_no_cabinet taken (untouched m))
    (λ s why taken. check_refused why taken (untouched m)) c.in_err-tables.ensures.fault c.in_err-tables.ensures.taken

pub returns-in_err-verdict : goal.returns-in_err-verdict
returns-in_err-verdict g c =
    let names : Confere = record { tables = c.args.names.tables.now; report = c.args.names.report.now } in
    let x = g.C.Cabinet.told c.args.cabinet.now in
    let y = g.C.Cabinet.told c.take_tables_and.new.cabinet in
    let m = g.M.Machine.told c.args.machine.now in
    let taken : HasTaken 2 status.Done x y = c.in_ok-tables.ensures.taken in
    subst (ConfereEnds names x y m m) (sym (passed_on c.from_residual-in_err-verdict.result status.Memory c.from_residual-in_err-verdict.ensures.1 (λ s h. h)))
    (check_no_memory (taken_as 2 x y (λ same. same) taken) (untouched m))

pub returns-in_err-tell_line : goal.returns-in_err-tell_line
returns-in_err-tell_line g c =
    let names : Confere = record { tables = c.args.names.tables.now; report = c.args.names.report.now } in
    let x = g.C.Cabinet.told c.args.cabinet.now in
    let y = g.C.Cabinet.told c.take_tables_and.new.cabinet in
    let m = g.M.Machine.told c.args.machine.now in
    let n = g.M.Machine.told c.tell_line.new.machine in
    let t = c.in_ok-tables.tables in
    let v = c.in_ok-verdict.verdict in
    let taken : HasTaken 2 status.Done x y = c.in_ok-tables.ensures.taken in
    let given : HasVerdict x.files names v =
    record {
      t = t;
      bytes = c.in_ok-tables.bytes.items;
      tables = c.in_ok-tables.ensures.tables;
      report = c.in_ok-tables.ensures.other;
      verdict = subst (λ (b : List ℕ). IsVerdict t b v) c.deref.ensures.value c.in_ok-verdict.ensures.verdict;
    } in
    subst (ConfereEnds names x y m n)
    (sym (passed_on c.from_residual-in_err-tell_line.result status.Display c.from_residual-in_err-tell_line.ensures.1 (λ s h. h ∙ c.in_err-tell_line.ensures.err)))
    (check_not_told given (taken_as 2 x y (λ same. same) taken)
    (subst (λ (bytes : List ℕ). IsCutOff (bytes ∷ []) m n) c.verdict_line.ensures c.in_err-tell_line.ensures.shown))

pub returns : goal.returns
returns g c =
    let names : Confere = record { tables = c.args.names.tables.now; report = c.args.names.report.now } in
    let x = g.C.Cabinet.told c.args.cabinet.now in
    let y = g.C.Cabinet.told c.take_tables_and.new.cabinet in
    let m = g.M.Machine.told c.args.machine.now in
    let n = g.M.Machine.told c.tell_line.new.machine in
    let t = c.in_ok-tables.tables in
    let v = c.in_ok-verdict.verdict in
    let taken : HasTaken 2 status.Done x y = c.in_ok-tables.ensures.taken in
    let given : HasVerdict x.files names v =
    record {
      t = t;
      bytes = c.in_ok-tables.bytes.items;
      tables = c.in_ok-tables.ensures.tables;
      report = c.in_ok-tables.ensures.other;
      verdict = subst (λ (b : List ℕ). IsVerdict t b v) c.deref.ensures.value c.in_ok-verdict.ensures.verdict;
    } in
    subst (ConfereEnds names x y m n) (sym c.ended_by.ensures)
    (checked given (taken_as 2 x y (counts_verdict v x.tally y.tally) taken)
    (subst (λ (bytes : List ℕ). HasShown (bytes ∷ []) m n) c.verdict_line.ensures c.in_ok-tell_line.ensures.shown))
