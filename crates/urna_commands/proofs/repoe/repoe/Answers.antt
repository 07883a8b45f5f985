use Rattle.std.proofs.Common.{◌∷◌, [], ℕ, List, sym, subst}
use Rattle.urna_outside.specs.ShownLines.{Shows}
use Rattle.command_parts.specs.Documents.{IsFirstFault as IsFirstFaultOf}
use Rattle.command_parts.specs.declared.error.Doc.TheVariants as doc
use Rattle.urna_commands.specs.Command.{Repoe}
use Rattle.command_parts.specs.Documents.{HasDocuments}
use Rattle.urna_commands.specs.Errors.{replace_status}
use Rattle.urna_commands.specs.Repoe.{HasReplaced, RepoeEnds, not_replaced, replace_no_cabinet, replace_no_memory, replace_refused, replaced, replaced_line, replaced_untold}
use Rattle.urna_commands.specs.Taking.{HasTaken}
use Rattle.urna_commands.specs.declared.status.Status.TheVariants as status
use Rattle.command_parts.proofs.Calls.{taken_as}
use Rattle.urna_commands.proofs.Endings.{counts_replace, fault_ends, passed_on, told, untouched}
use Rattle.urna_commands.proofs.repoe.repoe.Goals as goal

pub returns-in_err-tables : goal.returns-in_err-tables
returns-in_err-tables g c =
    let names : Repoe = record { tables = c.args.names.tables.now; roll = c.args.names.roll.now; replaced = c.args.names.replaced } in
    let x = g.C.Cabinet.told c.args.cabinet.now in
    let y = g.C.Cabinet.told c.take_tables_and.new.cabinet in
    let m = g.M.Machine.told c.args.machine.now in
    fault_ends (RepoeEnds names x y m m) 2 x y (IsFirstFaultOf x.files names.tables doc.Roll names.roll) c.from_residual.result c.in_err-tables.field-0.0 c.from_residual.ensures.1 (λ taken. replace_no_memory taken (untouched m)) (λ taken. replace_no_cabinet taken (untouched m))
    (λ s why taken. replace_refused why taken (untouched m)) c.in_err-tables.ensures.fault c.in_err-tables.ensures.taken

pub returns-in_err-section : goal.returns-in_err-section
returns-in_err-section g c =
    let names : Repoe = record { tables = c.args.names.tables.now; roll = c.args.names.roll.now; replaced = c.args.names.replaced } in
    let x = g.C.Cabinet.told c.args.cabinet.now in
    let y = g.C.Cabinet.told c.take_tables_and.new.cabinet in
    let m = g.M.Machine.told c.args.machine.now in
    let n = g.M.Machine.told c.replace.new.m in
    let given : HasDocuments x.files names.tables names.roll c.in_ok-tables.tables c.in_ok-tables.roll = record { tables = c.in_ok-tables.ensures.tables; roll = c.in_ok-tables.ensures.other } in
    let taken : HasTaken 2 status.Done x y = c.in_ok-tables.ensures.taken in
    let e = c.in_err-section.field-0.0 in
    subst (RepoeEnds names x y m n)
    (sym (passed_on c.from_residual-in_err-section.result (replace_status e) c.from_residual-in_err-section.ensures.1 (λ s h. h)))
    (not_replaced e given (taken_as 2 x y (counts_replace e x.tally y.tally) taken) c.in_err-section.ensures.fails)

pub returns : goal.returns
returns g c =
    let names : Repoe = record { tables = c.args.names.tables.now; roll = c.args.names.roll.now; replaced = c.args.names.replaced } in
    let x = g.C.Cabinet.told c.args.cabinet.now in
    let y = g.C.Cabinet.told c.take_tables_and.new.cabinet in
    let m = g.M.Machine.told c.args.machine.now in
    let b = g.M.Machine.told c.replace.new.m in
    let n = g.M.Machine.told c.tell_line.new.machine in
    let t = c.in_ok-tables.tables in
    let r = c.in_ok-tables.roll in
    let given : HasDocuments x.files names.tables names.roll t r = record { tables = c.in_ok-tables.ensures.tables; roll = c.in_ok-tables.ensures.other } in
    let taken : HasTaken 2 status.Done x y = c.in_ok-tables.ensures.taken in
    let section = c.in_ok-section.section in
    let state = c.in_ok-section.state in
    let done = c.in_ok-section.ensures in
    let has : HasReplaced t r section state names.replaced m b =
    record { one_of = done.section; state = done.state; ran = done.ran; exact = done.exact; rest = done.rest; fine = done.fine } in
    told (RepoeEnds names x y m n) (replaced_line names.replaced section state ∷ []) c.tell_line.result b n
    (subst (λ (bytes : List ℕ). Shows c.tell_line.result (bytes ∷ []) b n) {y = replaced_line names.replaced section state} c.replaced_line.ensures c.tell_line.ensures.shown) c.tell_line.ensures.err
    (replaced b given taken has) (replaced_untold b given (taken_as 2 x y (λ same. same) taken) has)
