use Rattle.std.proofs.Common.{◌∷◌, [], ℕ, List, length, sym, subst}
use Rattle.std.specs.Option.{ForSome}
use Rattle.urna_outside.specs.ShownLines.{Shows}
use Rattle.image_codec.specs.Valid.{ready_state}
use Rattle.state_store.specs.Rest.{AreAtRest}
use Rattle.state_store.specs.declared.load.Load.{Load}
use Rattle.command_parts.specs.Documents.{IsFirstFault as IsFirstFaultOf}
use Rattle.command_parts.specs.declared.error.Doc.TheVariants as doc
use Rattle.urna_commands.specs.Carga.{CargaEnds, HasLoaded, IsSectionAsked, load_no_cabinet, load_no_memory, load_refused, loaded, loaded_line, no_section, not_loaded, not_told}
use Rattle.urna_commands.specs.Command.{Carga}
use Rattle.command_parts.specs.Documents.{HasDocuments}
use Rattle.urna_commands.specs.Errors.{load_status}
use Rattle.urna_commands.specs.Taking.{HasTaken}
use Rattle.urna_commands.specs.declared.status.Status.TheVariants as status
use Rattle.command_parts.proofs.Calls.{taken_as}
use Rattle.urna_commands.proofs.Endings.{counts_load, fault_ends, passed_on, told, untouched}
use Rattle.urna_commands.proofs.carga.carga.Goals as goal

pub returns-in_err-tables : goal.returns-in_err-tables
returns-in_err-tables g c =
    let names : Carga = record { tables = c.args.names.tables.now; roll = c.args.names.roll.now; zone = c.args.names.zone; number = c.args.names.number } in
    let x = g.C.Cabinet.told c.args.cabinet.now in
    let y = g.C.Cabinet.told c.take_tables_and.new.cabinet in
    let m = g.M.Machine.told c.args.machine.now in
    fault_ends (CargaEnds names x y m m) 2 x y (IsFirstFaultOf x.files names.tables doc.Roll names.roll) c.from_residual.result c.in_err-tables.field-0.0 c.from_residual.ensures.1 (λ taken. load_no_memory taken (untouched m)) (λ taken. load_no_cabinet taken (untouched m))
    (λ s why taken. load_refused why taken (untouched m)) c.in_err-tables.ensures.fault c.in_err-tables.ensures.taken

pub returns-in_default : goal.returns-in_default
returns-in_default g c =
    let names : Carga = record { tables = c.args.names.tables.now; roll = c.args.names.roll.now; zone = c.args.names.zone; number = c.args.names.number } in
    let x = g.C.Cabinet.told c.args.cabinet.now in
    let y = g.C.Cabinet.told c.take_tables_and.new.cabinet in
    let m = g.M.Machine.told c.args.machine.now in
    let taken : HasTaken 2 status.Done x y = c.in_ok-tables.ensures.taken in
    let given : HasDocuments x.files names.tables names.roll c.in_ok-tables.tables c.in_ok-tables.roll = record { tables = c.in_ok-tables.ensures.tables; roll = c.in_ok-tables.ensures.other } in
    no_section given (λ section is. c.in_default.ensures.none section is.fits is.zone is.number)
    (taken_as 2 x y (λ same. same) taken) (untouched m)

pub returns-in_err-_store : goal.returns-in_err-_store
returns-in_err-_store g c =
    let names : Carga = record { tables = c.args.names.tables.now; roll = c.args.names.roll.now; zone = c.args.names.zone; number = c.args.names.number } in
    let x = g.C.Cabinet.told c.args.cabinet.now in
    let y = g.C.Cabinet.told c.take_tables_and.new.cabinet in
    let m = g.M.Machine.told c.args.machine.now in
    let n = g.M.Machine.told c.format.new.m in
    let taken : HasTaken 2 status.Done x y = c.in_ok-tables.ensures.taken in
    let e = c.in_err-_store.field-0.0 in
    let given : HasDocuments x.files names.tables names.roll c.in_ok-tables.tables c.in_ok-tables.roll = record { tables = c.in_ok-tables.ensures.tables; roll = c.in_ok-tables.ensures.other } in
    let asked : IsSectionAsked names c.in_ok-tables.tables c.in_ok-tables.roll c.in-Some.section =
    record { fits = c.in-Some.ensures.some; zone = c.in-Some.ensures.asked.0; number = c.in-Some.ensures.asked.1 } in
    subst (CargaEnds names x y m n) (sym (passed_on c.from_residual-in_err-_store.result (load_status e) c.from_residual-in_err-_store.ensures.1 (λ s h. h)))
    (not_loaded e given asked (taken_as 2 x y (counts_load e x.tally y.tally) taken) (record { fails = c.in_err-_store.ensures.fails; order = c.in_err-_store.ensures.order }))

pub returns : goal.returns
returns g c =
    let names : Carga = record { tables = c.args.names.tables.now; roll = c.args.names.roll.now; zone = c.args.names.zone; number = c.args.names.number } in
    let x = g.C.Cabinet.told c.args.cabinet.now in
    let y = g.C.Cabinet.told c.take_tables_and.new.cabinet in
    let m = g.M.Machine.told c.args.machine.now in
    let b = g.M.Machine.told c.format.new.m in
    let n = g.M.Machine.told c.tell_line.new.machine in
    let taken : HasTaken 2 status.Done x y = c.in_ok-tables.ensures.taken in
    let t = c.in_ok-tables.tables in
    let r = c.in_ok-tables.roll in
    let given : HasDocuments x.files names.tables names.roll t r = record { tables = c.in_ok-tables.ensures.tables; roll = c.in_ok-tables.ensures.other } in
    let asked : IsSectionAsked names t r c.in-Some.section =
    record { fits = c.in-Some.ensures.some; zone = c.in-Some.ensures.asked.0; number = c.in-Some.ensures.asked.1 } in
    let has : HasLoaded t r c.in-Some.section m b =
    record {
      ran = c.in_ok-_store.ensures.ran;
      order = c.in_ok-_store.ensures.order;
      rest = subst (λ (l : Load). ForSome b.flashes (AreAtRest t l (ready_state t (length r.titles)))) c.in_ok-_store.ensures.store c.in_ok-_store.ensures.kept.rest;
      fine = c.in_ok-_store.ensures.fine;
    } in
    told (CargaEnds names x y m n) (loaded_line c.in-Some.section ∷ []) c.tell_line.result b n
    (subst (λ (bytes : List ℕ). Shows c.tell_line.result (bytes ∷ []) b n) c.loaded_line.ensures c.tell_line.ensures.shown) c.tell_line.ensures.err
    (loaded b given asked taken has) (not_told b given asked (taken_as 2 x y (λ same. same) taken) has)
