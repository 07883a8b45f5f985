use Rattle.std.proofs.Common.{◌≡◌, ap, sym, subst, ◌∙◌}
use Rattle.election_tables.specs.declared.tables.sections.Section.{Section}
use Rattle.image_codec.specs.Encoding.{IsStateOf}
use Rattle.image_codec.specs.State.{State}
use Rattle.state_store.specs.Load.{IsSectionOf}
use Rattle.state_store.specs.declared.load.Load.{Load}
use Rattle.urna_commands.specs.Command.{Vota}
use Rattle.urna_commands.specs.Holding.{hold_status}
use Rattle.urna_commands.specs.Putting.{PutsResults}
use Rattle.urna_commands.specs.Taking.{status_in}
use Rattle.urna_commands.specs.Vota.{VotaEnds, session_held}
use Rattle.urna_commands.proofs.Endings.{not_held, passed_on}
use Rattle.urna_commands.proofs.vota.vota_over.Goals as goal

pub returns-in_err-station : goal.returns-in_err-station
returns-in_err-station g c =
    let names : Vota = record { tables = c.args.names.tables.now; roll = c.args.names.roll.now; keys = c.args.names.keys.now; out = c.args.names.out.now } in
    let z = g.C.Cabinet.told c.args.cabinet.now in
    let m = g.M.Machine.told c.args.machine.now in
    let n = g.M.Machine.told c.hold.new.machine in
    let e = c.in_err-station.field-0.0 in
    λ x given taken.
    subst (VotaEnds names x z m n) (sym (passed_on c.from_residual.result (hold_status e) c.from_residual.ensures.1 (λ s h. h)))
    (not_held names x z m n c.args.tables.now c.args.roll.now c.args.script.now e given taken c.in_err-station.ensures.err)

pub returns : goal.returns
returns g c =
    let out = c.args.names.out.now in
    let z = g.C.Cabinet.told c.args.cabinet.now in
    let w = g.C.Cabinet.told c.deliver.new.cabinet in
    let t = c.args.tables.now in
    let r = c.args.roll.now in
    let s = status_in c.deliver.result in
    let end = c.in_ok-station.ensures.ok in
    let section_is : c.section.result ≡ end.0.load.section = c.section.ensures ∙ ap (λ (l : Load). l.section) (sym end.1) in
    let state_is : c.state.result.now ≡ end.0.last = c.state.ensures ∙ sym end.2 in
    let put =
    subst (λ (of : Section). PutsResults out t of end.0.last z w s) section_is
    (subst (λ (last : State). PutsResults out t c.section.result last z w s) state_is c.deliver.ensures) in
    let stationed = c.in_ok-station.ensures.stationed in
    let one_of = subst (λ (l : Load). IsSectionOf t r l.section) (sym end.1) stationed.load.section in
    let state =
    subst (λ (l : Load). IsStateOf t l.section.voters end.0.last) (sym end.1)
    (subst (λ (last : State). IsStateOf t c.in_ok-station.station.store.load.section.voters last) (sym end.2) stationed.kept.state) in
    λ x given taken. session_held z given taken end.0 one_of state put
