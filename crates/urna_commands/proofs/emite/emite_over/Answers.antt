use Rattle.std.proofs.Common.{◌≡◌, ◌≢◌, ◌∷◌, [], ℕ, List, refl, sym, subst, ◌∙◌}
use Rattle.urna_outside.specs.Cabinet.{CabinetTold}
use Rattle.urna_outside.specs.ShownLines.{Shows}
use Rattle.urna_outside.specs.Told.{Told}
use Rattle.election_tables.specs.Roll.{RollData}
use Rattle.election_tables.specs.TablesData.{TablesData}
use Rattle.election_tables.specs.declared.tables.sections.Section.{Section}
use Rattle.turnout.specs.declared.phase.Phase.TheVariants as phase
use Rattle.image_codec.specs.State.{State}
use Rattle.command_parts.specs.Documents.{HasDocuments}
use Rattle.urna_commands.specs.Command.{Emite}
use Rattle.urna_commands.specs.Emite.{EmiteEnds, HasPeeked, emitted, emitted_line, files_stopped, no_files, not_emitted, not_found, not_sealed}
use Rattle.urna_commands.specs.Errors.{store_status}
use Rattle.urna_commands.specs.Putting.{HavePut, PutsResults, no_results, result_files, results_not_made, results_not_put, results_put}
use Rattle.urna_commands.specs.Taking.{HasTaken}
use Rattle.urna_commands.specs.declared.status.Status.{Status}
use Rattle.urna_commands.specs.declared.status.Status.TheVariants as status
use Rattle.command_parts.proofs.Calls.{taken_as}
use Rattle.urna_commands.proofs.Endings.{counts_store, passed_on, told}
use Rattle.urna_commands.proofs.emite.emite_over.Goals as goal

-- the files of a sealed poll that were not all put end the command
stopped : (names : Emite) (c taken d : CabinetTold) (m n : Told) (t : TablesData) (r : RollData) (section : Section) (s : State) (opened closed : ℕ) (u : Status)
    → HasDocuments c.files names.tables names.roll t r → HasTaken 2 status.Done c taken → HasPeeked t r section s m n → s.phase ≡ phase.Sealed opened closed
    → u ≢ status.Done → PutsResults names.out t section s taken d u → EmiteEnds names c d m n u
stopped names c taken d m n t r section s opened closed _ given took peeked sealed fails (no_results none same) = absurd (fails refl)
stopped names c taken d m n t r section s opened closed _ given took peeked sealed fails (results_put is put) = absurd (fails refl)
stopped names c taken d m n t r section s opened closed _ given took peeked sealed fails (results_not_made is same) =
    no_files given (taken_as 2 c d (λ kept. kept) (subst (HasTaken 2 status.Done c) (sym same) took)) peeked is
stopped names c taken d m n t r section s opened closed _ given took peeked sealed fails (results_not_put is stop) = files_stopped taken given took peeked is stop

-- and where no error came, they were
both_put : (out : List ℕ) (t : TablesData) (section : Section) (s : State) (opened closed : ℕ) (old new : CabinetTold) (u : Status) → u ≡ status.Done
    → s.phase ≡ phase.Sealed opened closed → PutsResults out t section s old new u
    → (o : ℕ) × (k : ℕ) × (s.phase ≡ phase.Sealed o k) × HavePut (result_files out t section s o k) old new
both_put out t section s opened closed old new _ done sealed (no_results none same) = absurd (none opened closed sealed)
both_put out t section s opened closed old new _ done sealed (results_put {opened = o} {closed = k} is put) = (o, k, is, put)
both_put out t section s opened closed old new _ done sealed (results_not_made is same) = absurd (cc)
both_put out t section s opened closed old new _ done sealed (results_not_put is stop) = absurd (cc)

pub returns-in_err-section : goal.returns-in_err-section
returns-in_err-section g c =
    let names : Emite = record { tables = c.args.names.tables.now; roll = c.args.names.roll.now; out = c.args.names.out.now } in
    let y = g.C.Cabinet.told c.args.cabinet.now in
    let m = g.M.Machine.told c.args.machine.now in
    let n = g.M.Machine.told c.peek.new.m in
    let e = c.in_err-section.field-0.0 in
    λ x given taken.
    subst (EmiteEnds names x y m n) (sym (passed_on c.from_residual.result (store_status e) c.from_residual.ensures.1 (λ s h. h)))
    (not_found e given (taken_as 2 x y (counts_store e x.tally y.tally) taken) c.in_err-section.ensures.fails)

pub returns-in_default : goal.returns-in_default
returns-in_default g c =
    let found = c.in_ok-section.ensures in
    λ x given taken.
    not_sealed given (taken_as 2 x (g.C.Cabinet.told c.args.cabinet.now) (λ same. same) taken)
    (record { synced = found.synced; one_of = found.section; state = found.state; found = found.found })
    (λ opened closed same. c.in_default.not-Sealed opened closed (c.phase.ensures.phase ∙ same))

pub returns-in_err-deliver_sealed : goal.returns-in_err-deliver_sealed
returns-in_err-deliver_sealed g c =
    let names : Emite = record { tables = c.args.names.tables.now; roll = c.args.names.roll.now; out = c.args.names.out.now } in
    let y = g.C.Cabinet.told c.args.cabinet.now in
    let z = g.C.Cabinet.told c.deliver_sealed.new.cabinet in
    let m = g.M.Machine.told c.args.machine.now in
    let n = g.M.Machine.told c.peek.new.m in
    let section = c.in_ok-section.section in
    let state = c.in_ok-section.state in
    let found = c.in_ok-section.ensures in
    let sealed = sym c.phase.ensures.phase ∙ c.in-Sealed.is in
    let s = c.in_err-deliver_sealed.field-0.0 in
    λ x given taken.
    subst (EmiteEnds names x z m n) (sym (passed_on c.from_residual-in_err-deliver_sealed.result s c.from_residual-in_err-deliver_sealed.ensures.1 (λ e h. h)))
    (stopped names x y z m n c.args.tables.now c.args.roll.now section state _ _ s given taken
    (record { synced = found.synced; one_of = found.section; state = found.state; found = found.found }) sealed c.in_err-deliver_sealed.ensures.err c.in_err-deliver_sealed.ensures.put)

pub returns : goal.returns
returns g c =
    let names : Emite = record { tables = c.args.names.tables.now; roll = c.args.names.roll.now; out = c.args.names.out.now } in
    let y = g.C.Cabinet.told c.args.cabinet.now in
    let z = g.C.Cabinet.told c.deliver_sealed.new.cabinet in
    let m = g.M.Machine.told c.args.machine.now in
    let n = g.M.Machine.told c.peek.new.m in
    let o = g.M.Machine.told c.tell_line.new.machine in
    let section = c.in_ok-section.section in
    let state = c.in_ok-section.state in
    let found = c.in_ok-section.ensures in
    let peeked : HasPeeked c.args.tables.now c.args.roll.now section state m n =
    record { synced = found.synced; one_of = found.section; state = found.state; found = found.found } in
    let sealed = sym c.phase.ensures.phase ∙ c.in-Sealed.is in
    let both = both_put names.out c.args.tables.now section state _ _ y z status.Done refl sealed c.in_ok-deliver_sealed.ensures.put in
    λ x given taken.
    told (EmiteEnds names x z m o) (emitted_line section ∷ []) c.tell_line.result n o
    (subst (λ (bytes : List ℕ). Shows c.tell_line.result (bytes ∷ []) n o) c.emitted_line.ensures c.tell_line.ensures.shown) c.tell_line.ensures.err
    (λ shown. emitted y n given taken peeked both.2 both.3 shown) (λ cut. not_emitted y n given taken peeked both.2 both.3 cut)
