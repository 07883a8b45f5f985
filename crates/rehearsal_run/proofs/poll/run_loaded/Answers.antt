use Rattle.std.proofs.Common.{◌∙◌, ℕ, length, refl, subst}
use Rattle.memory_outside.specs.Chips.{flashes_in}
use Rattle.election_tables.specs.Roll.{IsRoll, RollData}
use Rattle.election_tables.specs.TablesData.{IsTables, TablesData}
use Rattle.election_tables.specs.declared.tables.sections.Section.{Section}
use Rattle.urna_outside.specs.Flash.{Flashes}
use Rattle.image_codec.specs.Encoding.{IsStateOf}
use Rattle.image_codec.specs.State.{State}
use Rattle.image_codec.specs.Valid.{ready_state}
use Rattle.state_store.specs.Calls.{AreFound}
use Rattle.state_store.specs.Load.{IsSectionOf, load_of}
use Rattle.state_store.specs.Rest.{AreAtRest}
use Rattle.state_store.specs.declared.load.Load.{Load}
use Rattle.state_store.proofs.Loaded.{rest_found}
use Rattle.station.specs.Run.{IsRun}
use Rattle.station.specs.Setting.{setting_of}
use Rattle.rehearsal_run.proofs.Holding.{started_at, starts}
use Rattle.rehearsal_run.proofs.poll.run_loaded.Goals as goal

-- the flashes hold the poll before it begins
found : (t : TablesData) (r : RollData) (section : Section) (flashes : Flashes) → IsTables t → IsRoll r → IsSectionOf t r section
    → IsStateOf t section.voters (ready_state t (length r.titles)) → AreAtRest t (load_of t r section) (ready_state t (length r.titles)) flashes
    → AreFound t r section (ready_state t (length r.titles)) flashes
found t r section flashes tables roll fits of rest =
    rest_found t r section (ready_state t (length r.titles)) flashes tables roll fits
    (subst (λ (n : ℕ). IsStateOf t n (ready_state t (length r.titles))) fits.voters of) rest

pub unreachable-requires-in-Err-Foreign : goal.unreachable-requires-in-Err-Foreign
unreachable-requires-in-Err-Foreign c =
    let t = c.args.tables.now in
    let r = c.args.roll.now in
    let there = found t r c.args.section (flashes_in c.args.machine.now.chips) c.requires.tables c.requires.roll c.requires.section c.requires.state c.requires.rest in
    let is = starts t r c.args.section (ready_state t (length r.titles)) c.args.machine.now c.start.new.m c.requires.tables there c.in-Err-Foreign.field-0 c.in-Err-Foreign.ensures.fails in
    let other = c.in-Err-Foreign.field-0-is in
    absurd (cc)

pub unreachable-requires-in-Err-NoImage : goal.unreachable-requires-in-Err-NoImage
unreachable-requires-in-Err-NoImage c =
    let t = c.args.tables.now in
    let r = c.args.roll.now in
    let there = found t r c.args.section (flashes_in c.args.machine.now.chips) c.requires.tables c.requires.roll c.requires.section c.requires.state c.requires.rest in
    let is = starts t r c.args.section (ready_state t (length r.titles)) c.args.machine.now c.start.new.m c.requires.tables there c.in-Err-NoImage.field-0 c.in-Err-NoImage.ensures.fails in
    let other = c.in-Err-NoImage.field-0-is in
    absurd (cc)

pub returns-clause-run : goal.returns-clause-run
returns-clause-run c =
    let t = c.args.tables.now in
    let r = c.args.roll.now in
    let there = found t r c.args.section (flashes_in c.args.machine.now.chips) c.requires.tables c.requires.roll c.requires.section c.requires.state c.requires.rest in
    let at = started_at t r c.args.section (ready_state t (length r.titles)) c.args.machine.now c.start.new.m c.requires.tables there c.in-Ok.station c.in-Ok.ensures.started in
    let (out, run, reached, put) = c.in-Ok-run.ensures.run in
    (out, subst (λ (s : State). IsRun (setting_of t r.titles) s c.args.script.now c.in-Ok-run.end.standing.state out) at.0 run)

pub returns-clause-rest : goal.returns-clause-rest
returns-clause-rest c =
    let t = c.args.tables.now in
    let r = c.args.roll.now in
    let there = found t r c.args.section (flashes_in c.args.machine.now.chips) c.requires.tables c.requires.roll c.requires.section c.requires.state c.requires.rest in
    let at = started_at t r c.args.section (ready_state t (length r.titles)) c.args.machine.now c.start.new.m c.requires.tables there c.in-Ok.station c.in-Ok.ensures.started in
    let flashes = flashes_in c.run.new.m.chips in
    subst (λ (l : Load). AreAtRest c.args.tables.now l c.in-Ok-run.end.standing.state flashes) (c.in-Ok-run.ensures.load ∙ at.1) (c.in-Ok-run.ensures.stationed.kept.rest flashes refl)
