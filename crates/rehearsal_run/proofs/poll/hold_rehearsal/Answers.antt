use Rattle.std.proofs.Common.{◌∙◌, ap, subst, sym}
use Rattle.std.proofs.lemmas.Result.{err_from_is_err_and}
use Rattle.urna_outside.specs.declared.device.Dev.TheVariants.{Internal}
use Rattle.election_tables.specs.declared.tables.sections.Section.{Section}
use Rattle.state_store.specs.Load.{IsSectionOf, load_of}
use Rattle.state_store.specs.Rest.{rest}
use Rattle.rehearsal_run.proofs.Rehearsing.{run_of, section_fits}
use Rattle.rehearsal_run.proofs.poll.hold_rehearsal.Goals as goal

pub hold_poll-requires-clause-section : goal.hold_poll-requires-clause-section
hold_poll-requires-clause-section c =
    let t = c.args.tables.now in
    let r = c.args.roll.now in
    subst (λ (x : Section). IsSectionOf t r x) (sym c.section_of.ensures) (section_fits c.args.n t.digest r.digest t r c.requires.tables c.requires.roll)

pub returns-clause-run : goal.returns-clause-run
returns-clause-run c =
    let t = c.args.tables.now in
    let r = c.args.roll.now in
    run_of c.args.n t.digest r.digest t r c.in_ok-script.script c.in_ok-station.station.standing.state c.requires.tables c.requires.roll c.in_ok-script.ensures
    c.in_ok-station.ensures.run

pub returns-clause-flash : goal.returns-clause-flash
returns-clause-flash c =
    let last = c.in_ok-station.station.standing.state in
    c.in_ok-flash.ensures
    ∙ (c.in_ok-station.ensures.rest.content Internal
    ∙ ap (λ (x : Section). rest c.args.tables.now (load_of c.args.tables.now c.args.roll.now x) Internal last) c.section_of.ensures)

pub returns-in_err-station-clause-run : goal.returns-in_err-station-clause-run
returns-in_err-station-clause-run c =
    let p = err_from_is_err_and c.from_residual-in_err-station.result c.from_residual-in_err-station.ensures.1 in rw (p.1) tt

pub returns-in_err-station-clause-state : goal.returns-in_err-station-clause-state
returns-in_err-station-clause-state c =
    let p = err_from_is_err_and c.from_residual-in_err-station.result c.from_residual-in_err-station.ensures.1 in rw (p.1) tt

pub returns-in_err-station-clause-flash : goal.returns-in_err-station-clause-flash
returns-in_err-station-clause-flash c =
    let p = err_from_is_err_and c.from_residual-in_err-station.result c.from_residual-in_err-station.ensures.1 in rw (p.1) tt
