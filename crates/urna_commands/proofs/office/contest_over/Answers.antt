use Rattle.std.proofs.Common.{length, inl, inr, refl}
use Rattle.std.proofs.lemmas.Result.{err_from_is_err_and}
use Rattle.section_intake.specs.Intake.{accepted_files}
use Rattle.urna_commands.specs.Office.{contest_no_memory}
use Rattle.urna_commands.specs.declared.offering.Telling.TheVariants as telling
use Rattle.command_parts.proofs.Calls.{taken_as}
use Rattle.urna_commands.proofs.Offers.{offers_end, offers_made}
use Rattle.urna_commands.proofs.Offices.{offers_stop_contest}
use Rattle.urna_commands.proofs.office.contest_over.Goals as goal

pub returns-in_err-intake-clause-known : goal.returns-in_err-intake-clause-known
returns-in_err-intake-clause-known g c =
    let p = err_from_is_err_and c.from_residual.result c.from_residual.ensures.1 in
    λ tables_name list_name code x given office taken.
    rw (p.1, p.2) (contest_no_memory (0, inl refl, taken_as 2 x (g.C.Cabinet.told c.args.cabinet.now) (λ same. same) taken) refl)

pub returns-in_err-offer_all-clause-known : goal.returns-in_err-offer_all-clause-known
returns-in_err-offer_all-clause-known g c =
    let p = err_from_is_err_and c.from_residual-in_err-offer_all.result c.from_residual-in_err-offer_all.ensures.1 in
    λ tables_name list_name code x given office taken.
    rw (p.1, p.2)
    (offers_stop_contest tables_name list_name code x (g.C.Cabinet.told c.offer_all.new.cabinet) (g.M.Machine.told c.args.machine.now) (g.C.Cabinet.told c.args.cabinet.now)
    c.args.tables.now c.args.list.now c.args.panel given office taken c.offer_all.new.intake (g.M.Machine.told c.offer_all.new.machine)
    c.in_err-offer_all.field-0.0 c.in_err-offer_all.ensures)

pub contest_of-requires-clause-made : goal.contest_of-requires-clause-made
contest_of-requires-clause-made g c =
    offers_made telling.Nothing c.args.tables.now c.args.list.now c.offer_all.new.intake c.in_ok-offer_all.field-0 (g.C.Cabinet.told c.args.cabinet.now)
    (g.C.Cabinet.told c.offer_all.new.cabinet) (g.M.Machine.told c.args.machine.now) (g.M.Machine.told c.offer_all.new.machine) c.in_ok-offer_all.ensures

pub returns-in_err-contest-clause-known : goal.returns-in_err-contest-clause-known
returns-in_err-contest-clause-known g c =
    let y = g.C.Cabinet.told c.args.cabinet.now in
    let z = g.C.Cabinet.told c.offer_all.new.cabinet in
    let p = err_from_is_err_and c.from_residual-in_err-contest.result c.from_residual-in_err-contest.ensures.1 in
    λ tables_name list_name code x given office taken.
    let all = offers_end telling.Nothing c.args.tables.now c.args.list.now c.offer_all.new.intake c.in_ok-offer_all.field-0 x y z (g.M.Machine.told c.args.machine.now)
    (g.M.Machine.told c.offer_all.new.machine) taken c.in_ok-offer_all.ensures in
    rw (p.1, p.2) (contest_no_memory (length c.args.list.now, inr (c.args.tables.now, c.args.list.now, given, refl), taken_as _ x z (λ same. same) all.taken) all.shown)

pub returns-clause-known : goal.returns-clause-known
returns-clause-known g c =
    let t = c.args.tables.now in
    let listed = c.args.list.now in
    let i = c.offer_all.new.intake in
    λ tables_name list_name code x given office taken.
    let all = offers_end telling.Nothing t listed i c.in_ok-offer_all.field-0 x (g.C.Cabinet.told c.args.cabinet.now) (g.C.Cabinet.told c.offer_all.new.cabinet)
    (g.M.Machine.told c.args.machine.now) (g.M.Machine.told c.offer_all.new.machine) taken c.in_ok-offer_all.ensures in
    record {
      has = record {
        t = t;
        listed = listed;
        given = given;
        panel = c.args.panel;
        office = office;
        verdicts = all.verdicts;
        accepted = accepted_files i;
        offered = all.offered;
        reports = all.made.reports;
        read = all.made.read;
        is = c.in_ok-contest.ensures.contest all.made.reports all.made.read;
      };
      taken = (length listed, inr (t, listed, given, refl), all.taken);
      untouched = all.shown;
    }
