use Rattle.std.proofs.Common.{◌<◌, ℕ, List, length, ap, subst, ◌∙◌, arith}
use Rattle.vote_kinds.specs.declared.choice.Choice.{Choice}
use Rattle.intake_ledger.specs.Entry.{HasAdded}
use Rattle.intake_ledger.specs.Layout.{marked_sections}
use Rattle.intake_ledger.proofs.Entered.{entered_stands, number_now, one_more_fits, votes_fit}
use Rattle.intake_ledger.proofs.Entering.{sum_stays}
use Rattle.intake_ledger.proofs.PanelChoices.{sums_few}
use Rattle.intake_ledger.proofs.Votes.{votes_few}
use Rattle.intake_ledger.proofs.WholeBody.{whole}
use Rattle.intake_ledger.proofs.entry.enter.Goals as goal

pub put_section-requires-clause-size : goal.put_section-requires-clause-size
put_section-requires-clause-size c = (whole c.args.tables.now c.args.into.now c.requires.body).long

pub put_section-requires-clause-few : goal.put_section-requires-clause-few
put_section-requires-clause-few c =
    one_more_fits c.args.tables.now c.panels-panels.ensures.tables c.args.into.now (whole c.args.tables.now c.args.into.now c.requires.body) c.args.place c.requires.place c.requires.free

pub add_report-requires-clause-size : goal.add_report-requires-clause-size
add_report-requires-clause-size c = c.put_section.ensures.kept.size ∙ (whole c.args.tables.now c.args.into.now c.requires.body).long

pub add_report-requires-clause-few : goal.add_report-requires-clause-few
add_report-requires-clause-few c =
    omega (arith, ap (λ (xs : List (ℕ × Choice)). length xs) c.requires.choices, sums_few c.args.tables.now c.panels-panels.ensures.tables)

pub add_report-requires-clause-room : goal.add_report-requires-clause-room
add_report-requires-clause-room c place lt =
    let t = c.args.tables.now in
    let tables = c.panels-panels.ensures.tables in
    let w = whole t c.args.into.now c.requires.body in
    let many = ap (λ (xs : List (ℕ × Choice)). length xs) c.requires.choices in
    let section : c.args.place < marked_sections = omega (arith, c.requires.place, tables.section_count.1) in
    let same = sum_stays c.args.place c.args.hash.now c.args.into.now c.put_section.new.into w.long section c.put_section.ensures place (omega (arith, lt, many, sums_few t tables)) in
    omega (arith, same, votes_fit t tables c.args.into.now w place (omega (arith, lt, many)))

pub returns-clause-stands : goal.returns-clause-stands
returns-clause-stands c l stands =
    let t = c.args.tables.now in
    let added = subst (λ (choices : List (ℕ × Choice)). HasAdded choices c.args.report.now (length choices) c.put_section.new.into c.add_report.new.into) c.requires.choices c.add_report.ensures in
    entered_stands t c.panels-panels.ensures.tables c.args.place c.args.hash.now c.args.report.now c.args.into.now c.put_section.new.into c.add_report.new.into
    (whole t c.args.into.now c.requires.body) c.requires.place c.requires.free c.put_section.ensures added (λ i. omega (arith, c.type_inv.into i))
    (votes_few c.args.report.now c.requires.report) l stands

pub returns-clause-number : goal.returns-clause-number
returns-clause-number c =
    let t = c.args.tables.now in
    let added = subst (λ (choices : List (ℕ × Choice)). HasAdded choices c.args.report.now (length choices) c.put_section.new.into c.add_report.new.into) c.requires.choices c.add_report.ensures in
    number_now t c.panels-panels.ensures.tables c.args.place c.args.hash.now c.args.report.now c.args.into.now c.put_section.new.into c.add_report.new.into
    (whole t c.args.into.now c.requires.body) c.requires.place c.requires.free c.put_section.ensures added (λ i. omega (arith, c.type_inv.into i))
    (votes_few c.args.report.now c.requires.report)
