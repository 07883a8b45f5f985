use Rattle.std.proofs.Common.{◌∙◌, ℕ, List, length, refl, sym, ap, subst, arith}
use Rattle.std.specs.Prelude.{Contains}
use Rattle.std.specs.List.{AllByRecursion}
use Rattle.turnout.specs.Turnout.{number_came}
use Rattle.election_tables.specs.declared.tables.sections.Section.{Section}
use Rattle.image_codec.specs.Encoding.{IsStateOf}
use Rattle.vote_record.specs.RecordText.{record_text}
use Rattle.poll_report.specs.Counted.{report_of}
use Rattle.urna_base.specs.Words.{pieces}
use Rattle.qr_text.specs.Spelling.{report_text}
use Rattle.hash_chain.specs.Cut.{cut}
use Rattle.section_intake.specs.Accepted.{File, IsOfSection, IsVerdictBehind, first}
use Rattle.section_intake.specs.Intake.{accepted_files}
use Rattle.section_intake.specs.Verdict.{IsReportFile, IsVerdict}
use Rattle.section_intake.specs.declared.verdict.Verdict.TheVariants as verdict
use Rattle.result_files.specs.Reports.{report_file}
use Rattle.result_files.proofs.Reports.{sealed_has_file, sealed_is_accepted}
use Rattle.rehearsal.specs.Tables.{generated_section}
use Rattle.rehearsal_run.proofs.Rehearsing.{only_report, section_listed}
use Rattle.rehearsal_run.proofs.totalling.total.Goals as goal

pub results_of-requires-clause-valid : goal.results_of-requires-clause-valid
results_of-requires-clause-valid c = c.requires.valid

pub results_of-requires-clause-section : goal.results_of-requires-clause-section
results_of-requires-clause-section c =
    subst (λ (x : Section). Contains c.args.tables.now.sections x) (sym c.section_of.ensures) (section_listed c.args.n c.args.tables.now.digest c.args.tables.now c.requires.tables)

pub results_of-requires-clause-state : goal.results_of-requires-clause-state
results_of-requires-clause-state c =
    subst (λ (x : Section). IsStateOf c.args.tables.now x.voters c.args.state.now) (sym c.section_of.ensures) c.requires.state

pub results_of-requires-clause-sealed : goal.results_of-requires-clause-sealed
results_of-requires-clause-sealed c = c.requires.sealed

pub offer-requires-clause-short : goal.offer-requires-clause-short
offer-requires-clause-short c =
    let t = c.args.tables.now in
    let s = c.args.state.now in
    let file = sealed_is_accepted t (generated_section c.args.n) s c.args.opened c.args.closed c.requires.valid
    (section_listed c.args.n t.digest t c.requires.tables) c.requires.state c.requires.sealed
    in
    let same = ap (λ (l : List ℕ). length l) (c.deref.ensures.value ∙ (c.in_ok-results.ensures.report
    ∙ ap (λ (x : Section). report_file t x s c.args.opened c.args.closed) c.section_of.ensures))
    in
    omega (arith, same, file.0)

pub offer-requires-clause-made : goal.offer-requires-clause-made
offer-requires-clause-made c = c.in_ok-intake.ensures.made

pub rehearsal_lines-requires-clause-made : goal.rehearsal_lines-requires-clause-made
rehearsal_lines-requires-clause-made c = c.in_ok-offer.ensures.still

pub rehearsal_lines-requires-clause-tables : goal.rehearsal_lines-requires-clause-tables
rehearsal_lines-requires-clause-tables c = (c.args.tables.now.digest, c.requires.tables)

pub returns-clause-report : goal.returns-clause-report
returns-clause-report c =
    c.in_ok-results.ensures.report ∙ ap (λ (x : Section). report_file c.args.tables.now x c.args.state.now c.args.opened c.args.closed) c.section_of.ensures

pub returns-clause-accepted : goal.returns-clause-accepted
returns-clause-accepted c =
    let t = c.args.tables.now in
    let s = c.args.state.now in
    let section = generated_section c.args.n in
    let file = c.in_ok-results.ensures.report ∙ ap (λ (x : Section). report_file t x s c.args.opened c.args.closed) c.section_of.ensures in
    subst (λ (bytes : List ℕ). IsVerdict t bytes (verdict.Accepted 1 1)) (sym file)
    (sealed_is_accepted t section s c.args.opened c.args.closed c.requires.valid (section_listed c.args.n t.digest t c.requires.tables) c.requires.state c.requires.sealed).1

pub returns-clause-record_file : goal.returns-clause-record_file
returns-clause-record_file c =
    c.in_ok-results.ensures.record ∙ ap (λ (x : Section). record_text c.args.tables.now x c.args.state.now.bags) c.section_of.ensures

pub returns-clause-lines : goal.returns-clause-lines
returns-clause-lines c =
    let t = c.args.tables.now in
    let s = c.args.state.now in
    let section = generated_section c.args.n in
    let opened = c.args.opened in
    let closed = c.args.closed in
    let report = report_of t section s.bags s.came opened closed in
    let listed = section_listed c.args.n t.digest t c.requires.tables in
    let tells = sealed_has_file t section s opened closed c.requires.valid listed c.requires.state c.requires.sealed in
    let file = c.deref.ensures.value
    ∙ (c.in_ok-results.ensures.report ∙ ap (λ (x : Section). report_file t x s opened closed) c.section_of.ensures)
    in
    let before = accepted_files c.in_ok-intake.intake in
    let none = c.in_ok-intake.ensures.empty in
    let behind =
    subst (λ (f : File). IsVerdictBehind t before f (verdict.Accepted 1 1)) (sym file)
    (first (sealed_is_accepted t section s opened closed c.requires.valid listed c.requires.state c.requires.sealed).1
    (subst (λ (l : List File). AllByRecursion (λ other. ¬ IsOfSection t 1 1 other) l) (sym none) tt))
    in
    let only = only_report c.deref.result.now before (accepted_files c.offer.new.self) c.in_ok-offer.field-0 1 1 report none c.in_ok-offer.ensures.accepted
    (c.in_ok-offer.ensures.there (verdict.Accepted 1 1) behind) (subst (λ (f : File). IsReportFile f report) (sym file) tells)
    in
    c.in_ok-lines.ensures report only refl (sym (c.len-came.ensures.count ∙ ap number_came c.turnout.ensures))
    (sym (c.in_ok-results.ensures.parts
    ∙ ap (λ (x : Section). length (cut (pieces (report_text (report_of t x s.bags s.came opened closed))))) c.section_of.ensures))
