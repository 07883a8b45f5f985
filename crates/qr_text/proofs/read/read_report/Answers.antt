use Rattle.std.proofs.Common.{◌≡◌, ℕ, List, sym, ◌∙◌, ap, subst}
use Rattle.std.specs.Prelude.{Ok}
use Rattle.std.proofs.lemmas.Result.{err_from_is_err_and}
use Rattle.poll_report.specs.declared.report.Report.{Report}
use Rattle.qr_text.proofs.Exact.{read_fault}
use Rattle.qr_text.proofs.Faults.{read_says}
use Rattle.qr_text.proofs.Flattening.{report_back}
use Rattle.qr_text.proofs.Following.{complete}
use Rattle.qr_text.proofs.Going.{completes}
use Rattle.qr_text.proofs.Joining.{fault_above}
use Rattle.qr_text.proofs.Rebuilding.{said_is_report}
use Rattle.qr_text.proofs.Spellings.{says_spells}
use Rattle.qr_text.proofs.read.read_report.Goals as goal
use Rattle.qr_text.specs.Reading.{said_by}
use Rattle.qr_text.specs.Spelling.{Spells}
use Rattle.qr_text.specs.Reported.{told_report}
use Rattle.qr_text.specs.declared.said.Said.{Said}

-- what was read is what a report says, and the text spells that report
spells : (bytes : List ℕ) (s : Said) → said_by bytes ≡ Ok s → Spells bytes (told_report s)
spells bytes s h =
    let says = read_says bytes s h in
    let found = said_is_report s bytes says in
    let same : found.0 ≡ told_report s = sym (report_back found.0 found.1) ∙ ap (λ (x : Said). told_report x) found.2 in
    let P : Report → Type 0 = λ r. Spells bytes r in
    subst P same (says_spells bytes s found.0 says found.1 found.2)

pub returns-in_err-said : goal.returns-in_err-said
returns-in_err-said c =
    let p = err_from_is_err_and c.from_residual.result c.from_residual.ensures.1 in
    rw (p.1, p.2) (fault_above _ _ _ _ c.in_err-said.field-0.0 c.in_err-said.ensures (λ f h. read_fault complete completes c.args.bytes.now f h))

pub told_report-requires : goal.told_report-requires
told_report-requires c = (spells c.args.bytes.now c.in_ok-said.said c.in_ok-said.ensures).report

pub returns : goal.returns
returns c =
    let P : Report → Type 0 = λ r. Spells c.args.bytes.now r in
    subst P (sym c.in_ok-report.ensures) (spells c.args.bytes.now c.in_ok-said.said c.in_ok-said.ensures)
