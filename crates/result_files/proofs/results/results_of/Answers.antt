use Rattle.std.proofs.Common.{ℕ, List, Bool, length, sym, subst, ◌∙◌}
use Rattle.vote_kinds.specs.declared.choice.Choice.{Choice}
use Rattle.vote_record.specs.RdvData.{RdvData}
use Rattle.poll_report.specs.Counted.{HasReport}
use Rattle.urna_base.specs.Words.{pieces}
use Rattle.hash_chain.specs.Fault.{AreFields}
use Rattle.section_intake.proofs.FileLaws.{text_has_parts}
use Rattle.result_files.proofs.Reports.{sealed_has_report}
use Rattle.result_files.proofs.results.results_of.Goals as goal

pub of-requires : goal.of-requires
of-requires c =
    let t = c.args.tables.now in
    let s = c.args.state.now in
    let r = c.votes.result.now in
    let record_with : List (List Choice) → ℕ → List ℕ → RdvData = λ bags voters places. record { bags = bags; voters = voters; places = places } in
    let May : RdvData → List Bool → Type 0 = λ votes came. HasReport t c.args.section votes came c.args.opened c.args.closed in
    let has = sealed_has_report t c.args.section s c.args.opened c.args.closed c.requires.valid c.requires.section c.requires.state c.requires.sealed in
    subst (May r) (sym c.turnout.ensures)
    (subst (λ (bags : List (List Choice)). May (record_with bags r.voters r.places) s.came) (sym c.votes.ensures.bags)
    (subst (λ (voters : ℕ). May (record_with s.bags voters r.places) s.came) (sym c.votes.ensures.voters)
    (subst (λ (places : List ℕ). May (record_with s.bags (length s.came) places) s.came) (sym c.votes.ensures.places) has)))

pub make_parts-requires : goal.make_parts-requires
make_parts-requires c =
    subst (λ (text : List ℕ). AreFields (pieces text)) (sym (c.deref.ensures.value ∙ c.in_ok-fields.ensures))
    (text_has_parts c.in_ok-report.report c.in_ok-report.ensures.spelled)

pub count_parts-requires : goal.count_parts-requires
count_parts-requires c =
    subst (λ (text : List ℕ). AreFields (pieces text)) (sym (c.deref-2.ensures.value ∙ c.in_ok-fields.ensures))
    (text_has_parts c.in_ok-report.report c.in_ok-report.ensures.spelled)
