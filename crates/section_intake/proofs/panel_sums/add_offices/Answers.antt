use Rattle.std.proofs.Common.{◌≡◌, ◌+◌, ◌<◌, ◌≤◌, ℕ, List, Some, get_or, length, set, slice_get, suc, take, refl, sym, ap, ◌∙◌, subst, arith}
use Rattle.std.proofs.lemmas.Option.{slice_get_read}
use Rattle.poll_report.specs.Report.{total_of}
use Rattle.poll_report.specs.declared.report.OfficeCount.{OfficeCount}
use Rattle.section_intake.specs.Kept.{HasRoomFor, with_office, with_offices}
use Rattle.section_intake.specs.declared.panel_sums.PanelSums.{PanelSums}
use Rattle.section_intake.proofs.SumLaws.{next_office, next_panel}
use Rattle.section_intake.proofs.panel_sums.add_offices.Goals as goal

-- the panel that comes next is as it was
waits : (offices : List OfficeCount) (start sums : List PanelSums) (i : ℕ) (s : PanelSums) → sums ≡ with_offices (take i offices) start → i < length offices
    → length offices ≤ length start → s ≡ get_or sums i s → s ≡ get_or start i s
waits offices start sums i s is lt many at = at ∙ ap (λ (l : List PanelSums). get_or l i s) is ∙ next_panel offices start i s lt (omega arith)

pub add-requires : goal.add-requires
add-requires c =
    let i : ℕ = c.loop-panel.panel in
    let s : PanelSums = c.index-sums-panel.result in
    let o : OfficeCount = c.index-offices-panel.result in
    let lt = c.loop-panel-test.true in
    let many = c.requires.count in
    let was = waits c.args.offices.now c.args.sums.now c.loop-panel.sums i s c.loop-panel.invariant lt many c.index-sums-panel.is in
    let kept : slice_get c.args.sums.now i ≡ Some s = slice_get_read c.args.sums.now (length c.args.sums.now) i s refl (omega arith) was in
    let counted : slice_get c.args.offices.now i ≡ Some o = slice_get_read c.args.offices.now (length c.args.offices.now) i o refl lt c.index-offices-panel.is in
    subst (HasRoomFor (total_of o)) c.index-sums-panel.is (c.requires.room i s o kept counted)

pub loop-panel-preserved : goal.loop-panel-preserved
loop-panel-preserved c =
    let i : ℕ = c.loop-panel.panel in
    let s : PanelSums = c.index-sums-panel.result in
    let o : OfficeCount = c.index-offices-panel.result in
    let lt = c.loop-panel-test.true in
    let many = c.requires.count in
    let was = waits c.args.offices.now c.args.sums.now c.loop-panel.sums i s c.loop-panel.invariant lt many c.index-sums-panel.is in
    let one : suc i ≡ i + 1 = omega arith in
    ap (set c.loop-panel.sums i) (c.add.ensures ∙ ap (with_office o) (sym c.index-sums-panel.is))
    ∙ ap (λ (l : List PanelSums). set l i (with_office o s)) c.loop-panel.invariant
    ∙ next_office c.args.offices.now c.args.sums.now i o s lt (omega arith) c.index-offices-panel.is was
    ∙ ap (λ (n : ℕ). with_offices (take n c.args.offices.now) c.args.sums.now) one
