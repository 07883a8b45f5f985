use Rattle.std.proofs.Common.{ℕ, List, OnErr, sym, subst}
use Rattle.urna_outside.specs.Flash.{Op}
use Rattle.urna_outside.specs.Told.{Runs}
use Rattle.gate_slot.specs.Front.{IsFrontOf}
use Rattle.gate_slot.specs.Page.{IsPatch}
use Rattle.gate_slot.specs.Slot.{IsBody, body_offset}
use Rattle.gate_slot.specs.Token.{slot_of_shut}
use Rattle.twin_image.proofs.Rewriting.{in_pages, as_a_whole, patch_of_write}
use Rattle.twin_image.proofs.renewal.rewrite.Goals as goal

pub returns-then-this-eq0-clause-cut : goal.returns-then-this-eq0-clause-cut
returns-then-this-eq0-clause-cut g c =
    let slot = slot_of_shut c.args.shut in
    let same = in_pages g.row.SIZE slot.dev slot.index c.args.old.now c.args.new.now c.if-this-eq0.true in
    subst (λ (ops : List Op). OnErr c.patch_found.result (Runs (IsFrontOf ops) (g.M.Machine.told c.args.m.now) (g.M.Machine.told c.patch_found.new.m))) (sym same) c.patch_found.ensures.cut

pub returns-else-this-eq0-clause-cut : goal.returns-else-this-eq0-clause-cut
returns-else-this-eq0-clause-cut g c =
    let slot = slot_of_shut c.args.shut in
    let same = (as_a_whole g.row.SIZE slot.dev slot.index c.args.old.now c.args.new.now c.if-this-eq0.false).0 in
    subst (λ (ops : List Op). OnErr c.fill.result (Runs (IsFrontOf ops) (g.M.Machine.told c.args.m.now) (g.M.Machine.told c.fill.new.m))) (sym same) c.fill.ensures.cut

pub returns-else-this-eq0-clause-ran : goal.returns-else-this-eq0-clause-ran
returns-else-this-eq0-clause-ran g c =
    let slot = slot_of_shut c.args.shut in
    let same = (as_a_whole g.row.SIZE slot.dev slot.index c.args.old.now c.args.new.now c.if-this-eq0.false).1 in
    subst (λ (n : ℕ). Runs (IsPatch slot.dev (IsBody g.row.SIZE slot.index) n) (g.M.Machine.told c.args.m.now) (g.M.Machine.told c.fill.new.m)) (sym same)
    (patch_of_write slot.dev (body_offset g.row.SIZE slot.index) g.row.SIZE _ _ c.fill.ensures.ran)
