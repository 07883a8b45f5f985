use Rattle.std.proofs.Common.{◌≡◌, ℕ, List, length, sym, subst, arith}
use Rattle.intake_ledger.specs.Entry.{HasSection}
use Rattle.intake_ledger.proofs.Entering.{section_put}
use Rattle.intake_ledger.proofs.entry.put_section.Goals as goal

pub returns : goal.returns
returns c =
    let place = c.args.place in
    let hash = c.args.hash.now in
    let long : length hash ≡ 64 = omega arith in
    subst (λ (bytes : List ℕ). HasSection place hash c.args.into.now bytes) (sym c.overwrite.ensures)
    (section_put place hash c.args.into.now c.count_one.new.into c.set_mark.new.into c.requires.size c.requires.place long c.count_one.ensures.number
    c.count_one.ensures.kept c.set_mark.ensures.marked c.set_mark.ensures.others c.set_mark.ensures.kept)
