use Rattle.std.proofs.Common.{ℕ, List, [], ◌∷◌, get_or, sym, ap, ◌∙◌, subst, arith}
use Rattle.std.proofs.lemmas.List.{get_or_default}
use Rattle.poll_report.specs.declared.report.Count.{Count}
use Rattle.section_intake.specs.Kept.{HaveRoom, with_counts}
use Rattle.section_intake.specs.declared.tallies.Tally.{Tally}
use Rattle.section_intake.proofs.TallyLaws.{next_count, no_counts, room_for_next}
use Rattle.section_intake.proofs.tallies.Tallies.add.Goals as goal

pub loop-count-init : goal.loop-count-init
loop-count-init c = sym (no_counts c.args.self.now)

pub add_one-place-requires : goal.add_one-place-requires
add_one-place-requires c =
    let i : ℕ = c.loop-count.count-index in
    let x : Count = get_or c.args.counts.now i (record { number = 0; votes = 0 }) in
    let lt = c.loop-count-test.true in
    let F : List Tally → Type 0 = λ ts. HaveRoom x.votes ts in
    subst F (sym c.loop-count.invariant)
    (room_for_next c.args.counts.now i x (omega arith) (get_or_default c.args.counts.now i (record { number = 0; votes = 0 }) x (omega arith)) c.args.self.now c.requires)

pub loop-count-preserved : goal.loop-count-preserved
loop-count-preserved c =
    let i : ℕ = c.loop-count.count-index in
    let x : Count = get_or c.args.counts.now i (record { number = 0; votes = 0 }) in
    let lt = c.loop-count-test.true in
    c.add_one-place.ensures
    ∙ ap (with_counts (x ∷ [])) c.loop-count.invariant
    ∙ next_count c.args.counts.now i x c.args.self.now (omega arith) (get_or_default c.args.counts.now i (record { number = 0; votes = 0 }) x (omega arith))
