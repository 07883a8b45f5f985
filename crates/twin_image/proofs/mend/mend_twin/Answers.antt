use Rattle.std.proofs.Common.{◌≤◌, sym, subst, arith, rules}
use Rattle.urna_outside.specs.Told.{Sizes, size_of}
use Rattle.urna_outside.proofs.Faults.{ends_later}
use Rattle.gate_slot.specs.Slot.{room}
use Rattle.twin_image.proofs.Mending.{first_mends, mended_first, mended_twin, mends_both, mends_cut_first, mends_cut_second}
use Rattle.twin_image.proofs.Renewing.{other_live}
use Rattle.twin_image.proofs.mend.mend_twin.Goals as goal

pub returns-in_err-first-clause-ran : goal.returns-in_err-first-clause-ran
returns-in_err-first-clause-ran g c =
    let r = c.requires in
    mended_first c.args.dev g.row.SIZE c.args.body.now r.body _ _ (first_mends c.args.dev g.row.SIZE c.args.body.now r.body _ _ r.room (g.met.M.Machine.sized c.args.m.now) r.clean c.mend.ensures.ran)

pub returns-in_err-second-clause-ran : goal.returns-in_err-second-clause-ran
returns-in_err-second-clause-ran g c =
    let r = c.requires in
    mended_twin c.args.dev g.row.SIZE c.args.body.now r.body _ _ _ r.room (g.met.M.Machine.sized c.args.m.now) (g.met.M.Machine.sized c.mend.new.m) r.clean c.mend.ensures.ran c.in_ok-first.ensures.live c.mend-2.ensures.ran

pub returns-in_err-second-clause-fails : goal.returns-in_err-second-clause-fails
returns-in_err-second-clause-fails g c =
    let ends = ends_later _ _ _ _ c.in_ok-first.ensures.fails c.in_err-second.ensures.fails in search rules

pub returns-clause-twin : goal.returns-clause-twin
returns-clause-twin g c =
    let d = c.args.dev in
    let r = c.requires in
    let fits = subst (λ (s : Sizes). room g.row.SIZE ≤ size_of d s) (sym c.mend.ensures.ran.1.sizes) r.room in
    let still = other_live d g.row.SIZE 1 3 _ c.args.body.now _ _ (omega arith) r.body fits (g.met.M.Machine.sized c.mend.new.m) c.in_ok-first.ensures.live c.mend-2.ensures.ran in
    λ fs told. record { first = still fs told; second = c.in_ok-second.ensures.live fs told }

pub returns-clause-ran : goal.returns-clause-ran
returns-clause-ran g c =
    let r = c.requires in
    mended_twin c.args.dev g.row.SIZE c.args.body.now r.body _ _ _ r.room (g.met.M.Machine.sized c.args.m.now) (g.met.M.Machine.sized c.mend.new.m) r.clean c.mend.ensures.ran c.in_ok-first.ensures.live c.mend-2.ensures.ran

pub returns-clause-exact : goal.returns-clause-exact
returns-clause-exact g c =
    mends_both c.args.dev g.row.SIZE c.args.body.now _ _ _ c.requires.room (g.met.M.Machine.sized c.args.m.now) c.requires.body c.mend.ensures.ran c.in_ok-first.ensures.exact c.in_ok-second.ensures.exact

pub returns-in_err-first-clause-cut : goal.returns-in_err-first-clause-cut
returns-in_err-first-clause-cut g c =
    let cut = mends_cut_first c.args.dev g.row.SIZE c.args.body.now _ _ c.in_err-first.ensures.cut in search rules

pub returns-in_err-second-clause-cut : goal.returns-in_err-second-clause-cut
returns-in_err-second-clause-cut g c =
    let cut = mends_cut_second c.args.dev g.row.SIZE c.args.body.now _ _ _ c.requires.room (g.met.M.Machine.sized c.args.m.now) c.requires.body c.mend.ensures.ran c.in_ok-first.ensures.exact c.in_err-second.ensures.cut in
    search rules
