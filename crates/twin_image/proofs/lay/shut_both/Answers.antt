use Rattle.std.proofs.Common.{◌+◌, ◌<◌, ◌≤◌, sym, subst, arith, rules}
use Rattle.urna_outside.specs.Told.{Sizes, size_of}
use Rattle.urna_outside.proofs.Faults.{ends_later}
use Rattle.gate_slot.specs.Slot.{room}
use Rattle.gate_slot.proofs.Written.{gate_bounded}
use Rattle.twin_image.proofs.Turning.{shut_only, shutting_does}
use Rattle.twin_image.proofs.Laying.{shut_first_early, shut_second_early, early_more, early_stages, first_shut_kept, one_write_keeps, shuts_both, shuts_cut_first, shuts_cut_second}
use Rattle.twin_image.proofs.lay.shut_both.Goals as goal

pub returns-in_err-first-clause-ran : goal.returns-in_err-first-clause-ran
returns-in_err-first-clause-ran g c =
    let d = c.args.dev in
    let below : 0 < 2 = omega arith in
    let fits = c.requires.room in
    let sized = g.met.M.Machine.sized c.args.m.now in
    early_more d g.row.SIZE 1 2 _ _ (omega arith) (shut_first_early d g.row.SIZE _ _ fits sized c.requires.clean (shut_only d g.row.SIZE 0 below _ _ fits sized c.requires.clean c.shut.ensures.ran c.shut.ensures.idle))

pub returns-in_err-second-clause-ran : goal.returns-in_err-second-clause-ran
returns-in_err-second-clause-ran g c =
    let d = c.args.dev in
    let zero : 0 < 2 = omega arith in
    let one : 1 < 2 = omega arith in
    let fits = c.requires.room in
    let sized = g.met.M.Machine.sized c.args.m.now in
    let first = shut_first_early d g.row.SIZE _ _ fits sized c.requires.clean (shut_only d g.row.SIZE 0 zero _ _ fits sized c.requires.clean c.shut.ensures.ran c.shut.ensures.idle) in
    let fits_2 = subst (λ (s : Sizes). room g.row.SIZE ≤ size_of d s) (sym first.1.sizes) fits in
    let sized_2 = g.met.M.Machine.sized c.shut.new.m in
    let clean = c.in_ok-first.ensures.clean in
    let second = shut_second_early d g.row.SIZE _ _ fits_2 sized_2 clean (shut_only d g.row.SIZE 1 one _ _ fits_2 sized_2 clean c.shut-2.ensures.ran c.shut-2.ensures.idle) in
    early_more d g.row.SIZE (1 + 1) 2 _ _ (omega arith) (early_stages d g.row.SIZE _ 1 1 _ _ _ first second)

pub returns-in_err-second-clause-fails : goal.returns-in_err-second-clause-fails
returns-in_err-second-clause-fails g c =
    let ends = ends_later _ _ _ _ c.in_ok-first.ensures.fails c.in_err-second.ensures.fails in search rules

pub returns-clause-shut : goal.returns-clause-shut
returns-clause-shut g c =
    let d = c.args.dev in
    let one : 1 < 2 = omega arith in
    let fits = subst (λ (s : Sizes). room g.row.SIZE ≤ size_of d s) (sym c.shut.ensures.ran.1.sizes) c.requires.room in
    let still = one_write_keeps d _ _ _ _ (g.met.M.Machine.sized c.shut.new.m) (gate_bounded g.row.SIZE 1 _ one fits) (first_shut_kept g.row.SIZE) c.shut-2.ensures.ran c.in_ok-first.ensures.shut in
    λ fs told. record { first = still fs told; second = c.in_ok-second.ensures.shut fs told }

pub returns-clause-ran : goal.returns-clause-ran
returns-clause-ran g c =
    let d = c.args.dev in
    let zero : 0 < 2 = omega arith in
    let one : 1 < 2 = omega arith in
    let fits = c.requires.room in
    let sized = g.met.M.Machine.sized c.args.m.now in
    let first = shut_first_early d g.row.SIZE _ _ fits sized c.requires.clean (shut_only d g.row.SIZE 0 zero _ _ fits sized c.requires.clean c.shut.ensures.ran c.shut.ensures.idle) in
    let fits_2 = subst (λ (s : Sizes). room g.row.SIZE ≤ size_of d s) (sym first.1.sizes) fits in
    let sized_2 = g.met.M.Machine.sized c.shut.new.m in
    let clean = c.in_ok-first.ensures.clean in
    let second = shut_second_early d g.row.SIZE _ _ fits_2 sized_2 clean (shut_only d g.row.SIZE 1 one _ _ fits_2 sized_2 clean c.shut-2.ensures.ran c.shut-2.ensures.idle) in
    early_more d g.row.SIZE (1 + 1) 2 _ _ (omega arith) (early_stages d g.row.SIZE _ 1 1 _ _ _ first second)

pub returns-clause-exact : goal.returns-clause-exact
returns-clause-exact g c =
    let d = c.args.dev in
    let first = shutting_does d g.row.SIZE 0 _ _ c.in_ok-first.ensures.exact c.shut.ensures.idle in
    let second = shutting_does d g.row.SIZE 1 _ _ c.in_ok-second.ensures.exact c.shut-2.ensures.idle in
    shuts_both d g.row.SIZE _ _ _ c.shut.ensures.rest first second

pub returns-in_err-first-clause-cut : goal.returns-in_err-first-clause-cut
returns-in_err-first-clause-cut g c =
    let front = shuts_cut_first c.args.dev g.row.SIZE _ _ c.in_err-first.ensures.cut c.shut.ensures.idle in search rules

pub returns-in_err-second-clause-cut : goal.returns-in_err-second-clause-cut
returns-in_err-second-clause-cut g c =
    let d = c.args.dev in
    let first = shutting_does d g.row.SIZE 0 _ _ c.in_ok-first.ensures.exact c.shut.ensures.idle in
    let front = shuts_cut_second d g.row.SIZE _ _ _ c.shut.ensures.rest first c.in_err-second.ensures.cut c.shut-2.ensures.idle in search rules
