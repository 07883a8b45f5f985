use Rattle.std.proofs.Common.{◌<◌, ◌≤◌, inl, inr, sym, subst, arith, rules}
use Rattle.urna_outside.specs.Told.{Sizes, size_of}
use Rattle.urna_outside.proofs.Faults.{ends_later}
use Rattle.gate_slot.specs.Slot.{room, publish_ops}
use Rattle.gate_slot.proofs.Fronts.{fronts_first, fronts_later}
use Rattle.gate_slot.proofs.Written.{gate_bounded}
use Rattle.twin_image.proofs.Laying.{writes-append, writes_weaker, first_open_kept, second_filled_kept, one_write_keeps}
use Rattle.twin_image.proofs.Turning.{writes_one}
use Rattle.twin_image.proofs.lay.publish_both.Goals as goal
use Rattle.urna_outside.proofs.Doing.{does-append}

pub returns-in_err-first-clause-ran : goal.returns-in_err-first-clause-ran
returns-in_err-first-clause-ran g c =
    let ran = rw c.requires.slots.first_is at c.publish.ensures.ran in
    writes_weaker c.args.dev _ _ 1 2 _ _ (omega arith) (λ k is. is) (writes_one c.args.dev _ _ _ _ (λ k is. inl is) ran)

pub publish-requires-2 : goal.publish-requires-2
publish-requires-2 g c =
    let d = c.args.dev in
    let zero : 0 < 2 = omega arith in
    let ran = rw c.requires.slots.first_is at c.publish.ensures.ran in
    let fits = subst (λ (s : Sizes). room g.row.SIZE ≤ size_of d s) (sym ran.1.sizes) c.requires.room in
    let filled = one_write_keeps d _ _ _ _ (g.met.M.Machine.sized c.args.m.now) (gate_bounded g.row.SIZE 0 _ zero c.requires.room) (second_filled_kept g.row.SIZE) ran (λ fs told. (c.requires.filled fs told).second) in
    rw c.requires.slots.second_is (omega arith, (omega arith, (omega arith, (omega arith, (fits, filled)))))

pub returns-in_err-second-clause-ran : goal.returns-in_err-second-clause-ran
returns-in_err-second-clause-ran g c =
    let ran = rw c.requires.slots.first_is at c.publish.ensures.ran in
    let ran_2 = rw c.requires.slots.second_is at c.publish-2.ensures.ran in
    writes-append c.args.dev _ 1 1 _ _ _ (writes_one c.args.dev _ _ _ _ (λ k is. inl is) ran) (writes_one c.args.dev _ _ _ _ (λ k is. inr is) ran_2)

pub returns-in_err-second-clause-fails : goal.returns-in_err-second-clause-fails
returns-in_err-second-clause-fails g c =
    let ends = ends_later _ _ _ _ c.in_ok-first.ensures.fails c.in_err-second.ensures.fails in search rules

pub returns-clause-opened : goal.returns-clause-opened
returns-clause-opened g c =
    let d = c.args.dev in
    let one : 1 < 2 = omega arith in
    let ran_2 = rw c.requires.slots.second_is at c.publish-2.ensures.ran in
    let opened = rw c.requires.slots.first_is at c.in_ok-first.ensures.opened in
    let opened_2 = rw c.requires.slots.second_is at c.in_ok-second.ensures.opened in
    let fits = subst (λ (s : Sizes). room g.row.SIZE ≤ size_of d s) (sym c.publish.ensures.ran.1.sizes) c.requires.room in
    let still = one_write_keeps d _ _ _ _ (g.met.M.Machine.sized c.publish.new.m) (gate_bounded g.row.SIZE 1 _ one fits) (first_open_kept g.row.SIZE) ran_2 opened in
    λ fs told. record { first = still fs told; second = opened_2 fs told }

pub returns-clause-ran : goal.returns-clause-ran
returns-clause-ran g c =
    let ran = rw c.requires.slots.first_is at c.publish.ensures.ran in
    let ran_2 = rw c.requires.slots.second_is at c.publish-2.ensures.ran in
    writes-append c.args.dev _ 1 1 _ _ _ (writes_one c.args.dev _ _ _ _ (λ k is. inl is) ran) (writes_one c.args.dev _ _ _ _ (λ k is. inr is) ran_2)

pub returns-clause-exact : goal.returns-clause-exact
returns-clause-exact g c =
    let first = rw c.requires.slots.first_is at c.in_ok-first.ensures.exact in
    let second = rw c.requires.slots.second_is at c.in_ok-second.ensures.exact in
    does-append _ _ _ _ _ first second

pub returns-in_err-first-clause-cut : goal.returns-in_err-first-clause-cut
returns-in_err-first-clause-cut g c =
    let cut = rw c.requires.slots.first_is at c.in_err-first.ensures.cut in
    let front = fronts_first _ (publish_ops g.row.SIZE c.args.dev 1) _ _ cut in search rules

pub returns-in_err-second-clause-cut : goal.returns-in_err-second-clause-cut
returns-in_err-second-clause-cut g c =
    let first = rw c.requires.slots.first_is at c.in_ok-first.ensures.exact in
    let cut = rw c.requires.slots.second_is at c.in_err-second.ensures.cut in
    let front = fronts_later _ _ _ _ _ first cut in search rules
