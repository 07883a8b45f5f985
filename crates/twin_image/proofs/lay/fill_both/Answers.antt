use Rattle.std.proofs.Common.{◌<◌, ◌≤◌, inl, inr, sym, subst, arith, rules}
use Rattle.urna_outside.specs.Told.{Sizes, size_of}
use Rattle.urna_outside.proofs.Faults.{ends_later}
use Rattle.gate_slot.specs.Slot.{room, fill_ops}
use Rattle.gate_slot.proofs.Fronts.{fronts_first, fronts_later}
use Rattle.gate_slot.proofs.Written.{body_bounded}
use Rattle.twin_image.specs.Lay.{IsOfBodies}
use Rattle.twin_image.proofs.Renewing.{twin_bounded}
use Rattle.twin_image.proofs.Laying.{writes-append, writes_weaker, writes_keep, shut_kept, gates_apart, bodies_of_twin, first_body_kept, one_write_keeps}
use Rattle.twin_image.proofs.Turning.{writes_one}
use Rattle.twin_image.proofs.lay.fill_both.Goals as goal
use Rattle.urna_outside.proofs.Doing.{does-append}

pub returns-in_err-first-clause-ran : goal.returns-in_err-first-clause-ran
returns-in_err-first-clause-ran g c =
    let ran = rw c.requires.slots.first_is at c.fill.ensures.ran in
    writes_weaker c.args.dev _ _ 1 2 _ _ (omega arith) (λ k is. is) (writes_one c.args.dev _ _ _ _ (λ k is. inl is) ran)

pub fill-requires-2 : goal.fill-requires-2
fill-requires-2 g c =
    let d = c.args.dev in
    let ran = rw c.requires.slots.first_is at c.fill.ensures.ran in
    let one = writes_one d _ _ _ _ (λ k is. inl is) ran in
    let fits = subst (λ (s : Sizes). room g.row.SIZE ≤ size_of d s) (sym ran.1.sizes) c.requires.room in
    let shut = writes_keep d (IsOfBodies g.row.SIZE) _ _ _ _ (g.met.M.Machine.sized c.args.m.now) (λ k is. twin_bounded g.row.SIZE _ c.requires.room k (bodies_of_twin g.row.SIZE k is)) (λ f h keeps. shut_kept g.row.SIZE _ f h keeps (gates_apart g.row.SIZE)) one c.requires.shut in
    rw c.requires.slots.second_is (omega arith, (omega arith, (omega arith, (omega arith, (fits, (c.requires.body, λ fs told. (shut fs told).second))))))

pub returns-in_err-second-clause-ran : goal.returns-in_err-second-clause-ran
returns-in_err-second-clause-ran g c =
    let ran = rw c.requires.slots.first_is at c.fill.ensures.ran in
    let ran_2 = rw c.requires.slots.second_is at c.fill-2.ensures.ran in
    writes-append c.args.dev _ 1 1 _ _ _ (writes_one c.args.dev _ _ _ _ (λ k is. inl is) ran) (writes_one c.args.dev _ _ _ _ (λ k is. inr is) ran_2)

pub returns-in_err-second-clause-fails : goal.returns-in_err-second-clause-fails
returns-in_err-second-clause-fails g c =
    let ends = ends_later _ _ _ _ c.in_ok-first.ensures.fails c.in_err-second.ensures.fails in search rules

pub returns-clause-body : goal.returns-clause-body
returns-clause-body g c =
    let d = c.args.dev in
    let one : 1 < 2 = omega arith in
    let ran_2 = rw c.requires.slots.second_is at c.fill-2.ensures.ran in
    let body = rw c.requires.slots.first_is at c.in_ok-first.ensures.body in
    let body_2 = rw c.requires.slots.second_is at c.in_ok-second.ensures.body in
    let fits = subst (λ (s : Sizes). room g.row.SIZE ≤ size_of d s) (sym c.fill.ensures.ran.1.sizes) c.requires.room in
    let still = one_write_keeps d _ _ _ _ (g.met.M.Machine.sized c.fill.new.m) (body_bounded g.row.SIZE 1 _ one fits) (λ f h. first_body_kept g.row.SIZE c.args.body.now f h c.requires.body) ran_2 body in
    λ fs told. record { first = still fs told; second = body_2 fs told }

pub returns-clause-ran : goal.returns-clause-ran
returns-clause-ran g c =
    let ran = rw c.requires.slots.first_is at c.fill.ensures.ran in
    let ran_2 = rw c.requires.slots.second_is at c.fill-2.ensures.ran in
    writes-append c.args.dev _ 1 1 _ _ _ (writes_one c.args.dev _ _ _ _ (λ k is. inl is) ran) (writes_one c.args.dev _ _ _ _ (λ k is. inr is) ran_2)

pub returns-clause-shut : goal.returns-clause-shut
returns-clause-shut g c =
    let d = c.args.dev in
    writes_keep d _ _ _ _ _ (g.met.M.Machine.sized c.args.m.now) (λ k is. twin_bounded g.row.SIZE _ c.requires.room k (bodies_of_twin g.row.SIZE k is)) (λ f h keeps. shut_kept g.row.SIZE _ f h keeps (gates_apart g.row.SIZE)) (returns-clause-ran g c) c.requires.shut

pub returns-clause-exact : goal.returns-clause-exact
returns-clause-exact g c =
    let first = rw c.requires.slots.first_is at c.in_ok-first.ensures.exact in
    let second = rw c.requires.slots.second_is at c.in_ok-second.ensures.exact in
    does-append _ _ _ _ _ first second

pub returns-in_err-first-clause-cut : goal.returns-in_err-first-clause-cut
returns-in_err-first-clause-cut g c =
    let cut = rw c.requires.slots.first_is at c.in_err-first.ensures.cut in
    let front = fronts_first _ (fill_ops g.row.SIZE c.args.dev 1 c.args.body.now) _ _ cut in search rules

pub returns-in_err-second-clause-cut : goal.returns-in_err-second-clause-cut
returns-in_err-second-clause-cut g c =
    let first = rw c.requires.slots.first_is at c.in_ok-first.ensures.exact in
    let cut = rw c.requires.slots.second_is at c.in_err-second.ensures.cut in
    let front = fronts_later _ _ _ _ _ first cut in search rules
