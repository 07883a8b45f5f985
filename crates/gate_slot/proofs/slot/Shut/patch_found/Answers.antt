use Rattle.gate_slot.proofs.Patched.{patched}
use Rattle.gate_slot.proofs.Written.{body_fits, pages_bounded, patch_in_body, patch_within, stays_shut, writes_keep}
use Rattle.gate_slot.proofs.slot.Shut.patch_found.Goals as goal

pub returns-clause-body : goal.returns-clause-body
returns-clause-body g c = λ fs told.
    let fits = body_fits _ _ _ c.requires.index c.requires.room in
    (patched _ _ _ _ _ (g.M.Machine.told c.args.m.now) _ c.requires.new c.requires.pages fits (g.met.M.Machine.sized c.args.m.now) c.requires.body (rw c.body-at.ensures at c.in-Ok.ensures.ok) fs told).0

pub returns-clause-clean : goal.returns-clause-clean
returns-clause-clean g c = λ fs told.
    let fits = body_fits _ _ _ c.requires.index c.requires.room in
    (patched _ _ _ _ _ (g.M.Machine.told c.args.m.now) _ c.requires.new c.requires.pages fits (g.met.M.Machine.sized c.args.m.now) c.requires.body (rw c.body-at.ensures at c.in-Ok.ensures.ok) fs told).1

pub returns-clause-ran : goal.returns-clause-ran
returns-clause-ran g c =
    patch_in_body _ _ c.args.old.now c.args.new.now c.requires.new c.requires.pages _ _ _ _ (rw c.body-at.ensures at c.patch_through.ensures.ran)

pub returns-clause-shut : goal.returns-clause-shut
returns-clause-shut g c =
    stays_shut _ _ _ (g.M.Machine.told c.args.m.now) _ c.requires.index c.requires.room (g.met.M.Machine.sized c.args.m.now) (patch_within _ _ _ _ _ (returns-clause-ran g c)) c.requires.shut

pub returns-clause-rest : goal.returns-clause-rest
returns-clause-rest g c =
    let fits = body_fits _ _ _ c.requires.index c.requires.room in
    let bounded = pages_bounded _ _ c.args.old.now c.args.new.now c.requires.new c.requires.pages _ fits in
    writes_keep _ _ _ _ (g.met.M.Machine.sized c.args.m.now) bounded (patch_within _ _ _ _ _ (rw c.body-at.ensures at c.patch_through.ensures.ran))

pub returns-in_default-clause-ran : goal.returns-in_default-clause-ran
returns-in_default-clause-ran g c =
    patch_in_body _ _ c.args.old.now c.args.new.now c.requires.new c.requires.pages _ _ _ _ (rw c.body-at.ensures at c.patch_through.ensures.ran)

pub returns-in_default-clause-shut : goal.returns-in_default-clause-shut
returns-in_default-clause-shut g c =
    stays_shut _ _ _ (g.M.Machine.told c.args.m.now) _ c.requires.index c.requires.room (g.met.M.Machine.sized c.args.m.now) (patch_within _ _ _ _ _ (returns-in_default-clause-ran g c)) c.requires.shut

pub returns-in_default-clause-rest : goal.returns-in_default-clause-rest
returns-in_default-clause-rest g c =
    let fits = body_fits _ _ _ c.requires.index c.requires.room in
    let bounded = pages_bounded _ _ c.args.old.now c.args.new.now c.requires.new c.requires.pages _ fits in
    writes_keep _ _ _ _ (g.met.M.Machine.sized c.args.m.now) bounded (patch_within _ _ _ _ _ (rw c.body-at.ensures at c.patch_through.ensures.ran))
