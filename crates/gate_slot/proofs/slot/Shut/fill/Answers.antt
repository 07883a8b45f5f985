use Rattle.std.proofs.Common.{arith}
use Rattle.gate_slot.proofs.Written.{written_at, body_fits, body_bounded, runs_renamed, stays_shut, one_within, one_write_keeps}
use Rattle.gate_slot.proofs.slot.Shut.fill.Goals as goal

pub returns-in-Ok-clause-body : goal.returns-in-Ok-clause-body
returns-in-Ok-clause-body g c = λ fs told.
    let within = body_fits _ _ _ c.requires.index c.requires.room in
    (written_at _ _ _ c.args.body.now (g.M.Machine.told c.args.m.now) _ c.body-at.ensures c.in-Ok.ensures.ok (g.met.M.Machine.sized c.args.m.now) (omega arith) fs told).0

pub returns-in-Ok-clause-shut : goal.returns-in-Ok-clause-shut
returns-in-Ok-clause-shut g c =
    let run = runs_renamed _ _ _ _ _ _ _ c.body-at.ensures c.requires.body c.write_through.ensures.ran in
    stays_shut _ _ _ (g.M.Machine.told c.args.m.now) _ c.requires.index c.requires.room (g.met.M.Machine.sized c.args.m.now) (one_within _ _ _ _ run) c.requires.shut

pub returns-in-Err-clause-shut : goal.returns-in-Err-clause-shut
returns-in-Err-clause-shut g c =
    let run = runs_renamed _ _ _ _ _ _ _ c.body-at.ensures c.requires.body c.write_through.ensures.ran in
    stays_shut _ _ _ (g.M.Machine.told c.args.m.now) _ c.requires.index c.requires.room (g.met.M.Machine.sized c.args.m.now) (one_within _ _ _ _ run) c.requires.shut

pub returns-in-Err-clause-ran : goal.returns-in-Err-clause-ran
returns-in-Err-clause-ran g c =
    runs_renamed _ _ _ _ _ _ _ c.body-at.ensures c.requires.body c.write_through.ensures.ran

pub returns-in-Ok-clause-rest : goal.returns-in-Ok-clause-rest
returns-in-Ok-clause-rest g c =
    one_write_keeps _ _ _ _ (g.met.M.Machine.sized c.args.m.now) (body_bounded _ _ _ c.requires.index c.requires.room) (runs_renamed _ _ _ _ _ _ _ c.body-at.ensures c.requires.body c.write_through.ensures.ran)

pub returns-in-Err-clause-rest : goal.returns-in-Err-clause-rest
returns-in-Err-clause-rest g c =
    one_write_keeps _ _ _ _ (g.met.M.Machine.sized c.args.m.now) (body_bounded _ _ _ c.requires.index c.requires.room) (runs_renamed _ _ _ _ _ _ _ c.body-at.ensures c.requires.body c.write_through.ensures.ran)
