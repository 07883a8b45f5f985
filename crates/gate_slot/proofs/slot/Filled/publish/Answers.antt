use Rattle.std.proofs.Common.{[], ◌∷◌, refl}
use Rattle.gate_slot.proofs.Written.{written_at, gate_fits, gate_bounded, runs_renamed, body_stays_there, one_write_keeps}
use Rattle.gate_slot.proofs.slot.Filled.publish.Goals as goal

pub returns-in-Ok-clause-opened : goal.returns-in-Ok-clause-opened
returns-in-Ok-clause-opened g c = λ fs told.
    (written_at _ _ _ (0xA5 ∷ []) (g.M.Machine.told c.args.m.now) _ c.gate-at.ensures c.in-Ok.ensures.ok (g.met.M.Machine.sized c.args.m.now) (gate_fits _ _ _ c.requires.index c.requires.room) fs told).0

pub returns-in-Ok-clause-body : goal.returns-in-Ok-clause-body
returns-in-Ok-clause-body g c =
    body_stays_there _ _ _ _ _ c.requires.index c.requires.room (g.met.M.Machine.sized c.args.m.now) (runs_renamed _ _ _ _ _ _ _ c.gate-at.ensures refl c.write_through.ensures.ran)

pub returns-in-Err-clause-body : goal.returns-in-Err-clause-body
returns-in-Err-clause-body g c =
    body_stays_there _ _ _ _ _ c.requires.index c.requires.room (g.met.M.Machine.sized c.args.m.now) (runs_renamed _ _ _ _ _ _ _ c.gate-at.ensures refl c.write_through.ensures.ran)

pub returns-in-Err-clause-ran : goal.returns-in-Err-clause-ran
returns-in-Err-clause-ran g c = runs_renamed _ _ _ _ _ _ _ c.gate-at.ensures refl c.write_through.ensures.ran

pub returns-in-Ok-clause-rest : goal.returns-in-Ok-clause-rest
returns-in-Ok-clause-rest g c =
    one_write_keeps _ _ _ _ (g.met.M.Machine.sized c.args.m.now) (gate_bounded _ _ _ c.requires.index c.requires.room) (runs_renamed _ _ _ _ _ _ _ c.gate-at.ensures refl c.write_through.ensures.ran)

pub returns-in-Err-clause-rest : goal.returns-in-Err-clause-rest
returns-in-Err-clause-rest g c =
    one_write_keeps _ _ _ _ (g.met.M.Machine.sized c.args.m.now) (gate_bounded _ _ _ c.requires.index c.requires.room) (runs_renamed _ _ _ _ _ _ _ c.gate-at.ensures refl c.write_through.ensures.ran)
