use Rattle.std.proofs.Common.{◌+◌, ◌≤◌, [], ◌∷◌, ℕ, subst, ap, arith}
use Rattle.urna_outside.specs.Flash.{flash_of, Stably}
use Rattle.urna_outside.specs.Told.{size_of}
use Rattle.gate_slot.proofs.Fronts.{fronts_none}
use Rattle.gate_slot.proofs.Written.{written, gate_fits, gate_bounded, runs_later, same_write, one_write_keeps, shut_as_read}
use Rattle.gate_slot.proofs.slot.Slot.shut.Goals as goal

pub returns-then-gate-clause-shut : goal.returns-then-gate-clause-shut
returns-then-gate-clause-shut g c =
    shut_as_read _ _ _ _ _ _ c.requires.index c.requires.room (g.met.M.Machine.sized c.args.m.now) c.requires.clean c.read_gate.ensures.done c.if-gate.true c.in-Ok.ensures.gate

pub returns-in-Ok-write_through-clause-shut : goal.returns-in-Ok-write_through-clause-shut
returns-in-Ok-write_through-clause-shut g c = λ fs told.
    let same_size = ap (size_of c.args.self.dev) c.read_gate.ensures.done.sizes in
    let within = gate_fits _ _ _ c.requires.index c.requires.room in
    let place = c.gate-at.ensures in
    let fits : c.gate-at.result + 1 ≤ size_of c.args.self.dev (g.M.Machine.told c.read_gate.new.m).sizes = omega arith in
    let stands =
    written c.args.self.dev c.gate-at.result (0x5A ∷ []) (g.M.Machine.told c.read_gate.new.m) (g.M.Machine.told c.write_through.new.m) c.in-Ok-write_through.ensures.ok (g.met.M.Machine.sized c.read_gate.new.m) fits fs told in (
      0x5A,
      λ same. omega (arith, same),
      subst (λ (at : ℕ). Stably (flash_of c.args.self.dev fs) at (0x5A ∷ [])) c.gate-at.ensures stands.0,
    )

pub returns-in-Ok-write_through-clause-clean : goal.returns-in-Ok-write_through-clause-clean
returns-in-Ok-write_through-clause-clean g c = λ fs told.
    let same_size = ap (size_of c.args.self.dev) c.read_gate.ensures.done.sizes in
    let within = gate_fits _ _ _ c.requires.index c.requires.room in
    let place = c.gate-at.ensures in
    let fits : c.gate-at.result + 1 ≤ size_of c.args.self.dev (g.M.Machine.told c.read_gate.new.m).sizes = omega arith in
    (written c.args.self.dev c.gate-at.result (0x5A ∷ []) (g.M.Machine.told c.read_gate.new.m) (g.M.Machine.told c.write_through.new.m) c.in-Ok-write_through.ensures.ok (g.met.M.Machine.sized c.read_gate.new.m) fits fs told).1

pub returns-in-Ok-write_through-clause-rest : goal.returns-in-Ok-write_through-clause-rest
returns-in-Ok-write_through-clause-rest g c =
    one_write_keeps _ _ _ _ (g.met.M.Machine.sized c.args.m.now) (gate_bounded _ _ _ c.requires.index c.requires.room)
    (runs_later _ _ _ _ _ c.read_gate.ensures.done (λ ops run. same_write _ _ _ _ ops c.gate-at.ensures run) c.write_through.ensures.ran)

pub returns-in-Err-clause-ran : goal.returns-in-Err-clause-ran
returns-in-Err-clause-ran g c =
    runs_later _ _ _ _ _ c.read_gate.ensures.done (λ ops run. same_write _ _ _ _ ops c.gate-at.ensures run) c.write_through.ensures.ran

pub returns-in-Err-clause-rest : goal.returns-in-Err-clause-rest
returns-in-Err-clause-rest g c =
    one_write_keeps _ _ _ _ (g.met.M.Machine.sized c.args.m.now) (gate_bounded _ _ _ c.requires.index c.requires.room) (returns-in-Err-clause-ran g c)

pub returns-in_default-clause-cut : goal.returns-in_default-clause-cut
returns-in_default-clause-cut g c = fronts_none _ _ _ _ c.read_gate.ensures.done
