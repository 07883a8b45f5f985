use Rattle.std.proofs.Common.{◌≡◌, ℕ, ap, sym, ◌∙◌, arith, rules}
use Rattle.std.proofs.lemmas.Bool.{OnTrue_at}
use Rattle.urna_outside.specs.Flash.{flash_of, part}
use Rattle.urna_outside.proofs.Keeping.{stands_clean}
use Rattle.gate_slot.specs.Slot.{body_offset}
use Rattle.gate_slot.proofs.Written.{body_fits}
use Rattle.gate_slot.proofs.slot.adopt.Goals as goal

pub returns-then-eq-clause-body : goal.returns-then-eq-clause-body
returns-then-eq-clause-body g c = λ fs told.
    let f = flash_of c.args.slot.dev fs in
    let long = (g.met.M.Machine.sized c.args.m.now fs told).content c.args.slot.dev in
    let within = body_fits _ _ _ c.requires.index c.requires.room in
    let same : c.read.new.into ≡ c.args.body.now = search rules in
    let read = OnTrue_at c.if-opened.true c.in_ok-opened.ensures.body fs told in
    stands_clean f (body_offset g.row.SIZE c.args.slot.index) c.args.body.now (c.requires.clean fs told) (omega (arith, c.requires.body)) (ap (λ (n : ℕ). part f.content (body_offset g.row.SIZE c.args.slot.index) n) c.requires.body ∙ sym read ∙ same)
