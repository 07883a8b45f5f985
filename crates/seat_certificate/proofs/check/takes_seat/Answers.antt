use Rattle.std.proofs.Common.{◌≡◌, ◌∙◌}
use Rattle.quotients.specs.Order.{parts_of}
use Rattle.seat_certificate.specs.Blocs.{Unbeaten}
use Rattle.seat_certificate.proofs.Members.{all_at}
use Rattle.seat_certificate.proofs.check.takes_seat.Goals.{else-party-via-then-party+else-is_unbeaten, else-party-via-else-party}
use Rattle.seat_certificate.proofs.check.takes_seat.Goals as goal

pub loop-i-preserved : goal.loop-i-preserved
loop-i-preserved c =
    let a = parts_of c.get-own.result.now in
    all_at (λ a. a.party ≡ c.args.party → Unbeaten c.args.averages.now a → ⊥) c.args.averages.now c.loop-i.i a c.get-own.ensures c.loop-i.invariant
    (λ same unbeaten. elim c.else-party.branch [ else-party-via-then-party+else-is_unbeaten w ↦ let no = w.if-is_unbeaten.ensures.1 unbeaten in absurd (cc) | else-party-via-else-party w ↦ w.if-party.false (c.party.ensures ∙ same) ])
