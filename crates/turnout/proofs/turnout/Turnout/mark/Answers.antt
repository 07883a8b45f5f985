use Rattle.std.proofs.Common.{◌≡◌, ◌<◌, length, true, false, subst, sym, List, Bool, arith}
use Rattle.std.proofs.Math.ListN.{length-set}
use Rattle.turnout.specs.Turnout.{has_come}
use Rattle.turnout.proofs.Marks.{number_came-set}
use Rattle.turnout.proofs.turnout.Turnout.mark.Goals as goal

pub invariant_of-self : goal.invariant_of-self
invariant_of-self c =
    let marks : List Bool = c.self.inside.marks.items in
    let place = c.args.place in
    let same : marks ≡ c.args.self.now = c.self.view_is in
    let known : place < length marks = subst (λ (m : List Bool). place < length m) (sym same) c.requires.known in
    let absent : has_come marks place ≡ false = subst (λ (m : List Bool). has_come m place ≡ false) (sym same) c.requires.absent in
    let more = number_came-set marks place known absent in
    let least = length-set marks place true in
    record {
      few = omega (arith, c.self.invariant.few);
      counted = omega (arith, c.self.invariant.counted);
      reserved = omega (arith, c.self.invariant.reserved);
    }
