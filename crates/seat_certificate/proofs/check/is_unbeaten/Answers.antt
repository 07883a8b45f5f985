use Rattle.std.proofs.Common.{◌≡◌, false, sym, ◌∙◌}
use Rattle.std.proofs.lemmas.Option.{get_or_from_slice_get, slice_get_within}
use Rattle.quotients.specs.Average.{comes_before}
use Rattle.quotients.specs.Order.{parts_of}
use Rattle.quotients.proofs.Averages.{is_order_of_law}
use Rattle.seat_certificate.proofs.Checked.{beaten}
use Rattle.seat_certificate.proofs.Members.{all_at}
use Rattle.seat_certificate.proofs.check.is_unbeaten.Goals as goal

pub returns-then-lt : goal.returns-then-lt
returns-then-lt c =
    let a = parts_of c.get.result.now in
    let before = sym (is_order_of_law c.get.result.now c.args.own.now) ∙ sym c.if-lt.ensures in
    ((λ e. absurd (cc)), (λ unbeaten. absurd (beaten c.args.averages.now a (parts_of c.args.own.now) (c.loop-i.i, slice_get_within c.args.averages.now c.loop-i.i a c.get.ensures, get_or_from_slice_get c.args.averages.now c.loop-i.i a a c.get.ensures) before unbeaten)))

pub loop-i-preserved : goal.loop-i-preserved
loop-i-preserved c =
    let a = parts_of c.get.result.now in
    all_at (λ a. comes_before a (parts_of c.args.own.now) ≡ false) c.args.averages.now c.loop-i.i a c.get.ensures c.loop-i.invariant (sym (is_order_of_law c.get.result.now c.args.own.now) ∙ sym c.if-lt.ensures)
