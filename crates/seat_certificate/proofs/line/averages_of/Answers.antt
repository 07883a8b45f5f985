use Rattle.std.proofs.Common.{ℕ, List, length, length-append, ap, ◌∙◌, ◌∷◌, [], arith}
use Rattle.quotients.specs.Average.{AverageData}
use Rattle.quotients.specs.Order.{parts_of}
use Rattle.seat_certificate.specs.Reading.{averages_at}
use Rattle.urna_base.specs.Words.{pieces_left}
use Rattle.seat_certificate.proofs.Passing.{above_last, averages_done, averages_go, averages_stop}
use Rattle.seat_certificate.proofs.line.averages_of.Goals as goal

pub returns-in_default-average_above : goal.returns-in_default-average_above
returns-in_default-average_above c = averages_stop c.loop-left.averages c.loop-left.last c.loop-left.left c.in-Some.text _ _ _ c.in-Some.is c.split_piece.ensures c.in_default-average_above.ensures c.loop-left.invariant.told

pub push-requires : goal.push-requires
push-requires c =
    let above = above_last c.loop-left.last _ (parts_of c.in-Some-average_above.average) c.in-Some-average_above.ensures in
    omega (arith, above, c.loop-left.invariant.few)

pub loop-left-preserved : goal.loop-left-preserved
loop-left-preserved c =
    let a = parts_of c.in-Some-average_above.average in
    let above = above_last c.loop-left.last _ a c.in-Some-average_above.ensures in
    let len = ap (λ (l : List AverageData). length l) c.in_ok-push.ensures.pushed ∙ length-append c.loop-left.averages (a ∷ []) in
    record {
      told = ap (λ (n : ℕ). averages_at c.push.new.self n (pieces_left c.split_piece.result.1)) c.party-last.ensures ∙ averages_go c.loop-left.averages c.push.new.self c.loop-left.last c.loop-left.left c.in-Some.text _ _ a _ c.in-Some.is c.split_piece.ensures c.in-Some-average_above.ensures c.in_ok-push.ensures.pushed c.loop-left.invariant.told;
      few = omega (arith, above, len, c.loop-left.invariant.few, c.party-last.ensures);
    }

pub returns : goal.returns
returns c = averages_done c.loop-left.averages c.loop-left.last c.loop-left.left _ c.in_default.is c.loop-left.invariant.told
