use Rattle.seat_certificate.proofs.Listed.{few_seats, listed_push}
use Rattle.seat_certificate.proofs.substitute.substitutes.Goals as goal

pub push_substitutes-requires : goal.push_substitutes-requires
push_substitutes-requires c =
    few_seats c.args.contest.now c.args.seats.now c.as_slice-party-items.result.now c.loop-i.i c.party-item.result c.get.result.now c.requires.seats c.requires.contest.rising c.as_slice-party-items.ensures.items c.loop-i-test.true c.party-item.is
    c.get.ensures

pub loop-i-preserved : goal.loop-i-preserved
loop-i-preserved c =
    listed_push c.args.contest.now c.args.seats.now c.as_slice-party-items.result.now c.loop-i.list _ c.loop-i.i c.party-item.result c.get.result.now c.requires.seats c.as_slice-party-items.ensures.items c.loop-i-test.true c.party-item.is
    c.get.ensures c.loop-i.invariant c.in_ok-push_substitutes.ensures
