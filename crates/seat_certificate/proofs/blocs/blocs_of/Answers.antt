use Rattle.std.proofs.Common.{[], arith}
use Rattle.seat_remainders.proofs.MadeTable.{place_below}
use Rattle.seat_certificate.proofs.BlocsOfLaw.{blocs-length, blocs_more}
use Rattle.seat_certificate.proofs.blocs.blocs_of.Goals as goal

-- there is room, since numbers rise and are of one byte
pub push-requires : goal.push-requires
push-requires c =
    let items = c.as_slice-party-items.result.now in
    let i = c.loop-party.party-index in
    let place = place_below c.args.contest.now.parties items i c.party-item.result c.requires.contest.rising c.as_slice-party-items.ensures.items c.loop-party-test.true c.party-item.is in
    let count = blocs-length c.args.qe [] items i c.loop-party.blocs.items c.loop-party.invariant.counted c.loop-party-test.true in
    (omega arith, omega (arith, place, count, c.standing_of-standing.ensures.number))

pub loop-party-preserved : goal.loop-party-preserved
loop-party-preserved c =
    let items = c.as_slice-party-items.result.now in
    let i = c.loop-party.party-index in
    let place = place_below c.args.contest.now.parties items i c.party-item.result c.requires.contest.rising c.as_slice-party-items.ensures.items c.loop-party-test.true c.party-item.is in
    record {
      counted = blocs_more c.args.qe items i c.party-item.result c.standing_of-standing.result c.loop-party.blocs.items _ c.loop-party-test.true c.party-item.is c.standing_of-standing.ensures.counted c.loop-party.invariant.counted c.push.ensures.items;
      few = omega (arith, place, c.standing_of-standing.ensures.number);
    }
