use Rattle.std.proofs.Common.{List, length, length-append, take, ap, arith}
use Rattle.std.specs.List.{flat_map}
use Rattle.poll_report.specs.declared.report.Count.{Count}
use Rattle.qr_text.proofs.Telling.{flat_few}
use Rattle.qr_text.proofs.told.candidates_of.Goals as goal
use Rattle.qr_text.specs.declared.said.SaidParty.{SaidParty}

pub push_all-requires-in-loop-party : goal.push_all-requires-in-loop-party
push_all-requires-in-loop-party c =
    let pieces : SaidParty → List Count = λ p. p.candidates in
    let items : List SaidParty = c.as_slice-party-items.result.now in
    let few = flat_few pieces items c.loop-party.party-index c.party-item.result (omega (arith, c.loop-party-test.true)) c.party-item.is in
    let so_far = ap length c.loop-party.invariant in
    let split = length-append c.args.office.now.candidates (flat_map pieces (take c.loop-party.party-index items)) in
    let all = length-append c.args.office.now.candidates (flat_map pieces c.args.office.now.parties) in
    let same = ap (λ (ps : List SaidParty). length (flat_map pieces ps)) c.as_slice-party-items.ensures in
    omega (arith, few, so_far, split, all, same, c.requires)
