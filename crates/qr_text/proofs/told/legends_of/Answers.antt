use Rattle.std.proofs.Common.{List, length, sym, ◌∙◌, ap, arith}
use Rattle.std.specs.List.{flat_map}
use Rattle.std.proofs.lemmas.List.{take_all}
use Rattle.qr_text.proofs.Telling.{flat_few, legends_flat}
use Rattle.qr_text.proofs.told.legends_of.Goals as goal
use Rattle.qr_text.specs.Reported.{legend_of}
use Rattle.qr_text.specs.declared.said.SaidParty.{SaidParty}

pub push_legend-requires : goal.push_legend-requires
push_legend-requires c =
    let items : List SaidParty = c.as_slice-party-items.result.now in
    let few = flat_few legend_of items c.loop-party.party-index c.party-item.result (omega (arith, c.loop-party-test.true)) c.party-item.is in
    let so_far = ap length c.loop-party.invariant in
    let same = ap (λ (ps : List SaidParty). length (flat_map legend_of ps)) c.as_slice-party-items.ensures in
    let all = ap length (legends_flat c.args.parties.now) in
    omega (arith, few, so_far, same, all, c.requires)

pub returns : goal.returns
returns c =
    let items : List SaidParty = c.as_slice-party-items.result.now in
    c.loop-party.invariant
    ∙ (ap (λ (ps : List SaidParty). flat_map legend_of ps) (take_all c.loop-party.party-index items (omega (arith, c.loop-party-test.false)) ∙ c.as_slice-party-items.ensures)
    ∙ sym (legends_flat c.args.parties.now))
