use Rattle.std.proofs.Common.{◌≤◌, ℕ, List, length, sum_by, ap, ◌∙◌, arith}
use Rattle.std.proofs.lemmas.List.{length-map, take_all}
use Rattle.section_intake.proofs.TallyLaws.{party_at}
use Rattle.totals.specs.Contest.{party_numbers}
use Rattle.totals.proofs.Bounds.{next_sum}
use Rattle.vote_kinds.specs.Ballot.{panel_at}
use Rattle.vote_kinds.specs.declared.choice.Choice.TheVariants as choice
use Rattle.intake_ledger.specs.Ledger.{sum_of}
use Rattle.ledger_commands.proofs.Sums.{party_few, told_ledger, told_sum}
use Rattle.ledger_commands.proofs.lines.party_votes.Goals as goal

pub overflow_add-votes : goal.overflow_add-votes
overflow_add-votes c =
    let t = c.args.tables.now in
    let panel = c.args.panel in
    let (l, are) = c.requires.sums in
    let g : ℕ → ℕ = λ n. sum_of t l panel (choice.Party n) in
    let more = next_sum g (party_numbers t) c.loop-i.i c.party.result (party_at t c.loop-i.i c.party.result c.party.ensures.party) in
    let few = party_few t l c.requires.valid (told_ledger t l c.args.sums.now c.requires.valid are) panel (panel_at t panel) in
    let so_far = c.loop-i.invariant l are in
    let this = c.party-votes.ensures ∙ told_sum t l c.args.sums.now are panel (choice.Party c.party.result) in
    omega (arith, more.1, few, so_far, this)

pub loop-i-preserved : goal.loop-i-preserved
loop-i-preserved c l are =
    let t = c.args.tables.now in
    let panel = c.args.panel in
    let g : ℕ → ℕ = λ n. sum_of t l panel (choice.Party n) in
    let more = next_sum g (party_numbers t) c.loop-i.i c.party.result (party_at t c.loop-i.i c.party.result c.party.ensures.party) in
    let so_far = c.loop-i.invariant l are in
    let this = c.party-votes.ensures ∙ told_sum t l c.args.sums.now are panel (choice.Party c.party.result) in
    omega (arith, more.0, so_far, this)

pub returns : goal.returns
returns c l are =
    let t = c.args.tables.now in
    let g : ℕ → ℕ = λ n. sum_of t l c.args.panel (choice.Party n) in
    let many : length (party_numbers t) ≤ c.loop-i.i = omega (arith, length-map t.parties (λ q. q.number), c.loop-i-test.false, c.party_count-i-end.ensures.count) in
    c.loop-i.invariant l are ∙ ap (λ (ns : List ℕ). sum_by g ns) (take_all c.loop-i.i (party_numbers t) many)
