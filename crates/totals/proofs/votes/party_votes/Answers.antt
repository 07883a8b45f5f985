use Rattle.std.proofs.Common.{◌≤◌, ℕ, List, length, map, sum_by, ap, ◌∙◌, arith}
use Rattle.std.proofs.lemmas.List.{length-map, take_all}
use Rattle.section_intake.specs.Sums.{party_sum}
use Rattle.section_intake.proofs.TallyLaws.{party_at}
use Rattle.totals.proofs.Bounds.{next_sum, parties_are, party_few}
use Rattle.totals.proofs.votes.party_votes.Goals as goal

pub overflow_add-votes : goal.overflow_add-votes
overflow_add-votes c =
    let t = c.args.tables.now in
    let is = c.requires.made in
    let g : ℕ → ℕ = λ n. party_sum c.args.panel n is.reports in
    let ns : List ℕ = map (λ q. q.number) t.parties in
    let more = next_sum g ns c.loop-i.i c.party.result (party_at t c.loop-i.i c.party.result c.party.ensures.party) in
    let few = party_few t c.args.intake.now is.reports c.args.panel is is.read c.requires.panel in
    let so_far = c.loop-i.invariant is.reports is.read in
    let this = c.party-votes.ensures.sum t is.reports is is.read in
    omega (arith, more.1, few, so_far, this)

pub loop-i-preserved : goal.loop-i-preserved
loop-i-preserved c reports read =
    let t = c.args.tables.now in
    let g : ℕ → ℕ = λ n. party_sum c.args.panel n reports in
    let ns : List ℕ = map (λ q. q.number) t.parties in
    let more = next_sum g ns c.loop-i.i c.party.result (party_at t c.loop-i.i c.party.result c.party.ensures.party) in
    let so_far = c.loop-i.invariant reports read in
    let this = c.party-votes.ensures.sum t reports c.requires.made read in
    omega (arith, more.0, so_far, this)

pub returns : goal.returns
returns c reports read =
    let t = c.args.tables.now in
    let g : ℕ → ℕ = λ n. party_sum c.args.panel n reports in
    let ns : List ℕ = map (λ q. q.number) t.parties in
    let many : length ns ≤ c.loop-i.i = omega (arith, length-map t.parties (λ q. q.number), c.loop-i-test.false, c.party_count-i-end.ensures.count) in
    c.loop-i.invariant reports read
    ∙ (ap (λ (l : List ℕ). sum_by g l) (take_all c.loop-i.i ns many) ∙ parties_are t c.args.intake.now reports c.args.panel c.requires.made read c.requires.panel)
