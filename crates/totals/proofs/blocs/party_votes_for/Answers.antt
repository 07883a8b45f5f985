use Rattle.std.proofs.Common.{◌≡◌, ◌==◌, ◌≤◌, ◌∷◌, [], ◌++◌, ℕ, Bool, true, false, List, length, filter, sum_by, take, cond, append-nil, sym, ap, ◌∙◌, arith}
use Rattle.std.proofs.lemmas.Bool.Decides.{nat_tests}
use Rattle.std.proofs.lemmas.List.{length-map, take_all}
use Rattle.std.proofs.lemmas.List.Sums.{sum_by-append}
use Rattle.section_intake.specs.Sums.{party_sum}
use Rattle.section_intake.proofs.TallyLaws.{party_at}
use Rattle.election_tables.specs.TablesData.{bloc_of}
use Rattle.totals.specs.Contest.{party_numbers}
use Rattle.totals.proofs.BlocLaws.{one_more, party_listed, party_there}
use Rattle.totals.proofs.Bounds.{next_sum, party_few}
use Rattle.totals.proofs.SimpleRule.{sum_by-filter-le}
use Rattle.totals.proofs.blocs.party_votes_for.Goals as goal
use Rattle.totals.proofs.blocs.party_votes_for.Goals.{then-bloc_of-bloc, else-bloc_of-bloc}

pub bloc_of-requires : goal.bloc_of-requires
bloc_of-requires c =
    let t = c.args.tables.now in
    let n = c.party-party.result in
    sym (party_listed n t.parties) ∙ party_there (party_numbers t) c.loop-i.i n (party_at t c.loop-i.i n c.party-party.ensures.party)

pub overflow_add-votes : goal.overflow_add-votes
overflow_add-votes c =
    let t = c.args.tables.now in
    let is = c.requires.made in
    let g : ℕ → ℕ = λ n. party_sum c.args.panel n is.reports in
    let ns = party_numbers t in
    let more = next_sum g ns c.loop-i.i c.party-party.result (party_at t c.loop-i.i c.party-party.result c.party-party.ensures.party) in
    let few = party_few t c.args.intake.now is.reports c.args.panel is is.read c.requires.panel in
    let so_far = c.loop-i.invariant is.reports is.read in
    let first = sum_by-filter-le (λ q. bloc_of t.federations q == c.args.bloc) g (take c.loop-i.i ns) in
    let this = c.party-votes.ensures.sum t is.reports is is.read in
    omega (arith, more.1, few, so_far, first, this)

pub loop-i-preserved : goal.loop-i-preserved
loop-i-preserved c reports read =
    let t = c.args.tables.now in
    let n = c.party-party.result in
    let i = c.loop-i.i in
    let g : ℕ → ℕ = λ n. party_sum c.args.panel n reports in
    let ns = party_numbers t in
    let own = λ (q : ℕ). bloc_of t.federations q == c.args.bloc in
    let first = filter own (take i ns) in
    let so_far = c.loop-i.invariant reports read in
    let bloc = c.bloc_of.ensures in
    let more = one_more own ns i n (party_at t i n c.party-party.ensures.party) in
    elim c.if-bloc_of-bloc.branch [
      | then-bloc_of-bloc w ↦
          let test = w.if-bloc_of-bloc.true in
          let is : own n ≡ true = grind (arith, nat_tests) in
          let all = more ∙ ap (λ (b : Bool). first ++ cond b (n ∷ []) []) is in
          let sum = ap (λ (l : List ℕ). sum_by g l) all ∙ sum_by-append g first (n ∷ []) in
          let this = w.party-votes.ensures.sum t reports c.requires.made read in
          omega (arith, w.votes-is, so_far, this, sum)
      | else-bloc_of-bloc w ↦
          let test = w.if-bloc_of-bloc.false in
          let is : own n ≡ false = grind (arith, nat_tests) in
          let all = more ∙ ap (λ (b : Bool). first ++ cond b (n ∷ []) []) is ∙ append-nil first in
          let sum = ap (λ (l : List ℕ). sum_by g l) all in
          omega (arith, w.votes-is, so_far, sum)
    ]

pub returns : goal.returns
returns c reports read =
    let t = c.args.tables.now in
    let g : ℕ → ℕ = λ n. party_sum c.args.panel n reports in
    let ns = party_numbers t in
    let many : length ns ≤ c.loop-i.i = omega (arith, length-map t.parties (λ q. q.number), c.loop-i-test.false, c.party_count-i-end.ensures.count) in
    c.loop-i.invariant reports read ∙ ap (λ (l : List ℕ). sum_by g (filter (λ q. bloc_of t.federations q == c.args.bloc) l)) (take_all c.loop-i.i ns many)
