use Rattle.std.proofs.Common.{◌≤◌, ◌<◌, ◌^◌, List, length, sym, ap, subst, ◌∙◌, arith}
use Rattle.seat_remainders.specs.Parties.{nominal_votes}
use Rattle.seat_remainders.specs.declared.contest.Entry.{Entry}
use Rattle.totals.specs.Lines.{total_of}
use Rattle.totals.specs.declared.votes.PanelVotes.{PanelVotes}
use Rattle.totals.proofs.Bounds.{same_votes}
use Rattle.vote_kinds.specs.Ballot.{panel_at}
use Rattle.vote_kinds.specs.declared.choice.Choice.TheVariants as choice
use Rattle.ledger_commands.specs.Lines.{votes_told}
use Rattle.ledger_commands.proofs.Sums.{told_ledger, told_sum, votes_few}
use Rattle.ledger_commands.proofs.lines.votes_of.Goals as goal

pub nominal_votes-requires : goal.nominal_votes-requires
nominal_votes-requires c =
    let t = c.args.tables.now in
    let panel = c.args.panel in
    let (l, are) = c.requires.sums in
    let same = c.requires.entries l are in
    let few = votes_few t l c.requires.valid (told_ledger t l c.args.sums.now c.requires.valid are) panel (panel_at t panel)
    (subst (λ (es : List Entry). length es ≤ 4096) same c.requires.few) in
    let votes = ap (λ (es : List Entry). nominal_votes es) same in
    omega (arith, few, votes)

pub returns-clause-votes : goal.returns-clause-votes
returns-clause-votes c l are =
    let t = c.args.tables.now in
    let panel = c.args.panel in
    let told = told_sum t l c.args.sums.now are panel in
    same_votes c.nominal_votes.result c.party_votes.result c.blank.result c.null_votes.result (votes_told t l panel (panel_at t panel))
    (c.nominal_votes.ensures ∙ ap (λ (es : List Entry). nominal_votes es) (c.requires.entries l are)) (c.party_votes.ensures l are)
    (c.blank.ensures ∙ told choice.Blank) (c.null_votes.ensures ∙ told choice.Null)

pub returns-clause-few : goal.returns-clause-few
returns-clause-few c =
    let t = c.args.tables.now in
    let panel = c.args.panel in
    let (l, are) = c.requires.sums in
    let few = votes_few t l c.requires.valid (told_ledger t l c.args.sums.now c.requires.valid are) panel (panel_at t panel)
    (subst (λ (es : List Entry). length es ≤ 4096) (c.requires.entries l are) c.requires.few) in
    subst (λ (v : PanelVotes). total_of v < 10 ^ 11) (sym (returns-clause-votes c l are)) few
