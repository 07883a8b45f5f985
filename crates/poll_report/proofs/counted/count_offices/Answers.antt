use Rattle.std.proofs.Common.{◌++◌, ◌∷◌, [], List, ap, sym, ◌∙◌, arith}
use Rattle.vote_kinds.specs.Ballot.{panel_at}
use Rattle.vote_record.specs.Bag.{bag_at}
use Rattle.poll_report.specs.declared.report.OfficeCount.{OfficeCount}
use Rattle.poll_report.specs.Counted.{office_count}
use Rattle.poll_report.proofs.Listing.{first_counts_more, first_counts_all, few_counts}
use Rattle.poll_report.proofs.counted.count_offices.Goals as goal

pub push-requires : goal.push-requires
push-requires c =
    let t = c.args.tables.now in
    let few = few_counts t c.args.votes.now.bags 0 t.panels c.loop-panel.panel in
    rw c.loop-panel.invariant (omega arith)

pub loop-panel-preserved : goal.loop-panel-preserved
loop-panel-preserved c =
    let t = c.args.tables.now in
    let bags = c.args.votes.now.bags in
    let i = c.loop-panel.panel in
    c.in_ok-push.ensures.pushed
    ∙ ap (λ (o : OfficeCount). c.loop-panel.offices ++ o ∷ []) c.in_ok-count_office.ensures
    ∙ ap (λ (os : List OfficeCount). os ++ office_count t (panel_at t i) (bag_at bags i) ∷ []) c.loop-panel.invariant
    ∙ sym (first_counts_more t bags i (omega (arith, c.panels-panel-end.ensures.count)))

pub returns-clause-counts : goal.returns-clause-counts
returns-clause-counts c = c.loop-panel.invariant ∙ first_counts_all c.args.tables.now c.args.votes.now.bags c.loop-panel.panel (omega (arith, c.panels-panel-end.ensures.count))
