use Rattle.std.proofs.Common.{◌++◌, ◌∷◌, [], List, ap, sym, ◌∙◌, slice_get, arith}
use Rattle.std.specs.List.{filter}
use Rattle.election_tables.specs.TablesData.{candidates_at}
use Rattle.vote_kinds.specs.declared.choice.Choice.TheVariants as choice
use Rattle.vote_record.specs.Bag.{bag_at}
use Rattle.poll_report.specs.declared.report.Count.{Count}
use Rattle.vote_kinds.proofs.Lookups.{candidate_number}
use Rattle.poll_report.proofs.Listing.{has_votes, listed_more, few_listed}
use Rattle.poll_report.proofs.counted.count_candidates.Goals as goal

pub list-requires : goal.list-requires
list-requires c =
    let few = few_listed (λ n. choice.Nominal n) (bag_at c.args.votes.now.bags c.args.panel) (λ x. x.number) (candidates_at c.args.panel c.args.tables.now) c.loop-i.i in
    rw c.loop-i.invariant (omega arith)

pub loop-i-preserved : goal.loop-i-preserved
loop-i-preserved c =
    let xs = candidates_at c.args.panel c.args.tables.now in
    c.in_ok-list.ensures ∙ ap (λ (l : List Count). l ++ filter has_votes (record { number = c.candidate-number.result.number; votes = c.count-votes.result } ∷ [])) c.loop-i.invariant
    ∙ sym (listed_more (λ n. choice.Nominal n) (bag_at c.args.votes.now.bags c.args.panel) (λ x. x.number) xs c.loop-i.i c.candidate-number.result.number c.count-votes.result
    (candidate_number (slice_get xs c.loop-i.i) c.candidate-number.result c.candidate-number.ensures.candidate) c.count-votes.ensures.count)
