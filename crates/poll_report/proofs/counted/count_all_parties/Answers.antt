use Rattle.std.proofs.Common.{◌++◌, ◌∷◌, [], List, ℕ, ap, sym, ◌∙◌, arith}
use Rattle.std.specs.List.{filter}
use Rattle.vote_kinds.specs.declared.choice.Choice.TheVariants as choice
use Rattle.vote_record.specs.Bag.{bag_at}
use Rattle.poll_report.specs.declared.report.Count.{Count}
use Rattle.poll_report.proofs.Listing.{has_votes, listed_more, few_listed}
use Rattle.poll_report.proofs.counted.count_all_parties.Goals as goal

pub list-requires : goal.list-requires
list-requires c =
    let few = few_listed (λ n. choice.Party n) (bag_at c.args.votes.now.bags c.args.panel) (λ q. q.number) c.args.tables.now.parties c.loop-i.i in
    rw c.loop-i.invariant (omega arith)

pub loop-i-preserved : goal.loop-i-preserved
loop-i-preserved c =
    c.in_ok-list.ensures
    ∙ ap (λ (n : ℕ). c.loop-i.counts ++ filter has_votes (record { number = n; votes = c.count-votes.result } ∷ [])) c.from.ensures
    ∙ ap (λ (l : List Count). l ++ filter has_votes (record { number = c.party-number.result; votes = c.count-votes.result } ∷ [])) c.loop-i.invariant
    ∙ sym (listed_more (λ n. choice.Party n) (bag_at c.args.votes.now.bags c.args.panel) (λ q. q.number) c.args.tables.now.parties c.loop-i.i c.party-number.result c.count-votes.result
    c.party-number.ensures.party c.count-votes.ensures.count)
