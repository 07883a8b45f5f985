use Rattle.std.proofs.Common.{arith}
use Rattle.vote_record.proofs.Bags.{same_true, same_bag, in_order-with_choice, count_of-with_choice, length-with_choice, with_choice-swap, with_vote-swap, bag_at-with_vote_same, bag_at-with_vote_other}
use Rattle.vote_record.proofs.laws.bags.Goals as goal

pub returns-clause-same : goal.returns-clause-same
returns-clause-same _ = same_true

pub returns-clause-known : goal.returns-clause-known
returns-clause-known _ = same_bag

pub returns-clause-in_order : goal.returns-clause-in_order
returns-clause-in_order _ = in_order-with_choice

pub returns-clause-counts : goal.returns-clause-counts
returns-clause-counts _ = λ c d bag. let more = count_of-with_choice c d bag in omega arith

pub returns-clause-members : goal.returns-clause-members
returns-clause-members _ = λ c bag. let more = length-with_choice c bag in omega arith

pub returns-clause-either_order : goal.returns-clause-either_order
returns-clause-either_order _ = with_choice-swap

pub returns-clause-votes : goal.returns-clause-votes
returns-clause-votes _ = with_vote-swap

pub returns-clause-changed : goal.returns-clause-changed
returns-clause-changed _ = bag_at-with_vote_same

pub returns-clause-others : goal.returns-clause-others
returns-clause-others _ = bag_at-with_vote_other
