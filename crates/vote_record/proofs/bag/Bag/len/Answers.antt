use Rattle.std.proofs.Common.{map, subst}
use Rattle.vote_record.specs.Bag.{IsInOrder}
use Rattle.vote_record.specs.BagData.{BagData, choices_in}
use Rattle.vote_record.proofs.Counting.{order_bag_with}
use Rattle.vote_record.proofs.bag.Bag.len.Goals as goal

pub returns-clause-in_order : goal.returns-clause-in_order
returns-clause-in_order c =
    let counters = c.self.inside.counters.items in
    subst (λ (b : BagData). IsInOrder b.members) c.self.view_is (order_bag_with (choices_in counters) (map (λ x. x.votes) counters) c.self.invariant.rise)
