use Rattle.std.proofs.Common.{length, List, ap, ◌∙◌, arith}
use Rattle.vote_kinds.specs.declared.choice.Choice.{Choice}
use Rattle.vote_record.specs.BagData.{BagData, members_of}
use Rattle.vote_record.proofs.Bags.{length-with_choices}
use Rattle.vote_record.proofs.bag.Bag.add.Goals as goal

pub invariant_of-self : goal.invariant_of-self
invariant_of-self c =
    let old : List Choice = members_of c.self.inside.counters.items in
    let many = ap (λ (b : BagData). length b.members) c.self.view_is in
    let room = ap (λ (b : BagData). b.room) c.self.view_is in
    let more = ap (λ (m : List Choice). length m) c.count_in.ensures.counted ∙ length-with_choices c.args.votes c.args.choice old in
    record {
      rise = c.count_in.ensures.rise;
      counted = omega (arith, c.self.invariant.counted);
      within = omega (arith, c.self.invariant.counted, c.requires);
      reserved = omega (arith, c.self.invariant.reserved, c.count_in.ensures.few, c.count_in.ensures.memory);
    }
