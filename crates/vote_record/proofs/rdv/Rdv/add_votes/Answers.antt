use Rattle.std.proofs.Common.{◌<◌, length, slice_set, List, ap, sym, subst, ◌∙◌, arith}
use Rattle.std.proofs.Math.ListN.{length-set}
use Rattle.vote_kinds.specs.declared.choice.Choice.{Choice}
use Rattle.vote_record.specs.Bag.{bag_at, with_choices}
use Rattle.vote_record.specs.BagData.{BagData}
use Rattle.vote_record.specs.Counters.{most_counters}
use Rattle.vote_record.specs.RdvData.{RdvData}
use Rattle.vote_record.proofs.Stored.{bags_in, bags-set, memory-set, is_stored, length-bags_in, rooms-set}
use Rattle.vote_record.proofs.rdv.Rdv.add_votes.Goals as goal

pub add-requires : goal.add-requires
add-requires c =
    let stored = is_stored c.self.inside.bags.items _ _ c.args.self.now c.args.panel c.index_mut.result.now c.self.invariant.rooms c.self.view_is c.requires.panel c.index_mut.ensures.value in
    let same = ap (λ (bag : List Choice). length bag) stored.0 in
    omega (arith, c.requires.room)

pub invariant_of-self : goal.invariant_of-self
invariant_of-self c =
    let bags : List BagData = c.self.inside.bags.items in
    let lt : c.args.panel < length (bags_in bags) = subst (λ (r : RdvData). c.args.panel < length r.bags) (sym c.self.view_is) c.requires.panel in
    let n = length-bags_in bags in
    record {
      few = c.self.invariant.few;
      rooms = rooms-set bags c.args.panel c.index_mut.result.now c.add.new.self (omega arith) c.index_mut.ensures.value (ap (λ (b : BagData). b.room) c.add.ensures) ∙ c.self.invariant.rooms;
      memory =
          let kept = memory-set bags c.args.panel c.index_mut.result.now c.add.new.self (omega arith) c.index_mut.ensures.value
          (ap (λ (b : BagData). b.room) c.add.ensures) (ap (λ (b : BagData). b.memory) c.add.ensures) in
          let many = ap most_counters (length-set bags c.args.panel c.add.new.self) in
          omega (arith, c.self.invariant.memory, kept.0, kept.1);
      bags_reserved = c.self.invariant.bags_reserved ∙ sym (length-set bags c.args.panel c.add.new.self);
      places_reserved = c.self.invariant.places_reserved;
    }

pub returns : goal.returns
returns c =
    let bags : List BagData = c.self.inside.bags.items in
    let now : RdvData = c.args.self.now in
    let after : List Choice = with_choices c.args.votes c.args.choice (bag_at now.bags c.args.panel) in
    let stored = is_stored bags _ _ now c.args.panel c.index_mut.result.now c.self.invariant.rooms c.self.view_is c.requires.panel c.index_mut.ensures.value in
    let more = ap (λ (b : BagData). b.members) c.add.ensures ∙ ap (with_choices c.args.votes c.args.choice) (sym stored.0) in
    ap (λ (b : List (List Choice)). record { bags = b; voters = c.self.inside.voters; places = c.self.inside.places.items })
    (bags-set bags c.args.panel c.add.new.self ∙ ap (slice_set (bags_in bags) c.args.panel) more)
    ∙ ap (λ (r : RdvData). record { bags = slice_set r.bags c.args.panel after; voters = r.voters; places = r.places }) c.self.view_is
