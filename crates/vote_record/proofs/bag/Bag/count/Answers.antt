use Rattle.std.proofs.Common.{◌≡◌, false, List, ap, subst, ◌∙◌}
use Rattle.vote_record.specs.Bag.{count_of}
use Rattle.vote_record.specs.BagData.{BagData, IsPlace, stands_at}
use Rattle.vote_record.specs.declared.counters.Counter.{Counter}
use Rattle.vote_record.proofs.StoredCounters.{no_votes_found}
use Rattle.vote_record.proofs.bag.Bag.count.Goals as goal

pub returns-in-None : goal.returns-in-None
returns-in-None c =
    let counters : List Counter = c.self.inside.counters.items in
    let place = c.place_for-place.result in
    let at = subst (λ (l : List Counter). IsPlace c.args.choice l place) c.deref.ensures.value c.place_for-place.ensures in
    let none = subst (λ (l : List Counter). stands_at c.args.choice l place ≡ false) c.deref-2.ensures.value (c.in-None.ensures.none (cc)) in
    no_votes_found c.args.choice counters place c.self.invariant.rise at none ∙ ap (λ (b : BagData). count_of c.args.choice b.members) c.self.view_is
