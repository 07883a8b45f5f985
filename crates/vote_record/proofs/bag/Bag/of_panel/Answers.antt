use Rattle.std.proofs.Common.{◌≡◌, ◌+◌, ℕ, List, [], length, sym, ap, subst, ◌∙◌, arith}
use Rattle.std.proofs.lemmas.List.{length-map}
use Rattle.vote_kinds.specs.declared.choice.Choice.{Choice}
use Rattle.vote_kinds.specs.Ballot.{choices_of, line_of}
use Rattle.vote_kinds.specs.Choice.{AreRising}
use Rattle.vote_kinds.proofs.LineChoices.{line_of_rises}
use Rattle.vote_record.specs.BagData.{BagData, choices_in, members_of, no_votes}
use Rattle.vote_record.proofs.NewCounters.{choices_in_new, no_members}
use Rattle.vote_record.proofs.bag.Bag.of_panel.Goals as goal

pub invariant_of-result : goal.invariant_of-result
invariant_of-result c =
    let t = c.args.tables.now in
    let choices : List Choice = choices_of (line_of t c.args.panel) in
    let none = ap (λ (m : List Choice). length m) (ap members_of c.in_ok-counters.ensures.places ∙ no_members choices) in
    record {
      rise = subst AreRising (sym (ap choices_in c.in_ok-counters.ensures.places ∙ choices_in_new choices)) (line_of_rises t c.args.panel c.new_counters.ensures.tables);
      counted = sym none;
      within = omega arith;
      reserved = omega (arith, c.in_ok-counters.ensures.memory);
    }

pub returns : goal.returns
returns c =
    let choices : List Choice = choices_of (line_of c.args.tables.now c.args.panel) in
    let bag_of : List Choice → ℕ → BagData = λ members memory. record { members = members; room = c.args.room; memory = memory } in
    let both : (m : List Choice) (n k : ℕ) → m ≡ [] → n ≡ k → bag_of m n ≡ bag_of [] k = λ m n k e f. ap (λ (l : List Choice). bag_of l n) e ∙ ap (bag_of []) f in
    both _ _ _ (ap members_of c.in_ok-counters.ensures.places ∙ no_members choices)
    (c.in_ok-counters.ensures.memory ∙ ap (λ (n : ℕ). n + (c.args.room + c.args.spare)) (ap length c.in_ok-counters.ensures.places ∙ length-map choices no_votes))
