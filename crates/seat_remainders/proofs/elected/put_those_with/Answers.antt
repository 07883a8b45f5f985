use Rattle.std.proofs.Common.{rules, nat_le, List, ◌++◌, filter, ap, ◌∙◌}
use Rattle.std.proofs.lemmas.Fn.{filter_same}
use Rattle.seat_remainders.specs.declared.contest.Entry.{Entry}
use Rattle.seat_remainders.proofs.elected.put_those_with.Goals as goal

pub returns : goal.returns
returns c =
    filter_same _ _ _ (λ x b f' k. search rules) _ _ c.retain.ensures.filtered
    ∙ ap (λ (l : List Entry). filter (λ e. nat_le c.args.least e.votes) l) (c.in_ok-extend_from_slice.ensures.items ∙ ap (λ (l : List Entry). l ++ c.args.candidates.now) c.clear.ensures.items)
