use Rattle.std.proofs.Common.{◌≡◌, ◌+◌, ◌<◌, List, [], ◌∷◌, length, set, sym, ap, ◌∙◌, subst}
use Rattle.std.specs.List.{HoldsAt}
use Rattle.section_intake.specs.Kept.{with_counts}
use Rattle.section_intake.specs.declared.tallies.Tally.{Tally}
use Rattle.section_intake.proofs.TallyLaws.{added_there, none_there, others_stay, still_rise}
use Rattle.section_intake.proofs.tallies.Tallies.add_one.Goals as goal

added : (c : goal.After-self-1) → set c.self.inside.items.items c.in-Some.i (record { number = c.index_mut.result.now.number; votes = c.index_mut.result.now.votes + c.from.result })
    ≡ with_counts (c.args.count ∷ []) c.self.inside.items.items
added c =
    let same = c.deref.ensures.value in
    let H : List Tally → Type 0 = λ xs. HoldsAt (λ y. y.number ≡ c.args.count.number) xs c.in-Some.i in
    let B : List Tally → Type 0 = λ xs. c.in-Some.i < length xs in
    added_there c.self.inside.items.items c.args.count c.in-Some.i c.index_mut.result.now c.from.result c.self.invariant (subst B same c.in-Some.ensures.found.0)
    c.index_mut.ensures.value (subst H same c.in-Some.ensures.found.1) c.from.ensures

pub returns-in-Some : goal.returns-in-Some
returns-in-Some c = added c ∙ ap (with_counts (c.args.count ∷ [])) c.self.view_is

pub invariant_of-self : goal.invariant_of-self
invariant_of-self c = still_rise c.self.inside.items.items c.args.count _ c.self.invariant (added c)

pub returns-in-None : goal.returns-in-None
returns-in-None c =
    let xs : List Tally = c.deref.result.now in
    let seen : xs ≡ c.args.self.now = c.deref.ensures.value ∙ c.self.view_is in
    let F : List Tally → Type 0 = λ ys. ys ≡ with_counts (c.args.count ∷ []) ys in
    subst F seen (sym (others_stay c.args.count xs (none_there c.args.count.number xs c.in-None.ensures.none)))
