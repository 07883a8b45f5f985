use Rattle.std.proofs.Common.{◌≡◌, ◌==◌, List, Some, None, get_or, map, nat_cmp, sym, ap, ◌∙◌, subst, rules, option_map}
use Rattle.std.proofs.lemmas.Cmp.{nat_cmp_total}
use Rattle.std.proofs.lemmas.List.Sorted.{answers_always, searchable_from_sorted}
use Rattle.std.proofs.lemmas.Map.Keys.{sorted_from_strictly_increasing}
use Rattle.std.proofs.lemmas.Map.Lookups.{exact_unsigned}
use Rattle.election_tables.specs.TablesData.{party_name}
use Rattle.election_tables.specs.TablesData.{PartiesRise}
use Rattle.election_tables.specs.declared.tables.parties.Party.{Party}
use Rattle.election_tables.proofs.Rising.{found, missing, sorted_from_strict}
use Rattle.election_tables.proofs.Keys.{nat_eq_by_cmp}
use Rattle.election_tables.proofs.tables.parties.Parties.name_of.Goals as goal

pub returns-in-Ok : goal.returns-in-Ok
returns-in-Ok c =
    let xs : List Party = c.deref.result.now in
    let items : xs ≡ c.self.inside.items.items = c.deref.ensures.value in
    let seen : xs ≡ c.args.self.now = items ∙ c.self.view_is in
    let Q : List Party → Type 0 = λ ys. PartiesRise ys in
    let rise : Q xs = subst Q (sym items) c.self.invariant in
    let s = c.index.result.now in
    let here : s ≡ get_or xs c.in-Ok.i s = rw items c.index.ensures in
    let holds = c.in-Ok.ensures.position (λ x. x.number) (answers_always _ _ _ (λ f a r g h. search rules)) in
    let at = found exact_unsigned (λ x. x.number) c.args.number (λ x. x.number == c.args.number) (λ x. nat_eq_by_cmp x.number c.args.number) xs (sorted_from_strictly_increasing (map (λ x. x.number) xs) rise) c.in-Ok.i s c.in-Ok.ensures.bound holds here in
    let F : List Party → Type 0 = λ ys. Some c.as_str.result.now ≡ party_name c.args.number ys in
    subst F seen (ap Some c.as_str.ensures ∙ sym (ap (option_map (λ x. x.name)) at))

pub returns-in-Err : goal.returns-in-Err
returns-in-Err c =
    let xs : List Party = c.deref.result.now in
    let items : xs ≡ c.self.inside.items.items = c.deref.ensures.value in
    let seen : xs ≡ c.args.self.now = items ∙ c.self.view_is in
    let Q : List Party → Type 0 = λ ys. PartiesRise ys in
    let rise : Q xs = subst Q (sym items) c.self.invariant in
    let searchable = searchable_from_sorted nat_cmp_total (λ x. x.number) xs c.args.number (sorted_from_strict nat_cmp_total (λ x. x.number) xs (sorted_from_strictly_increasing (map (λ x. x.number) xs) rise)) in
    let parts = c.in-Err.ensures.position (λ x. x.number) (answers_always _ _ _ (λ f a r g h. search rules)) searchable in
    let at = missing nat_cmp (λ x. x.number) c.args.number (λ x. x.number == c.args.number) (λ x. nat_eq_by_cmp x.number c.args.number) xs c.in-Err.field-0 parts in
    let F : List Party → Type 0 = λ ys. None ≡ party_name c.args.number ys in
    subst F seen (sym (ap (option_map (λ x. x.name)) at))
