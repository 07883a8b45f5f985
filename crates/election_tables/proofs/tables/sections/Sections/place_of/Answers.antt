use Rattle.std.proofs.Common.{◌≡◌, ◌==◌, ◌&&◌, List, Some, None, sym, ◌∙◌, subst, rules}
use Rattle.std.proofs.lemmas.List.Sorted.{answers_always, searchable_from_sorted}
use Rattle.election_tables.specs.TablesData.{SectionsRise, pair_cmp, place_with}
use Rattle.election_tables.specs.declared.tables.sections.Section.{Section}
use Rattle.election_tables.proofs.Rising.{found_at, missing, missing_at, sorted_from_strict}
use Rattle.election_tables.proofs.Keys.{pair_eq_by_cmp, pair_cmp_total, pair_cmp_exact}
use Rattle.election_tables.proofs.tables.sections.Sections.place_of.Goals as goal

pub returns-in-Ok-clause-place : goal.returns-in-Ok-clause-place
returns-in-Ok-clause-place c =
    let xs : List Section = c.deref.result.now in
    let items : xs ≡ c.self.inside.items.items = c.deref.ensures.value in
    let seen : xs ≡ c.args.self.now = items ∙ c.self.view_is in
    let Q : List Section → Type 0 = λ ys. SectionsRise ys in
    let rise : Q xs = subst Q (sym items) c.self.invariant in
    let holds = c.in-Ok.ensures.position (λ x. (x.zone, x.number)) (answers_always _ _ _ (λ f a r g h. search rules)) in
    let at = found_at pair_cmp_exact (λ x. (x.zone, x.number)) (c.args.zone, c.args.number) (λ x. (x.zone == c.args.zone) && (x.number == c.args.number)) (λ x. pair_eq_by_cmp x.zone x.number c.args.zone c.args.number) xs rise c.in-Ok.i c.in-Ok.ensures.bound holds in
    let F : List Section → Type 0 = λ ys. Some c.in-Ok.i ≡ place_with c.args.zone c.args.number ys in
    subst F seen (sym at)

pub returns-in-Err-clause-place : goal.returns-in-Err-clause-place
returns-in-Err-clause-place c =
    let xs : List Section = c.deref.result.now in
    let items : xs ≡ c.self.inside.items.items = c.deref.ensures.value in
    let seen : xs ≡ c.args.self.now = items ∙ c.self.view_is in
    let Q : List Section → Type 0 = λ ys. SectionsRise ys in
    let rise : Q xs = subst Q (sym items) c.self.invariant in
    let searchable = searchable_from_sorted pair_cmp_total (λ x. (x.zone, x.number)) xs (c.args.zone, c.args.number) (sorted_from_strict pair_cmp_total (λ x. (x.zone, x.number)) xs rise) in
    let parts = c.in-Err.ensures.position (λ x. (x.zone, x.number)) (answers_always _ _ _ (λ f a r g h. search rules)) searchable in
    let at = missing_at _ xs (missing pair_cmp (λ x. (x.zone, x.number)) (c.args.zone, c.args.number) (λ x. (x.zone == c.args.zone) && (x.number == c.args.number)) (λ x. pair_eq_by_cmp x.zone x.number c.args.zone c.args.number) xs c.in-Err.field-0 parts) in
    let F : List Section → Type 0 = λ ys. None ≡ place_with c.args.zone c.args.number ys in
    subst F seen (sym at)
