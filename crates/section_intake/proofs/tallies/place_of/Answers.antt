use Rattle.std.proofs.Common.{◌==◌, List, map, nat_cmp, rules}
use Rattle.std.proofs.lemmas.Cmp.{nat_cmp_total}
use Rattle.std.proofs.lemmas.List.Sorted.{answers_always, searchable_from_sorted}
use Rattle.std.proofs.lemmas.Map.Keys.{sorted_from_strictly_increasing}
use Rattle.std.proofs.lemmas.Map.Lookups.{exact_unsigned}
use Rattle.election_tables.proofs.Rising.{missing, sorted_from_strict}
use Rattle.section_intake.specs.declared.tallies.Tally.{Tally}
use Rattle.section_intake.proofs.TallyLaws.{by_number}
use Rattle.section_intake.proofs.tallies.place_of.Goals as goal

pub returns-in-Ok-clause-found : goal.returns-in-Ok-clause-found
returns-in-Ok-clause-found c =
    let holds = c.in-Ok.ensures.position (λ x. x.number) (answers_always _ _ _ (λ f a r g h. search rules)) in
    (c.in-Ok.ensures.bound, λ d. exact_unsigned _ _ (holds d))

pub returns-in-Err-clause-none : goal.returns-in-Err-clause-none
returns-in-Err-clause-none c =
    let xs : List Tally = c.args.tallies.now in
    let n = c.args.number in
    let searchable = searchable_from_sorted nat_cmp_total (λ x. x.number) xs n (sorted_from_strict nat_cmp_total (λ x. x.number) xs (sorted_from_strictly_increasing (map (λ x. x.number) xs) c.requires)) in
    let parts = c.in-Err.ensures.position (λ x. x.number) (answers_always _ _ _ (λ f a r g h. search rules)) searchable in
    missing nat_cmp (λ x. x.number) n (λ x. x.number == n) (by_number n) xs c.in-Err.field-0 parts
