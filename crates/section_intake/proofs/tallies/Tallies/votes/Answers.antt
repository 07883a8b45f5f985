use Rattle.std.proofs.Common.{◌≡◌, ◌==◌, List, Option, Equal, get_or, map, sym, ap, ◌∙◌, subst}
use Rattle.std.specs.Cmp.{nat_cmp_is}
use Rattle.std.specs.List.Sorted.{IsStrictlyIncreasing}
use Rattle.std.specs.Option.{option_map_or}
use Rattle.std.proofs.lemmas.Map.Keys.{sorted_from_strictly_increasing}
use Rattle.std.proofs.lemmas.Map.Lookups.{exact_unsigned}
use Rattle.election_tables.proofs.Rising.{found}
use Rattle.section_intake.specs.Kept.{votes_at}
use Rattle.section_intake.specs.declared.tallies.Tally.{Tally}
use Rattle.section_intake.proofs.TallyLaws.{by_number}
use Rattle.section_intake.proofs.tallies.Tallies.votes.Goals as goal

pub returns-in-Some : goal.returns-in-Some
returns-in-Some c =
    let xs : List Tally = c.deref.result.now in
    let n = c.args.number in
    let items : xs ≡ c.self.inside.items.items = c.deref.ensures.value in
    let seen : xs ≡ c.args.self.now = items ∙ c.self.view_is in
    let Q : List Tally → Type 0 = λ ys. IsStrictlyIncreasing (map (λ t. t.number) ys) in
    let rise : Q xs = subst Q (sym items) c.self.invariant in
    let s = c.index.result.now in
    let here : s ≡ get_or xs c.in-Some.i s = rw items c.index.ensures in
    let at = found exact_unsigned (λ x. x.number) n (λ x. x.number == n) (by_number n) xs (sorted_from_strictly_increasing (map (λ x. x.number) xs) rise) c.in-Some.i s
    c.in-Some.ensures.found.0 (λ d. sym (nat_cmp_is _ _ Equal (c.in-Some.ensures.found.1 d))) here in
    let F : List Tally → Type 0 = λ ys. s.votes ≡ votes_at n ys in
    subst F seen (sym (ap (λ (o : Option Tally). option_map_or (λ t. t.votes) o 0) at))

pub returns-in-None : goal.returns-in-None
returns-in-None c =
    let xs : List Tally = c.deref.result.now in
    let seen : xs ≡ c.args.self.now = c.deref.ensures.value ∙ c.self.view_is in
    let F : List Tally → Type 0 = λ ys. 0 ≡ votes_at c.args.number ys in
    subst F seen (sym (ap (λ (o : Option Tally). option_map_or (λ t. t.votes) o 0) c.in-None.ensures.none))
