use Rattle.std.proofs.Common.{◌≡◌, ◌++◌, ℕ, List, [], ◌∷◌, map, take, sym, ap, ◌∙◌, subst, arith}
use Rattle.std.specs.List.Sorted.{IsStrictlyIncreasing}
use Rattle.std.proofs.lemmas.List.{length-map, take_all}
use Rattle.section_intake.specs.Kept.{tallies_of}
use Rattle.section_intake.specs.declared.tallies.Tally.{Tally}
use Rattle.section_intake.proofs.TallyLaws.{next_number, numbers_rise, party_at}
use Rattle.section_intake.proofs.tallies.Tallies.of_parties.Goals as goal

pub loop-i-preserved : goal.loop-i-preserved
loop-i-preserved c =
    let ns : List ℕ = map (λ q. q.number) c.args.tables.now.parties in
    record {
      numbers = c.push_reserved.ensures.items
          ∙ ap (λ (n : ℕ). c.loop-i.items.items ++ record { number = n; votes = 0 } ∷ []) c.from.ensures
          ∙ ap (λ (l : List Tally). l ++ record { number = c.party.result; votes = 0 } ∷ []) c.loop-i.invariant.numbers
          ∙ next_number (λ n. 0) ns c.loop-i.i c.party.result (party_at c.args.tables.now c.loop-i.i c.party.result c.party.ensures.party);
      room = c.push_reserved.ensures.capacity ∙ c.loop-i.invariant.room;
    }

pub invariant_of-result : goal.invariant_of-result
invariant_of-result c =
    let ns : List ℕ = map (λ q. q.number) c.args.tables.now.parties in
    let many = length-map c.args.tables.now.parties (λ q. q.number) in
    let count = c.party_count-count.ensures.count in
    let end = c.loop-i-test.false in
    let whole : take c.loop-i.i ns ≡ ns = take_all c.loop-i.i ns (omega arith) in
    let rise = c.party_count-count.ensures.tables.parties_rise in
    subst (λ (ts : List Tally). IsStrictlyIncreasing (map (λ t. t.number) ts))
    (sym (c.loop-i.invariant.numbers ∙ ap (tallies_of (λ n. 0)) whole)) (numbers_rise (λ n. 0) ns rise)

pub returns : goal.returns
returns c =
    let ns : List ℕ = map (λ q. q.number) c.args.tables.now.parties in
    let many = length-map c.args.tables.now.parties (λ q. q.number) in
    let count = c.party_count-count.ensures.count in
    let end = c.loop-i-test.false in
    let whole : take c.loop-i.i ns ≡ ns = take_all c.loop-i.i ns (omega arith) in
    c.loop-i.invariant.numbers ∙ ap (tallies_of (λ n. 0)) whole
