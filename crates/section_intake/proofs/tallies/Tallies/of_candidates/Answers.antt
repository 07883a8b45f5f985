use Rattle.std.proofs.Common.{◌≡◌, ◌++◌, ℕ, List, [], ◌∷◌, map, take, sym, ap, ◌∙◌, subst, arith}
use Rattle.std.specs.List.Sorted.{IsStrictlyIncreasing}
use Rattle.std.proofs.lemmas.List.{take_all}
use Rattle.vote_kinds.specs.Ballot.{line_of}
use Rattle.section_intake.specs.Kept.{tallies_of}
use Rattle.section_intake.specs.declared.tallies.Tally.{Tally}
use Rattle.vote_kinds.proofs.Lookups.{candidate_at}
use Rattle.section_intake.proofs.TallyLaws.{candidate_count, candidates_rise, next_number, numbers_rise}
use Rattle.section_intake.proofs.tallies.Tallies.of_candidates.Goals as goal

pub loop-i-preserved : goal.loop-i-preserved
loop-i-preserved c =
    let ns : List ℕ = (line_of c.args.tables.now c.args.panel).candidates in
    record {
      numbers = c.push_reserved.ensures.items
          ∙ ap (λ (l : List Tally). l ++ record { number = c.candidate.result.number; votes = 0 } ∷ []) c.loop-i.invariant.numbers
          ∙ next_number (λ n. 0) ns c.loop-i.i c.candidate.result.number (candidate_at c.args.tables.now c.args.panel c.loop-i.i c.candidate.result c.candidate.ensures.candidate);
      room = c.push_reserved.ensures.capacity ∙ c.loop-i.invariant.room;
    }

pub invariant_of-result : goal.invariant_of-result
invariant_of-result c =
    let ns : List ℕ = (line_of c.args.tables.now c.args.panel).candidates in
    let many = candidate_count c.args.tables.now c.args.panel in
    let count = c.candidate_count-count.ensures.count in
    let end = c.loop-i-test.false in
    let whole : take c.loop-i.i ns ≡ ns = take_all c.loop-i.i ns (omega arith) in
    let rise = candidates_rise c.args.tables.now c.panels-panels.ensures.tables c.args.panel c.requires in
    subst (λ (ts : List Tally). IsStrictlyIncreasing (map (λ t. t.number) ts))
    (sym (c.loop-i.invariant.numbers ∙ ap (tallies_of (λ n. 0)) whole)) (numbers_rise (λ n. 0) ns rise)

pub returns : goal.returns
returns c =
    let ns : List ℕ = (line_of c.args.tables.now c.args.panel).candidates in
    let many = candidate_count c.args.tables.now c.args.panel in
    let count = c.candidate_count-count.ensures.count in
    let end = c.loop-i-test.false in
    let whole : take c.loop-i.i ns ≡ ns = take_all c.loop-i.i ns (omega arith) in
    c.loop-i.invariant.numbers ∙ ap (tallies_of (λ n. 0)) whole
