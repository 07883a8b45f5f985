use Rattle.std.proofs.Common.{◌<◌, ◌+◌, ◌^◌, ℕ, List, length, take, slice_get, sym, ap, subst, ◌∙◌, arith}
use Rattle.std.specs.Prelude.{IfSome}
use Rattle.std.proofs.lemmas.List.{length-take}
use Rattle.std.proofs.lemmas.Option.{slice_get_within}
use Rattle.seat_remainders.specs.declared.contest.Contestant.{Contestant}
use Rattle.election_tables.specs.Fields.{first_two}
use Rattle.election_tables.specs.TablesData.{bloc_of}
use Rattle.totals.proofs.OwnCandidates.{bloc_at, few_given, give, none_given, numbers_of, numbers_stay, party_few}
use Rattle.totals.proofs.contest.add_candidates.Goals as goal

pub loop-entry-init : goal.loop-entry-init
loop-entry-init c = record { given = sym (none_given c.args.tables.now c.args.digits c.args.blocs.now c.requires.none); known = tt }

pub overflow_cast-party : goal.overflow_cast-party
overflow_cast-party c =
    let few = party_few c.args.tables.now c.args.digits c.args.entries.now c.loop-entry.entry-index c.first_two-party.result _ c.requires.tables
    c.loop-entry-test.true c.requires.parties (c.first_two-party.ensures ∙ ap (λ (n : ℕ). first_two c.args.digits n) c.from.ensures) in
    omega (arith, few)

pub place_for-place-requires-clause-blocs : goal.place_for-place-requires-clause-blocs
place_for-place-requires-clause-blocs c =
    ap (λ bs. numbers_of bs) c.loop-entry.invariant.given ∙ (numbers_stay c.args.tables.now c.args.digits (take c.loop-entry.entry-index c.args.entries.now) c.args.blocs.now ∙ c.requires.blocs)

pub push_candidate-requires-clause-party : goal.push_candidate-requires-clause-party
push_candidate-requires-clause-party c =
    let t = c.args.tables.now in
    let bs = c.loop-entry.blocs in
    let stay = ap (λ (l : List Contestant). numbers_of l) c.loop-entry.invariant.given
    ∙ numbers_stay t c.args.digits (take c.loop-entry.entry-index c.args.entries.now) c.args.blocs.now in
    let at = bloc_at bs c.place_for-place.result (bloc_of t.federations c.first_two-party.result)
    (ap (λ (ns : List ℕ). slice_get ns c.place_for-place.result) (stay ∙ c.requires.blocs) ∙ c.place_for-place.ensures) in
    slice_get_within bs c.place_for-place.result at.0 at.1

pub push_candidate-requires-clause-room : goal.push_candidate-requires-clause-room
push_candidate-requires-clause-room c =
    let es = take c.loop-entry.entry-index c.args.entries.now in
    let size = length-take c.loop-entry.entry-index c.args.entries.now in
    let few : length es + 1 < 2 ^ 32 = omega (arith, size, c.requires.few, c.loop-entry-test.true) in
    subst (λ (bs : List Contestant). IfSome (slice_get bs c.place_for-place.result) (λ b. length b.candidates + 1 < 2 ^ 32)) (sym c.loop-entry.invariant.given)
    (few_given c.args.tables.now c.args.digits es c.args.blocs.now c.place_for-place.result few)

pub loop-entry-preserved : goal.loop-entry-preserved
loop-entry-preserved c = record {
  given = give c.args.tables.now c.args.digits c.args.entries.now c.args.blocs.now c.loop-entry.blocs _ c.loop-entry.entry-index c.place_for-place.result
      c.first_two-party.result _ c.requires.tables c.requires.blocs c.loop-entry-test.true c.loop-entry.invariant.given c.place_for-place.ensures
      (c.first_two-party.ensures ∙ ap (λ (n : ℕ). first_two c.args.digits n) c.from.ensures) c.in_ok-push_candidate.ensures.pushed;
  known = c.place_for-place.ensures;
}
