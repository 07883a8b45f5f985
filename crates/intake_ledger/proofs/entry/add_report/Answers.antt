use Rattle.std.proofs.Common.{ℕ, ◌+◌, ◌<◌, length, get_or, ap, ◌∙◌, arith}
use Rattle.std.proofs.lemmas.Option.{slice_get-get_or}
use Rattle.vote_kinds.specs.declared.choice.Choice.TheVariants as choice
use Rattle.intake_ledger.specs.Body.{sum_in}
use Rattle.intake_ledger.specs.Layout.{most_sums}
use Rattle.intake_ledger.proofs.Adding.{added_more, sum_next}
use Rattle.intake_ledger.proofs.entry.add_report.Goals as goal

pub add_votes-requires-clause-room : goal.add_votes-requires-clause-room
add_votes-requires-clause-room c =
    let place : ℕ = c.loop-place.place in
    let within : place < length c.args.choices.now = omega (arith, c.loop-place-test.true) in
    let few : place < most_sums = omega (arith, within, c.requires.few) in
    let same = sum_next c.args.choices.now c.args.report.now place c.args.into.now c.loop-place.into c.requires.size few c.loop-place.invariant in
    omega (arith, same, c.requires.room place within, c.votes_in-votes.ensures.few)

pub loop-place-preserved : goal.loop-place-preserved
loop-place-preserved c =
    let place : ℕ = c.loop-place.place in
    let within : place < length c.args.choices.now = omega (arith, c.loop-place-test.true) in
    let few : place < most_sums = omega (arith, within, c.requires.few) in
    added_more c.args.choices.now c.args.report.now place c.args.into.now c.loop-place.into c.requires.size few c.loop-place.invariant
    (get_or c.args.choices.now place (0, choice.Nominal 0)) c.add_votes.new.into (slice_get-get_or c.args.choices.now place (0, choice.Nominal 0) within)
    (c.add_votes.ensures.sum ∙ ap (λ (n : ℕ). sum_in c.loop-place.into place + n) c.votes_in-votes.ensures.votes) c.add_votes.ensures.kept
