use Rattle.std.proofs.Common.{ℕ, ◌-◌, ◌∙◌, sym, ap, option_map, slice_get, arith}
use Rattle.vote_kinds.proofs.ChoicePlaces.{nominal_there, party_there, blank_there, null_there}
use Rattle.vote_kinds.proofs.panel_choices.choice_at.Goals as goal

pub returns-then-place-candidates : goal.returns-then-place-candidates
returns-then-place-candidates c = nominal_there c.args.tables.now c.args.panel c.args.place c.candidate.result c.candidate.ensures.candidate

pub returns-then-place-candidates-2 : goal.returns-then-place-candidates-2
returns-then-place-candidates-2 c =
    let t = c.args.tables.now in
    party_there t c.args.panel c.args.place c.party.result (omega arith) (omega arith)
    (ap (λ (n : ℕ). option_map (λ x. x.number) (slice_get t.parties (c.args.place - n))) (sym c.candidate_count-candidates.ensures.count) ∙ c.party.ensures.party)

pub returns-then-place-candidates-3 : goal.returns-then-place-candidates-3
returns-then-place-candidates-3 c = blank_there c.args.tables.now c.args.panel c.args.place (omega arith)

pub returns-else-place-candidates-3 : goal.returns-else-place-candidates-3
returns-else-place-candidates-3 c = null_there c.args.tables.now c.args.panel c.args.place (omega arith) (omega arith) c.requires.place
