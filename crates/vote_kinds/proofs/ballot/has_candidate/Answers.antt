use Rattle.std.proofs.Common.{◌∙◌}
use Rattle.vote_kinds.proofs.Lookups.{found_some, candidate_is_named}
use Rattle.vote_kinds.proofs.ballot.has_candidate.Goals as goal

pub returns : goal.returns
returns c =
    c.is_some.ensures
    ∙ (found_some c.candidate_name.result _ c.candidate_name.ensures.name ∙ candidate_is_named c.args.tables.now c.args.panel c.args.number)
