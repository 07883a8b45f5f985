use Rattle.std.proofs.Common.{◌∙◌}
use Rattle.vote_kinds.proofs.Lookups.{found_some, party_is_named}
use Rattle.vote_kinds.proofs.ballot.has_party.Goals as goal

pub returns : goal.returns
returns c =
    c.is_some.ensures ∙ (found_some c.party_name.result _ c.party_name.ensures.name ∙ party_is_named c.args.tables.now c.args.number)
