use Rattle.std.proofs.Common.{◌≡◌, ℕ, Option, min, unwrap_or, sym, ap, ◌∙◌}
use Rattle.std.specs.List.{reduce}
use Rattle.std.proofs.lemmas.Iterator.{YieldsList-from_slice}
use Rattle.std.proofs.lemmas.Iterator.Adapters.{option_map_id}
use Rattle.std.proofs.lemmas.Iterator.Consumers.{YieldsList-from_copied, min_from_yields_List}
use Rattle.election_tables.proofs.Blocs.{lowest_is}
use Rattle.election_tables.proofs.tables.federations.PartyNumbers.lowest.Goals as goal

pub returns : goal.returns
returns c =
    let least : c.min.result ≡ reduce min c.args.self.now =
    sym (option_map_id c.min.result) ∙ min_from_yields_List _ c.min.result c.min.ensures.ran (YieldsList-from_copied (YieldsList-from_slice c.args.self.now cc)) in
    c.unwrap_or.ensures ∙ ap (λ (o : Option ℕ). unwrap_or o 0) least ∙ lowest_is c.args.self.now
