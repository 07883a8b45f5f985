use Rattle.std.proofs.Common.{◌≡◌, Some, is_some, sym, ap, ◌∙◌}
use Rattle.election_tables.specs.TablesData.{bloc_of}
use Rattle.election_tables.proofs.Blocs.{bloc_there}
use Rattle.totals.proofs.blocs.bloc_of.Goals as goal

pub unwrap-requires : goal.unwrap-requires
unwrap-requires c =
    let t = c.args.tables.now in
    ap is_some (c.bloc.ensures.bloc ∙ sym (bloc_there t.federations t.parties c.args.party c.requires))

pub returns : goal.returns
returns c =
    let t = c.args.tables.now in
    let one : Some c.unwrap.result ≡ Some (bloc_of t.federations c.args.party) =
    sym c.unwrap.ensures ∙ (c.bloc.ensures.bloc ∙ sym (bloc_there t.federations t.parties c.args.party c.requires)) in
    cc
