use Rattle.std.proofs.Common.{◌<◌, length, sym, ap, subst, arith}
use Rattle.election_tables.specs.TablesData.{IsPanel}
use Rattle.election_tables.specs.declared.tables.panels.Panel.{Panel}
use Rattle.election_tables.proofs.Kept.{code_digits-range}
use Rattle.election_tables.proofs.tables.Tables.office.Goals as goal

pub returns-clause-digits : goal.returns-clause-digits
returns-clause-digits c =
    let panel : Panel = c.index.result.now in
    let within : c.args.panel < length c.self.inside.panels.items = omega (arith, ap (λ t. length t.panels) c.self.view_is) in
    let is : IsPanel c.self.inside.parties panel =
    subst (IsPanel c.self.inside.parties) (sym c.index.ensures) (c.self.invariant.panels c.args.panel panel within) in
    code_digits-range panel.office.code panel.office.digits is.office.digits
