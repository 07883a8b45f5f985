use Rattle.std.proofs.Common.{◌≡◌, ◌==◌, ◌≤◌, ◌<◌, List, length, get_or, ap, sym, ◌∙◌, subst, arith}
use Rattle.election_tables.specs.TablesData.{IsPanel, candidate_name}
use Rattle.election_tables.specs.declared.tables.panels.Panel.{Panel}
use Rattle.election_tables.proofs.Named.{found_name, short_name, candidates_named, candidates_at-past}
use Rattle.election_tables.proofs.tables.Tables.candidate_name.Goals as goal

pub returns-in-None-clause-name : goal.returns-in-None-clause-name
returns-in-None-clause-name c =
    let P : List Panel → Type 0 = λ ps. length ps ≤ c.args.panel in
    let seen : c.deref.result.now ≡ c.args.self.now.panels = c.deref.ensures.value ∙ ap (λ t. t.panels) c.self.view_is in
    let past : length c.args.self.now.panels ≤ c.args.panel = subst P seen c.in-None.ensures.lookup.3 in
    sym (ap (candidate_name c.args.number) (candidates_at-past c.args.self.now c.args.panel past))

pub returns-in-Some-clause-printable : goal.returns-in-Some-clause-printable
returns-in-Some-clause-printable c =
    let panel : Panel = c.in-Some.panel.now in
    let P : List Panel → Type 0 = λ ps. IsPanel c.self.inside.parties (get_or ps c.args.panel panel) in
    let Q : Panel → Type 0 = IsPanel c.self.inside.parties in
    let within : c.args.panel < length c.self.inside.panels.items = omega (arith, c.in-Some.ensures.lookup.3.0, ap length c.deref.ensures.value) in
    let at : P c.deref.result.now = subst P (sym c.deref.ensures.value) (c.self.invariant.panels c.args.panel panel within) in
    let is : Q panel = subst Q (sym c.in-Some.ensures.lookup.1) at in
    found_name (λ x. x.name) (λ x. x.number == c.args.number) panel.candidates
    (candidates_named panel.office.digits c.self.inside.parties panel.candidates is.candidates) c.name_of.result c.name_of.ensures

pub returns-in-Some-clause-short : goal.returns-in-Some-clause-short
returns-in-Some-clause-short c = short_name c.name_of.result (returns-in-Some-clause-printable c)
