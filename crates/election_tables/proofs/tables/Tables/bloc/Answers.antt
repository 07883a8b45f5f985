use Rattle.std.proofs.Common.{◌≡◌, ◌==◌, ◌≤◌, ℕ, List, Some, None, true, false, ap, sym, ◌∙◌, subst}
use Rattle.std.specs.List.{list_any}
use Rattle.election_tables.specs.TablesData.{TablesData, bloc_in, bloc_of}
use Rattle.election_tables.specs.declared.tables.federations.Federation.{Federation}
use Rattle.election_tables.proofs.Blocs.{bloc_gone, bloc_there, bloc_digits}
use Rattle.election_tables.proofs.tables.Tables.bloc.Goals as goal

pub returns-then-not-has-clause-bloc : goal.returns-then-not-has-clause-bloc
returns-then-not-has-clause-bloc c =
    let gone : list_any (λ q. q.number == c.args.party) c.self.inside.parties ≡ false = sym c.has.ensures ∙ c.if-not-has.true in
    let P : TablesData → Type 0 = λ t. None ≡ bloc_in t c.args.party in
    subst P c.self.view_is (bloc_gone c.self.inside.federations.items c.self.inside.parties c.args.party gone)

pub returns-clause-bloc : goal.returns-clause-bloc
returns-clause-bloc c =
    let is : c.bloc_of.result ≡ bloc_of c.self.inside.federations.items c.args.party = c.bloc_of.ensures ∙ ap (λ (fs : List Federation). bloc_of fs c.args.party) c.deref.ensures.value in
    let there : list_any (λ q. q.number == c.args.party) c.self.inside.parties ≡ true = sym c.has.ensures ∙ c.if-not-has.false in
    let P : TablesData → Type 0 = λ t. Some c.bloc_of.result ≡ bloc_in t c.args.party in
    subst P c.self.view_is (ap Some is ∙ bloc_there c.self.inside.federations.items c.self.inside.parties c.args.party there)

pub returns-clause-two_digits : goal.returns-clause-two_digits
returns-clause-two_digits c =
    let is : c.bloc_of.result ≡ bloc_of c.self.inside.federations.items c.args.party = c.bloc_of.ensures ∙ ap (λ (fs : List Federation). bloc_of fs c.args.party) c.deref.ensures.value in
    let there : list_any (λ q. q.number == c.args.party) c.self.inside.parties ≡ true = sym c.has.ensures ∙ c.if-not-has.false in
    let P : ℕ → Type 0 = λ n. (10 ≤ n) × (n ≤ 99) in
    subst P (sym is) (bloc_digits _ c.args.party c.self.invariant there)
