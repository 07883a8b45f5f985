use Rattle.std.proofs.Common.{◌≡◌, ◌==◌, ℕ, List, Option, Some, is_some, slice_get, sym, ap, subst, ◌∙◌}
use Rattle.std.specs.Prelude.{nat_eq}
use Rattle.std.specs.List.{list_any, position}
use Rattle.seat_remainders.specs.declared.contest.Contestant.{Contestant}
use Rattle.election_tables.specs.TablesData.{bloc_of}
use Rattle.totals.specs.Contest.{blocs_of}
use Rattle.totals.proofs.BlocLaws.{bloc_listed, party_listed}
use Rattle.totals.proofs.OwnCandidates.{found}
use Rattle.totals.proofs.contest.place_for.Goals as goal

pub unwrap-requires : goal.unwrap-requires
unwrap-requires c =
    let t = c.args.tables.now in
    let bs = c.args.blocs.now in
    let bloc = bloc_of t.federations c.args.party in
    let listed = bloc_listed t c.args.party c.requires.tables (party_listed c.args.party t.parties ∙ c.requires.party) in
    let at = found bloc bs (ap (λ (ns : List ℕ). list_any (nat_eq bloc) ns) c.requires.blocs ∙ listed) in
    ap (λ (o : Option ℕ). is_some o)
    (c.place_of.ensures ∙ ap (λ (l : List Contestant). position (λ b. b.number == c.bloc_of.result) l) c.as_slice.ensures.items
    ∙ ap (λ (n : ℕ). position (λ b. b.number == n) bs) c.bloc_of.ensures ∙ at.1)

pub returns-in_default : goal.returns-in_default
returns-in_default c =
    let t = c.args.tables.now in
    let bs = c.args.blocs.now in
    let bloc = bloc_of t.federations c.args.party in
    let listed = bloc_listed t c.args.party c.requires.tables (party_listed c.args.party t.parties ∙ c.requires.party) in
    let at = found bloc bs (ap (λ (ns : List ℕ). list_any (nat_eq bloc) ns) c.requires.blocs ∙ listed) in
    let place : Some c.unwrap.result ≡ Some at.0 = sym c.unwrap.ensures
    ∙ (c.place_of.ensures ∙ ap (λ (l : List Contestant). position (λ b. b.number == c.bloc_of.result) l) c.as_slice.ensures.items
    ∙ ap (λ (n : ℕ). position (λ b. b.number == n) bs) c.bloc_of.ensures ∙ at.1) in
    let same : at.0 ≡ c.unwrap.result = cc in
    subst (λ (k : ℕ). slice_get (blocs_of t) k ≡ Some bloc) same (ap (λ (ns : List ℕ). slice_get ns at.0) (sym c.requires.blocs) ∙ at.2)
