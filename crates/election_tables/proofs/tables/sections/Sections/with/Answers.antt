use Rattle.std.proofs.Common.{◌≡◌, ◌==◌, ◌&&◌, List, get_or, length, refl, sym, ◌∙◌, subst}
use Rattle.std.proofs.lemmas.Option.{slice_get_read}
use Rattle.election_tables.specs.declared.tables.sections.Section.{Section}
use Rattle.election_tables.proofs.Rising.{at_place, no_place}
use Rattle.election_tables.proofs.tables.sections.Sections.with.Goals as goal

pub returns-in-Some : goal.returns-in-Some
returns-in-Some c =
    let xs : List Section = c.args.self.now in
    let at = at_place (λ s. (s.zone == c.args.zone) && (s.number == c.args.number)) xs c.in-Some.i (sym c.in-Some.ensures.place) in
    let s = c.index.result.now in
    let F : List Section → Type 0 = λ ys. s ≡ get_or ys c.in-Some.i s in
    let here : s ≡ get_or xs c.in-Some.i s = subst F c.self.view_is c.index.ensures in
    sym (at.1 ∙ slice_get_read xs (length xs) c.in-Some.i s refl at.0 here)

pub returns-in-None : goal.returns-in-None
returns-in-None c = sym (no_place (λ s. (s.zone == c.args.zone) && (s.number == c.args.number)) c.args.self.now (sym c.in-None.ensures.place))
