use Rattle.std.proofs.Common.{◌≡◌, ◌<◌, ◌-◌, [], length, take, drop, refl, ap, ◌∙◌, arith}
use Rattle.std.specs.Prelude.{slice_index, slice_index_or}
use Rattle.std.proofs.lemmas.List.{take_rest, length-drop}
use Rattle.urna_base.specs.Lines.{lines_of}
use Rattle.key_script.proofs.NameLaws.{is_name-at}
use Rattle.key_script.proofs.StartLaws.{length-starts_of, LineAt, line_at}
use Rattle.key_script.proofs.names.Names.line.Goals as goal
use Rattle.key_script.proofs.names.Names.line.Goals.{After-deref-2}

within : (c : goal.After-shared_slice_known-1-unread) → c.args.i < length (lines_of c.self.inside.text.items)
within c = rw (c.self.view_is) c.requires

pub bounds-deref-i : goal.bounds-deref-i
bounds-deref-i c = rw (c.deref.ensures.0, c.self.invariant.1, length-starts_of 0 (lines_of c.self.inside.text.items)) (within c)

at : (c : After-deref-2) → LineAt c.self.inside.text.items c.args.i (slice_index c.deref.result.now c.args.i)
at c = rw (c.deref.ensures.0, c.self.invariant.1) (line_at c.self.inside.text.items c.args.i (rw c.self.view_is c.requires))

pub slice_bounds-first_line-count : goal.slice_bounds-first_line-count
slice_bounds-first_line-count c = let inside = (at c).within in rw c.deref-2.ensures.value (omega arith)

pub slice_bounds-first_line-start : goal.slice_bounds-first_line-start
slice_bounds-first_line-start c = let count = slice_bounds-first_line-count c in omega (arith, count)

-- the part of the text that begins with the line
rest_of : (c : After-deref-2) → take (length c.deref-2.result.now - slice_index c.deref.result.now c.args.i) (drop (slice_index c.deref.result.now c.args.i) c.deref-2.result.now) ≡ drop (slice_index c.deref.result.now c.args.i) c.self.inside.text.items
rest_of c = rw (take_rest c.deref-2.result.now (slice_index c.deref.result.now c.args.i), c.deref-2.ensures.value) refl

pub first_line-requires : goal.first_line-requires
first_line-requires c =
    let here = (goal.at.first_line-requires c).After-deref-2 in
    let inside = (at here).within in
    rw (rest_of here, length-drop (slice_index c.deref.result.now c.args.i) c.self.inside.text.items) (omega arith)

pub returns-clause-line : goal.returns-clause-line
returns-clause-line c =
    let here = (goal.at.returns-clause-line c).After-deref-2 in
    c.first_line.ensures
    ∙ (ap (λ rest. slice_index_or (lines_of rest) 0 []) (rest_of here)
    ∙ ((at here).line ∙ ap (λ lines. slice_index_or lines c.args.i []) c.self.view_is))

pub returns-clause-name : goal.returns-clause-name
returns-clause-name c =
    let name = is_name-at (lines_of c.self.inside.text.items) c.args.i c.self.invariant.0 (rw c.self.view_is c.requires) in
    rw (returns-clause-line c, ← c.self.view_is) name
