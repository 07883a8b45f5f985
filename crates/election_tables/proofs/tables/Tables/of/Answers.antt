use Rattle.std.proofs.Common.{sym, subst, length, ◌≡◌, arith, rules}
use Rattle.std.proofs.lemmas.Int.{ints}
use Rattle.election_tables.specs.Limits.{greatest_process}
use Rattle.election_tables.specs.Tables.{AreTablesOf}
use Rattle.election_tables.proofs.Kept.{Kept, kept, process_in_range, date_fits, turn_in_range, offices_fit, candidates_fit, parties_fit, sections_in_range, federations_fit}
use Rattle.election_tables.proofs.Signs.{within_low, within_high}
use Rattle.election_tables.proofs.Valid.{tables_valid}
use Rattle.election_tables.proofs.tables.Tables.of.Goals as goal

pub to_u32-requires-clause-low : goal.to_u32-requires-clause-low
to_u32-requires-clause-low c =
    let k = subst Kept (sym c.document.view_is) (kept _ c.requires) in
    let low = within_low 1 greatest_process c.document.inside.process (process_in_range _ k) in
    omega (arith, ints)

pub to_u32-requires-clause-high : goal.to_u32-requires-clause-high
to_u32-requires-clause-high c =
    let k = subst Kept (sym c.document.view_is) (kept _ c.requires) in
    let high = within_high 1 greatest_process 4294967296 c.document.inside.process (process_in_range _ k) (omega arith) in
    omega (arith, ints)

pub to_u32-requires-2-clause-low : goal.to_u32-requires-2-clause-low
to_u32-requires-2-clause-low c =
    let k = subst Kept (sym c.document.view_is) (kept _ c.requires) in
    let low = within_low 0 99999999 c.document.inside.date (date_fits _ k) in
    omega (arith, ints)

pub to_u32-requires-2-clause-high : goal.to_u32-requires-2-clause-high
to_u32-requires-2-clause-high c =
    let k = subst Kept (sym c.document.view_is) (kept _ c.requires) in
    let high = within_high 0 99999999 4294967296 c.document.inside.date (date_fits _ k) (omega arith) in
    omega (arith, ints)

pub to_u32-requires-3-clause-low : goal.to_u32-requires-3-clause-low
to_u32-requires-3-clause-low c =
    let k = subst Kept (sym c.document.view_is) (kept _ c.requires) in
    let low = within_low 1 2 c.document.inside.turn (turn_in_range _ k) in
    omega (arith, ints)

pub to_u32-requires-3-clause-high : goal.to_u32-requires-3-clause-high
to_u32-requires-3-clause-high c =
    let k = subst Kept (sym c.document.view_is) (kept _ c.requires) in
    let high = within_high 1 2 4294967296 c.document.inside.turn (turn_in_range _ k) (omega arith) in
    omega (arith, ints)

pub overflow_cast-result : goal.overflow_cast-result
overflow_cast-result c =
    let k = subst Kept (sym c.document.view_is) (kept _ c.requires) in
    let low = within_low 1 2 c.document.inside.turn (turn_in_range _ k) in
    let high = within_high 1 2 256 c.document.inside.turn (turn_in_range _ k) (omega arith) in
    omega (arith, ints, c.to_u32-3.ensures)

pub panels_of-requires-clause-offices : goal.panels_of-requires-clause-offices
panels_of-requires-clause-offices c =
    let k = subst Kept (sym c.document.view_is) (kept _ c.requires) in
    rw c.deref.ensures.value (offices_fit _ k)

pub panels_of-requires-clause-in_range : goal.panels_of-requires-clause-in_range
panels_of-requires-clause-in_range c =
    let k = subst Kept (sym c.document.view_is) (kept _ c.requires) in
    rw c.deref-2.ensures.value (candidates_fit _ k)

pub panels_of-requires-clause-distinct : goal.panels_of-requires-clause-distinct
panels_of-requires-clause-distinct c =
    let k = subst Kept (sym c.document.view_is) (kept _ c.requires) in
    rw c.deref-2.ensures.value k.candidates_differ

pub of-requires-clause-in_range : goal.of-requires-clause-in_range
of-requires-clause-in_range c =
    let k = subst Kept (sym c.document.view_is) (kept _ c.requires) in
    rw c.deref-3.ensures.value (parties_fit _ k)

pub of-requires-clause-distinct : goal.of-requires-clause-distinct
of-requires-clause-distinct c =
    let k = subst Kept (sym c.document.view_is) (kept _ c.requires) in
    rw c.deref-3.ensures.value k.parties_differ

pub of-requires-2-clause-in_range : goal.of-requires-2-clause-in_range
of-requires-2-clause-in_range c =
    let k = subst Kept (sym c.document.view_is) (kept _ c.requires) in
    rw c.deref-4.ensures.value (sections_in_range _ k)

pub of-requires-2-clause-distinct : goal.of-requires-2-clause-distinct
of-requires-2-clause-distinct c =
    let k = subst Kept (sym c.document.view_is) (kept _ c.requires) in
    rw c.deref-4.ensures.value k.sections_differ

pub federations_of-requires : goal.federations_of-requires
federations_of-requires c =
    let k = subst Kept (sym c.document.view_is) (kept _ c.requires) in
    rw c.deref-5.ensures.value (federations_fit _ k)

pub invariant_of-result : goal.invariant_of-result
invariant_of-result c =
    let are : AreTablesOf c.args.document.now (record { process = c.to_u32.result; date = c.to_u32-2.result; turn = c.to_u32-3.result; panels = c.in_ok-panels_of.field-0.items; parties = c.in_ok-of.field-0; sections = c.in_ok-of-2.field-0; federations = c.in_ok-federations_of.field-0.items; digest = c.args.digest }) = search rules in
    let size : length c.args.digest ≡ 32 = search rules in
    tables_valid c.args.document.now _ (kept _ c.requires) are size
