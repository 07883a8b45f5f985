-- The line of each panel of the tables
use Rattle.std.proofs.Common.{◌≡◌, ℕ, zero, suc, ◌+◌, ◌<◌, List, [], ◌∷◌, length, map, drop, slice_get, slice_index, unwrap_or, refl, ap, ◌∙◌, arith}
use Rattle.std.proofs.lemmas.List.{drop_more}
use Rattle.std.proofs.lemmas.Option.{get_or_from_slice_get}
use Rattle.election_tables.specs.TablesData.{TablesData, places_at, places_in}
use Rattle.election_tables.specs.declared.tables.panels.Panel.{Panel}
use Rattle.vote_kinds.specs.Ballot.{BallotLine, line_of, lines_by_panel, no_panel}
use Rattle.vote_kinds.proofs.Lookups.{by_panel_length, line_found}

places_found : (panels : List Panel) (panel : ℕ) → panel < length panels → places_in (unwrap_or (slice_get panels panel) no_panel) ≡ slice_index (map places_in panels) panel
places_found [] panel lt = absurd (omega arith)
places_found (p ∷ panels) zero lt = refl
places_found (p ∷ panels) (suc panel) lt = places_found panels panel (omega arith)

-- the line of a panel has as many votes of a voter as the tables say
pub line_places : (t : TablesData) (panel : ℕ) → panel < length t.panels → (line_of t panel).places ≡ places_at t panel
line_places t panel lt = places_found t.panels panel lt

-- the lines from a panel on, of which the first is that of the panel
pub lines_from_panel : (t : TablesData) (panel : ℕ) → panel < length t.panels → drop panel (lines_by_panel t) ≡ line_of t panel ∷ drop (panel + 1) (lines_by_panel t)
lines_from_panel t panel lt =
    let many = by_panel_length t in
    drop_more (lines_by_panel t) panel (line_of t panel) (omega arith)
    ∙ ap (λ (l : BallotLine). l ∷ drop (panel + 1) (lines_by_panel t)) (get_or_from_slice_get (lines_by_panel t) panel (line_of t panel) (line_of t panel) (line_found t panel lt))
