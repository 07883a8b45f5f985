use Rattle.std.proofs.Common.{◌∷◌, [], ◌++◌, List, map, ap, ◌∙◌}
use Rattle.seat_remainders.specs.declared.contest.Entry.{Entry}
use Rattle.totals.specs.Lines.{candidate_line, office_line}
use Rattle.totals.proofs.LineLaws.{behind, line_behind, on_ok}
use Rattle.vote_kinds.specs.Ballot.{panel_at}
use Rattle.vote_kinds.proofs.Lookups.{office_known}
use Rattle.ledger_commands.specs.Lines.{votes_told}
use Rattle.ledger_commands.proofs.lines.push_panel.Goals as goal

pub returns : goal.returns
returns c =
    on_ok c.push_candidates.result
    (λ same l are.
    let t = c.args.tables.now in
    let panel = c.args.panel in
    let p = panel_at t panel in
    let old = c.args.lines.now.items in
    let known = office_known t panel c.office.result c.office.ensures.office in
    let entries = c.as_slice-2.ensures.items ∙ c.in_ok-entries.ensures.entries l are in
    let line = office_line p.office.code (votes_told t l panel p) in
    let told = c.office_line.ensures ∙ (ap (λ o. office_line o.code c.votes_of-votes.result) known ∙ ap (office_line p.office.code) (c.votes_of-votes.ensures.votes l are)) in
    behind c.push_candidates.new.lines.items c.push.new.self.items old (line ∷ []) (map candidate_line c.as_slice-2.result.now) same
    (line_behind c.push.new.self.items old c.office_line.result line c.in_ok-push.ensures.items told)
    ∙ ap (λ (es : List Entry). old ++ (line ∷ map candidate_line es)) entries)
    c.push_candidates.ensures
