use Rattle.std.proofs.Common.{◌==◌, ◌∷◌, [], ◌++◌, ℕ, List, map, sym, ap, subst, ◌∙◌, arith}
use Rattle.std.specs.List.Sorted.{IsStrictlyIncreasing}
use Rattle.vote_kinds.proofs.Lookups.{office_known}
use Rattle.seat_remainders.specs.Majority.{majority_outcome}
use Rattle.seat_remainders.specs.Parties.{nominal_votes}
use Rattle.seat_remainders.specs.declared.contest.Entry.{Entry}
use Rattle.section_intake.specs.Sums.{nominal_sum}
use Rattle.totals.specs.Lines.{candidate_line, majority_line, outcome_lines, simple_lines}
use Rattle.totals.specs.Simple.{elected_simply}
use Rattle.totals.proofs.ElectedLaws.{entries_rise}
use Rattle.totals.proofs.LineLaws.{line_behind, on_ok}
use Rattle.totals.proofs.TotalsLaws.{panel_told, tells_absolute, tells_contest, tells_simple}
use Rattle.totals.proofs.results.push_panel.Goals as goal

pub push_majority-requires : goal.push_majority-requires
push_majority-requires c =
    let few = c.in_ok-entries.ensures.votes in
    let same = ap (λ (es : List Entry). nominal_votes es) c.as_slice-in-Absolute.ensures.items in
    omega (arith, few, same)

pub push_simple-requires-clause-rising : goal.push_simple-requires-clause-rising
push_simple-requires-clause-rising c =
    let is = c.requires.made in
    let panel = c.args.panel in
    subst (λ (es : List Entry). IsStrictlyIncreasing (map (λ c. c.number) es)) (sym (c.in_ok-entries.ensures.entries is.reports is.read))
    (entries_rise c.args.tables.now is.reports panel is.tables c.requires.panel)

pub returns-in-Proportional : goal.returns-in-Proportional
returns-in-Proportional c =
    let t = c.args.tables.now in
    let panel = c.args.panel in
    let fn = c.args.lines.now.items in
    let office = c.office-office.result in
    let known = office_known t panel office c.office-office.ensures.office in
    on_ok c.push_contest.result
    (λ all reports read.
    let made = all reports read in
    panel_told t reports panel office c.of-votes.result c.in_ok-entries.entries fn c.push.new.self.items c.push_candidates.new.lines.items
    c.push_contest.new.lines.items (outcome_lines t (λ number. nominal_sum panel number reports) made.0) known
    (c.of-votes.ensures.votes reports read) (c.in_ok-entries.ensures.entries reports read)
    (line_behind _ fn _ _ c.in_ok-push.ensures.items c.office_line.ensures)
    (c.in_ok-push_candidates.ensures ∙ ap (λ (es : List Entry). c.push.new.self.items ++ map candidate_line es) c.as_slice-2.ensures.items)
    made.2
    (tells_contest t reports panel office known c.in-Proportional.is made.0 made.1))
    c.push_contest.ensures

pub returns-in-Absolute : goal.returns-in-Absolute
returns-in-Absolute c =
    let t = c.args.tables.now in
    let panel = c.args.panel in
    let fn = c.args.lines.now.items in
    let office = c.office-office.result in
    let known = office_known t panel office c.office-office.ensures.office in
    let entries = c.as_slice-in-Absolute.result.now in
    on_ok c.push_majority.result
    (λ all reports read.
    panel_told t reports panel office c.of-votes.result c.in_ok-entries.entries fn c.push.new.self.items c.push_candidates.new.lines.items
    c.push_majority.new.lines.items (majority_line (majority_outcome entries (t.turn == 1)) ∷ []) known
    (c.of-votes.ensures.votes reports read) (c.in_ok-entries.ensures.entries reports read)
    (line_behind _ fn _ _ c.in_ok-push.ensures.items c.office_line.ensures)
    (c.in_ok-push_candidates.ensures ∙ ap (λ (es : List Entry). c.push.new.self.items ++ map candidate_line es) c.as_slice-2.ensures.items)
    (all ∙ ap (λ (n : ℕ). c.push_candidates.new.lines.items ++ majority_line (majority_outcome entries (n == 1)) ∷ []) c.turn.ensures)
    (tells_absolute t reports panel office known c.in-Absolute.is entries (c.as_slice-in-Absolute.ensures.items ∙ c.in_ok-entries.ensures.entries reports read)))
    c.push_majority.ensures

pub returns-in-Simple : goal.returns-in-Simple
returns-in-Simple c =
    let t = c.args.tables.now in
    let panel = c.args.panel in
    let fn = c.args.lines.now.items in
    let office = c.office-office.result in
    let known = office_known t panel office c.office-office.ensures.office in
    let entries = c.in_ok-entries.entries in
    on_ok c.push_simple.result
    (λ all reports read.
    panel_told t reports panel office c.of-votes.result entries fn c.push.new.self.items c.push_candidates.new.lines.items
    c.push_simple.new.lines.items (simple_lines (elected_simply office.seats entries)) known
    (c.of-votes.ensures.votes reports read) (c.in_ok-entries.ensures.entries reports read)
    (line_behind _ fn _ _ c.in_ok-push.ensures.items c.office_line.ensures)
    (c.in_ok-push_candidates.ensures ∙ ap (λ (es : List Entry). c.push.new.self.items ++ map candidate_line es) c.as_slice-2.ensures.items)
    all
    (tells_simple t reports panel office known c.in-Simple.is entries (c.in_ok-entries.ensures.entries reports read)))
    c.push_simple.ensures
