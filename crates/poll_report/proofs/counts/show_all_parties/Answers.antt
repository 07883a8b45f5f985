use Rattle.std.proofs.Common.{◌≡◌, ◌∷◌, [], ℕ, take, slice_get, Some, ap, sym, ◌∙◌, subst, arith}
use Rattle.std.proofs.lemmas.List.{take_all}
use Rattle.urna_outside.specs.ShownLines.{HasShown}
use Rattle.urna_outside.proofs.ShowingLines.{shown_nothing, shown_to, cut_within, shows_err}
use Rattle.vote_kinds.specs.declared.choice.Choice.TheVariants as choice
use Rattle.vote_record.specs.Bag.{bag_at, count_of}
use Rattle.poll_report.specs.Counts.{votes_line, party_line, party_lines}
use Rattle.poll_report.proofs.LineLists.{lines_more, lines_rest, party_told}
use Rattle.poll_report.proofs.counts.show_all_parties.Goals as goal

pub loop-i-init : goal.loop-i-init
loop-i-init g c = shown_nothing (g.M.Machine.told c.args.m.now)

pub returns-in_err-show_votes : goal.returns-in_err-show_votes
returns-in_err-show_votes g c =
    let xs = c.args.tables.now.parties in
    let bag = bag_at c.args.votes.now.bags c.args.panel in
    let line = votes_line c.from.result c.count-count.result in
    let rest = lines_rest (party_line bag) xs c.loop-i.i line
    (party_told bag (slice_get xs c.loop-i.i) c.from.result c.count-count.result (c.party-number.ensures.party ∙ ap (λ (k : ℕ). Some k) (sym c.from.ensures)) (c.count-count.ensures.count ∙ ap (λ (k : ℕ). count_of (choice.Party k) bag) (sym c.from.ensures))) in
    shows_err c.from_residual.result (party_lines xs bag) (g.M.Machine.told c.args.m.now) (g.M.Machine.told c.show_votes.new.m) c.from_residual.ensures.0
    (cut_within (party_lines (take c.loop-i.i xs) bag) (line ∷ []) rest.0 (party_lines xs bag)
    (g.M.Machine.told c.args.m.now) (g.M.Machine.told c.loop-i.m) (g.M.Machine.told c.show_votes.new.m) rest.1 c.loop-i.invariant c.in_err-show_votes.ensures)

pub loop-i-preserved : goal.loop-i-preserved
loop-i-preserved g c =
    let xs = c.args.tables.now.parties in
    let bag = bag_at c.args.votes.now.bags c.args.panel in
    let line = votes_line c.from.result c.count-count.result in
    shown_to (party_lines (take c.loop-i.i xs) bag) (line ∷ []) _
    (g.M.Machine.told c.args.m.now) (g.M.Machine.told c.loop-i.m) (g.M.Machine.told c.show_votes.new.m)
    (lines_more (party_line bag) xs c.loop-i.i line
    (party_told bag (slice_get xs c.loop-i.i) c.from.result c.count-count.result (c.party-number.ensures.party ∙ ap (λ (k : ℕ). Some k) (sym c.from.ensures)) (c.count-count.ensures.count ∙ ap (λ (k : ℕ). count_of (choice.Party k) bag) (sym c.from.ensures))))
    c.loop-i.invariant c.in_ok-show_votes.ensures

pub returns : goal.returns
returns g c =
    let xs = c.args.tables.now.parties in
    let bag = bag_at c.args.votes.now.bags c.args.panel in
    let all : take c.loop-i.i xs ≡ xs = take_all c.loop-i.i xs (omega (arith, c.party_count-i-end.ensures.count)) in
    subst (λ ys. HasShown (party_lines ys bag) (g.M.Machine.told c.args.m.now) (g.M.Machine.told c.loop-i.m)) all c.loop-i.invariant
