use Rattle.std.proofs.Common.{List, ℕ, ◌∷◌, [], ◌++◌, codes, refl, sym, ap, subst, append_assoc}
use Rattle.urna_base.specs.Lines.{number_line}
use Rattle.election_tables.specs.TablesData.{candidates_at}
use Rattle.urna_outside.specs.ShownLines.{Shows}
use Rattle.urna_outside.proofs.ShowingLines.{shown-append, shows-append, shows_err, cut_within}
use Rattle.vote_record.specs.Bag.{bag_at}
use Rattle.poll_report.specs.Counts.{candidate_lines, kind_lines, total_lines}
use Rattle.poll_report.proofs.LineLists.{panel_is}
use Rattle.poll_report.proofs.counts.show_panel.Goals as goal

pub returns-in_err-show_candidates : goal.returns-in_err-show_candidates
returns-in_err-show_candidates g c =
    let told = g.M.Machine.told in
    let t = c.args.tables.now in
    let bag = bag_at c.args.votes.now.bags c.args.panel in
    let office = number_line (codes "CARGO ") c.from.result in
    let candidates = candidate_lines (candidates_at c.args.panel t) bag in
    let rest = kind_lines c.office-office.result.kind t bag ++ total_lines bag in
    subst (λ (ls : List (List ℕ)). Shows c.from_residual-in_err-show_candidates.result ls (told c.args.m.now) (told c.show_candidates.new.m))
    (panel_is t c.args.panel bag c.office-office.result c.from.result c.office-office.ensures.office c.from.ensures)
    (shows_err c.from_residual-in_err-show_candidates.result (office ∷ (candidates ++ rest)) (told c.args.m.now) (told c.show_candidates.new.m) c.from_residual-in_err-show_candidates.ensures.0
    (cut_within (office ∷ []) candidates rest (office ∷ (candidates ++ rest)) (told c.args.m.now) (told c.show_number.new.m) (told c.show_candidates.new.m) refl
    c.in_ok-show_number.ensures c.in_err-show_candidates.ensures))

pub returns-in_err-show_parties : goal.returns-in_err-show_parties
returns-in_err-show_parties g c =
    let told = g.M.Machine.told in
    let t = c.args.tables.now in
    let bag = bag_at c.args.votes.now.bags c.args.panel in
    let office = number_line (codes "CARGO ") c.from.result in
    let candidates = candidate_lines (candidates_at c.args.panel t) bag in
    let parties = kind_lines c.office-office.result.kind t bag in
    let totals = total_lines bag in
    subst (λ (ls : List (List ℕ)). Shows c.from_residual-in_err-show_parties.result ls (told c.args.m.now) (told c.show_parties.new.m))
    (panel_is t c.args.panel bag c.office-office.result c.from.result c.office-office.ensures.office c.from.ensures)
    (shows_err c.from_residual-in_err-show_parties.result (office ∷ (candidates ++ (parties ++ totals))) (told c.args.m.now) (told c.show_parties.new.m) c.from_residual-in_err-show_parties.ensures.0
    (cut_within (office ∷ candidates) parties totals (office ∷ (candidates ++ (parties ++ totals))) (told c.args.m.now) (told c.show_candidates.new.m) (told c.show_parties.new.m)
    (ap (λ (ls : List (List ℕ)). office ∷ ls) (sym (append_assoc candidates parties totals)))
    (shown-append (office ∷ []) candidates (told c.args.m.now) (told c.show_number.new.m) (told c.show_candidates.new.m) c.in_ok-show_number.ensures c.in_ok-show_candidates.ensures)
    c.in_err-show_parties.ensures))

pub returns : goal.returns
returns g c =
    let told = g.M.Machine.told in
    let t = c.args.tables.now in
    let bag = bag_at c.args.votes.now.bags c.args.panel in
    let r = c.show_totals.result in
    let office = number_line (codes "CARGO ") c.from.result in
    let candidates = candidate_lines (candidates_at c.args.panel t) bag in
    let parties = kind_lines c.office-office.result.kind t bag in
    let totals = total_lines bag in
    subst (λ (ls : List (List ℕ)). Shows r ls (told c.args.m.now) (told c.show_totals.new.m))
    (panel_is t c.args.panel bag c.office-office.result c.from.result c.office-office.ensures.office c.from.ensures)
    (shows-append r (office ∷ []) (candidates ++ (parties ++ totals)) (told c.args.m.now) (told c.show_number.new.m) (told c.show_totals.new.m) c.in_ok-show_number.ensures
    (shows-append r candidates (parties ++ totals) (told c.show_number.new.m) (told c.show_candidates.new.m) (told c.show_totals.new.m) c.in_ok-show_candidates.ensures
    (shows-append r parties totals (told c.show_candidates.new.m) (told c.show_parties.new.m) (told c.show_totals.new.m) c.in_ok-show_parties.ensures c.show_totals.ensures)))
