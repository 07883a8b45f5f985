use Rattle.std.proofs.Common.{List, ℕ, ◌∷◌, [], codes, length, refl, subst}
use Rattle.urna_base.specs.Lines.{number_line}
use Rattle.urna_outside.specs.ShownLines.{Shows}
use Rattle.urna_outside.proofs.ShowingLines.{shows-append, shows_err, cut_within}
use Rattle.vote_record.specs.Bag.{bag_at}
use Rattle.poll_report.proofs.LineLists.{totals_are}
use Rattle.poll_report.proofs.counts.show_totals.Goals as goal

pub returns-in_err-show_number-2 : goal.returns-in_err-show_number-2
returns-in_err-show_number-2 g c =
    let told = g.M.Machine.told in
    let bag = bag_at c.args.votes.now.bags c.args.panel in
    let blank = number_line (codes "BRANCO ") c.count.result in
    let null = number_line (codes "NULO ") c.count-2.result in
    let total = number_line (codes "TOTAL ") (length bag) in
    subst (λ (ls : List (List ℕ)). Shows c.from_residual-in_err-show_number-2.result ls (told c.args.m.now) (told c.show_number-2.new.m))
    (totals_are bag c.count.result c.count-2.result (length bag) c.count.ensures.count c.count-2.ensures.count refl)
    (shows_err c.from_residual-in_err-show_number-2.result (blank ∷ null ∷ total ∷ []) (told c.args.m.now) (told c.show_number-2.new.m) c.from_residual-in_err-show_number-2.ensures.0
    (cut_within (blank ∷ []) (null ∷ []) (total ∷ []) (blank ∷ null ∷ total ∷ []) (told c.args.m.now) (told c.show_number.new.m) (told c.show_number-2.new.m) refl
    c.in_ok-show_number.ensures c.in_err-show_number-2.ensures))

pub returns : goal.returns
returns g c =
    let told = g.M.Machine.told in
    let bag = bag_at c.args.votes.now.bags c.args.panel in
    let blank = number_line (codes "BRANCO ") c.count.result in
    let null = number_line (codes "NULO ") c.count-2.result in
    let total = number_line (codes "TOTAL ") c.total.result in
    subst (λ (ls : List (List ℕ)). Shows c.show_number-3.result ls (told c.args.m.now) (told c.show_number-3.new.m))
    (totals_are bag c.count.result c.count-2.result c.total.result c.count.ensures.count c.count-2.ensures.count c.total.ensures.total)
    (shows-append c.show_number-3.result (blank ∷ []) (null ∷ total ∷ []) (told c.args.m.now) (told c.show_number.new.m) (told c.show_number-3.new.m) c.in_ok-show_number.ensures
    (shows-append c.show_number-3.result (null ∷ []) (total ∷ []) (told c.show_number.new.m) (told c.show_number-2.new.m) (told c.show_number-3.new.m) c.in_ok-show_number-2.ensures c.show_number-3.ensures))
