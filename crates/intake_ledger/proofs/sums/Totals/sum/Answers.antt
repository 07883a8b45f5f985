use Rattle.std.proofs.Common.{List, ℕ, sym, ap, ◌∙◌}
use Rattle.std.specs.List.{position}
use Rattle.intake_ledger.specs.Body.{sum_in}
use Rattle.intake_ledger.specs.Ledger.{is_choice_of}
use Rattle.intake_ledger.specs.Totals.{TotalsData}
use Rattle.intake_ledger.proofs.Telling.{told_there}
use Rattle.intake_ledger.proofs.sums.Totals.sum.Goals as goal

pub returns-in-Some : goal.returns-in-Some
returns-in-Some c =
    let place : ℕ = c.in-Some.place in
    let choices = c.deref.ensures.value ∙ ap (λ (d : TotalsData). d.choices) c.self.view_is in
    let body = c.deref-in-Some.ensures.value ∙ ap (λ (d : TotalsData). d.body) c.self.view_is in
    let at = ap (position (is_choice_of c.args.panel c.args.choice)) (sym choices) ∙ sym c.place_of.ensures ∙ c.in-Some.is in
    c.sum_in.ensures ∙ ap (λ (bytes : List ℕ). sum_in bytes place) body ∙ told_there c.args.self.now c.args.panel place c.args.choice at
