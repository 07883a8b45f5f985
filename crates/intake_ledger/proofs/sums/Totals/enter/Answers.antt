use Rattle.std.proofs.Common.{◌≡◌, length, drop, sym, ap, subst, ◌∙◌, rules}
use Rattle.twin_image.proofs.Looking.{refilled}
use Rattle.intake_ledger.specs.Body.{StandsFor}
use Rattle.intake_ledger.specs.Ledger.{with_report}
use Rattle.intake_ledger.specs.Totals.{TotalsData}
use Rattle.intake_ledger.proofs.sums.Totals.enter.Goals as goal

pub returns-clause-entered : goal.returns-clause-entered
returns-clause-entered c l are =
    let t = c.args.tables.now in
    let m = with_report t c.args.place c.args.hash.now c.args.report.now l in
    let now = c.enter.new.into in
    let was = c.deref_mut.ensures.value ∙ ap (λ (d : TotalsData). d.body) c.self.view_is in
    let long : c.self.inside.body.len ≡ length now = search rules in
    record {
      choices = ap (λ (d : TotalsData). d.choices) c.self.view_is ∙ are.choices;
      stands = subst (StandsFor t m) (sym (refilled c.self.inside.body.len now (drop (length now) c.self.inside.body.items) long))
          (c.enter.ensures.stands l (subst (StandsFor t l) (sym was) are.stands));
    }
