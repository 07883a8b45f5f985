use Rattle.std.proofs.Common.{ℕ, List, sym, ap, subst, ◌∙◌}
use Rattle.urna_outside.specs.ShownLines.{HasShown, IsCutOff}
use Rattle.urna_outside.proofs.ShowingLines.{cut_after, shown-append}
use Rattle.report_lines.specs.Verdicts.{refused_count, verdict_lines}
use Rattle.urna_commands.specs.Totaliza.{TotalizaEnds, list_no_memory, refused_status, report_no_memory, totalled, totals_not_told}
use Rattle.urna_commands.specs.declared.offering.Telling.TheVariants as telling
use Rattle.urna_commands.specs.declared.status.Status.TheVariants as status
use Rattle.command_parts.proofs.Calls.{taken_as}
use Rattle.urna_commands.proofs.Endings.{counts_refused, passed_on, untouched}
use Rattle.urna_commands.proofs.Offers.{have_totals, offers_end, offers_made, offers_stop}
use Rattle.urna_commands.proofs.totaliza.totaliza_over.Goals as goal

pub total_lines-requires : goal.total_lines-requires
total_lines-requires g c =
    offers_made telling.Verdicts c.args.tables.now c.args.list.now c.offer_all.new.intake c.in_ok-refused.refused (g.C.Cabinet.told c.args.cabinet.now)
    (g.C.Cabinet.told c.offer_all.new.cabinet) (g.M.Machine.told c.args.machine.now) (g.M.Machine.told c.offer_all.new.machine) c.in_ok-refused.ensures

pub returns-in_err-intake : goal.returns-in_err-intake
returns-in_err-intake g c =
    let y = g.C.Cabinet.told c.args.cabinet.now in
    let m = g.M.Machine.told c.args.machine.now in
    λ names x given taken.
    subst (TotalizaEnds names x y m m) (sym (passed_on c.from_residual.result status.Memory c.from_residual.ensures.1 (λ s h. h)))
    (list_no_memory (taken_as 2 x y (λ same. same) taken) (untouched m))

pub returns-in_err-refused : goal.returns-in_err-refused
returns-in_err-refused g c =
    let y = g.C.Cabinet.told c.args.cabinet.now in
    let z = g.C.Cabinet.told c.offer_all.new.cabinet in
    let m = g.M.Machine.told c.args.machine.now in
    let n = g.M.Machine.told c.offer_all.new.machine in
    let s = c.in_err-refused.field-0.0 in
    λ names x given taken.
    subst (TotalizaEnds names x z m n) (sym (passed_on c.from_residual-in_err-refused.result s c.from_residual-in_err-refused.ensures.1 (λ e h. h)))
    (offers_stop names c.args.tables.now c.args.list.now c.offer_all.new.intake x y z m n s given taken c.in_err-refused.ensures)

pub returns-in_err-lines : goal.returns-in_err-lines
returns-in_err-lines g c =
    let y = g.C.Cabinet.told c.args.cabinet.now in
    let z = g.C.Cabinet.told c.offer_all.new.cabinet in
    let m = g.M.Machine.told c.args.machine.now in
    let n = g.M.Machine.told c.offer_all.new.machine in
    λ names x given taken.
    let all = offers_end telling.Verdicts c.args.tables.now c.args.list.now c.offer_all.new.intake c.in_ok-refused.refused x y z m n taken c.in_ok-refused.ensures in
    subst (TotalizaEnds names x z m n) (sym (passed_on c.from_residual-in_err-lines.result status.Memory c.from_residual-in_err-lines.ensures.1 (λ s h. h)))
    (report_no_memory given all.offered (taken_as _ x z (λ same. same) all.taken) all.shown)

pub returns-in_err-tell_lines : goal.returns-in_err-tell_lines
returns-in_err-tell_lines g c =
    let y = g.C.Cabinet.told c.args.cabinet.now in
    let z = g.C.Cabinet.told c.offer_all.new.cabinet in
    let m = g.M.Machine.told c.args.machine.now in
    let n = g.M.Machine.told c.offer_all.new.machine in
    let o = g.M.Machine.told c.tell_lines.new.machine in
    let t = c.args.tables.now in
    let listed = c.args.list.now in
    let i = c.offer_all.new.intake in
    let refused = c.in_ok-refused.refused in
    let lines = c.in_ok-lines.lines.items in
    let off : IsCutOff lines n o = subst (λ (ls : List (List ℕ)). IsCutOff ls n o) c.deref.ensures.value c.in_err-tell_lines.ensures.shown in
    λ names x given taken.
    let all = offers_end telling.Verdicts t listed i refused x y z m n taken c.in_ok-refused.ensures in
    subst (TotalizaEnds names x z m o)
    (sym (passed_on c.from_residual-in_err-tell_lines.result status.Display c.from_residual-in_err-tell_lines.ensures.1 (λ s h. h ∙ c.in_err-tell_lines.ensures.err)))
    (totals_not_told given (have_totals t listed i refused x z m n lines all c.in_ok-lines.ensures) (taken_as _ x z (λ same. same) all.taken)
    (cut_after (verdict_lines all.verdicts) lines m n o all.shown off))

pub returns : goal.returns
returns g c =
    let y = g.C.Cabinet.told c.args.cabinet.now in
    let z = g.C.Cabinet.told c.offer_all.new.cabinet in
    let m = g.M.Machine.told c.args.machine.now in
    let n = g.M.Machine.told c.offer_all.new.machine in
    let o = g.M.Machine.told c.tell_lines.new.machine in
    let t = c.args.tables.now in
    let listed = c.args.list.now in
    let i = c.offer_all.new.intake in
    let refused = c.in_ok-refused.refused in
    let lines = c.in_ok-lines.lines.items in
    let shown : HasShown lines n o = subst (λ (ls : List (List ℕ)). HasShown ls n o) c.deref.ensures.value c.in_ok-tell_lines.ensures.shown in
    λ names x given taken.
    let all = offers_end telling.Verdicts t listed i refused x y z m n taken c.in_ok-refused.ensures in
    subst (TotalizaEnds names x z m o) (sym (c.ended_with.ensures ∙ ap refused_status all.refused_are))
    (totalled given (have_totals t listed i refused x z m n lines all c.in_ok-lines.ensures)
    (taken_as _ x z (counts_refused (refused_count all.verdicts) x.tally z.tally) all.taken)
    (shown-append (verdict_lines all.verdicts) lines m n o all.shown shown))
