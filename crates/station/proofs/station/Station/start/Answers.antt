use Rattle.std.proofs.Common.{◌∷◌, [], ℕ, List, sym, ap, subst, ◌∙◌}
use Rattle.urna_outside.specs.ShownLines.{HasShown, IsCutOff}
use Rattle.turnout.specs.Turnout.{number_came}
use Rattle.station.specs.Press.{Standing}
use Rattle.station.specs.Start.{FailsToStart}
use Rattle.station.specs.Station.{IsStationed}
use Rattle.station.proofs.Starting.{cut_at_opening, fails_as, opening_line, opens, stationed}
use Rattle.station.proofs.station.Station.start.Goals as goal

pub returns-in-Err-clause-fails : goal.returns-in-Err-clause-fails
returns-in-Err-clause-fails g c =
    let t = c.args.tables.now in
    let r = c.args.roll.now in
    let a = g.M.Machine.told c.args.m.now in
    let b = g.M.Machine.told c.recover.new.m in
    subst (FailsToStart t r a b) (sym c.start_error.ensures) (fails_as t r a b c.in-Err.error c.in-Err.ensures.fails)

pub returns-in-Ok-show_line-clause-stationed : goal.returns-in-Ok-show_line-clause-stationed
returns-in-Ok-show_line-clause-stationed g c =
    let t = c.args.tables.now in
    let r = c.args.roll.now in
    let s = c.in-Ok.found.1 in
    let a = g.M.Machine.told c.args.m.now in
    let b = g.M.Machine.told c.recover.new.m in
    let end = g.M.Machine.told c.show_line.new.machine in
    let count = c.len.ensures.count ∙ ap number_came c.turnout.ensures in
    let line = c.as_bytes.ensures.bytes ∙ c.text.ensures ∙ opening_line t s c.phase.result c.len.result c.phase.ensures.phase count in
    let shown = subst (λ (bytes : List ℕ). HasShown (bytes ∷ []) b end) line c.in-Ok-show_line.ensures in
    subst (λ (x : Standing). IsStationed t r end (record { standing = x; digits = c.of.result.digits; store = c.in-Ok.found.0 })) (sym c.of.ensures)
    (stationed t r c.in-Ok.found.0 s a b end c.in-Ok.ensures.loaded c.in-Ok.ensures.kept c.in-Ok.ensures.ran c.in-Ok.ensures.exact c.in-Ok.ensures.fine shown c.of.result.digits)

pub returns-in-Ok-show_line-clause-started : goal.returns-in-Ok-show_line-clause-started
returns-in-Ok-show_line-clause-started g c =
    let t = c.args.tables.now in
    let r = c.args.roll.now in
    let s = c.in-Ok.found.1 in
    let a = g.M.Machine.told c.args.m.now in
    let b = g.M.Machine.told c.recover.new.m in
    let end = g.M.Machine.told c.show_line.new.machine in
    let count = c.len.ensures.count ∙ ap number_came c.turnout.ensures in
    let line = c.as_bytes.ensures.bytes ∙ c.text.ensures ∙ opening_line t s c.phase.result c.len.result c.phase.ensures.phase count in
    let shown = subst (λ (bytes : List ℕ). HasShown (bytes ∷ []) b end) line c.in-Ok-show_line.ensures in
    record {
      state = s;
      idle = c.of.ensures;
      opens = opens t r c.in-Ok.found.0 s a b end c.in-Ok.ensures.loaded c.in-Ok.ensures.kept c.in-Ok.ensures.ran c.in-Ok.ensures.exact c.in-Ok.ensures.fine shown;
    }

pub returns-in-Err-show_line-clause-fails : goal.returns-in-Err-show_line-clause-fails
returns-in-Err-show_line-clause-fails g c =
    let t = c.args.tables.now in
    let r = c.args.roll.now in
    let s = c.in-Ok.found.1 in
    let a = g.M.Machine.told c.args.m.now in
    let b = g.M.Machine.told c.recover.new.m in
    let end = g.M.Machine.told c.show_line.new.machine in
    let count = c.len.ensures.count ∙ ap number_came c.turnout.ensures in
    let line = c.as_bytes.ensures.bytes ∙ c.text.ensures ∙ opening_line t s c.phase.result c.len.result c.phase.ensures.phase count in
    let cut = subst (λ (bytes : List ℕ). IsCutOff (bytes ∷ []) b end) line c.in-Err-show_line.ensures in
    cut_at_opening t r c.in-Ok.found.0 s a b end c.in-Ok.ensures.loaded c.in-Ok.ensures.kept c.in-Ok.ensures.ran c.in-Ok.ensures.exact c.in-Ok.ensures.fine cut
