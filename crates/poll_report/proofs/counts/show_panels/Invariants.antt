use Rattle.urna_outside.specs.ShownLines.{HasShown}
use Rattle.poll_report.proofs.LineLists.{first_lines}
use Rattle.poll_report.proofs.counts.show_panels.Given as goal

-- the lines of the first panels were shown
abbrev pub invariant-loop-panel : goal.invariant-loop-panel
invariant-loop-panel g l = HasShown (first_lines l.tables l.votes.bags l.panel) (g.M.Machine.told l.fn.m) (g.M.Machine.told l.m)
