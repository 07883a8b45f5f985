use Rattle.urna_outside.specs.Faults.{IsFaultless}
use Rattle.urna_outside.specs.Told.{Does}
use Rattle.gate_slot.specs.Page.{changed_below, put_each}
use Rattle.gate_slot.proofs.write.write_pages.Given as goal

-- the pages that differ among the first ones were written
abbrev pub invariant-loop-page : goal.invariant-loop-page
invariant-loop-page g l = Does (put_each l.dev l.at l.new (changed_below l.page l.old l.new)) (g.M.Machine.told l.fn.m) (g.M.Machine.told l.m) × IsFaultless (g.M.Machine.told l.fn.m) (g.M.Machine.told l.m)
