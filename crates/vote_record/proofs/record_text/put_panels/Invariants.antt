use Rattle.std.proofs.Common.{◌≡◌, ◌++◌, take}
use Rattle.std.specs.List.{concat, flat_map, zip}
use Rattle.vote_record.specs.RecordText.{panel_lines}
use Rattle.vote_record.proofs.record_text.put_panels.Given as goal

abbrev pub invariant-loop-panel : goal.invariant-loop-panel
invariant-loop-panel l = l.out.items ≡ l.fn.out.items ++ concat (flat_map panel_lines (take l.panel (zip l.tables.panels l.votes.bags)))
