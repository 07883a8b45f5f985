use Rattle.std.proofs.Common.{◌≡◌, drop}
use Rattle.vote_kinds.specs.Ballot.{line_of}
use Rattle.section_intake.specs.Fitting.{are_parties}
use Rattle.section_intake.proofs.fitting.are_parties.Given as goal

abbrev pub invariant-loop-count : goal.invariant-loop-count
invariant-loop-count l = are_parties (line_of l.tables l.panel) l.fn.counts ≡ are_parties (line_of l.tables l.panel) (drop l.count-index l.fn.counts)
