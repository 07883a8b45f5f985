use Rattle.std.proofs.Common.{◌≡◌, drop}
use Rattle.vote_kinds.specs.Ballot.{line_of}
use Rattle.section_intake.specs.Fitting.{are_candidates}
use Rattle.section_intake.proofs.fitting.are_candidates.Given as goal

abbrev pub invariant-loop-count : goal.invariant-loop-count
invariant-loop-count l = are_candidates (line_of l.tables l.panel) l.fn.counts ≡ are_candidates (line_of l.tables l.panel) (drop l.count-index l.fn.counts)
