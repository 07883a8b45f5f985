use Rattle.std.proofs.Common.{◌≡◌, ◌+◌, ◌<◌, ◌≤◌, length}
use Rattle.hash_chain.proofs.Joining.{text_from, text_read}
use Rattle.hash_chain.proofs.join.read_parts.Given as goal
use Rattle.hash_chain.specs.Lines.{rows}
use Rattle.hash_chain.specs.Reading.{said_before}

-- the file is read as it is from here on
abbrev pub invariant-loop-row : goal.invariant-loop-row
invariant-loop-row l =
    (text_read l.bytes ≡ text_from l.feeds l.place (said_before l.before) l.text.items (rows l.rest))
    × (0 < l.place) × (l.place + length l.rest ≤ length l.bytes + 1)

abbrev pub decreases-loop-row : goal.decreases-loop-row
decreases-loop-row l = length l.rest
