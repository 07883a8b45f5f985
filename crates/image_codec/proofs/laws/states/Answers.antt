use Rattle.std.proofs.Common.{length}
use Rattle.vote_kinds.specs.Ballot.{lines_by_panel}
use Rattle.image_codec.proofs.Ballots.{choices-empty, choices-with_votes}
use Rattle.image_codec.proofs.Valid.{valid-ready_state, valid-opened_at, valid-with_ballot, valid-sealed_at}
use Rattle.image_codec.proofs.laws.states.Goals as goal

pub returns-clause-ready : goal.returns-clause-ready
returns-clause-ready _ = λ t voters. (valid-ready_state t voters, choices-empty (lines_by_panel t) (length t.panels))

pub returns-clause-opening : goal.returns-clause-opening
returns-clause-opening _ = valid-opened_at

pub returns-clause-ballot : goal.returns-clause-ballot
returns-clause-ballot _ = λ t s place choices valid has may ballot places.
    (valid-with_ballot t s place choices valid may ballot places, choices-with_votes t choices s.bags ballot.0 has)

pub returns-clause-sealing : goal.returns-clause-sealing
returns-clause-sealing _ = valid-sealed_at
