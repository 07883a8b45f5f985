use Rattle.std.proofs.Common.{◌≡◌, ℕ, List, Ok, sym, ◌∙◌}
use Rattle.sha2.specs.Sha256.{sha256}
use Rattle.election_tables.specs.Roll.{IsRollOf}
use Rattle.rehearsal.specs.Roll.{generated_roll}
use Rattle.rehearsal.proofs.readers.read_roll.Goals as goal

pub returns-clause-roll : goal.returns-clause-roll
returns-clause-roll c =
    let bytes : List ℕ = c.in_ok-text.text.items in
    let answered : c.read.result ≡ Ok c.unwrap.result = sym c.in_ok-answer.ensures.answer.0 ∙ c.unwrap.ensures in
    let read : IsRollOf bytes c.unwrap.result = rw (c.deref.ensures.value, answered) at c.read.ensures.ok in
    c.reading_is_determined.ensures.roll bytes c.unwrap.result (generated_roll c.args.n (sha256 bytes)) read c.in_ok-text.ensures.read
