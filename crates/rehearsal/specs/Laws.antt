-- Laws of the rehearsal's texts: whichever number of voters from 1 to 600 they are made for, the readers accept them.
use Rattle.std.specs.Prelude.{◌≡◌, ℕ, ◌≤◌, List, None, Some}
use Rattle.sha2.specs.Sha256.{sha256}
use Rattle.election_tables.specs.Limits.{most_voters}
use Rattle.election_tables.specs.Roll.{IsRollOf, IsRollText}
use Rattle.election_tables.specs.Tables.{IsDocument, IsReadAs, KeepsRules}
use Rattle.key_script.specs.Script.{events_of, first_bad}
use Rattle.rehearsal.specs.Document.{document}
use Rattle.rehearsal.specs.Roll.{generated_roll, roll_text}
use Rattle.rehearsal.specs.Script.{generated_events, script_text}
use Rattle.rehearsal.specs.Tables.{generated_tables}

-- each text of the rehearsal's document keeps all rules of the tables, and is read as the rehearsal's tables
abbrev pub TablesAreAccepted : Type 0
TablesAreAccepted =
    (voters : ℕ) (text : List ℕ) → 1 ≤ voters → voters ≤ most_voters → IsDocument text (document voters)
    → KeepsRules text × IsReadAs text (generated_tables voters (sha256 text))

-- the lines of the rehearsal's roll are a roll, and are read as the rehearsal's roll
abbrev pub RollIsAccepted : Type 0
RollIsAccepted =
    (voters : ℕ) → 1 ≤ voters → voters ≤ most_voters
    → IsRollText (roll_text voters) × IsRollOf (roll_text voters) (generated_roll voters (sha256 (roll_text voters)))

-- no line of the rehearsal's keys is outside the form, and they are read as the rehearsal's events
abbrev pub KeysAreAccepted : Type 0
KeysAreAccepted =
    (voters : ℕ) → 1 ≤ voters → voters ≤ most_voters
    → (first_bad (script_text voters) ≡ None) × (events_of (script_text voters) ≡ Some (generated_events voters))
