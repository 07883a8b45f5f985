use Rattle.std.proofs.Common.{◌≡◌, ℕ, List, Option, None, Some, IsSome, MatchOption, refl}
use Rattle.key_script.specs.Script.{events_of, first_bad}
use Rattle.key_script.specs.declared.keys.Event.{Event}
use Rattle.key_script.proofs.ScriptLaws.{events_or_bad}
use Rattle.rehearsal.specs.Script.{generated_events, script_text}
use Rattle.rehearsal.proofs.Events.{script_read}
use Rattle.rehearsal.proofs.Reading.{document_read}
use Rattle.rehearsal.proofs.Titles.{roll_read}
use Rattle.rehearsal.proofs.laws.no_text_is_refused.Goals as goal

pub returns-clause-tables : goal.returns-clause-tables
returns-clause-tables c = λ voters text some few is.
    let read = document_read voters text some few is.0 is.1 in
    (record { members = read.members; parsed = read.parsed; kept = read.kept }, read)

pub returns-clause-roll : goal.returns-clause-roll
returns-clause-roll c = λ voters some few.
    let read = roll_read voters _ some few refl in
    (record { count = read.count; lines = read.lines }, read)

-- where there are events, no line is bad
none_bad : (bad : Option ℕ) (events : Option (List Event)) (read : List Event) → MatchOption bad (IsSome events) (λ _. events ≡ None) → events ≡ Some read → bad ≡ None
none_bad None events read h e = refl
none_bad (Some k) events read h e = absurd (cc)

pub returns-clause-keys : goal.returns-clause-keys
returns-clause-keys c = λ voters some few.
    let read = script_read voters _ few refl in
    (none_bad (first_bad (script_text voters)) (events_of (script_text voters)) (generated_events voters) (events_or_bad (script_text voters)) read, read)
