-- What an error of taking or reading says of a document
use Rattle.std.proofs.Common.{◌≡◌, ◌≢◌, ℕ, List, Option, false, refl}
use Rattle.std.specs.Option.{ForSome}
use Rattle.urna_base.specs.Lines.{lines_of}
use Rattle.urna_outside.specs.Cabinet.{Files, Lacks, HoldsLonger}
use Rattle.urna_outside.specs.declared.cabinet.CabinetError.{CabinetError}
use Rattle.urna_outside.specs.declared.cabinet.CabinetError.TheVariants as take
use Rattle.election_tables.specs.Roll.{HasBadLine, has_count}
use Rattle.election_tables.specs.Tables.{IsNoDocument, BreaksFirst}
use Rattle.election_tables.specs.declared.roll.RollError.{RollError}
use Rattle.election_tables.specs.declared.roll.RollError.TheVariants as unread_roll
use Rattle.election_tables.specs.declared.tables.TablesError.{TablesError}
use Rattle.election_tables.specs.declared.tables.TablesError.TheVariants as unread_tables
use Rattle.record_audit.specs.Fault.{IsLineFault}
use Rattle.record_audit.specs.declared.fault.RecordError.{RecordError}
use Rattle.record_audit.specs.declared.fault.RecordError.TheVariants as unread
use Rattle.seat_certificate.specs.Text.{IsFirstBadLine}
use Rattle.seat_certificate.specs.declared.read.CertTextError.{CertTextError}
use Rattle.seat_certificate.specs.declared.read.CertTextError.TheVariants as uncertain
use Rattle.command_parts.specs.Documents.{IsTaken, IsFault, limit_of, lacks, longer, bad, certificate_line, no_document, rule, count, record_line, roll_line}
use Rattle.command_parts.specs.Errors.{certificate_error, record_error, take_error, tables_error, roll_error}
use Rattle.command_parts.specs.declared.error.Doc.{Doc}
use Rattle.command_parts.specs.declared.error.Doc.TheVariants as doc
use Rattle.command_parts.specs.declared.error.CommandError.TheVariants as error

pub not_taken : (files : Option Files) (name : List ℕ) (d : Doc) (e : CabinetError) → (e ≡ take.Missing → ForSome files (Lacks name))
    → (e ≡ take.TooLong → ForSome files (HoldsLonger name (limit_of d))) → take_error d e ≢ error.Memory → take_error d e ≢ error.Cabinet → IsFault files name d (take_error d e)
not_taken files name d take.Memory missing long memory failed = absurd (memory refl)
not_taken files name d take.Failed missing long memory failed = absurd (failed refl)
not_taken files name d take.Missing missing long memory failed = lacks (missing refl)
not_taken files name d take.TooLong missing long memory failed = longer (long refl)

pub not_tables : (files : Option Files) (name bytes : List ℕ) (e : TablesError) → IsTaken files doc.Tables name bytes → (e ≡ unread_tables.NotToml → IsNoDocument bytes)
    → ((k : ℕ) → e ≡ unread_tables.Rule k → BreaksFirst bytes k) → tables_error e ≢ error.Memory → IsFault files name doc.Tables (tables_error e)
not_tables files name bytes unread_tables.Memory taken toml broken memory = absurd (memory refl)
not_tables files name bytes unread_tables.NotToml taken toml broken memory = bad taken (no_document (toml refl))
not_tables files name bytes (unread_tables.Rule k) taken toml broken memory = bad taken (rule (broken k refl))

pub no_roll : (files : Option Files) (name bytes : List ℕ) (e : RollError) → IsTaken files doc.Roll name bytes → (e ≡ unread_roll.Count → has_count (lines_of bytes) ≡ false)
    → ((k : ℕ) → e ≡ unread_roll.Line k → HasBadLine bytes k) → roll_error e ≢ error.Memory → IsFault files name doc.Roll (roll_error e)
no_roll files name bytes unread_roll.Memory taken counted lined memory = absurd (memory refl)
no_roll files name bytes unread_roll.Count taken counted lined memory = bad taken (count (counted refl))
no_roll files name bytes (unread_roll.Line k) taken counted lined memory = bad taken (roll_line (lined k refl))

pub no_record : (files : Option Files) (name bytes : List ℕ) (e : RecordError) → IsTaken files doc.Record name bytes
    → ((k : ℕ) → e ≡ unread.Line k → IsLineFault bytes k) → record_error e ≢ error.Memory → IsFault files name doc.Record (record_error e)
no_record files name bytes unread.Memory taken lined memory = absurd (memory refl)
no_record files name bytes (unread.Line k) taken lined memory = bad taken (record_line (lined k refl))

pub no_certificate : (files : Option Files) (name bytes : List ℕ) (e : CertTextError) → IsTaken files doc.Certificate name bytes
    → ((k : ℕ) → e ≡ uncertain.Line k → IsFirstBadLine bytes k) → certificate_error e ≢ error.Memory → IsFault files name doc.Certificate (certificate_error e)
no_certificate files name bytes uncertain.Memory taken lined memory = absurd (memory refl)
no_certificate files name bytes (uncertain.Line k) taken lined memory = bad taken (certificate_line (lined k refl))
