-- The errors of parts, as those of a command
use Rattle.urna_base.specs.declared.memory.Memory.{Memory}
use Rattle.urna_outside.specs.declared.cabinet.CabinetError.{CabinetError}
use Rattle.urna_outside.specs.declared.cabinet.CabinetError.TheVariants as take
use Rattle.election_tables.specs.declared.tables.TablesError.{TablesError}
use Rattle.election_tables.specs.declared.tables.TablesError.TheVariants as tables
use Rattle.election_tables.specs.declared.roll.RollError.{RollError}
use Rattle.election_tables.specs.declared.roll.RollError.TheVariants as roll
use Rattle.key_script.specs.declared.text.LineError.{LineError}
use Rattle.record_audit.specs.declared.fault.RecordError.{RecordError}
use Rattle.record_audit.specs.declared.fault.RecordError.TheVariants as unread
use Rattle.seat_certificate.specs.declared.read.CertTextError.{CertTextError}
use Rattle.seat_certificate.specs.declared.read.CertTextError.TheVariants as uncertain
use Rattle.command_parts.specs.declared.error.CommandError.{CommandError}
use Rattle.command_parts.specs.declared.error.CommandError.TheVariants as error
use Rattle.command_parts.specs.declared.error.Doc.{Doc}

-- want of memory
abbrev pub memory_error : Memory → CommandError
memory_error e = error.Memory

-- a file that was not taken
abbrev pub take_error : Doc → CabinetError → CommandError
take_error d take.Memory = error.Memory
take_error d take.Failed = error.Cabinet
take_error d take.Missing = error.Missing d
take_error d take.TooLong = error.TooLong d

-- tables that were not read
abbrev pub tables_error : TablesError → CommandError
tables_error tables.Memory = error.Memory
tables_error tables.NotToml = error.TablesNotToml
tables_error (tables.Rule k) = error.TablesRule k

-- a roll that was not read
abbrev pub roll_error : RollError → CommandError
roll_error roll.Memory = error.Memory
roll_error roll.Count = error.RollCount
roll_error (roll.Line k) = error.RollLine k

-- keys or names with a line at fault
abbrev pub line_error : LineError → CommandError
line_error e = error.Line e.line

-- a record that was not read
abbrev pub record_error : RecordError → CommandError
record_error unread.Memory = error.Memory
record_error (unread.Line k) = error.RecordLine k

-- a certificate that was not read
abbrev pub certificate_error : CertTextError → CommandError
certificate_error uncertain.Memory = error.Memory
certificate_error (uncertain.Line k) = error.CertificateLine k
