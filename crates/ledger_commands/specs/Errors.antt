-- The errors of statuses, the statuses of errors, and the lines that tell them
use Rattle.std.specs.Prelude.{ℕ, List, Option, Some, None}
use Rattle.std.specs.Option.{option_and_then}
use Rattle.urna_base.specs.declared.memory.Memory.{Memory}
use Rattle.urna_outside.specs.Told.{port_of}
use Rattle.urna_outside.specs.declared.device.Port.{Port}
use Rattle.urna_outside.specs.declared.device.Port.TheVariants.{Internal, External, Display}
use Rattle.command_parts.specs.FaultLines.{error_text}
use Rattle.command_parts.specs.declared.error.CommandError.{CommandError}
use Rattle.command_parts.specs.declared.error.CommandError.TheVariants as error
use Rattle.command_parts.specs.declared.error.Doc.{Doc}
use Rattle.command_parts.specs.declared.error.Doc.TheVariants as both
use Rattle.intake_ledger.specs.declared.ledger.LedgerError.{LedgerError}
use Rattle.intake_ledger.specs.declared.ledger.LedgerError.TheVariants as ledger
use Rattle.intake_ledger.specs.declared.ledger.OfferError.{OfferError}
use Rattle.intake_ledger.specs.declared.ledger.OfferError.TheVariants as offer
use Rattle.ledger_commands.specs.declared.status.LedgerDoc.{LedgerDoc}
use Rattle.ledger_commands.specs.declared.status.LedgerDoc.TheVariants as doc
use Rattle.ledger_commands.specs.declared.status.LedgerStatus.{LedgerStatus}
use Rattle.ledger_commands.specs.declared.status.LedgerStatus.TheVariants as status

-- the document of both programs
abbrev pub doc_of : LedgerDoc → Doc
doc_of doc.Tables = both.Tables
doc_of doc.Report = both.Report
doc_of doc.List = both.List

-- the error that a status tells, of those that both programs have
abbrev pub error_of : LedgerStatus → Option CommandError
error_of status.Memory = Some error.Memory
error_of status.Usage = Some error.Usage
error_of status.TablesNotToml = Some error.TablesNotToml
error_of (status.TablesRule k) = Some (error.TablesRule k)
error_of (status.Line k) = Some (error.Line k)
error_of (status.TooLong d) = Some (error.TooLong (doc_of d))
error_of (status.Missing d) = Some (error.Missing (doc_of d))
error_of status.Cabinet = Some error.Cabinet
error_of (status.Foreign d) = Some (error.Foreign d)
error_of status.NoImage = Some error.NoImage
error_of (status.Busy d) = Some (error.Busy d)
error_of status.Done = None
error_of (status.SomeRefused k) = None
error_of status.InternalFlash = None
error_of status.ExternalFlash = None
error_of status.Display = None

-- what stands behind ERRO, where a status has a line
abbrev pub fault_text : LedgerStatus → Option (List ℕ)
fault_text s = option_and_then error_text (error_of s)

-- ---- which errors of both programs this one has

-- it takes the document
abbrev pub IsOfLedgerDoc : Doc → Type 0
IsOfLedgerDoc both.Tables = Unit {0}
IsOfLedgerDoc both.Report = Unit {0}
IsOfLedgerDoc both.List = Unit {0}
IsOfLedgerDoc both.Roll = ⊥
IsOfLedgerDoc both.Keys = ⊥
IsOfLedgerDoc both.Record = ⊥
IsOfLedgerDoc both.Certificate = ⊥

-- all but those of a document that it doesn't take
abbrev pub IsOfLedger : CommandError → Type 0
IsOfLedger error.Memory = Unit {0}
IsOfLedger error.Usage = Unit {0}
IsOfLedger error.TablesNotToml = Unit {0}
IsOfLedger (error.TablesRule k) = Unit {0}
IsOfLedger (error.Line k) = Unit {0}
IsOfLedger (error.TooLong d) = IsOfLedgerDoc d
IsOfLedger (error.Missing d) = IsOfLedgerDoc d
IsOfLedger error.Cabinet = Unit {0}
IsOfLedger (error.Foreign d) = Unit {0}
IsOfLedger error.NoImage = Unit {0}
IsOfLedger (error.Busy d) = Unit {0}
IsOfLedger error.RollCount = ⊥
IsOfLedger (error.RollLine k) = ⊥
IsOfLedger (error.RecordLine k) = ⊥
IsOfLedger (error.CertificateLine k) = ⊥

-- ---- the statuses of other errors

-- want of memory
abbrev pub memory_status : Memory → LedgerStatus
memory_status e = status.Memory

-- a port that failed
abbrev pub port_status : Port → LedgerStatus
port_status Internal = status.InternalFlash
port_status External = status.ExternalFlash
port_status Display = status.Display

-- a ledger that was not laid, or not found
abbrev pub ledger_status : LedgerError → LedgerStatus
ledger_status ledger.Memory = status.Memory
ledger_status (ledger.Flash d) = port_status (port_of d)
ledger_status (ledger.Foreign d) = status.Foreign d
ledger_status ledger.NoImage = status.NoImage
ledger_status (ledger.Busy d) = status.Busy d

-- an offer whose verdict was not told
abbrev pub offer_status : OfferError → LedgerStatus
offer_status (offer.Memory l) = status.Memory
offer_status (offer.Port p) = port_status p
