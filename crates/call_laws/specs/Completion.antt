-- Calls that have what they need and meet no fault: they do all their steps, or memory was wanted
use Rattle.std.specs.Prelude.{◌≡◌, ◌⊎◌, ℕ, Bool, true, false, List, [], Option, Some}
use Rattle.std.specs.Option.{IsSomeAnd}
use Rattle.urna_outside.specs.Cabinet.{CabinetTold, Files}
use Rattle.urna_outside.specs.Flash.{Flashes}
use Rattle.urna_outside.specs.Told.{Rose, Told}
use Rattle.election_tables.specs.Roll.{RollData}
use Rattle.election_tables.specs.TablesData.{TablesData}
use Rattle.election_tables.specs.declared.tables.sections.Section.{Section}
use Rattle.key_script.specs.declared.keys.Event.{Event}
use Rattle.turnout.specs.declared.phase.Phase.TheVariants as phase
use Rattle.image_codec.specs.State.{State}
use Rattle.section_intake.specs.Accepted.{File}
use Rattle.section_intake.specs.declared.verdict.Verdict.{Verdict}
use Rattle.poll_report.specs.declared.report.Report.{Report}
use Rattle.seat_certificate.specs.declared.certificate.Certificate.{Certificate}
use Rattle.record_audit.specs.Finding.{finding}
use Rattle.record_audit.specs.declared.text.RecordText.{RecordText}
use Rattle.state_store.specs.Rest.{AreFree}
use Rattle.state_store.specs.Calls.{AreFound}
use Rattle.contingency.specs.Replaced.{IsReplaced}
use Rattle.command_parts.specs.Taking.{NothingFailed}
use Rattle.urna_commands.specs.Carga.{IsSectionAsked}
use Rattle.urna_commands.specs.Certifica.{IsByContest}
use Rattle.urna_commands.specs.Command.{Carga, Certifica, Command, Confere, Emite, Reconta, Repoe, ToCertify, ToCheck, ToEmit, ToLoad, ToRecount, ToRehearse, ToReplace, ToTotal, ToVerify, ToVote, Totaliza, Verifica, Vota, command_of}
use Rattle.command_parts.specs.Documents.{HasCertificate, HasDocuments, HasTables, IsTaken}
use Rattle.urna_commands.specs.Ending.{Ends}
use Rattle.urna_commands.specs.Findings.{finding_status}
use Rattle.urna_commands.specs.Office.{HasOfficeAndReports}
use Rattle.urna_commands.specs.Reconta.{HasRecordAndReport}
use Rattle.report_lines.specs.Verdicts.{refused_count}
use Rattle.command_parts.specs.Documents.{AreTaken, IsListed}
use Rattle.urna_commands.specs.Offered.{HasOffered}
use Rattle.urna_commands.specs.Totaliza.{refused_status}
use Rattle.urna_commands.specs.Verifica.{IsByCheck}
use Rattle.urna_commands.specs.Vota.{IsGiven}
use Rattle.command_parts.specs.declared.error.Doc.TheVariants as doc
use Rattle.urna_commands.specs.declared.status.Status.{Status}
use Rattle.urna_commands.specs.declared.status.Status.TheVariants as status

-- the call did all its steps, or memory was wanted
abbrev pub IsDoneOrMemory : Status → Type 0
IsDoneOrMemory s = (s ≡ status.Done) ⊎ (s ≡ status.Memory)

-- the status tells of a fault of the cabinet or of a port, of a name not found, or of a file found too long
abbrev pub tells_of_count : Status → Bool
tells_of_count status.Cabinet = true
tells_of_count (status.Missing d) = true
tells_of_count (status.TooLong d) = true
tells_of_count status.InternalFlash = true
tells_of_count status.ExternalFlash = true
tells_of_count status.Display = true
tells_of_count status.Done = false
tells_of_count status.Memory = false
tells_of_count status.Usage = false
tells_of_count status.TablesNotToml = false
tells_of_count (status.TablesRule k) = false
tells_of_count status.RollCount = false
tells_of_count (status.RollLine k) = false
tells_of_count (status.Line k) = false
tells_of_count (status.ReportRefused v) = false
tells_of_count (status.SomeRefused k) = false
tells_of_count (status.RecordLine k) = false
tells_of_count (status.Disagrees f) = false
tells_of_count (status.CertificateLine k) = false
tells_of_count (status.CertificateRefused f) = false
tells_of_count (status.Foreign d) = false
tells_of_count status.NoImage = false
tells_of_count (status.Busy d) = false
tells_of_count status.NotSealed = false
tells_of_count status.NoSection = false
tells_of_count (status.NoStanding d) = false
tells_of_count status.NoOffice = false
tells_of_count status.NoSeats = false

-- ---- what the commands need

-- the files of these names are tables and a roll of a section that is asked for, and neither flash is in use
pub record CanLoad (names : Carga) (files : Option Files) (flashes : Flashes) : Type 0 where
  pub t : TablesData
  pub r : RollData
  pub section : Section
  pub given : HasDocuments files names.tables names.roll t r
  pub asked : IsSectionAsked names t r section
  pub free : AreFree flashes

-- the files of these names are tables, a roll and keys, and the flashes hold a poll of this load, as after a load and after any session,
-- wherever it was stopped
pub record CanVote (names : Vota) (files : Option Files) (flashes : Flashes) : Type 0 where
  pub t : TablesData
  pub r : RollData
  pub es : List Event
  pub section : Section
  pub state : State
  pub given : IsGiven files names t r es
  pub found : AreFound t r section state flashes

-- the files of these names are tables and a roll, and the flashes hold a sealed poll of this load
pub record CanEmit (names : Emite) (files : Option Files) (flashes : Flashes) : Type 0 where
  pub t : TablesData
  pub r : RollData
  pub section : Section
  pub state : State
  pub opened : ℕ
  pub closed : ℕ
  pub given : HasDocuments files names.tables names.roll t r
  pub found : AreFound t r section state flashes
  pub sealed : state.phase ≡ phase.Sealed opened closed

-- the files of these names are tables, and one no longer than a report may be
pub record CanCheck (names : Confere) (files : Option Files) : Type 0 where
  pub t : TablesData
  pub bytes : List ℕ
  pub tables : HasTables files names.tables t
  pub report : IsTaken files doc.Report names.report bytes

-- the files of these names are tables and a list, and each listed report is there and no longer than a report may be
pub record CanTotal (names : Totaliza) (files : Option Files) : Type 0 where
  pub t : TablesData
  pub listed : List (List ℕ)
  pub given : IsListed files names.tables names.list t listed
  pub reports : List File
  pub taken : AreTaken files listed reports

-- the files of these names are tables and a roll, the flash that was replaced isn't in use, and the one beside it stands for a poll of this load
pub record CanReplace (names : Repoe) (files : Option Files) (flashes : Flashes) : Type 0 where
  pub t : TablesData
  pub r : RollData
  pub section : Section
  pub state : State
  pub given : HasDocuments files names.tables names.roll t r
  pub replaced : IsReplaced t r section state names.replaced flashes

-- the files of these names are that of a report and the text of a record
pub record CanRecount (names : Reconta) (files : Option Files) : Type 0 where
  pub r : RecordText
  pub p : Report
  pub given : HasRecordAndReport files names r p

-- the files of these names are tables with the proportional office of that code, and a list, and each listed report is there and no longer than a
-- report may be
abbrev pub CanCertify : Certifica → Option Files → Type 0
CanCertify names files = HasOfficeAndReports files names.tables names.list names.code

-- they are so, and the file of the certificate is one of that office
pub record CanVerify (names : Verifica) (files : Option Files) : Type 0 where
  pub given : HasOfficeAndReports files names.tables names.list names.code
  pub certificate : Certificate
  pub certificate_is : HasCertificate files names.certificate names.code certificate

-- the status that the verdicts on all listed reports give
pub record IsByVerdicts (names : Totaliza) (files : Option Files) (s : Status) : Type 0 where
  pub t : TablesData
  pub listed : List (List ℕ)
  pub given : IsListed files names.tables names.list t listed
  pub verdicts : List Verdict
  pub accepted : List File
  pub offered : HasOffered files t listed [] verdicts accepted
  pub is : s ≡ refused_status (refused_count verdicts)

-- the status that the recount of the files gives
pub record IsByFinding (names : Reconta) (files : Option Files) (s : Status) : Type 0 where
  pub r : RecordText
  pub p : Report
  pub given : HasRecordAndReport files names r p
  pub is : s ≡ finding_status (finding r p)

-- ---- and then they complete

-- a command has what it needs: the cabinet tells its files, one that works on the flashes finds them told too, and they are as they have to be
abbrev pub CanDo : Command → Option Files → Option Flashes → Type 0
CanDo (ToVote names) files flashes = IsSomeAnd files (λ f. IsSomeAnd flashes (CanVote names (Some f)))
CanDo (ToLoad names) files flashes = IsSomeAnd files (λ f. IsSomeAnd flashes (CanLoad names (Some f)))
CanDo (ToEmit names) files flashes = IsSomeAnd files (λ f. IsSomeAnd flashes (CanEmit names (Some f)))
CanDo (ToCheck names) files flashes = IsSomeAnd files (λ f. CanCheck names (Some f))
CanDo (ToTotal names) files flashes = IsSomeAnd files (λ f. CanTotal names (Some f))
CanDo (ToRehearse voters) files flashes = Unit
CanDo (ToReplace names) files flashes = IsSomeAnd files (λ f. IsSomeAnd flashes (CanReplace names (Some f)))
CanDo (ToRecount names) files flashes = IsSomeAnd files (λ f. CanRecount names (Some f))
CanDo (ToCertify names) files flashes = IsSomeAnd files (λ f. CanCertify names (Some f))
CanDo (ToVerify names) files flashes = IsSomeAnd files (λ f. CanVerify names (Some f))

-- and so it ends: a check may refuse the report besides; of the totals the verdicts say, of a recount what it finds, and of a certificate whether the
-- contest comes to seats, or what its check comes to
abbrev pub Completes : Command → Option Files → Status → Type 0
Completes (ToVote names) files s = IsDoneOrMemory s
Completes (ToLoad names) files s = IsDoneOrMemory s
Completes (ToEmit names) files s = IsDoneOrMemory s
Completes (ToCheck names) files s = IsDoneOrMemory s ⊎ ((v : Verdict) × (s ≡ status.ReportRefused v))
Completes (ToTotal names) files s = IsByVerdicts names files s ⊎ (s ≡ status.Memory)
Completes (ToRehearse voters) files s = IsDoneOrMemory s
Completes (ToReplace names) files s = IsDoneOrMemory s
Completes (ToRecount names) files s = IsByFinding names files s ⊎ (s ≡ status.Memory)
Completes (ToCertify names) files s = IsByContest files names s ⊎ (s ≡ status.Memory)
Completes (ToVerify names) files s = IsByCheck files names s ⊎ (s ≡ status.Memory)

-- Where the cabinet tells its files and the machine its flashes, a call of the program that has what its command needs, and in which no
-- count of faults rose, does all its steps, or memory was wanted.
abbrev pub CompletesWhereItCan : Type 0
CompletesWhereItCan = (words : List (List ℕ)) (command : Command) (c d : CabinetTold) (m n : Told) (s : Status) → command_of words ≡ Some command
    → NothingFailed c d m n → Ends words c d m n s → CanDo command c.files m.flashes → Completes command c.files s

-- Of any cabinet and machine: where no count rose in a call, also not that of names not found or of files found too long, the status tells
-- of none.
abbrev pub TellsOfRisenCounts : Type 0
TellsOfRisenCounts = (words : List (List ℕ)) (c d : CabinetTold) (m n : Told) (s : Status) → NothingFailed c d m n
    → ¬ Rose c.tally.missing d.tally.missing → ¬ Rose c.tally.too_long d.tally.too_long → Ends words c d m n s → tells_of_count s ≡ false
