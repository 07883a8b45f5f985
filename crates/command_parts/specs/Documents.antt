-- The documents of a command: what the cabinet's files hold, and what may be wrong with them
use Rattle.std.specs.Prelude.{◌≡◌, ℕ, ◌≤◌, List, [], ◌∷◌, length, Option, Some, false}
use Rattle.std.specs.Option.{ForSome}
use Rattle.urna_base.specs.Lines.{lines_of}
use Rattle.urna_outside.specs.Cabinet.{Files, Holds, HoldsLonger, Lacks}
use Rattle.election_tables.specs.Roll.{IsRollOf, RollData, HasBadLine, has_count}
use Rattle.election_tables.specs.Tables.{IsReadAs, IsNoDocument, BreaksFirst}
use Rattle.election_tables.specs.TablesData.{IsTables, TablesData}
use Rattle.key_script.specs.Names.{first_bad_name, names_of}
use Rattle.key_script.specs.Script.{events_of, first_bad}
use Rattle.key_script.specs.declared.keys.Event.{Event}
use Rattle.poll_report.specs.declared.report.Report.{Report}
use Rattle.record_audit.specs.Fault.{IsLineFault}
use Rattle.record_audit.specs.Spelling.{Spells}
use Rattle.record_audit.specs.declared.text.RecordText.{RecordText}
use Rattle.seat_certificate.specs.Text.{IsFirstBadLine, Spells as SpellsCertificate}
use Rattle.seat_certificate.specs.declared.certificate.Certificate.{Certificate}
use Rattle.section_intake.specs.Accepted.{File}
use Rattle.section_intake.specs.Verdict.{IsReportFile, most_report_bytes}
use Rattle.command_parts.specs.declared.error.CommandError.{CommandError}
use Rattle.command_parts.specs.declared.error.CommandError.TheVariants as error
use Rattle.command_parts.specs.declared.error.Doc.{Doc}
use Rattle.command_parts.specs.declared.error.Doc.TheVariants as doc

-- the most bytes that a document may have
abbrev pub limit_of : Doc → ℕ
limit_of doc.Tables = 4194304
limit_of doc.Roll = 16384
limit_of doc.Keys = 16777216
limit_of doc.Report = most_report_bytes
limit_of doc.List = 1048576
limit_of doc.Record = 1048576
limit_of doc.Certificate = 1048576

-- These are the bytes of the file of that name, where the cabinet tells its files, and they are no more than the document may have.
pub record IsTaken (files : Option Files) (d : Doc) (name bytes : List ℕ) : Type 0 where
  pub held : ForSome files (Holds name bytes)
  pub short : length bytes ≤ limit_of d

-- what is wrong with the bytes of a document, and the error that says so
pub data IsBad : Doc → List ℕ → CommandError → Type 0 where
  no_document : {bytes : List ℕ} → IsNoDocument bytes → IsBad doc.Tables bytes error.TablesNotToml
  rule : {bytes : List ℕ} {k : ℕ} → BreaksFirst bytes k → IsBad doc.Tables bytes (error.TablesRule k)
  count : {bytes : List ℕ} → has_count (lines_of bytes) ≡ false → IsBad doc.Roll bytes error.RollCount
  roll_line : {bytes : List ℕ} {k : ℕ} → HasBadLine bytes k → IsBad doc.Roll bytes (error.RollLine k)
  line : {bytes : List ℕ} {k : ℕ} → first_bad bytes ≡ Some k → IsBad doc.Keys bytes (error.Line k)
  name_line : {bytes : List ℕ} {k : ℕ} → first_bad_name bytes ≡ Some k → IsBad doc.List bytes (error.Line k)
  record_line : {bytes : List ℕ} {k : ℕ} → IsLineFault bytes k → IsBad doc.Record bytes (error.RecordLine k)
  certificate_line : {bytes : List ℕ} {k : ℕ} → IsFirstBadLine bytes k → IsBad doc.Certificate bytes (error.CertificateLine k)

-- what is wrong with a document, and the error that says so
pub data IsFault (files : Option Files) (name : List ℕ) (d : Doc) : CommandError → Type 0 where
  lacks : ForSome files (Lacks name) → IsFault files name d (error.Missing d)
  longer : ForSome files (HoldsLonger name (limit_of d)) → IsFault files name d (error.TooLong d)
  bad : {bytes : List ℕ} {e : CommandError} → IsTaken files d name bytes → IsBad d bytes e → IsFault files name d e

-- a file of this name is taken, and holds these tables
pub record HasTables (files : Option Files) (name : List ℕ) (t : TablesData) : Type 0 where
  pub bytes : List ℕ
  pub taken : IsTaken files doc.Tables name bytes
  pub read : IsReadAs bytes t
  pub valid : IsTables t

-- a file of this name is taken, and holds this roll
pub record HasRoll (files : Option Files) (name : List ℕ) (r : RollData) : Type 0 where
  pub bytes : List ℕ
  pub taken : IsTaken files doc.Roll name bytes
  pub read : IsRollOf bytes r

-- files of these two names hold these tables and this roll
pub record HasDocuments (files : Option Files) (tables_name roll_name : List ℕ) (t : TablesData) (r : RollData) : Type 0 where
  pub tables : HasTables files tables_name t
  pub roll : HasRoll files roll_name r

-- a file of this name is taken, and holds these events
pub record HasKeys (files : Option Files) (name : List ℕ) (es : List Event) : Type 0 where
  pub bytes : List ℕ
  pub taken : IsTaken files doc.Keys name bytes
  pub read : events_of bytes ≡ Some es

-- a file of this name is taken, and holds these names of files
pub record HasNames (files : Option Files) (name : List ℕ) (listed : List (List ℕ)) : Type 0 where
  pub bytes : List ℕ
  pub taken : IsTaken files doc.List name bytes
  pub read : names_of bytes ≡ Some listed

-- a file of this name is taken, and is that of this report, whatever tables it is of
pub record HasReport (files : Option Files) (name : List ℕ) (p : Report) : Type 0 where
  pub bytes : List ℕ
  pub taken : IsTaken files doc.Report name bytes
  pub read : IsReportFile bytes p

-- a file of this name is taken, and is the text of this record
pub record HasRecord (files : Option Files) (name : List ℕ) (r : RecordText) : Type 0 where
  pub bytes : List ℕ
  pub taken : IsTaken files doc.Record name bytes
  pub read : Spells bytes r

-- a file of this name is taken, and is the text of this certificate of the office of a code
pub record HasCertificate (files : Option Files) (name : List ℕ) (code : ℕ) (c : Certificate) : Type 0 where
  pub bytes : List ℕ
  pub taken : IsTaken files doc.Certificate name bytes
  pub read : SpellsCertificate bytes code c

-- the files of these names hold these reports
abbrev pub AreTaken : Option Files → List (List ℕ) → List File → Type 0
AreTaken files [] [] = Unit {0}
AreTaken files [] (bytes ∷ taken) = ⊥
AreTaken files (name ∷ names) [] = ⊥
AreTaken files (name ∷ names) (bytes ∷ taken) = IsTaken files doc.Report name bytes × AreTaken files names taken

-- files of these two names hold these tables, and the names of these reports
pub record IsListed (files : Option Files) (tables_name list_name : List ℕ) (t : TablesData) (listed : List (List ℕ)) : Type 0 where
  pub tables : HasTables files tables_name t
  pub list : HasNames files list_name listed

-- The tables or another document of this name are at fault, and this error says it: the tables are tried first.
pub data IsFirstFault (files : Option Files) (tables : List ℕ) (d : Doc) (name : List ℕ) : CommandError → Type 0 where
  first_tables : {e : CommandError} → IsFault files tables doc.Tables e → IsFirstFault files tables d name e
  first_other : {t : TablesData} {e : CommandError} → HasTables files tables t → IsFault files name d e → IsFirstFault files tables d name e
