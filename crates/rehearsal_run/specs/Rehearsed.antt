-- What a rehearsal comes to: its six files and its ten lines.
use Rattle.std.specs.Prelude.{◌≡◌, ℕ, List, Some, false}
use Rattle.sha2.specs.Sha256.{sha256}
use Rattle.toml.specs.Text.{IsDocumentText}
use Rattle.urna_outside.specs.declared.device.Dev.TheVariants.{Internal}
use Rattle.election_tables.specs.Roll.{IsRollOf, RollData}
use Rattle.election_tables.specs.Tables.{IsReadAs}
use Rattle.election_tables.specs.TablesData.{TablesData}
use Rattle.key_script.specs.Script.{events_of}
use Rattle.turnout.specs.declared.phase.Phase.TheVariants as phase
use Rattle.image_codec.specs.State.{State}
use Rattle.vote_record.specs.RecordText.{record_text}
use Rattle.poll_report.specs.Counted.{report_of}
use Rattle.state_store.specs.Load.{load_of}
use Rattle.state_store.specs.Rest.{rest}
use Rattle.station.specs.Output.{Output}
use Rattle.section_intake.specs.Verdict.{IsVerdict}
use Rattle.section_intake.specs.declared.verdict.Verdict.TheVariants as verdict
use Rattle.result_files.specs.Reports.{report_file}
use Rattle.rehearsal.specs.Document.{document}
use Rattle.rehearsal.specs.Roll.{generated_roll, roll_text}
use Rattle.rehearsal.specs.Script.{closing_moment, generated_events, opening_moment, script_text}
use Rattle.rehearsal.specs.Tables.{generated_section, generated_tables}
use Rattle.rehearsal_run.specs.Lines.{TellRehearsal}
use Rattle.rehearsal_run.specs.Sealed.{IsRehearsal}
use Rattle.rehearsal_run.specs.declared.run.Rehearsal.{Rehearsal}

-- the tables of so many voters, with the digest of this text
abbrev pub tables_of : ℕ → Rehearsal → TablesData
tables_of voters r = generated_tables voters (sha256 r.tables.items)

-- and the roll
abbrev pub roll_of : ℕ → Rehearsal → RollData
roll_of voters r = generated_roll voters (sha256 r.roll.items)

-- The texts of the rehearsal of so many voters are its document as `toml` prints it, and the lines of its roll and its keys; they are read
-- as its tables, its roll and its events. The run of these events from the state before the poll leads to a last state, which is sealed at
-- the moments of the keys. The flash is the internal device at rest with that state, the files of results are those of its poll, its
-- report is accepted, and the lines tell it.
pub record IsRehearsed (voters : ℕ) (r : Rehearsal) : Type 0 where
  pub printed : IsDocumentText false (document voters) r.tables.items
  pub tables : IsReadAs r.tables.items (tables_of voters r)
  pub roll_lines : r.roll.items ≡ roll_text voters
  pub roll : IsRollOf r.roll.items (roll_of voters r)
  pub key_lines : r.keys.items ≡ script_text voters
  pub keys : events_of r.keys.items ≡ Some (generated_events voters)
  pub last : State
  pub out : List Output
  pub run : IsRehearsal voters (sha256 r.tables.items) last out
  pub sealed : last.phase ≡ phase.Sealed opening_moment closing_moment
  pub flash : r.flash.items ≡ rest (tables_of voters r) (load_of (tables_of voters r) (roll_of voters r) (generated_section voters)) Internal last
  pub report : r.report.items ≡ report_file (tables_of voters r) (generated_section voters) last opening_moment closing_moment
  pub record_file : r.record.items ≡ record_text (tables_of voters r) (generated_section voters) last.bags
  pub accepted : IsVerdict (tables_of voters r) r.report.items (verdict.Accepted 1 1)
  pub lines : TellRehearsal voters (tables_of voters r)
      (report_of (tables_of voters r) (generated_section voters) last.bags last.came opening_moment closing_moment) r.lines.items
