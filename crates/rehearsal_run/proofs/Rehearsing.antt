-- What a rehearsal comes to, of the values that it is made of.
use Rattle.std.proofs.Common.{◌≡◌, false, ℕ, List, [], ◌∷◌, length, Some, refl, sym, ap, subst, ◌∙◌, arith}
use Rattle.std.specs.Prelude.{Contains}
use Rattle.std.proofs.lemmas.List.FromFn.{length-range_with_len}
use Rattle.sha2.specs.Sha256.{sha256}
use Rattle.toml.specs.Text.{IsDocumentText}
use Rattle.urna_outside.specs.declared.device.Dev.TheVariants.{Internal}
use Rattle.election_tables.specs.Roll.{IsRollOf, RollData}
use Rattle.election_tables.specs.Tables.{IsReadAs}
use Rattle.election_tables.specs.TablesData.{TablesData}
use Rattle.key_script.specs.Script.{events_of}
use Rattle.key_script.specs.declared.keys.Event.{Event}
use Rattle.image_codec.specs.State.{State}
use Rattle.image_codec.specs.Valid.{ready_state}
use Rattle.vote_record.specs.RecordText.{record_text}
use Rattle.poll_report.specs.Counted.{report_of}
use Rattle.poll_report.specs.declared.report.Report.{Report}
use Rattle.section_intake.specs.Accepted.{File, accepted_with}
use Rattle.section_intake.specs.Sums.{AreReportsOf}
use Rattle.section_intake.specs.Verdict.{IsReportFile, IsVerdict}
use Rattle.section_intake.specs.declared.verdict.Verdict.{Verdict}
use Rattle.section_intake.specs.declared.verdict.Verdict.TheVariants as verdict
use Rattle.state_store.specs.Load.{IsSectionOf, load_of}
use Rattle.turnout.specs.declared.phase.Phase.TheVariants as phase
use Rattle.state_store.specs.Rest.{rest}
use Rattle.station.specs.Output.{Output}
use Rattle.station.specs.Run.{IsRun}
use Rattle.station.specs.Setting.{setting_of}
use Rattle.result_files.specs.Reports.{report_file}
use Rattle.rehearsal.specs.Document.{document}
use Rattle.rehearsal.specs.Roll.{generated_roll, roll_text, title_at, titles}
use Rattle.rehearsal.specs.Script.{closing_moment, generated_events, opening_moment, script_text}
use Rattle.rehearsal.specs.Tables.{generated_section, generated_tables}
use Rattle.rehearsal_run.specs.Lines.{TellRehearsal}
use Rattle.rehearsal_run.specs.Rehearsed.{IsRehearsed, roll_of, tables_of}
use Rattle.rehearsal_run.specs.Sealed.{IsRehearsal}
use Rattle.rehearsal_run.specs.declared.run.Rehearsal.{Rehearsal}

-- the section is that of the tables
pub section_listed : (n : ℕ) (digest : List ℕ) (t : TablesData) → t ≡ generated_tables n digest → Contains t.sections (generated_section n)
section_listed n digest t is = subst (λ (x : TablesData). Contains x.sections (generated_section n)) (sym is) (0, omega arith, refl)

-- and has as many voters as the roll
pub section_fits : (n : ℕ) (digest other : List ℕ) (t : TablesData) (r : RollData) → t ≡ generated_tables n digest → r ≡ generated_roll n other
    → IsSectionOf t r (generated_section n)
section_fits n digest other t r is_t is_r =
    subst (λ (x : TablesData). IsSectionOf x r (generated_section n)) (sym is_t)
    (subst (λ (y : RollData). IsSectionOf (generated_tables n digest) y (generated_section n)) (sym is_r)
    (record { listed = (0, omega arith, refl); voters = sym (length-range_with_len (title_at 0) n) }))

-- the run of the keys is that of the rehearsal
pub run_of : (n : ℕ) (digest other : List ℕ) (t : TablesData) (r : RollData) (es : List Event) (last : State) → t ≡ generated_tables n digest
    → r ≡ generated_roll n other → es ≡ generated_events n
    → (out : List Output) × IsRun (setting_of t r.titles) (ready_state t (length r.titles)) es last out → (out : List Output) × IsRehearsal n digest last out
run_of n digest other t r es last is_t is_r is_es (out, run) =
    let g = generated_tables n digest in
    let of_tables = subst (λ (x : TablesData). IsRun (setting_of x r.titles) (ready_state x (length r.titles)) es last out) is_t run in
    let of_roll = subst (λ (y : RollData). IsRun (setting_of g y.titles) (ready_state g (length y.titles)) es last out) is_r of_tables in
    let of_voters = subst (λ (k : ℕ). IsRun (setting_of g (titles n)) (ready_state g k) es last out) (length-range_with_len (title_at 0) n) of_roll in
    (out, subst (λ (fs : List Event). IsRun (setting_of g (titles n)) (ready_state g n) fs last out) is_es of_voters)

-- one file was offered, and accepted: its report is the only one
pub only_report : (file : File) (before now : List File) (v : Verdict) (zone number : ℕ) (r : Report) → before ≡ [] → now ≡ accepted_with before v file
    → v ≡ verdict.Accepted zone number → IsReportFile file r → AreReportsOf now (r ∷ [])
only_report file before now v zone number r none is accepted tells =
    let one : now ≡ file ∷ [] =
    is ∙ (ap (λ (l : List File). accepted_with l v file) none ∙ ap (λ (w : Verdict). accepted_with [] w file) accepted)
    in
    subst (λ (l : List File). AreReportsOf l (r ∷ [])) (sym one) (tells, tt)

-- what is so of what was made, by the tables, the roll and the moments
record IsMade (n : ℕ) (x : Rehearsal) (last : State) (t : TablesData) (r : RollData) (opened closed : ℕ) : Type 0 where
  read : IsReadAs x.tables.items t
  roll : IsRollOf x.roll.items r
  flash : x.flash.items ≡ rest t (load_of t r (generated_section n)) Internal last
  report : x.report.items ≡ report_file t (generated_section n) last opened closed
  accepted : IsVerdict t x.report.items (verdict.Accepted 1 1)
  record_file : x.record.items ≡ record_text t (generated_section n) last.bags
  lines : TellRehearsal n t (report_of t (generated_section n) last.bags last.came opened closed) x.lines.items

pub rehearsed_by : (n : ℕ) (x : Rehearsal) (last : State) (out : List Output) (t : TablesData) (r : RollData) (opened closed : ℕ)
    → t ≡ tables_of n x → r ≡ roll_of n x → opened ≡ opening_moment → closed ≡ closing_moment
    → IsDocumentText false (document n) x.tables.items → x.roll.items ≡ roll_text n → x.keys.items ≡ script_text n
    → IsReadAs x.tables.items t → IsRollOf x.roll.items r → events_of x.keys.items ≡ Some (generated_events n) → IsRehearsal n (sha256 x.tables.items) last out
    → last.phase ≡ phase.Sealed opening_moment closing_moment
    → x.flash.items ≡ rest t (load_of t r (generated_section n)) Internal last → x.report.items ≡ report_file t (generated_section n) last opened closed
    → IsVerdict t x.report.items (verdict.Accepted 1 1) → x.record.items ≡ record_text t (generated_section n) last.bags
    → TellRehearsal n t (report_of t (generated_section n) last.bags last.came opened closed) x.lines.items → IsRehearsed n x
rehearsed_by n x last out t r opened closed is_t is_r opens closes printed roll_lines key_lines read roll keys run sealed flash report taken record_file lines =
    let made : IsMade n x last t r opened closed =
    record { read = read; roll = roll; flash = flash; report = report; accepted = taken; record_file = record_file; lines = lines }
    in
    let by_tables = subst (λ (y : TablesData). IsMade n x last y r opened closed) is_t made in
    let by_roll = subst (λ (y : RollData). IsMade n x last (tables_of n x) y opened closed) is_r by_tables in
    let by_opening = subst (λ (m : ℕ). IsMade n x last (tables_of n x) (roll_of n x) m closed) opens by_roll in
    let by_closing = subst (λ (m : ℕ). IsMade n x last (tables_of n x) (roll_of n x) opening_moment m) closes by_opening in
    record {
      printed = printed;
      tables = by_closing.read;
      roll_lines = roll_lines;
      roll = by_closing.roll;
      key_lines = key_lines;
      keys = keys;
      last = last;
      out = out;
      run = run;
      sealed = sealed;
      flash = by_closing.flash;
      report = by_closing.report;
      accepted = by_closing.accepted;
      record_file = by_closing.record_file;
      lines = by_closing.lines;
    }
