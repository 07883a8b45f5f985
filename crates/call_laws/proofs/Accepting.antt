-- The report that a call put is accepted by the next
use Rattle.urna_commands.specs.Putting.{report_name}
use Rattle.std.specs.Option.{ForSome}
use Rattle.command_parts.specs.declared.error.Doc.{Doc}
use Rattle.state_store.specs.Calls.{AreFound}
use Rattle.std.proofs.Common.{◌≡◌, ◌≢◌, ◌⊎◌, inl, inr, ℕ, List, [], ◌∷◌, Option, Some, refl, ap, subst, ◌∙◌}
use Rattle.std.specs.Prelude.{Contains}
use Rattle.urna_outside.specs.Cabinet.{CabinetTold, Files, Holds, file_at}
use Rattle.urna_outside.specs.ShownLines.{HasShown}
use Rattle.urna_outside.specs.Told.{Told}
use Rattle.urna_outside.specs.declared.device.Dev.TheVariants as dev
use Rattle.election_tables.specs.Roll.{RollData}
use Rattle.election_tables.specs.TablesData.{TablesData}
use Rattle.election_tables.specs.declared.tables.sections.Section.{Section}
use Rattle.turnout.specs.declared.phase.Phase.TheVariants as phase
use Rattle.section_intake.specs.declared.verdict.Verdict.{Verdict}
use Rattle.section_intake.specs.declared.verdict.Verdict.TheVariants as verdict
use Rattle.image_codec.specs.Encoding.{IsStateOf}
use Rattle.image_codec.specs.State.{State}
use Rattle.state_store.specs.declared.store.StoreError.{StoreError}
use Rattle.state_store.specs.declared.store.StoreError.TheVariants as store
use Rattle.result_files.specs.Reports.{report_file}
use Rattle.result_files.proofs.Reports.{sealed_is_accepted}
use Rattle.call_laws.specs.Accepting.{EmittedIsAccepted, IsAccepted, VotedIsAccepted, IsOwnName}
use Rattle.urna_commands.specs.Command.{Confere, Emite}
use Rattle.urna_commands.specs.Confere.{ConfereEnds, HasVerdict, check_no_cabinet, check_no_memory, check_not_told, check_refused, checked}
use Rattle.command_parts.specs.Documents.{HasDocuments, HasTables}
use Rattle.urna_commands.specs.Documents.{IsFirstFault}
use Rattle.call_laws.specs.AtRest.{AreResults, both_files, no_files}
use Rattle.urna_commands.specs.Emite.{EmiteEnds, emit_no_cabinet, emit_no_memory, emit_refused, emitted, files_stopped, not_emitted, not_found, not_sealed}
use Rattle.urna_commands.specs.Emite.{no_files as no_files_made}
use Rattle.urna_commands.specs.Errors.{store_status}
use Rattle.report_lines.specs.Verdicts.{verdict_line}
use Rattle.urna_commands.specs.Verdicts.{verdict_status}
use Rattle.command_parts.specs.declared.error.Doc.TheVariants as doc
use Rattle.urna_commands.specs.declared.status.Status.{Status}
use Rattle.urna_commands.specs.declared.status.Status.TheVariants as status
use Rattle.call_laws.proofs.AtRest.{done_is_whole}
use Rattle.urna_commands.proofs.Once.{one_verdict_on, refused_or_checked}
use Rattle.call_laws.proofs.PutFiles.{both_are_there}

-- what a name has of the files that there are
pub there : (name bytes : List ℕ) (now x : Files) → Some now ≡ Some x → Holds name bytes now → Holds name bytes x
there name bytes now x is held =
    let same : now ≡ x = cc in
    subst (Holds name bytes) same held

-- tables whose name stays are there still
pub tables_stay : (name : List ℕ) (t : TablesData) (before now : Files) → file_at name now ≡ file_at name before → HasTables (Some before) name t → HasTables (Some now) name t
tables_stay name t before now same has =
    record {
      bytes = has.bytes;
      taken = record { held = λ x is. there name has.bytes now x is (same ∙ has.taken.held before refl); short = has.taken.short };
      read = has.read;
      valid = has.valid;
    }

module _ (now : Files) (tables out : List ℕ) (t : TablesData) (section : Section) (s : State) (opened closed : ℕ) (has : HasTables (Some now) tables t) (listed : Contains t.sections section)
    (of : IsStateOf t section.voters s) (sealed : s.phase ≡ phase.Sealed opened closed) (held : Holds (report_name out) (report_file t section s opened closed) now) where
  abbrev names : Confere
  names = record { tables = tables; report = report_name out }

  abbrev fine : Verdict
  fine = verdict.Accepted section.zone section.number

  verdict_there : HasVerdict (Some now) names fine
  verdict_there =
      let ok = sealed_is_accepted t section s opened closed has.valid listed of sealed in
      record {
        t = t;
        bytes = report_file t section s opened closed;
        tables = has;
        report = record { held = λ x is. there (report_name out) (report_file t section s opened closed) now x is held; short = ok.0 };
        verdict = ok.1;
      }

  abbrev Result : Told → Told → Status → Type 0
  Result m n answer = ((answer ≡ status.Done) × HasShown (verdict_line fine ∷ []) m n) ⊎ (answer ≡ status.Memory) ⊎ (answer ≡ status.Cabinet) ⊎ (answer ≡ status.Display)

  confere_tells : (c d : CabinetTold) (m n : Told) (answer : Status) → c.files ≡ Some now → ConfereEnds names c d m n answer → Result m n answer
  confere_tells c d m n answer told (check_refused why taken un) =
      absurd (refused_or_checked now names answer fine (subst (λ (o : Option Files). IsFirstFault o tables doc.Report (report_name out) answer) told why) verdict_there)
  confere_tells c d m n _ told (check_no_memory taken un) = inr (inl refl)
  confere_tells c d m n _ told (check_no_cabinet taken un) = inr (inr (inl refl))
  confere_tells c d m n _ told (check_not_told is taken off) = inr (inr (inr refl))
  confere_tells c d m n _ told (checked {v} is taken shown) =
      let same : v ≡ fine = one_verdict_on now names v fine (subst (λ (o : Option Files). HasVerdict o names v) told is) verdict_there in
      inl (ap verdict_status same, subst (λ (w : Verdict). HasShown (verdict_line w ∷ []) m n) same shown)

  pub accepted_after : (d : CabinetTold) → d.files ≡ Some now → IsAccepted tables out section d
  accepted_after d told c e m n answer ends same = confere_tells c e m n answer (same ∙ told) ends

pub voted_is_accepted : VotedIsAccepted
voted_is_accepted names c d m n t r es section s files is last out run opened closed sealed own =
    let whole = done_is_whole names c d m n t r es section s files is last out run in
    go whole.1 whole.2 whole.0.valid whole.3
  where
    go : (now : Files) → d.files ≡ Some now → IsStateOf t section.voters last → AreResults names.out t section last files now → IsAccepted names.tables names.out section d
    go now told valid (no_files unsealed same) = absurd (unsealed opened closed sealed)
    go now told valid (both_files {opened = o} {closed = k} at both) =
        accepted_after now names.tables names.out t section last o k
        (tables_stay names.tables t files now (both.others names.tables own) is.call.given.tables) is.found.loaded.section_fits.listed valid at both.report d told

pub store_not_done : (e : StoreError) → store_status e ≡ status.Done → ⊥
store_not_done store.Memory is = absurd (cc)
store_not_done (store.Flash dev.Internal) is = absurd (cc)
store_not_done (store.Flash dev.External) is = absurd (cc)
store_not_done (store.Foreign d) is = absurd (cc)
store_not_done store.NoImage is = absurd (cc)

-- no fault of a document is Done
pub first_not_done : (files : Option Files) (tables : List ℕ) (d : Doc) (name : List ℕ) (s : Status) → IsFirstFault files tables d name s → s ≢ status.Done
first_not_done files tables d name s h done = subst (IsFirstFault files tables d name) done h

module _ (names : Emite) (files : Files) (c d : CabinetTold) (told : c.files ≡ Some files) (own : IsOwnName names.tables names.out) (m n : Told) where
  abbrev Emitted : Type 0
  Emitted = (t : TablesData) × (r : RollData) × (section : Section) × (s : State) × HasDocuments (Some files) names.tables names.roll t r
      × ForSome m.flashes (AreFound t r section s) × (opened : ℕ) × (closed : ℕ) × (s.phase ≡ phase.Sealed opened closed) × IsAccepted names.tables names.out section d

  emite_done : (answer : Status) → answer ≡ status.Done → EmiteEnds names c d m n answer → Emitted
  emite_done answer done (emit_refused why taken un) = absurd (first_not_done c.files names.tables _ names.roll answer why done)
  emite_done _ done (emit_no_memory taken un) = absurd (cc)
  emite_done _ done (emit_no_cabinet taken un) = absurd (cc)
  emite_done _ done (not_found e also taken h) = absurd (store_not_done e done)
  emite_done _ done (not_sealed also taken h unsealed) = absurd (cc)
  emite_done _ done (no_files_made also taken h sealed) = absurd (cc)
  emite_done _ done (files_stopped after also taken h sealed put) = absurd (cc)
  emite_done _ done (not_emitted after between also taken h sealed put off) = absurd (cc)
  emite_done _ done (emitted {t = t} {r = r} {section} {s} {opened} {closed} after between also taken h sealed put shown) =
      let (now, is, both) = both_are_there names.out t section s opened closed after d files (taken.files ∙ told) put in
      let has : HasDocuments (Some files) names.tables names.roll t r = subst (λ (o : Option Files). HasDocuments o names.tables names.roll t r) told also in (
        t,
        r,
        section,
        s,
        has,
        h.found,
        opened,
        closed,
        sealed,
        accepted_after now names.tables names.out t section s opened closed (tables_stay names.tables t files now (both.others names.tables own) has.tables) h.one_of.listed h.state
            sealed both.report d is,
      )

pub emitted_is_accepted : EmittedIsAccepted
emitted_is_accepted names c d m n ends files told own = emite_done names files c d told own m n status.Done refl ends
