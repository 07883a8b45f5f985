-- Where a call has what it needs, each other ending shows a fault
use Rattle.std.proofs.Common.{◌≡◌, ◌⊎◌, inl, inr, false, ℕ, zero, suc, ◌+◌, ◌≤◌, List, [], ◌∷◌, length, Option, None, Some, Ok, Err, refl, sym, ap, subst, ◌∙◌, IsSomeAnd}
use Rattle.urna_outside.specs.Cabinet.{CabinetTold, Entry, Files, Tally}
use Rattle.urna_outside.specs.Flash.{Flashes, flash_of}
use Rattle.urna_outside.specs.Told.{Rose, Told, faults_of, port_of}
use Rattle.urna_outside.specs.declared.device.Dev.{Dev}
use Rattle.urna_outside.specs.declared.device.Dev.TheVariants as dev
use Rattle.urna_outside.specs.declared.device.Port.{Port}
use Rattle.urna_outside.specs.declared.device.Port.TheVariants.{Internal, External, Display}
use Rattle.election_tables.specs.Limits.{most_voters}
use Rattle.election_tables.specs.Roll.{IsRoll, RollData}
use Rattle.election_tables.specs.TablesData.{IsTables, TablesData}
use Rattle.election_tables.specs.declared.tables.sections.Section.{Section}
use Rattle.election_tables.proofs.Determined.{roll_is}
use Rattle.key_script.specs.Laws.{OneListAnswers}
use Rattle.key_script.specs.declared.keys.Event.{Event}
use Rattle.image_codec.specs.State.{State}
use Rattle.section_intake.specs.declared.verdict.Verdict.{Verdict}
use Rattle.section_intake.specs.declared.verdict.Verdict.TheVariants as verdict
use Rattle.state_store.specs.Calls.{AreFound, FailsToLoad, FailsToPeek}
use Rattle.state_store.specs.Held.{HasNoFrame, HeldByNone, IsForeign}
use Rattle.state_store.specs.Laws.{HeldIsDecoded, LoadedOrForeign}
use Rattle.state_store.specs.Rest.{IsInUse}
use Rattle.state_store.specs.declared.store.LoadError.{LoadError}
use Rattle.state_store.specs.declared.store.LoadError.TheVariants as load
use Rattle.state_store.specs.declared.store.StoreError.{StoreError}
use Rattle.state_store.specs.declared.store.StoreError.TheVariants as store
use Rattle.contingency.specs.Calls.{FailsToReplace, IsBare}
use Rattle.contingency.specs.Replaced.{IsStanding}
use Rattle.contingency.specs.declared.replacement.ReplaceError.{ReplaceError}
use Rattle.contingency.specs.declared.replacement.ReplaceError.TheVariants as replace
use Rattle.contingency.proofs.Going.{one_cause}
use Rattle.station.specs.Start.{FailsToStart}
use Rattle.station.specs.declared.station.StartError.{StartError}
use Rattle.station.specs.declared.station.StartError.TheVariants as start
use Rattle.record_audit.specs.Finding.{finding}
use Rattle.record_audit.specs.declared.finding.Finding.{Finding}
use Rattle.record_audit.specs.declared.finding.Finding.TheVariants as found
use Rattle.urna_commands.specs.Answering.{Answers, answered, cut_short}
use Rattle.urna_commands.specs.Carga.{CargaEnds, IsSectionAsked, load_no_cabinet, load_no_memory, load_refused, loaded, no_section, not_loaded, not_told}
use Rattle.urna_commands.specs.Certifica.{CertificaEnds, IsByContest, by_no_seats, by_seats, certificate_not_put, certified, certified_untold, certify_no_contest, certify_no_memory, certify_no_seats}
use Rattle.urna_commands.specs.Command.{Carga, Certifica, Command, Confere, Emite, Reconta, Repoe, ToCertify, ToCheck, ToEmit, ToLoad, ToRecount, ToRehearse, ToReplace, ToTotal, ToVerify, ToVote, Totaliza, Verifica, Vota, command_of}
use Rattle.call_laws.specs.Completion.{CanCertify, CanCheck, CanEmit, CanLoad, CanRecount, CanReplace, CanTotal, CanVerify, CanVote, IsByFinding, IsByVerdicts, CanDo, Completes, CompletesWhereItCan, IsDoneOrMemory, TellsOfRisenCounts, tells_of_count}
use Rattle.urna_commands.specs.Confere.{ConfereEnds, check_no_cabinet, check_no_memory, check_not_told, check_refused, checked}
use Rattle.command_parts.specs.Documents.{HasDocuments, IsFault as IsFaultOf, IsFirstFault as IsFirstFaultOf}
use Rattle.command_parts.specs.declared.error.CommandError.{CommandError}
use Rattle.urna_commands.specs.Documents.{IsFault, IsFirstFault}
use Rattle.urna_commands.specs.Emite.{EmiteEnds, emit_no_cabinet, emit_no_memory, emit_refused, emitted, files_stopped, no_files, not_emitted, not_found, not_sealed}
use Rattle.urna_commands.specs.Ending.{CommandEnds}
use Rattle.urna_commands.specs.Ensaio.{EnsaioEnds, not_rehearsed, rehearsal_files, rehearsal_not_put, rehearsal_not_told, rehearsed}
use Rattle.urna_commands.specs.Errors.{error_of, load_status, port_status, replace_status, start_status, store_status}
use Rattle.command_parts.specs.FaultLines.{Tells}
use Rattle.urna_commands.specs.FaultLines.{fault_text}
use Rattle.urna_commands.specs.Findings.{finding_line, finding_status}
use Rattle.urna_commands.specs.Laws.{FoundOnce}
use Rattle.urna_commands.specs.Putting.{PutsResults, StopPutting, no_results, result_files, results_not_made, results_not_put, results_put}
use Rattle.urna_commands.specs.Office.{ContestStops, HasContest, HasOfficeAndReports, IsContestFault, contest_no_cabinet, contest_no_memory, contest_refused, of_list, of_office, of_report, of_tables}
use Rattle.urna_commands.specs.Reconta.{HasRecordAndReport, HasNoReport, IsNoReport, RecontaEnds, fields_fault, no_recount, parts_fault, recount_no_cabinet, recount_no_memory, record_at_fault, recounted, report_at_fault}
use Rattle.urna_commands.specs.Repoe.{RepoeEnds, not_replaced, replace_no_cabinet, replace_no_memory, replace_refused, replaced, replaced_untold}
use Rattle.urna_commands.specs.Taking.{HasTaken}
use Rattle.command_parts.specs.Documents.{IsListed}
use Rattle.urna_commands.specs.Offered.{HasOffered}
use Rattle.urna_commands.specs.Totaliza.{TotalizaEnds, list_no_cabinet, list_no_memory, list_refused, refused_status, report_no_cabinet, report_no_memory, report_refused, totalled, totals_not_told, verdict_not_told}
use Rattle.report_lines.specs.Verdicts.{refused_count, verdict_line}
use Rattle.urna_commands.specs.Verdicts.{verdict_status}
use Rattle.urna_commands.specs.Verifica.{Check, HasContestAndCertificate, IsByCheck, IsCertificateFault, VerificaEnds, certificate_at_fault, checked_line, checked_status, of_file, of_other_office, then_certificate, verified, verify_no_cabinet, verify_no_contest, verify_no_memory}
use Rattle.urna_commands.specs.Vota.{HasVotedTo, IsGiven, IsRefused, VotaEnds, cut, documents, keys, no_cabinet, no_memory, not_started, refused, session_held}
use Rattle.command_parts.specs.declared.error.Doc.{Doc}
use Rattle.command_parts.specs.declared.error.Doc.TheVariants as doc
use Rattle.urna_commands.specs.declared.status.Status.{Status}
use Rattle.urna_commands.specs.declared.status.Status.TheVariants as status
use Rattle.command_parts.proofs.Calls.{since}
use Rattle.command_parts.proofs.Once.{same_names, same_roll, same_tables}
use Rattle.call_laws.proofs.Certifying.{fault_or_certificate}
use Rattle.urna_commands.proofs.Offices.{fault_or_office}
use Rattle.urna_commands.proofs.Once.{record_not_fault, refused_or_documents, refused_or_given, refused_or_listed, refused_or_taken, report_not_fault}
use Rattle.call_laws.proofs.Recounts.{no_report_not_read}
use Rattle.urna_commands.proofs.Totals.{none_at_fault}
use Rattle.urna_commands.proofs.Endings.{ends_as}

-- ---- faults

-- a status of a port has no line
pub port_silent : (p : Port) (b n : Told) → Tells (fault_text (port_status p)) b n → n ≡ b
port_silent Internal b n h = h
port_silent External b n h = h
port_silent Display b n h = h

-- whatever the status says, no port failed before its line
abbrev pub Calm : Status → Told → Told → Type 0
Calm s m b = (p : Port) → s ≡ port_status p → Rose (faults_of p m.faults) (faults_of p b.faults) → ⊥

pub calm : (s : Status) (m b n : Told) → ((p : Port) → ¬ Rose (faults_of p m.faults) (faults_of p n.faults)) → Tells (fault_text s) b n → Calm s m b
calm s m b n none told p is rose =
    let no_line = subst (λ (x : Status). Tells (fault_text x) b n) is told in
    none p (subst (λ (x : Told). Rose (faults_of p m.faults) (faults_of p x.faults)) (sym (port_silent p b n no_line)) rose)

-- where a file was not put, the cabinet's count rose
stopped_rose : (files : List Entry) (c d : CabinetTold) → StopPutting files c d → Rose c.tally.faults d.tally.faults
stopped_rose [] c d h = absurd h
stopped_rose (file ∷ files) c d (inl fails) = fails.counts.faults.rose
stopped_rose (file ∷ files) c d (inr (between, put, rest)) =
    subst (λ (tally : Tally). Rose tally.faults d.tally.faults) put.counts (stopped_rose files between d rest)

-- ---- what is found on the flashes

-- flashes that hold a poll are not foreign, and some slot stands
not_missed : LoadedOrForeign → HeldIsDecoded → (t : TablesData) (r : RollData) → IsTables t → IsRoll r → {section : Section} {s : State} (flashes : Flashes)
    → AreFound t r section s flashes
    → ((d : Dev) → IsForeign t r d flashes.internal.content flashes.external.content → ⊥)
    × (HeldByNone t (length r.titles) flashes.internal.content flashes.external.content → ⊥)
not_missed either decoded t r valid roll {section} {s} flashes found =
    let few : length r.titles ≤ most_voters = roll.count.1 in
    let answers = (decoded t (length r.titles) flashes.internal.content flashes.external.content valid few).0 in (
      λ d h. either t r section d flashes.internal.content flashes.external.content valid found.loaded h,
      λ none. let some = (answers.0 s).0 found.held in let nothing = answers.1.0 none in absurd (cc),
    )

-- ---- vota

-- a station that doesn't start
starts : LoadedOrForeign → HeldIsDecoded → (t : TablesData) (r : RollData) → IsTables t → IsRoll r → {section : Section} {s : State} (flashes : Flashes)
    → AreFound t r section s flashes → (m b : Told) → m.flashes ≡ Some flashes → (e : StartError) → Calm (start_status e) m b
    → FailsToStart t r m b e → IsDoneOrMemory (start_status e)
starts either decoded t r valid roll flashes found m b told start.Memory calm h = inr refl
starts either decoded t r valid roll flashes found m b told (start.Port Internal) calm h = absurd (calm Internal refl h.0.faults.rose)
starts either decoded t r valid roll flashes found m b told (start.Port External) calm h = absurd (calm External refl h.0.faults.rose)
starts either decoded t r valid roll flashes found m b told (start.Port Display) calm h =
    absurd (calm Display refl (since Display m h.between b h.recovered.fine.faults h.stopped.fault.faults.rose))
starts either decoded t r valid roll flashes found m b told (start.Foreign d) calm h =
    absurd ((not_missed either decoded t r valid roll flashes found).0 d (h.1 flashes told))
starts either decoded t r valid roll flashes found m b told start.NoImage calm h =
    absurd ((not_missed either decoded t r valid roll flashes found).1 ((h.1.2 flashes told).1))

-- a session that was cut off
voted_rose : (t : TablesData) (r : RollData) (es : List Event) (p : Port) (m b : Told) → HasVotedTo t r es p m b
    → Rose (faults_of p m.faults) (faults_of p b.faults)
voted_rose t r es p m b h =
    since p m h.between b (h.opens.shown.fine.faults ∙ h.opens.recovered.fine.faults) h.stopped.fault.faults.rose

-- files of results that are to be put
put_ends : (out : List ℕ) (t : TablesData) (section : Section) (u : State) (c d : CabinetTold) (s : Status) → ¬ Rose c.tally.faults d.tally.faults
    → PutsResults out t section u c d s → IsDoneOrMemory s
put_ends out t section u c d s none (no_results unsealed same) = inl refl
put_ends out t section u c d s none (results_put sealed put) = inl refl
put_ends out t section u c d s none (results_not_made sealed same) = inr refl
put_ends out t section u c d s none (results_not_put {opened} {closed} sealed stop) =
    absurd (none (stopped_rose (result_files out t section u opened closed) c d stop))

pub vota_completes : LoadedOrForeign → HeldIsDecoded → (names : Vota) (c d : CabinetTold) (m b : Told) (s : Status) (files : Files) (flashes : Flashes)
    → c.files ≡ Some files → ¬ Rose c.tally.faults d.tally.faults → Calm s m b → m.flashes ≡ Some flashes → CanVote names (Some files) flashes
    → VotaEnds names c d m b s → IsDoneOrMemory s
vota_completes either decoded names c d m b s files flashes told none calm flashes_told can (refused h taken untouched) =
    absurd (refused_or_given files names s can.t can.r can.es (subst (λ (f : Option Files). IsRefused f names s) told h) can.given)
vota_completes either decoded names c d m b s files flashes told none calm flashes_told can (no_memory taken untouched) = inr refl
vota_completes either decoded names c d m b s files flashes told none calm flashes_told can (no_cabinet taken untouched) =
    absurd (none taken.counts.faults.rose)
vota_completes either decoded names c d m b s files flashes told none calm flashes_told can (not_started {t} {r} {es} e given taken fails) =
    let found = subst (λ (f : Option Files). IsGiven f names t r es) told given in
    let tables = same_tables files names.tables t can.t found.tables can.given.tables in
    let roll = same_roll files names.roll r can.r found.roll can.given.roll in
    let same = subst (λ (x : RollData). FailsToStart can.t x m b e) roll (subst (λ (x : TablesData). FailsToStart x r m b e) tables fails) in
    starts either decoded can.t can.r can.given.tables.valid (roll_is can.given.roll.bytes can.r can.given.roll.read) flashes can.found m b flashes_told e calm
    same
vota_completes either decoded names c d m b s files flashes told none calm flashes_told can (cut {t} {r} {es} p given taken voted) =
    absurd (calm p refl (voted_rose t r es p m b voted))
vota_completes either decoded names c d m b s files flashes told none calm flashes_told can (session_held {t} between given taken h one_of state puts) =
    put_ends names.out t h.load.section h.last between d s (λ rose. none (subst (λ (tally : Tally). Rose tally.faults d.tally.faults) taken.counts rose)) puts

-- ---- carga

pub carga_completes : (names : Carga) (c d : CabinetTold) (m b : Told) (s : Status) (files : Files) (flashes : Flashes)
    → c.files ≡ Some files → ¬ Rose c.tally.faults d.tally.faults → Calm s m b → m.flashes ≡ Some flashes → CanLoad names (Some files) flashes
    → CargaEnds names c d m b s → IsDoneOrMemory s
carga_completes names c d m b s files flashes told none calm flashes_told can (load_refused h taken untouched) =
    absurd (refused_or_documents files names.tables names.roll s can.t can.r
    (subst (λ (f : Option Files). IsFirstFault f names.tables doc.Roll names.roll s) told h) can.given)
carga_completes names c d m b s files flashes told none calm flashes_told can (load_no_memory taken untouched) = inr refl
carga_completes names c d m b s files flashes told none calm flashes_told can (load_no_cabinet taken untouched) =
    absurd (none taken.counts.faults.rose)
carga_completes names c d m b s files flashes told none calm flashes_told can (no_section {t} {r} given none_asked taken untouched) =
    let found = subst (λ (f : Option Files). HasDocuments f names.tables names.roll t r) told given in
    let tables = same_tables files names.tables t can.t found.tables can.given.tables in
    let roll = same_roll files names.roll r can.r found.roll can.given.roll in
    absurd (none_asked can.section
    (subst (λ (x : TablesData). IsSectionAsked names x r can.section) (sym tables)
    (subst (λ (x : RollData). IsSectionAsked names can.t x can.section) (sym roll) can.asked)))
carga_completes names c d m b s files flashes told none calm flashes_told can (not_loaded e given asked taken h) = loads e calm h.fails
  where
    loads : (e : LoadError) → Calm (load_status e) m b → FailsToLoad m b e → IsDoneOrMemory (load_status e)
    loads load.Memory calm h = inr refl
    loads (load.Flash d) calm h = absurd (calm (port_of d) refl h.0.faults.rose)
    loads (load.Busy dev.Internal) calm h = absurd (can.free dev.Internal (h.1 flashes flashes_told))
    loads (load.Busy dev.External) calm h = absurd (can.free dev.External ((h.1 flashes flashes_told).1))
carga_completes names c d m b s files flashes told none calm flashes_told can (not_told between given asked taken load off) =
    absurd (calm Display refl (since Display m between b load.fine.faults off.faults.rose))
carga_completes names c d m b s files flashes told none calm flashes_told can (loaded between given asked taken load shown) = inl refl

-- ---- emite

pub emite_completes : LoadedOrForeign → HeldIsDecoded → FoundOnce → (names : Emite) (c d : CabinetTold) (m b : Told) (s : Status) (files : Files)
    (flashes : Flashes) → c.files ≡ Some files → ¬ Rose c.tally.faults d.tally.faults → Calm s m b → m.flashes ≡ Some flashes
    → CanEmit names (Some files) flashes → EmiteEnds names c d m b s → IsDoneOrMemory s
emite_completes either decoded once names c d m b s files flashes told none calm flashes_told can (emit_refused h taken untouched) =
    absurd (refused_or_documents files names.tables names.roll s can.t can.r
    (subst (λ (f : Option Files). IsFirstFault f names.tables doc.Roll names.roll s) told h) can.given)
emite_completes either decoded once names c d m b s files flashes told none calm flashes_told can (emit_no_memory taken untouched) = inr refl
emite_completes either decoded once names c d m b s files flashes told none calm flashes_told can (emit_no_cabinet taken untouched) =
    absurd (none taken.counts.faults.rose)
emite_completes either decoded once names c d m b s files flashes told none calm flashes_told can (not_found {t} {r} e given taken fails) =
    let found = subst (λ (f : Option Files). HasDocuments f names.tables names.roll t r) told given in
    let tables = same_tables files names.tables t can.t found.tables can.given.tables in
    let roll = same_roll files names.roll r can.r found.roll can.given.roll in
    peeks e calm (subst (λ (x : RollData). FailsToPeek can.t x m b e) roll (subst (λ (x : TablesData). FailsToPeek x r m b e) tables fails))
  where
    whole : IsRoll can.r
    whole = roll_is can.given.roll.bytes can.r can.given.roll.read

    peeks : (e : StoreError) → Calm (store_status e) m b → FailsToPeek can.t can.r m b e → IsDoneOrMemory (store_status e)
    peeks store.Memory calm h = inr refl
    peeks (store.Flash d) calm h = absurd (calm (port_of d) refl h.0.faults.rose)
    peeks (store.Foreign d) calm h =
        absurd ((not_missed either decoded can.t can.r can.given.tables.valid whole flashes can.found).0 d (h.1 flashes flashes_told))
    peeks store.NoImage calm h =
        absurd ((not_missed either decoded can.t can.r can.given.tables.valid whole flashes can.found).1 ((h.1.2 flashes flashes_told).1))
emite_completes either decoded once names c d m b s files flashes told none calm flashes_told can (not_sealed {t} {r} {section} {s = u} given taken peeked unsealed) =
    let found = subst (λ (f : Option Files). HasDocuments f names.tables names.roll t r) told given in
    let tables = same_tables files names.tables t can.t found.tables can.given.tables in
    let roll = same_roll files names.roll r can.r found.roll can.given.roll in
    let here = subst (λ (x : RollData). AreFound can.t x section u flashes) roll
    (subst (λ (x : TablesData). AreFound x r section u flashes) tables (peeked.found flashes flashes_told)) in
    let whole = roll_is can.given.roll.bytes can.r can.given.roll.read in
    let same = (once can.t can.r section can.section u can.state flashes can.given.tables.valid whole here can.found).1 in
    absurd (unsealed can.opened can.closed (ap (λ (x : State). x.phase) same ∙ can.sealed))
emite_completes either decoded once names c d m b s files flashes told none calm flashes_told can (no_files given taken peeked sealed) = inr refl
emite_completes either decoded once names c d m b s files flashes told none calm flashes_told can (files_stopped {t} {section} {s = u} {opened} {closed} between given taken peeked sealed stop) =
    absurd (none (subst (λ (tally : Tally). Rose tally.faults d.tally.faults) taken.counts
    (stopped_rose (result_files names.out t section u opened closed) between d stop)))
emite_completes either decoded once names c d m b s files flashes told none calm flashes_told can (not_emitted put_to between given taken peeked sealed put off) =
    absurd (calm Display refl (since Display m between b peeked.synced.fine.faults off.faults.rose))
emite_completes either decoded once names c d m b s files flashes told none calm flashes_told can (emitted put_to between given taken peeked sealed put shown) = inl refl

-- ---- repoe

pub repoe_completes : (names : Repoe) (c d : CabinetTold) (m b : Told) (s : Status) (files : Files) (flashes : Flashes)
    → c.files ≡ Some files → ¬ Rose c.tally.faults d.tally.faults → Calm s m b → m.flashes ≡ Some flashes → CanReplace names (Some files) flashes
    → RepoeEnds names c d m b s → IsDoneOrMemory s
repoe_completes names c d m b s files flashes told none calm flashes_told can (replace_refused h taken untouched) =
    absurd (refused_or_documents files names.tables names.roll s can.t can.r
    (subst (λ (f : Option Files). IsFirstFault f names.tables doc.Roll names.roll s) told h) can.given)
repoe_completes names c d m b s files flashes told none calm flashes_told can (replace_no_memory taken untouched) = inr refl
repoe_completes names c d m b s files flashes told none calm flashes_told can (replace_no_cabinet taken untouched) =
    absurd (none taken.counts.faults.rose)
repoe_completes names c d m b s files flashes told none calm flashes_told can (not_replaced {t} {r} e given taken fails) =
    let found = subst (λ (f : Option Files). HasDocuments f names.tables names.roll t r) told given in
    let tables = same_tables files names.tables t can.t found.tables can.given.tables in
    let roll = same_roll files names.roll r can.r found.roll can.given.roll in
    replaces e calm
    (subst (λ (x : RollData). FailsToReplace can.t x names.replaced m b e) roll (subst (λ (x : TablesData). FailsToReplace x r names.replaced m b e) tables fails))
  where
    -- a device that stands for a state has a frame, and isn't bare
    stands : (d x : Dev) (other : Section) → d ≡ x → IsStanding can.t can.r can.section can.state x (flash_of x flashes).content
        → (HasNoFrame can.t can.r d (flash_of d flashes).content → ⊥) × (IsBare can.t can.r other d (flash_of d flashes).content → ⊥)
    stands d x other is standing =
        (one_cause can.t can.r can.section other can.state d (flash_of d flashes).content).0
        (subst (λ (y : Dev). IsStanding can.t can.r can.section can.state y (flash_of y flashes).content) (sym is) standing)

    replaces : (e : ReplaceError) → Calm (replace_status e) m b → FailsToReplace can.t can.r names.replaced m b e → IsDoneOrMemory (replace_status e)
    replaces replace.Memory calm h = inr refl
    replaces (replace.Flash d) calm h = absurd (calm (port_of d) refl h.0.faults.rose)
    replaces (replace.Foreign d) calm h =
        absurd ((stands d _ can.section h.0 can.replaced.standing).0 (h.2 flashes flashes_told))
    replaces (replace.NoStanding d) calm h =
        absurd ((stands d _ h.2.0 h.0 can.replaced.standing).1 (h.2.2 flashes flashes_told))
    replaces (replace.Busy d) calm h =
        absurd (can.replaced.unused (subst (λ (x : Dev). IsInUse (flash_of x flashes).content) h.0 (h.2.2 flashes flashes_told).busy))
repoe_completes names c d m b s files flashes told none calm flashes_told can (replaced_untold between given taken has off) =
    absurd (calm Display refl (since Display m between b has.fine.faults off.faults.rose))
repoe_completes names c d m b s files flashes told none calm flashes_told can (replaced between given taken has shown) = inl refl

-- ---- totaliza

pub totaliza_completes : OneListAnswers → (names : Totaliza) (c d : CabinetTold) (m b : Told) (s : Status) (files : Files) → c.files ≡ Some files
    → ¬ Rose c.tally.faults d.tally.faults → Calm s m b → CanTotal names (Some files) → TotalizaEnds names c d m b s
    → IsByVerdicts names (Some files) s ⊎ (s ≡ status.Memory)
totaliza_completes answers names c d m b s files told none calm can (list_refused h taken untouched) =
    absurd (refused_or_listed answers files names s can.t can.listed (subst (λ (f : Option Files). IsFirstFault f names.tables doc.List names.list s) told h) can.given)
totaliza_completes answers names c d m b s files told none calm can (list_no_memory taken untouched) = inr refl
totaliza_completes answers names c d m b s files told none calm can (list_no_cabinet taken untouched) = absurd (none taken.counts.faults.rose)
totaliza_completes answers names c d m b s files told none calm can (report_refused {t} {listed} {left} {name} {verdicts} {accepted} given offered fault taken shown) =
    let found = subst (λ (f : Option Files). IsListed f names.tables names.list t listed) told given in
    let same = same_names files names.list listed can.listed found.list can.given.list in
    absurd (none_at_fault files offered.names name left can.listed can.reports s (sym offered.all ∙ same) can.taken
    (subst (λ (f : Option Files). IsFault f name doc.Report s) told fault))
totaliza_completes answers names c d m b s files told none calm can (report_no_cabinet given offered taken shown) = absurd (none taken.counts.faults.rose)
totaliza_completes answers names c d m b s files told none calm can (report_no_memory given offered taken shown) = inr refl
totaliza_completes answers names c d m b s files told none calm can (verdict_not_told given offered taken off) = absurd (calm Display refl off.faults.rose)
totaliza_completes answers names c d m b s files told none calm can (totals_not_told given totals taken off) = absurd (calm Display refl off.faults.rose)
totaliza_completes answers names c d m b s files told none calm can (totalled {t} {listed} {verdicts} given totals taken shown) =
    inl (record {
      t = t;
      listed = listed;
      given = subst (λ (f : Option Files). IsListed f names.tables names.list t listed) told given;
      verdicts = verdicts;
      accepted = totals.accepted;
      offered = subst (λ (f : Option Files). HasOffered f t listed [] verdicts totals.accepted) told totals.offered;
      is = refl;
    })

-- ---- confere

pub confere_completes : (names : Confere) (c d : CabinetTold) (m b : Told) (s : Status) (files : Files) → c.files ≡ Some files
    → ¬ Rose c.tally.faults d.tally.faults → Calm s m b → CanCheck names (Some files) → ConfereEnds names c d m b s
    → IsDoneOrMemory s ⊎ ((v : Verdict) × (s ≡ status.ReportRefused v))
confere_completes names c d m b s files told none calm can (check_refused h taken untouched) =
    absurd (refused_or_taken files names can.bytes s can.t (subst (λ (f : Option Files). IsFirstFault f names.tables doc.Report names.report s) told h) can.tables can.report)
confere_completes names c d m b s files told none calm can (check_no_memory taken untouched) = inl (inr refl)
confere_completes names c d m b s files told none calm can (check_no_cabinet taken untouched) = absurd (none taken.counts.faults.rose)
confere_completes names c d m b s files told none calm can (check_not_told given taken off) = absurd (calm Display refl off.faults.rose)
confere_completes names c d m b s files told none calm can (checked {v} given taken shown) = by_verdict v
  where
    by_verdict : (v : Verdict) → IsDoneOrMemory (verdict_status v) ⊎ ((w : Verdict) × (verdict_status v ≡ status.ReportRefused w))
    by_verdict (verdict.Accepted zone number) = inl (inl refl)
    by_verdict (verdict.Part f) = inr (verdict.Part f, refl)
    by_verdict (verdict.Fields f) = inr (verdict.Fields f, refl)
    by_verdict verdict.Strange = inr (verdict.Strange, refl)
    by_verdict (verdict.Repeated zone number) = inr (verdict.Repeated zone number, refl)
    by_verdict (verdict.Conflict zone number) = inr (verdict.Conflict zone number, refl)

-- ---- reconta

-- a result line that was shown gives its status
answers_calm : (text : List ℕ) (given : Status) (m b : Told) (s : Status) → Calm s m b → Answers text given m b s → s ≡ given
answers_calm text given m b _ still (answered shown) = refl
answers_calm text given m b _ still (cut_short off) = absurd (still Display refl off.faults.rose)

pub reconta_completes : (names : Reconta) (c d : CabinetTold) (m b : Told) (s : Status) (files : Files) → c.files ≡ Some files
    → ¬ Rose c.tally.faults d.tally.faults → Calm s m b → CanRecount names (Some files) → RecontaEnds names c d m b s
    → IsByFinding names (Some files) s ⊎ (s ≡ status.Memory)
reconta_completes names c d m b s files told none calm can (report_at_fault h taken untouched) =
    absurd (report_not_fault files names.report can.given.report.bytes s (subst (λ (f : Option Files). IsFault f names.report doc.Report s) told h) can.given.report.taken)
reconta_completes names c d m b s files told none calm can (record_at_fault has h taken untouched) =
    absurd (record_not_fault files names.rdv s can.r (subst (λ (f : Option Files). IsFault f names.rdv doc.Record s) told h) can.given.rdv)
reconta_completes names c d m b s files told none calm can (recount_no_memory taken untouched) = inr refl
reconta_completes names c d m b s files told none calm can (recount_no_cabinet taken untouched) = absurd (none taken.counts.faults.rose)
reconta_completes names c d m b s files told none calm can (no_recount {v} given taken tells) =
    absurd (no_report_not_read files names.report v can.p (subst (λ (f : Option Files). HasNoReport f names.report v) told given) can.given.report)
reconta_completes names c d m b s files told none calm can (recounted {r} {p} given taken tells) =
    inl (record {
      r = r;
      p = p;
      given = subst (λ (f : Option Files). HasRecordAndReport f names r p) told given;
      is = answers_calm (finding_line r p) (finding_status (finding r p)) m b s calm tells;
    })

-- ---- certifica and verifica

-- where the files have all that the contest needs, it is missing only for want of memory
contest_completes : OneListAnswers → (tables list : List ℕ) (code : ℕ) (c d : CabinetTold) (m b : Told) (s : Status) (files : Files) → {X : Type 0}
    → c.files ≡ Some files → ¬ Rose c.tally.faults d.tally.faults → HasOfficeAndReports (Some files) tables list code → ContestStops tables list code c d m b s → X ⊎ (s ≡ status.Memory)
contest_completes answers tables list code c d m b s files told none has (contest_refused why taken untouched) =
    absurd (fault_or_office answers files tables list code s (subst (λ (f : Option Files). IsContestFault f tables list code s) told why) has)
contest_completes answers tables list code c d m b s files told none has (contest_no_memory taken untouched) = inr refl
contest_completes answers tables list code c d m b s files told none has (contest_no_cabinet (k, of, taken) untouched) = absurd (none taken.counts.faults.rose)

certifica_completes : OneListAnswers → (names : Certifica) (c d : CabinetTold) (m b : Told) (s : Status) (files : Files) → c.files ≡ Some files
    → ¬ Rose c.tally.faults d.tally.faults → Calm s m b → CanCertify names (Some files) → CertificaEnds names c d m b s
    → IsByContest (Some files) names s ⊎ (s ≡ status.Memory)
certifica_completes answers names c d m b s files told none calm can (certify_no_contest stops) =
    contest_completes answers names.tables names.list names.code c d m b s files told none can stops
certifica_completes answers names c d m b s files told none calm can (certify_no_seats {contest} has nobody taken untouched) =
    inl (by_no_seats (subst (λ (f : Option Files). HasContest f names.tables names.list names.code contest) told has) nobody)
certifica_completes answers names c d m b s files told none calm can (certify_no_memory has taken untouched) = inr refl
certifica_completes answers names c d m b s files told none calm can (certificate_not_put after made fails untouched) =
    absurd (none (subst (λ (tally : Tally). Rose tally.faults d.tally.faults) made.took.2.counts fails.counts.faults.rose))
certifica_completes answers names c d m b s files told none calm can (certified_untold after made put off) = absurd (calm Display refl off.faults.rose)
certifica_completes answers names c d m b s files told none calm can (certified after made put shown) =
    inl (by_seats (subst (λ (f : Option Files). HasContest f names.tables names.list names.code made.contest) told made.has) made.made.come)

verifica_completes : OneListAnswers → (names : Verifica) (c d : CabinetTold) (m b : Told) (s : Status) (files : Files) → c.files ≡ Some files
    → ¬ Rose c.tally.faults d.tally.faults → Calm s m b → CanVerify names (Some files) → VerificaEnds names c d m b s
    → IsByCheck (Some files) names s ⊎ (s ≡ status.Memory)
verifica_completes answers names c d m b s files told none calm can (verify_no_contest stops) =
    contest_completes answers names.tables names.list names.code c d m b s files told none can.given stops
verifica_completes answers names c d m b s files told none calm can (certificate_at_fault {contest} has why taken untouched) =
    absurd (fault_or_certificate answers files names s can.certificate
    (then_certificate (subst (λ (f : Option Files). HasContest f names.tables names.list names.code contest) told has)
    (subst (λ (f : Option Files). IsCertificateFault f names s) told why)) can.given can.certificate_is)
verifica_completes answers names c d m b s files told none calm can (verify_no_memory taken untouched) = inr refl
verifica_completes answers names c d m b s files told none calm can (verify_no_cabinet (k, of, taken) untouched) = absurd (none taken.counts.faults.rose)
verifica_completes answers names c d m b s files told none calm can (verified {contest} {certificate} found has is taken tells) =
    inl (record {
      contest = contest;
      certificate = certificate;
      given = subst (λ (f : Option Files). HasContestAndCertificate f names contest certificate) told has;
      checked = found;
      is_checked = is;
      is = answers_calm (checked_line names.code found) (checked_status found) m b s calm tells;
    })

-- ---- ensaio

ensaio_completes : (voters : ℕ) (c d : CabinetTold) (m b : Told) (s : Status) → ¬ Rose c.tally.faults d.tally.faults → Calm s m b → EnsaioEnds voters c d m b s
    → IsDoneOrMemory s
ensaio_completes voters c d m b s none calm (not_rehearsed same untouched) = inr refl
ensaio_completes voters c d m b s none calm (rehearsal_not_put {r} is stop untouched) = absurd (none (stopped_rose (rehearsal_files r) c d stop))
ensaio_completes voters c d m b s none calm (rehearsal_not_told is put off) = absurd (calm Display refl off.faults.rose)
ensaio_completes voters c d m b s none calm (rehearsed is put shown) = inl refl

-- ---- the program

completes_as : LoadedOrForeign → HeldIsDecoded → FoundOnce → OneListAnswers → (k : Command) (c d : CabinetTold) (m b : Told) (s : Status)
    → (files : Option Files) (flashes : Option Flashes) → c.files ≡ files → m.flashes ≡ flashes → ¬ Rose c.tally.faults d.tally.faults → Calm s m b
    → CommandEnds (Some k) c d m b s → CanDo k files flashes → Completes k files s
completes_as either decoded once answers (ToVote names) c d m b s None flashes told shown none calm ends can = absurd can
completes_as either decoded once answers (ToVote names) c d m b s (Some f) None told shown none calm ends can = absurd can
completes_as either decoded once answers (ToVote names) c d m b s (Some f) (Some g) told shown none calm ends can =
    vota_completes either decoded names c d m b s f g told none calm shown can ends
completes_as either decoded once answers (ToLoad names) c d m b s None flashes told shown none calm ends can = absurd can
completes_as either decoded once answers (ToLoad names) c d m b s (Some f) None told shown none calm ends can = absurd can
completes_as either decoded once answers (ToLoad names) c d m b s (Some f) (Some g) told shown none calm ends can =
    carga_completes names c d m b s f g told none calm shown can ends
completes_as either decoded once answers (ToEmit names) c d m b s None flashes told shown none calm ends can = absurd can
completes_as either decoded once answers (ToEmit names) c d m b s (Some f) None told shown none calm ends can = absurd can
completes_as either decoded once answers (ToEmit names) c d m b s (Some f) (Some g) told shown none calm ends can =
    emite_completes either decoded once names c d m b s f g told none calm shown can ends
completes_as either decoded once answers (ToCheck names) c d m b s None flashes told shown none calm ends can = absurd can
completes_as either decoded once answers (ToCheck names) c d m b s (Some f) flashes told shown none calm ends can =
    confere_completes names c d m b s f told none calm can ends
completes_as either decoded once answers (ToTotal names) c d m b s None flashes told shown none calm ends can = absurd can
completes_as either decoded once answers (ToTotal names) c d m b s (Some f) flashes told shown none calm ends can =
    totaliza_completes answers names c d m b s f told none calm can ends
completes_as either decoded once answers (ToRecount names) c d m b s None flashes told shown none calm ends can = absurd can
completes_as either decoded once answers (ToRecount names) c d m b s (Some f) flashes told shown none calm ends can =
    reconta_completes names c d m b s f told none calm can ends
completes_as either decoded once answers (ToCertify names) c d m b s None flashes told shown none calm ends can = absurd can
completes_as either decoded once answers (ToCertify names) c d m b s (Some f) flashes told shown none calm ends can =
    certifica_completes answers names c d m b s f told none calm can ends
completes_as either decoded once answers (ToVerify names) c d m b s None flashes told shown none calm ends can = absurd can
completes_as either decoded once answers (ToVerify names) c d m b s (Some f) flashes told shown none calm ends can =
    verifica_completes answers names c d m b s f told none calm can ends
completes_as either decoded once answers (ToRehearse voters) c d m b s files flashes told shown none calm ends can =
    ensaio_completes voters c d m b s none calm ends
completes_as either decoded once answers (ToReplace names) c d m b s None flashes told shown none calm ends can = absurd can
completes_as either decoded once answers (ToReplace names) c d m b s (Some f) None told shown none calm ends can = absurd can
completes_as either decoded once answers (ToReplace names) c d m b s (Some f) (Some g) told shown none calm ends can =
    repoe_completes names c d m b s f g told none calm shown can ends

pub completes : LoadedOrForeign → HeldIsDecoded → FoundOnce → OneListAnswers → CompletesWhereItCan
completes either decoded once answers words command c d m n s is failed ends can =
    completes_as either decoded once answers command c d m ends.between s c.files m.flashes refl refl failed.cabinet
    (calm s m ends.between n failed.ports ends.told)
    (ends_as words command c d m ends.between s is ends.command) can

-- ---- over any cabinet and machine

-- nothing counted: no count rose of the cabinet's three, and none of a port before the line of the status
record NothingCounted (c d : CabinetTold) (s : Status) (m b : Told) : Type 0 where
  faults : ¬ Rose c.tally.faults d.tally.faults
  missing : ¬ Rose c.tally.missing d.tally.missing
  too_long : ¬ Rose c.tally.too_long d.tally.too_long
  calm : Calm s m b

-- where no count rose, a document at fault tells of none
file_counts : (P : CommandError → Type 0) (most : ℕ) (c d : CabinetTold) (s : Status) (m b : Told) → NothingCounted c d s m b
    → HasTaken most s c d → IsSomeAnd (error_of s) P → tells_of_count s ≡ false
file_counts P most c d (status.Missing x) m b none taken h = absurd (none.missing taken.counts.missing.rose)
file_counts P most c d (status.TooLong x) m b none taken h = absurd (none.too_long taken.counts.too_long.rose)
file_counts P most c d status.Cabinet m b none taken h = absurd (none.faults taken.counts.faults.rose)
file_counts P most c d status.InternalFlash m b none taken h = absurd h
file_counts P most c d status.ExternalFlash m b none taken h = absurd h
file_counts P most c d status.Display m b none taken h = absurd h
file_counts P most c d s m b none taken h = refl

fault_counts : (files : Option Files) (name : List ℕ) (x : Doc) (most : ℕ) (c d : CabinetTold) (s : Status) (m b : Told) → NothingCounted c d s m b
    → HasTaken most s c d → IsFault files name x s → tells_of_count s ≡ false
fault_counts files name x most c d s m b none taken h = file_counts (IsFaultOf files name x) most c d s m b none taken h

first_counts : (files : Option Files) (tables : List ℕ) (x : Doc) (name : List ℕ) (most : ℕ) (c d : CabinetTold) (s : Status) (m b : Told)
    → NothingCounted c d s m b → HasTaken most s c d → IsFirstFault files tables x name s → tells_of_count s ≡ false
first_counts files tables x name most c d s m b none taken h = file_counts (IsFirstFaultOf files tables x name) most c d s m b none taken h

done_or_memory : (s : Status) → IsDoneOrMemory s → tells_of_count s ≡ false
done_or_memory s (inl e) = ap tells_of_count e
done_or_memory s (inr e) = ap tells_of_count e

vota_counts : (names : Vota) (c d : CabinetTold) (m b : Told) (s : Status) → NothingCounted c d s m b → VotaEnds names c d m b s → tells_of_count s ≡ false
vota_counts names c d m b s none (refused h taken untouched) = by_document h
  where
    by_document : IsRefused c.files names s → tells_of_count s ≡ false
    by_document (documents h) = first_counts c.files names.tables doc.Roll names.roll 3 c d s m b none taken h
    by_document (keys has read h) = fault_counts c.files names.keys doc.Keys 3 c d s m b none taken h
vota_counts names c d m b s none (no_memory taken untouched) = refl
vota_counts names c d m b s none (no_cabinet taken untouched) = absurd (none.faults taken.counts.faults.rose)
vota_counts names c d m b s none (not_started {t} {r} e given taken fails) = starting e none.calm fails
  where
    starting : (e : StartError) → Calm (start_status e) m b → FailsToStart t r m b e → tells_of_count (start_status e) ≡ false
    starting start.Memory calm h = refl
    starting (start.Port Internal) calm h = absurd (calm Internal refl h.0.faults.rose)
    starting (start.Port External) calm h = absurd (calm External refl h.0.faults.rose)
    starting (start.Port Display) calm h =
        absurd (calm Display refl (since Display m h.between b h.recovered.fine.faults h.stopped.fault.faults.rose))
    starting (start.Foreign x) calm h = refl
    starting start.NoImage calm h = refl
vota_counts names c d m b s none (cut {t} {r} {es} p given taken voted) = absurd (none.calm p refl (voted_rose t r es p m b voted))
vota_counts names c d m b s none (session_held {t} between given taken h one_of state puts) =
    done_or_memory s (put_ends names.out t h.load.section h.last between d s
    (λ rose. none.faults (subst (λ (tally : Tally). Rose tally.faults d.tally.faults) taken.counts rose)) puts)

carga_counts : (names : Carga) (c d : CabinetTold) (m b : Told) (s : Status) → NothingCounted c d s m b → CargaEnds names c d m b s → tells_of_count s ≡ false
carga_counts names c d m b s none (load_refused h taken untouched) = first_counts c.files names.tables doc.Roll names.roll 2 c d s m b none taken h
carga_counts names c d m b s none (load_no_memory taken untouched) = refl
carga_counts names c d m b s none (load_no_cabinet taken untouched) = absurd (none.faults taken.counts.faults.rose)
carga_counts names c d m b s none (no_section given lacks_it taken untouched) = refl
carga_counts names c d m b s none (not_loaded e given asked taken h) = loading e none.calm h.fails
  where
    loading : (e : LoadError) → Calm (load_status e) m b → FailsToLoad m b e → tells_of_count (load_status e) ≡ false
    loading load.Memory calm h = refl
    loading (load.Flash x) calm h = absurd (calm (port_of x) refl h.0.faults.rose)
    loading (load.Busy x) calm h = refl
carga_counts names c d m b s none (not_told between given asked taken loading off) =
    absurd (none.calm Display refl (since Display m between b loading.fine.faults off.faults.rose))
carga_counts names c d m b s none (loaded between given asked taken loading shown) = refl

emite_counts : (names : Emite) (c d : CabinetTold) (m b : Told) (s : Status) → NothingCounted c d s m b → EmiteEnds names c d m b s → tells_of_count s ≡ false
emite_counts names c d m b s none (emit_refused h taken untouched) = first_counts c.files names.tables doc.Roll names.roll 2 c d s m b none taken h
emite_counts names c d m b s none (emit_no_memory taken untouched) = refl
emite_counts names c d m b s none (emit_no_cabinet taken untouched) = absurd (none.faults taken.counts.faults.rose)
emite_counts names c d m b s none (not_found {t} {r} e given taken fails) = peeking e none.calm fails
  where
    peeking : (e : StoreError) → Calm (store_status e) m b → FailsToPeek t r m b e → tells_of_count (store_status e) ≡ false
    peeking store.Memory calm h = refl
    peeking (store.Flash x) calm h = absurd (calm (port_of x) refl h.0.faults.rose)
    peeking (store.Foreign x) calm h = refl
    peeking store.NoImage calm h = refl
emite_counts names c d m b s none (not_sealed given taken peeked unsealed) = refl
emite_counts names c d m b s none (no_files given taken peeked sealed) = refl
emite_counts names c d m b s none (files_stopped {t} {section} {s = u} {opened} {closed} between given taken peeked sealed stop) =
    absurd (none.faults (subst (λ (tally : Tally). Rose tally.faults d.tally.faults) taken.counts
    (stopped_rose (result_files names.out t section u opened closed) between d stop)))
emite_counts names c d m b s none (not_emitted put_to between given taken peeked sealed put off) =
    absurd (none.calm Display refl (since Display m between b peeked.synced.fine.faults off.faults.rose))
emite_counts names c d m b s none (emitted put_to between given taken peeked sealed put shown) = refl

repoe_counts : (names : Repoe) (c d : CabinetTold) (m b : Told) (s : Status) → NothingCounted c d s m b → RepoeEnds names c d m b s → tells_of_count s ≡ false
repoe_counts names c d m b s none (replace_refused h taken untouched) = first_counts c.files names.tables doc.Roll names.roll 2 c d s m b none taken h
repoe_counts names c d m b s none (replace_no_memory taken untouched) = refl
repoe_counts names c d m b s none (replace_no_cabinet taken untouched) = absurd (none.faults taken.counts.faults.rose)
repoe_counts names c d m b s none (not_replaced {t} {r} e given taken fails) = replacing e none.calm fails
  where
    replacing : (e : ReplaceError) → Calm (replace_status e) m b → FailsToReplace t r names.replaced m b e → tells_of_count (replace_status e) ≡ false
    replacing replace.Memory calm h = refl
    replacing (replace.Flash x) calm h = absurd (calm (port_of x) refl h.0.faults.rose)
    replacing (replace.Foreign x) calm h = refl
    replacing (replace.NoStanding x) calm h = refl
    replacing (replace.Busy x) calm h = refl
repoe_counts names c d m b s none (replaced_untold between given taken has off) =
    absurd (none.calm Display refl (since Display m between b has.fine.faults off.faults.rose))
repoe_counts names c d m b s none (replaced between given taken has shown) = refl

confere_counts : (names : Confere) (c d : CabinetTold) (m b : Told) (s : Status) → NothingCounted c d s m b → ConfereEnds names c d m b s
    → tells_of_count s ≡ false
confere_counts names c d m b s none (check_refused h taken untouched) =
    first_counts c.files names.tables doc.Report names.report 2 c d s m b none taken h
confere_counts names c d m b s none (check_no_memory taken untouched) = refl
confere_counts names c d m b s none (check_no_cabinet taken untouched) = absurd (none.faults taken.counts.faults.rose)
confere_counts names c d m b s none (check_not_told given taken off) = absurd (none.calm Display refl off.faults.rose)
confere_counts names c d m b s none (checked {v} given taken shown) = by_verdict v
  where
    by_verdict : (v : Verdict) → tells_of_count (verdict_status v) ≡ false
    by_verdict (verdict.Accepted zone number) = refl
    by_verdict (verdict.Part f) = refl
    by_verdict (verdict.Fields f) = refl
    by_verdict verdict.Strange = refl
    by_verdict (verdict.Repeated zone number) = refl
    by_verdict (verdict.Conflict zone number) = refl

finding_counts : (f : Finding) → tells_of_count (finding_status f) ≡ false
finding_counts found.Agree = refl
finding_counts found.Heading = refl
finding_counts (found.Office k) = refl
finding_counts (found.Differs panel c lines said) = refl

no_report_counts : (bytes : List ℕ) (v : Verdict) → IsNoReport bytes v → tells_of_count (verdict_status v) ≡ false
no_report_counts bytes _ (parts_fault h) = refl
no_report_counts bytes _ (fields_fault of h) = refl

reconta_counts : (names : Reconta) (c d : CabinetTold) (m b : Told) (s : Status) → NothingCounted c d s m b → RecontaEnds names c d m b s
    → tells_of_count s ≡ false
reconta_counts names c d m b s none (report_at_fault h taken untouched) = fault_counts c.files names.report doc.Report 1 c d s m b none taken h
reconta_counts names c d m b s none (record_at_fault has h taken untouched) = fault_counts c.files names.rdv doc.Record 2 c d s m b none taken h
reconta_counts names c d m b s none (recount_no_memory taken untouched) = refl
reconta_counts names c d m b s none (recount_no_cabinet taken untouched) = absurd (none.faults taken.counts.faults.rose)
reconta_counts names c d m b s none (no_recount {v} given taken tells) =
    ap tells_of_count (answers_calm (verdict_line v) (verdict_status v) m b s none.calm tells) ∙ no_report_counts given.bytes v given.refused
reconta_counts names c d m b s none (recounted {r} {p} given taken tells) =
    ap tells_of_count (answers_calm (finding_line r p) (finding_status (finding r p)) m b s none.calm tells) ∙ finding_counts (finding r p)

totaliza_counts : (names : Totaliza) (c d : CabinetTold) (m b : Told) (s : Status) → NothingCounted c d s m b → TotalizaEnds names c d m b s
    → tells_of_count s ≡ false
totaliza_counts names c d m b s none (list_refused h taken untouched) =
    first_counts c.files names.tables doc.List names.list 2 c d s m b none taken h
totaliza_counts names c d m b s none (list_no_memory taken untouched) = refl
totaliza_counts names c d m b s none (list_no_cabinet taken untouched) = absurd (none.faults taken.counts.faults.rose)
totaliza_counts names c d m b s none (report_refused {listed} {name} given offered fault taken shown) =
    fault_counts c.files name doc.Report (length listed + 2) c d s m b none taken fault
totaliza_counts names c d m b s none (report_no_cabinet given offered taken shown) = absurd (none.faults taken.counts.faults.rose)
totaliza_counts names c d m b s none (report_no_memory given offered taken shown) = refl
totaliza_counts names c d m b s none (verdict_not_told given offered taken off) = absurd (none.calm Display refl off.faults.rose)
totaliza_counts names c d m b s none (totals_not_told given totals taken off) = absurd (none.calm Display refl off.faults.rose)
totaliza_counts names c d m b s none (totalled {verdicts} given totals taken shown) = by_count (refused_count verdicts)
  where
    by_count : (k : ℕ) → tells_of_count (refused_status k) ≡ false
    by_count zero = refl
    by_count (suc k) = refl

contest_counts : (tables list : List ℕ) (code : ℕ) (c d : CabinetTold) (m b : Told) (s : Status) → NothingCounted c d s m b → ContestStops tables list code c d m b s
    → tells_of_count s ≡ false
contest_counts tables list code c d m b s none (contest_refused (of_tables h) (k, of, taken) untouched) = fault_counts c.files tables doc.Tables (k + 2) c d s m b none taken h
contest_counts tables list code c d m b s none (contest_refused (of_office has nobody) (k, of, taken) untouched) = refl
contest_counts tables list code c d m b s none (contest_refused (of_list has office h) (k, of, taken) untouched) = fault_counts c.files list doc.List (k + 2) c d s m b none taken h
contest_counts tables list code c d m b s none (contest_refused (of_report {name} given office offered h) (k, of, taken) untouched) =
    fault_counts c.files name doc.Report (k + 2) c d s m b none taken h
contest_counts tables list code c d m b s none (contest_no_memory taken untouched) = refl
contest_counts tables list code c d m b s none (contest_no_cabinet (k, of, taken) untouched) = absurd (none.faults taken.counts.faults.rose)

certifica_counts : (names : Certifica) (c d : CabinetTold) (m b : Told) (s : Status) → NothingCounted c d s m b → CertificaEnds names c d m b s
    → tells_of_count s ≡ false
certifica_counts names c d m b s none (certify_no_contest stops) = contest_counts names.tables names.list names.code c d m b s none stops
certifica_counts names c d m b s none (certify_no_seats has nobody taken untouched) = refl
certifica_counts names c d m b s none (certify_no_memory has taken untouched) = refl
certifica_counts names c d m b s none (certificate_not_put after made fails untouched) =
    absurd (none.faults (subst (λ (tally : Tally). Rose tally.faults d.tally.faults) made.took.2.counts fails.counts.faults.rose))
certifica_counts names c d m b s none (certified_untold after made put off) = absurd (none.calm Display refl off.faults.rose)
certifica_counts names c d m b s none (certified after made put shown) = refl

check_counts : (checked : Check) → tells_of_count (checked_status checked) ≡ false
check_counts (Ok valid) = refl
check_counts (Err f) = refl

verifica_counts : (names : Verifica) (c d : CabinetTold) (m b : Told) (s : Status) → NothingCounted c d s m b → VerificaEnds names c d m b s
    → tells_of_count s ≡ false
verifica_counts names c d m b s none (verify_no_contest stops) = contest_counts names.tables names.list names.code c d m b s none stops
verifica_counts names c d m b s none (certificate_at_fault has (of_file h) (k, of, taken) untouched) =
    fault_counts c.files names.certificate doc.Certificate (k + 3) c d s m b none taken h
verifica_counts names c d m b s none (certificate_at_fault has (of_other_office read other) taken untouched) = refl
verifica_counts names c d m b s none (verify_no_memory taken untouched) = refl
verifica_counts names c d m b s none (verify_no_cabinet (k, of, taken) untouched) = absurd (none.faults taken.counts.faults.rose)
verifica_counts names c d m b s none (verified found has is taken tells) =
    ap tells_of_count (answers_calm (checked_line names.code found) (checked_status found) m b s none.calm tells) ∙ check_counts found

command_counts : (k : Option Command) (c d : CabinetTold) (m b : Told) (s : Status) → NothingCounted c d s m b → CommandEnds k c d m b s
    → tells_of_count s ≡ false
command_counts None c d m b s none ends = ap tells_of_count ends.usage
command_counts (Some (ToVote names)) c d m b s none ends = vota_counts names c d m b s none ends
command_counts (Some (ToLoad names)) c d m b s none ends = carga_counts names c d m b s none ends
command_counts (Some (ToEmit names)) c d m b s none ends = emite_counts names c d m b s none ends
command_counts (Some (ToCheck names)) c d m b s none ends = confere_counts names c d m b s none ends
command_counts (Some (ToRecount names)) c d m b s none ends = reconta_counts names c d m b s none ends
command_counts (Some (ToCertify names)) c d m b s none ends = certifica_counts names c d m b s none ends
command_counts (Some (ToVerify names)) c d m b s none ends = verifica_counts names c d m b s none ends
command_counts (Some (ToTotal names)) c d m b s none ends = totaliza_counts names c d m b s none ends
command_counts (Some (ToRehearse voters)) c d m b s none ends = done_or_memory s (ensaio_completes voters c d m b s none.faults none.calm ends)
command_counts (Some (ToReplace names)) c d m b s none ends = repoe_counts names c d m b s none ends

pub tells_of_risen_counts : TellsOfRisenCounts
tells_of_risen_counts words c d m n s failed missing too_long ends =
    command_counts (command_of words) c d m ends.between s
    (record { faults = failed.cabinet; missing = missing; too_long = too_long; calm = calm s m ends.between n failed.ports ends.told }) ends.command
