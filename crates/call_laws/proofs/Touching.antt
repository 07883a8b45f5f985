-- What each command may touch
use Rattle.station.specs.declared.station.StartError.{StartError}
use Rattle.state_store.specs.declared.store.LoadError.{LoadError}
use Rattle.station.specs.Start.{FailsToStart}
use Rattle.state_store.specs.declared.store.LoadError.TheVariants as load
use Rattle.urna_outside.specs.declared.device.Dev.{Dev}
use Rattle.urna_outside.specs.declared.device.Dev.TheVariants as dev
use Rattle.urna_outside.specs.declared.device.Port.TheVariants as port
use Rattle.station.specs.declared.station.StartError.TheVariants as starting
use Rattle.urna_commands.specs.declared.status.Status.TheVariants as status
use Rattle.std.proofs.Common.{◌≡◌, ◌≢◌, inl, inr, ℕ, suc, ◌≤◌, ◌+◌, List, [], ◌∷◌, ◌++◌, Option, Some, None, length, refl, sym, ap, subst, ◌∙◌, arith, append_assoc}
use Rattle.std.specs.List.{AllByRecursion}
use Rattle.std.proofs.lemmas.List.{append-nil}
use Rattle.urna_outside.specs.Cabinet.{CabinetTold, Entry, Files, file_at}
use Rattle.urna_outside.specs.Flash.{Op}
use Rattle.urna_outside.specs.ShownLines.{HasShown, IsCutOff, shows}
use Rattle.urna_outside.specs.Told.{Runs, Told}
use Rattle.urna_outside.proofs.Doing.{does_nothing, runs-append}
use Rattle.election_tables.specs.Roll.{RollData}
use Rattle.election_tables.specs.TablesData.{TablesData}
use Rattle.election_tables.specs.declared.tables.sections.Section.{Section}
use Rattle.image_codec.specs.State.{State}
use Rattle.flash_store.specs.Syncs.{IsFrontOfSyncs, IsSynced, both_synced}
use Rattle.state_store.specs.Calls.{FailsToPeek, FailsToLoad, FailsToRecover}
use Rattle.state_store.specs.declared.store.StoreError.{StoreError}
use Rattle.state_store.specs.declared.store.StoreError.TheVariants as store
use Rattle.contingency.specs.Calls.{FailsToReplace}
use Rattle.contingency.specs.declared.replacement.ReplaceError.{ReplaceError}
use Rattle.contingency.specs.declared.replacement.ReplaceError.TheVariants as replace
use Rattle.record_audit.specs.Finding.{finding}
use Rattle.urna_commands.specs.Answering.{Answers, answered, cut_short}
use Rattle.urna_commands.specs.Carga.{CargaEnds, load_no_cabinet, load_no_memory, load_refused, loaded, no_section, not_loaded, not_told, loaded_line}
use Rattle.urna_commands.specs.Certifica.{CertificaEnds, certificate_file, certificate_name, certificate_not_put, certified, certified_untold, certify_no_contest, certify_no_memory, certify_no_seats}
use Rattle.urna_commands.specs.Command.{Carga, Certifica, Command, Confere, Emite, Reconta, Repoe, ToCertify, ToCheck, ToEmit, ToLoad, ToRecount, ToRehearse, ToReplace, ToTotal, ToVerify, ToVote, Totaliza, Verifica, Vota, command_of}
use Rattle.urna_commands.specs.Confere.{ConfereEnds, check_no_cabinet, check_no_memory, check_not_told, check_refused, checked}
use Rattle.urna_commands.specs.Emite.{EmiteEnds, emit_no_cabinet, emit_no_memory, emit_refused, emitted, emitted_line, files_stopped, no_files, not_emitted, not_found, not_sealed}
use Rattle.urna_commands.specs.Ending.{CommandEnds, NoCommandEnds}
use Rattle.urna_commands.specs.Ensaio.{EnsaioEnds, not_rehearsed, rehearsal_files, rehearsal_names, rehearsal_not_put, rehearsal_not_told, rehearsed}
use Rattle.command_parts.specs.FaultLines.{Tells, fault_line}
use Rattle.urna_commands.specs.FaultLines.{fault_text}
use Rattle.urna_commands.specs.Findings.{finding_line, finding_status}
use Rattle.urna_commands.specs.Office.{ContestStops, contest_no_cabinet, contest_no_memory, contest_refused}
use Rattle.urna_commands.specs.Offered.{AreToTake, HasTakenReports}
use Rattle.urna_commands.specs.Putting.{FailsToPutFile, HasPutFile, HavePut, PutsResults, StopPutting, no_results, result_files, result_names, results_not_made, results_not_put, results_put}
use Rattle.urna_commands.specs.Reconta.{RecontaEnds, no_recount, recount_no_cabinet, recount_no_memory, record_at_fault, recounted, report_at_fault}
use Rattle.urna_commands.specs.Repoe.{RepoeEnds, not_replaced, replace_no_cabinet, replace_no_memory, replace_refused, replaced, replaced_line, replaced_untold}
use Rattle.command_parts.specs.Taking.{calls_made}
use Rattle.urna_commands.specs.Taking.{HasTaken}
use Rattle.command_parts.specs.Documents.{IsListed}
use Rattle.urna_commands.specs.Totaliza.{TotalizaEnds, list_no_cabinet, list_no_memory, list_refused, report_no_cabinet, report_no_memory, report_refused, totalled, totals_not_told, verdict_not_told}
use Rattle.call_laws.specs.Touching.{AreAny, AreSyncsAndShows, EachTouchesAtMost, Touches, TouchesAtMost}
use Rattle.urna_outside.specs.Shows.{AreShows}
use Rattle.urna_outside.proofs.Showing.{are_shows-append}
use Rattle.urna_outside.proofs.ShowingLines.{cut_front, shows_lines}
use Rattle.command_parts.proofs.Calls.{calls_more}
use Rattle.report_lines.specs.Verdicts.{verdict_line, verdict_lines}
use Rattle.urna_commands.specs.Verdicts.{verdict_status}
use Rattle.urna_commands.specs.Verifica.{VerificaEnds, certificate_at_fault, checked_line, checked_status, verified, verify_no_cabinet, verify_no_contest, verify_no_memory}
use Rattle.urna_commands.specs.Vota.{VotaEnds, cut, no_cabinet, no_memory, not_started, refused, session_held}
use Rattle.urna_commands.specs.declared.status.Status.{Status}
use Rattle.call_laws.proofs.PutFiles.{put_stays, stop_stays}

-- ---- shows

abbrev Shown : Told → Told → Type 0
Shown m n = Runs AreShows m n

shown_so : (lines : List (List ℕ)) (a b : Told) → HasShown lines a b → Shown a b
shown_so lines a b h = (shows lines, h.does, (shows_lines lines).shows)

cut_so : (lines : List (List ℕ)) (a b : Told) → IsCutOff lines a b → Shown a b
cut_so lines a b h = (h.ops, h.does, (cut_front lines h.ops h.cut).shows)

untouched_so : (a b : Told) → b ≡ a → Shown a b
untouched_so a b same = subst (Shown a) (sym same) ([], does_nothing a, tt)

tells_so : (text : Option (List ℕ)) (a b : Told) → Tells text a b → Shown a b
tells_so None a b same = untouched_so a b same
tells_so (Some text) a b (inl shown) = shown_so (fault_line text ∷ []) a b shown
tells_so (Some text) a b (inr off) = cut_so (fault_line text ∷ []) a b off

-- ---- syncs, and then shows

synced-append : (xs ys : List Op) → AreSyncsAndShows xs → AreShows ys → AreSyncsAndShows (xs ++ ys)
synced-append xs ys (syncs, shown, is, front, are) more =
    (syncs, shown ++ ys, ap (λ (l : List Op). l ++ ys) is ∙ append_assoc syncs shown ys, front, are_shows-append shown ys are more)

only_shows : (ops : List Op) → AreShows ops → AreSyncsAndShows ops
only_shows ops are = ([], ops, refl, inl (inl refl), are)

only_syncs : (ops : List Op) → IsFrontOfSyncs ops → AreSyncsAndShows ops
only_syncs ops front = (ops, [], sym (append-nil ops), front, tt)

abbrev Synced : Told → Told → Type 0
Synced m n = Runs AreSyncsAndShows m n

unsynced_so : (a b : Told) → b ≡ a → Synced a b
unsynced_so a b same = let (ops, does, are) = untouched_so a b same in (ops, does, only_shows ops are)

synced_so : (a b : Told) → IsSynced a b → Synced a b
synced_so a b h = (both_synced, h.does, only_syncs both_synced (inr refl))

then_shown : (a b c : Told) → Synced a b → Shown b c → Synced a c
then_shown a b c first second = runs-append AreSyncsAndShows AreShows AreSyncsAndShows a b c synced-append first second

peek_so : (t : TablesData) (r : RollData) (m n : Told) (e : StoreError) → FailsToPeek t r m n e → Synced m n
peek_so t r m n store.Memory h = unsynced_so m n h
peek_so t r m n (store.Flash d) h = (h.1.0, h.1.1, only_syncs h.1.0 h.1.2)
peek_so t r m n (store.Foreign d) h = synced_so m n h.0
peek_so t r m n store.NoImage h = synced_so m n h.0

-- ---- files and calls

abbrev Files_stay : List (List ℕ) → CabinetTold → CabinetTold → Type 0
Files_stay own c d = (before : Files) → c.files ≡ Some before
    → (now : Files) × (d.files ≡ Some now) × ((name : List ℕ) → AllByRecursion (λ file. name ≢ file) own → file_at name now ≡ file_at name before)

taken_stay : (most : ℕ) (s : Status) (own : List (List ℕ)) (c d : CabinetTold) → HasTaken most s c d → Files_stay own c d
taken_stay most s own c d taken before told = (before, taken.files ∙ told, λ name other. refl)

-- no more than so many calls
abbrev Made : ℕ → CabinetTold → CabinetTold → Type 0
Made most c d = (made : ℕ) × (made ≤ most) × (d.calls ≡ calls_made made c.calls)

taken_made : (most : ℕ) (s : Status) (c d : CabinetTold) → HasTaken most s c d → Made most c d
taken_made most s c d taken = (taken.made, taken.few, taken.calls)

put_made : (files : List Entry) (c d : CabinetTold) → HavePut files c d → Made (length files) c d
put_made [] c d same = (0, omega arith, ap (λ (x : CabinetTold). x.calls) same)
put_made (file ∷ files) c d (between, first, rest) =
    let (made, few, calls) = put_made files between d rest in
    (suc made, omega (arith, few), calls ∙ ap (calls_made made) first.calls)

stop_made : (files : List Entry) (c d : CabinetTold) → StopPutting files c d → Made (length files) c d
stop_made [] c d none = absurd none
stop_made (file ∷ files) c d (inl fails) = (1, omega arith, fails.calls)
stop_made (file ∷ files) c d (inr (between, first, rest)) =
    let (made, few, calls) = stop_made files between d rest in
    (suc made, omega (arith, few), calls ∙ ap (calls_made made) first.calls)

more_made : (k j : ℕ) (c b d : CabinetTold) → Made k c b → Made j b d → Made (k + j) c d
more_made k j c b d (first, few, calls) (second, few_more, calls_then) =
    (first + second, omega (arith, few, few_more), calls_then ∙ ap (calls_made second) calls ∙ calls_more first second c.calls)

at_most : (k j : ℕ) (c d : CabinetTold) → k ≤ j → Made k c d → Made j c d
at_most k j c d less (made, few, calls) = (made, omega (arith, less, few), calls)

-- first files were taken, and then these changed
then_stay : (most : ℕ) (s : Status) (own : List (List ℕ)) (c b d : CabinetTold) → HasTaken most s c b → Files_stay own b d → Files_stay own c d
then_stay most s own c b d taken stay before told = stay before (taken.files ∙ told)

touches : (does : List Op → Type 0) (own : List (List ℕ)) (most : ℕ) (c d : CabinetTold) (m n : Told) → Runs does m n → Files_stay own c d → Made most c d → Touches does own most c d m n
touches does own most c d m n ops stay (made, few, calls) = record { ops = ops; files = stay; made = made; few = few; calls = calls }

-- the command has taken some files, and no more
took : (does : List Op → Type 0) (own : List (List ℕ)) (most k : ℕ) (s : Status) (c d : CabinetTold) (m n : Told) → k ≤ most → Runs does m n → HasTaken k s c d → Touches does own most c d m n
took does own most k s c d m n less ops taken = touches does own most c d m n ops (taken_stay k s own c d taken) (at_most k most c d less (taken_made k s c d taken))

-- ---- the fault line

-- what is done behind the command is a show
then_told : (does : List Op → Type 0) (own : List (List ℕ)) (most : ℕ) (c d : CabinetTold) (m b n : Told) → ((xs ys : List Op) → does xs → AreShows ys → does (xs ++ ys))
    → Touches does own most c d m b → Shown b n → Touches does own most c d m n
then_told does own most c d m b n more is shown =
    record { ops = runs-append does AreShows does m b n more is.ops shown; files = is.files; made = is.made; few = is.few; calls = is.calls }

-- ---- by command

confere_touches : (names : Confere) (c d : CabinetTold) (m b : Told) (s : Status) → ConfereEnds names c d m b s → Touches AreShows [] 2 c d m b
confere_touches names c d m b s (check_refused why taken un) = took AreShows [] 2 2 s c d m b (omega arith) (untouched_so m b un) taken
confere_touches names c d m b s (check_no_memory taken un) = took AreShows [] 2 2 s c d m b (omega arith) (untouched_so m b un) taken
confere_touches names c d m b s (check_no_cabinet taken un) = took AreShows [] 2 2 s c d m b (omega arith) (untouched_so m b un) taken
confere_touches names c d m b s (check_not_told {v} has taken off) = took AreShows [] 2 2 s c d m b (omega arith) (cut_so (verdict_line v ∷ []) m b off) taken
confere_touches names c d m b s (checked {v} has taken shown) = took AreShows [] 2 2 s c d m b (omega arith) (shown_so (verdict_line v ∷ []) m b shown) taken

answer_so : (line : List ℕ) (given : Status) (m b : Told) (s : Status) → Answers line given m b s → Shown m b
answer_so line given m b _ (answered shown) = shown_so (line ∷ []) m b shown
answer_so line given m b _ (cut_short off) = cut_so (line ∷ []) m b off

reconta_touches : (names : Reconta) (c d : CabinetTold) (m b : Told) (s : Status) → RecontaEnds names c d m b s → Touches AreShows [] 2 c d m b
reconta_touches names c d m b s (report_at_fault why taken un) = took AreShows [] 2 1 s c d m b (omega arith) (untouched_so m b un) taken
reconta_touches names c d m b s (record_at_fault has why taken un) = took AreShows [] 2 2 s c d m b (omega arith) (untouched_so m b un) taken
reconta_touches names c d m b s (recount_no_memory taken un) = took AreShows [] 2 2 s c d m b (omega arith) (untouched_so m b un) taken
reconta_touches names c d m b s (recount_no_cabinet taken un) = took AreShows [] 2 2 s c d m b (omega arith) (untouched_so m b un) taken
reconta_touches names c d m b s (no_recount {v} has taken tells) =
    took AreShows [] 2 1 s c d m b (omega arith) (answer_so (verdict_line v) (verdict_status v) m b s tells) taken
reconta_touches names c d m b s (recounted {r} {p} has taken tells) =
    took AreShows [] 2 2 s c d m b (omega arith) (answer_so (finding_line r p) (finding_status (finding r p)) m b s tells) taken

-- the reports that are listed
listed_touches : (names : Totaliza) (c d : CabinetTold) (m b : Told) (s : Status) (t : TablesData) (listed : List (List ℕ)) → IsListed c.files names.tables names.list t listed → Shown m b
    → HasTaken (length listed + 2) s c d → TouchesAtMost (Some (ToTotal names)) c d m b
listed_touches names c d m b s t listed is ops taken =
    (length listed, inr (t, listed, is, refl), took AreShows [] (length listed + 2) (length listed + 2) s c d m b (omega arith) ops taken)

totaliza_touches : (names : Totaliza) (c d : CabinetTold) (m b : Told) (s : Status) → TotalizaEnds names c d m b s → TouchesAtMost (Some (ToTotal names)) c d m b
totaliza_touches names c d m b s (list_refused why taken un) = (0, inl refl, took AreShows [] 2 2 s c d m b (omega arith) (untouched_so m b un) taken)
totaliza_touches names c d m b s (list_no_memory taken un) = (0, inl refl, took AreShows [] 2 2 s c d m b (omega arith) (untouched_so m b un) taken)
totaliza_touches names c d m b s (list_no_cabinet taken un) = (0, inl refl, took AreShows [] 2 2 s c d m b (omega arith) (untouched_so m b un) taken)
totaliza_touches names c d m b s (report_refused {t} {listed} {verdicts} is offered why taken shown) = listed_touches names c d m b s t listed is (shown_so (verdict_lines verdicts) m b shown) taken
totaliza_touches names c d m b s (report_no_cabinet {t} {listed} {verdicts} is offered taken shown) = listed_touches names c d m b s t listed is (shown_so (verdict_lines verdicts) m b shown) taken
totaliza_touches names c d m b s (report_no_memory {t} {listed} {verdicts} is offered taken shown) = listed_touches names c d m b s t listed is (shown_so (verdict_lines verdicts) m b shown) taken
totaliza_touches names c d m b s (verdict_not_told {t} {listed} {verdicts} is offered taken off) = listed_touches names c d m b s t listed is (cut_so (verdict_lines verdicts) m b off) taken
totaliza_touches names c d m b s (totals_not_told {t} {listed} {verdicts} {lines} is has taken off) = listed_touches names c d m b s t listed is (cut_so (verdict_lines verdicts ++ lines) m b off) taken
totaliza_touches names c d m b s (totalled {t} {listed} {verdicts} {lines} is has taken shown) = listed_touches names c d m b s t listed is (shown_so (verdict_lines verdicts ++ lines) m b shown) taken

-- the reports of a list, and no file
module _ (tables list : List ℕ) (own : List (List ℕ)) (c d : CabinetTold) (m b : Told) where
  abbrev ListTouches : ℕ → Type 0
  ListTouches more = (k : ℕ) × AreToTake c.files tables list k × Touches AreShows own (k + more) c d m b

  took_reports : (more most : ℕ) (s : Status) → more ≤ most → Shown m b → HasTakenReports tables list more s c d → ListTouches most
  took_reports more most s less ops (k, of, taken) = (k, of, took AreShows own (k + most) (k + more) s c d m b (omega (arith, less)) ops taken)

  stops_touches : (code most : ℕ) (s : Status) → 2 ≤ most → ContestStops tables list code c d m b s → ListTouches most
  stops_touches code most s less (contest_refused why taken un) = took_reports 2 most s less (untouched_so m b un) taken
  stops_touches code most _ less (contest_no_memory taken un) = took_reports 2 most status.Memory less (untouched_so m b un) taken
  stops_touches code most _ less (contest_no_cabinet taken un) = took_reports 2 most status.Cabinet less (untouched_so m b un) taken

-- a certificate is put, or not, behind the reports
certificate_touches : (names : Certifica) (c a d : CabinetTold) (m b : Told) → Shown m b → HasTakenReports names.tables names.list 2 status.Done c a
    → Files_stay (certificate_name names.out ∷ []) a d × Made 1 a d → TouchesAtMost (Some (ToCertify names)) c d m b
certificate_touches names c a d m b ops (k, of, taken) (stay, made) = (
  k,
  of,
  touches AreShows (certificate_name names.out ∷ []) (k + 3) c d m b ops (then_stay (k + 2) status.Done (certificate_name names.out ∷ []) c a d taken stay)
      (at_most (k + 2 + 1) (k + 3) c d (omega arith) (more_made (k + 2) 1 c a d (taken_made (k + 2) status.Done c a taken) made)),
)

put_one : (file : Entry) (a d : CabinetTold) → HasPutFile file a d → Files_stay (file.name ∷ []) a d × Made 1 a d
put_one file a d put =
    let all : HavePut (file ∷ []) a d = (d, put, refl) in ((λ before told. put_stays (file ∷ []) a d before told all), put_made (file ∷ []) a d all)

stop_one : (file : Entry) (a d : CabinetTold) → FailsToPutFile file a d → Files_stay (file.name ∷ []) a d × Made 1 a d
stop_one file a d fails =
    let stop : StopPutting (file ∷ []) a d = inl fails in ((λ before told. stop_stays (file ∷ []) a d before told stop), stop_made (file ∷ []) a d stop)

certifica_touches : (names : Certifica) (c d : CabinetTold) (m b : Told) (s : Status) → CertificaEnds names c d m b s → TouchesAtMost (Some (ToCertify names)) c d m b
certifica_touches names c d m b s (certify_no_contest stops) =
    stops_touches names.tables names.list (certificate_name names.out ∷ []) c d m b names.code 3 s (omega arith) stops
certifica_touches names c d m b _ (certify_no_seats has none taken un) =
    took_reports names.tables names.list (certificate_name names.out ∷ []) c d m b 2 3 status.NoSeats (omega arith) (untouched_so m b un) taken
certifica_touches names c d m b _ (certify_no_memory has taken un) =
    took_reports names.tables names.list (certificate_name names.out ∷ []) c d m b 2 3 status.Memory (omega arith) (untouched_so m b un) taken
certifica_touches names c d m b _ (certificate_not_put {text} after made fails un) =
    certificate_touches names c after d m b (untouched_so m b un) made.took (stop_one (certificate_file names text) after d fails)
certifica_touches names c d m b _ (certified_untold {text} {lines} after made put off) =
    certificate_touches names c after d m b (cut_so lines m b off) made.took (put_one (certificate_file names text) after d put)
certifica_touches names c d m b _ (certified {text} {lines} after made put shown) =
    certificate_touches names c after d m b (shown_so lines m b shown) made.took (put_one (certificate_file names text) after d put)

verifica_touches : (names : Verifica) (c d : CabinetTold) (m b : Told) (s : Status) → VerificaEnds names c d m b s → TouchesAtMost (Some (ToVerify names)) c d m b
verifica_touches names c d m b s (verify_no_contest stops) = stops_touches names.tables names.list [] c d m b names.code 3 s (omega arith) stops
verifica_touches names c d m b s (certificate_at_fault has why taken un) = took_reports names.tables names.list [] c d m b 3 3 s (omega arith) (untouched_so m b un) taken
verifica_touches names c d m b _ (verify_no_memory taken un) = took_reports names.tables names.list [] c d m b 3 3 status.Memory (omega arith) (untouched_so m b un) taken
verifica_touches names c d m b _ (verify_no_cabinet taken un) = took_reports names.tables names.list [] c d m b 3 3 status.Cabinet (omega arith) (untouched_so m b un) taken
verifica_touches names c d m b s (verified found has is taken tells) =
    took_reports names.tables names.list [] c d m b 3 3 s (omega arith) (answer_so (checked_line names.code found) (checked_status found) m b s tells) taken

ensaio_touches : (voters : ℕ) (c d : CabinetTold) (m b : Told) (s : Status) → EnsaioEnds voters c d m b s → Touches AreShows rehearsal_names 6 c d m b
ensaio_touches voters c d m b s (not_rehearsed same un) =
    touches AreShows rehearsal_names 6 c d m b (untouched_so m b un) (λ before told. (before, ap (λ (x : CabinetTold). x.files) same ∙ told, λ name other. refl))
    (0, omega arith, ap (λ (x : CabinetTold). x.calls) same)
ensaio_touches voters c d m b s (rehearsal_not_put {r} is stop un) =
    touches AreShows rehearsal_names 6 c d m b (untouched_so m b un) (λ before told. stop_stays (rehearsal_files r) c d before told stop) (stop_made (rehearsal_files r) c d stop)
ensaio_touches voters c d m b s (rehearsal_not_told {r} is put off) =
    touches AreShows rehearsal_names 6 c d m b (cut_so r.lines.items m b off) (λ before told. put_stays (rehearsal_files r) c d before told put) (put_made (rehearsal_files r) c d put)
ensaio_touches voters c d m b s (rehearsed {r} is put shown) =
    touches AreShows rehearsal_names 6 c d m b (shown_so r.lines.items m b shown) (λ before told. put_stays (rehearsal_files r) c d before told put) (put_made (rehearsal_files r) c d put)

-- both files of results were put, or one of them was not
module _ (out : List ℕ) (t : TablesData) (section : Section) (s : State) (opened closed : ℕ) (c d : CabinetTold) where
  put_results : HavePut (result_files out t section s opened closed) c d → Files_stay (result_names out) c d × Made 2 c d
  put_results put =
      ((λ before told. put_stays (result_files out t section s opened closed) c d before told put), put_made (result_files out t section s opened closed) c d put)

  stop_results : StopPutting (result_files out t section s opened closed) c d → Files_stay (result_names out) c d × Made 2 c d
  stop_results stop =
      ((λ before told. stop_stays (result_files out t section s opened closed) c d before told stop), stop_made (result_files out t section s opened closed) c d stop)

emite_put : (out : List ℕ) (k : ℕ) (s : Status) (c a d : CabinetTold) (m b : Told) → k ≤ 2 → Synced m b → HasTaken k s c a → Files_stay (result_names out) a d × Made 2 a d
    → Touches AreSyncsAndShows (result_names out) 4 c d m b
emite_put out k s c a d m b less ops taken (stay, made) =
    touches AreSyncsAndShows (result_names out) 4 c d m b ops (then_stay k s (result_names out) c a d taken stay)
    (at_most (k + 2) 4 c d (omega (arith, less)) (more_made k 2 c a d (taken_made k s c a taken) made))

emite_touches : (names : Emite) (c d : CabinetTold) (m b : Told) (s : Status) → EmiteEnds names c d m b s → Touches AreSyncsAndShows (result_names names.out) 4 c d m b
emite_touches names c d m b s (emit_refused bad taken un) = took AreSyncsAndShows (result_names names.out) 4 2 s c d m b (omega arith) (unsynced_so m b un) taken
emite_touches names c d m b s (emit_no_memory taken un) = took AreSyncsAndShows (result_names names.out) 4 2 s c d m b (omega arith) (unsynced_so m b un) taken
emite_touches names c d m b s (emit_no_cabinet taken un) = took AreSyncsAndShows (result_names names.out) 4 2 s c d m b (omega arith) (unsynced_so m b un) taken
emite_touches names c d m b s (not_found {t} {r} e given taken h) = took AreSyncsAndShows (result_names names.out) 4 2 s c d m b (omega arith) (peek_so t r m b e h) taken
emite_touches names c d m b s (not_sealed given taken h not) = took AreSyncsAndShows (result_names names.out) 4 2 s c d m b (omega arith) (synced_so m b h.synced) taken
emite_touches names c d m b s (no_files given taken h sealed) = took AreSyncsAndShows (result_names names.out) 4 2 s c d m b (omega arith) (synced_so m b h.synced) taken
emite_touches names c d m b _ (files_stopped {t} {section} {s = state} {opened} {closed} after given taken h sealed put) =
    emite_put names.out 2 status.Done c after d m b (omega arith) (synced_so m b h.synced) taken (stop_results names.out t section state opened closed after d put)
emite_touches names c d m b _ (not_emitted {t} {section} {s = state} {opened} {closed} after between given taken h sealed put off) =
    emite_put names.out 2 status.Done c after d m b (omega arith) (then_shown m between b (synced_so m between h.synced) (cut_so (emitted_line section ∷ []) between b off)) taken
    (put_results names.out t section state opened closed after d put)
emite_touches names c d m b _ (emitted {t} {section} {s = state} {opened} {closed} after between given taken h sealed put shown) =
    emite_put names.out 2 status.Done c after d m b (omega arith) (then_shown m between b (synced_so m between h.synced) (shown_so (emitted_line section ∷ []) between b shown)) taken
    (put_results names.out t section state opened closed after d put)

-- whatever was done
any_so : {P : List Op → Type 0} (a b : Told) → Runs P a b → Runs AreAny a b
any_so a b (ops, does, is) = (ops, does, tt)

abbrev Any : Told → Told → Type 0
Any m n = Runs AreAny m n

none_so : (a b : Told) → b ≡ a → Any a b
none_so a b same = any_so a b (untouched_so a b same)

any_then : (a b c : Told) → Any a b → Shown b c → Any a c
any_then a b c first second = runs-append AreAny AreShows AreAny a b c (λ xs ys before more. tt) first second

recover_so : (t : TablesData) (r : RollData) (m b : Told) (e : StoreError) → FailsToRecover t r m b e → Any m b
recover_so t r m b store.Memory h = none_so m b h
recover_so t r m b (store.Flash d) h = any_so m b h.1
recover_so t r m b (store.Foreign d) h = any_so m b (synced_so m b h.0)
recover_so t r m b store.NoImage h = any_so m b (synced_so m b h.0)

start_so : (t : TablesData) (r : RollData) (m b : Told) (e : StartError) → FailsToStart t r m b e → Any m b
start_so t r m b starting.Memory h = recover_so t r m b store.Memory h
start_so t r m b (starting.Port port.Internal) h = recover_so t r m b (store.Flash dev.Internal) h
start_so t r m b (starting.Port port.External) h = recover_so t r m b (store.Flash dev.External) h
start_so t r m b (starting.Port port.Display) h = any_so m b (h.survives [])
start_so t r m b (starting.Foreign d) h = recover_so t r m b (store.Foreign d) h
start_so t r m b starting.NoImage h = recover_so t r m b store.NoImage h

abbrev VotaTouches : Vota → CabinetTold → CabinetTold → Told → Told → Type 0
VotaTouches names c d m b = Touches AreAny (result_names names.out) 5 c d m b

-- the files of results, behind three that were taken
vota_put : (names : Vota) (c a d : CabinetTold) (m b : Told) → Any m b → HasTaken 3 status.Done c a → Files_stay (result_names names.out) a d × Made 2 a d → VotaTouches names c d m b
vota_put names c a d m b ops taken (stay, made) =
    touches AreAny (result_names names.out) 5 c d m b ops (then_stay 3 status.Done (result_names names.out) c a d taken stay)
    (more_made 3 2 c a d (taken_made 3 status.Done c a taken) made)

results_touch : (names : Vota) (t : TablesData) (section : Section) (s : State) (c a d : CabinetTold) (m b : Told) (answer : Status) → Any m b → HasTaken 3 status.Done c a
    → PutsResults names.out t section s a d answer → VotaTouches names c d m b
results_touch names t section s c a d m b _ ops taken (no_results unsealed same) =
    took AreAny (result_names names.out) 5 3 status.Done c d m b (omega arith) ops (subst (HasTaken 3 status.Done c) (sym same) taken)
results_touch names t section s c a d m b _ ops taken (results_put {opened} {closed} sealed put) =
    vota_put names c a d m b ops taken (put_results names.out t section s opened closed a d put)
results_touch names t section s c a d m b _ ops taken (results_not_made sealed same) =
    took AreAny (result_names names.out) 5 3 status.Done c d m b (omega arith) ops (subst (HasTaken 3 status.Done c) (sym same) taken)
results_touch names t section s c a d m b _ ops taken (results_not_put {opened} {closed} sealed stop) =
    vota_put names c a d m b ops taken (stop_results names.out t section s opened closed a d stop)

vota_touches : (names : Vota) (c d : CabinetTold) (m b : Told) (s : Status) → VotaEnds names c d m b s → VotaTouches names c d m b
vota_touches names c d m b s (refused why taken un) = took AreAny (result_names names.out) 5 3 s c d m b (omega arith) (none_so m b un) taken
vota_touches names c d m b s (no_memory taken un) = took AreAny (result_names names.out) 5 3 s c d m b (omega arith) (none_so m b un) taken
vota_touches names c d m b s (no_cabinet taken un) = took AreAny (result_names names.out) 5 3 s c d m b (omega arith) (none_so m b un) taken
vota_touches names c d m b s (not_started {t} {r} e given taken h) = took AreAny (result_names names.out) 5 3 s c d m b (omega arith) (start_so t r m b e h) taken
vota_touches names c d m b s (cut p given taken h) = took AreAny (result_names names.out) 5 3 s c d m b (omega arith) (any_so m b h.survives) taken
vota_touches names c d m b s (session_held {t} after given taken h one_of state put) =
    results_touch names t h.load.section h.last c after d m b s (any_so m b h.survives) taken put

load_so : (m b : Told) (e : LoadError) → FailsToLoad m b e → Any m b
load_so m b load.Memory h = none_so m b h
load_so m b (load.Flash d) h = any_so m b h.1
load_so m b (load.Busy d) h = any_so m b (synced_so m b h.0)

carga_touches : (names : Carga) (c d : CabinetTold) (m b : Told) (s : Status) → CargaEnds names c d m b s → Touches AreAny [] 2 c d m b
carga_touches names c d m b s (load_refused why taken un) = took AreAny [] 2 2 s c d m b (omega arith) (none_so m b un) taken
carga_touches names c d m b s (load_no_memory taken un) = took AreAny [] 2 2 s c d m b (omega arith) (none_so m b un) taken
carga_touches names c d m b s (load_no_cabinet taken un) = took AreAny [] 2 2 s c d m b (omega arith) (none_so m b un) taken
carga_touches names c d m b s (no_section given lacks taken un) = took AreAny [] 2 2 s c d m b (omega arith) (none_so m b un) taken
carga_touches names c d m b s (not_loaded e given asked taken h) = took AreAny [] 2 2 s c d m b (omega arith) (load_so m b e h.fails) taken
carga_touches names c d m b s (not_told {section} between given asked taken h off) =
    took AreAny [] 2 2 s c d m b (omega arith) (any_then m between b (any_so m between h.ran) (cut_so (loaded_line section ∷ []) between b off)) taken
carga_touches names c d m b s (loaded {section} between given asked taken h shown) =
    took AreAny [] 2 2 s c d m b (omega arith) (any_then m between b (any_so m between h.ran) (shown_so (loaded_line section ∷ []) between b shown)) taken

replace_so : (t : TablesData) (r : RollData) (d : Dev) (m b : Told) (e : ReplaceError) → FailsToReplace t r d m b e → Any m b
replace_so t r d m b replace.Memory h = none_so m b h
replace_so t r d m b (replace.Flash e) h = any_so m b h.1
replace_so t r d m b (replace.Foreign e) h = any_so m b (synced_so m b h.1)
replace_so t r d m b (replace.NoStanding e) h = any_so m b (synced_so m b h.1)
replace_so t r d m b (replace.Busy e) h = any_so m b (synced_so m b h.1)

repoe_touches : (names : Repoe) (c d : CabinetTold) (m b : Told) (s : Status) → RepoeEnds names c d m b s → Touches AreAny [] 2 c d m b
repoe_touches names c d m b s (replace_refused why taken un) = took AreAny [] 2 2 s c d m b (omega arith) (none_so m b un) taken
repoe_touches names c d m b s (replace_no_memory taken un) = took AreAny [] 2 2 s c d m b (omega arith) (none_so m b un) taken
repoe_touches names c d m b s (replace_no_cabinet taken un) = took AreAny [] 2 2 s c d m b (omega arith) (none_so m b un) taken
repoe_touches names c d m b s (not_replaced {t} {r} e given taken h) = took AreAny [] 2 2 s c d m b (omega arith) (replace_so t r names.replaced m b e h) taken
repoe_touches names c d m b _ (replaced_untold {section} {s} between given taken h off) =
    took AreAny [] 2 2 status.Display c d m b (omega arith) (any_then m between b (any_so m between h.ran) (cut_so (replaced_line names.replaced section s ∷ []) between b off)) taken
repoe_touches names c d m b _ (replaced {section} {s} between given taken h shown) =
    took AreAny [] 2 2 status.Done c d m b (omega arith) (any_then m between b (any_so m between h.ran) (shown_so (replaced_line names.replaced section s ∷ []) between b shown)) taken

-- ---- any of them

no_command_touches : (c d : CabinetTold) (m b : Told) (s : Status) → NoCommandEnds c d m b s → Touches AreShows [] 0 c d m b
no_command_touches c d m b s h = took AreShows [] 0 0 s c d m b (omega arith) (untouched_so m b h.untouched) h.taken

touches_so : (command : Option Command) (c d : CabinetTold) (m b n : Told) (s : Status) → CommandEnds command c d m b s → Shown b n → TouchesAtMost command c d m n
touches_so None c d m b n s h shown = then_told AreShows [] 0 c d m b n are_shows-append (no_command_touches c d m b s h) shown
touches_so (Some (ToVote names)) c d m b n s h shown = then_told AreAny (result_names names.out) 5 c d m b n (λ xs ys before more. tt) (vota_touches names c d m b s h) shown
touches_so (Some (ToLoad names)) c d m b n s h shown = then_told AreAny [] 2 c d m b n (λ xs ys before more. tt) (carga_touches names c d m b s h) shown
touches_so (Some (ToEmit names)) c d m b n s h shown = then_told AreSyncsAndShows (result_names names.out) 4 c d m b n synced-append (emite_touches names c d m b s h) shown
touches_so (Some (ToCheck names)) c d m b n s h shown = then_told AreShows [] 2 c d m b n are_shows-append (confere_touches names c d m b s h) shown
touches_so (Some (ToRecount names)) c d m b n s h shown = then_told AreShows [] 2 c d m b n are_shows-append (reconta_touches names c d m b s h) shown
touches_so (Some (ToTotal names)) c d m b n s h shown =
    let (k, of, are) = totaliza_touches names c d m b s h in
    (k, of, then_told AreShows [] (k + 2) c d m b n are_shows-append are shown)
touches_so (Some (ToCertify names)) c d m b n s h shown =
    let (k, of, are) = certifica_touches names c d m b s h in
    (k, of, then_told AreShows (certificate_name names.out ∷ []) (k + 3) c d m b n are_shows-append are shown)
touches_so (Some (ToVerify names)) c d m b n s h shown =
    let (k, of, are) = verifica_touches names c d m b s h in
    (k, of, then_told AreShows [] (k + 3) c d m b n are_shows-append are shown)
touches_so (Some (ToReplace names)) c d m b n s h shown = then_told AreAny [] 2 c d m b n (λ xs ys before more. tt) (repoe_touches names c d m b s h) shown
touches_so (Some (ToRehearse voters)) c d m b n s h shown = then_told AreShows rehearsal_names 6 c d m b n are_shows-append (ensaio_touches voters c d m b s h) shown

pub each_touches_at_most : EachTouchesAtMost
each_touches_at_most words c d m n answer ends =
    touches_so (command_of words) c d m ends.between n answer ends.command (tells_so (fault_text answer) ends.between n ends.told)
