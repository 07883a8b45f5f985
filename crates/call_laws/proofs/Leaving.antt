-- Calls that put nothing on a flash
use Rattle.urna_commands.specs.Errors.{load_status, port_status, replace_status, start_status}
use Rattle.urna_commands.specs.Putting.{PutsResults, no_results, results_not_made, results_not_put, results_put}
use Rattle.urna_outside.specs.declared.device.Port.{Port}
use Rattle.state_store.specs.declared.store.LoadError.{LoadError}
use Rattle.state_store.specs.declared.store.LoadError.TheVariants as load
use Rattle.urna_commands.specs.declared.status.Status.TheVariants as status
use Rattle.std.proofs.Common.{◌≡◌, ◌≢◌, ◌⊎◌, inl, inr, ℕ, List, [], ◌∷◌, ◌++◌, Option, Some, length, take, refl, ◌∙◌, None}
use Rattle.urna_outside.specs.Cabinet.{CabinetTold}
use Rattle.urna_outside.specs.Flash.{Flashes, Op, shown_by, flash_of}
use Rattle.urna_outside.specs.Told.{Runs, Told, port_of}
use Rattle.urna_outside.specs.declared.device.Dev.{Dev}
use Rattle.urna_outside.specs.declared.device.Dev.TheVariants as dev
use Rattle.urna_outside.specs.declared.device.Port.TheVariants as port
use Rattle.election_tables.specs.Roll.{RollData}
use Rattle.election_tables.specs.TablesData.{TablesData}
use Rattle.election_tables.specs.declared.tables.sections.Section.{Section}
use Rattle.turnout.specs.declared.phase.Phase.{Phase}
use Rattle.turnout.specs.declared.phase.Phase.TheVariants as phase
use Rattle.image_codec.specs.Encoding.{IsEncoding, phase_byte}
use Rattle.image_codec.specs.State.{State}
use Rattle.flash_store.specs.Syncs.{both_synced, IsUntouched}
use Rattle.state_store.specs.Calls.{AreFound, FailsToLoad, Loads}
use Rattle.state_store.specs.Load.{magic}
use Rattle.state_store.specs.Rest.{IsBegun, IsInUse}
use Rattle.contingency.specs.Calls.{FailsToReplace}
use Rattle.contingency.proofs.Spare.{begins_so, encoded_byte}
use Rattle.contingency.specs.declared.replacement.ReplaceError.{ReplaceError}
use Rattle.contingency.specs.declared.replacement.ReplaceError.TheVariants as replace
use Rattle.station.specs.Start.{FailsToStart}
use Rattle.station.specs.declared.station.StartError.{StartError}
use Rattle.station.specs.declared.station.StartError.TheVariants as starting
use Rattle.record_audit.specs.Finding.{finding}
use Rattle.urna_commands.specs.Answering.{Answers, answered, cut_short}
use Rattle.urna_commands.specs.Carga.{CargaEnds, load_no_cabinet, load_no_memory, load_refused, no_section, not_loaded, not_told, loaded}
use Rattle.urna_commands.specs.Certifica.{CertificaEnds, certificate_not_put, certified, certified_untold, certify_no_contest, certify_no_memory, certify_no_seats}
use Rattle.urna_commands.specs.Command.{Carga, Certifica, Command, Confere, Reconta, Repoe, ToCertify, ToLoad, ToVerify, ToVote, Totaliza, Verifica, Vota, command_of, ToCheck, ToEmit, ToRecount, ToRehearse, ToReplace, ToTotal}
use Rattle.urna_commands.specs.Confere.{ConfereEnds, check_no_cabinet, check_no_memory, check_not_told, check_refused, checked}
use Rattle.urna_commands.specs.Ending.{CommandEnds}
use Rattle.urna_commands.specs.Ensaio.{EnsaioEnds, not_rehearsed, rehearsal_not_put, rehearsal_not_told, rehearsed}
use Rattle.urna_commands.specs.FaultLines.{fault_text}
use Rattle.urna_commands.specs.Findings.{finding_line, finding_status}
use Rattle.call_laws.specs.Idle.{IdleEndings, IdleLeavesNoMore, IsIdleEnding, IsNoneOf, LoadIsKeptOut, OpenedIsInUse}
use Rattle.urna_commands.specs.Office.{ContestStops, contest_no_cabinet, contest_no_memory, contest_refused}
use Rattle.urna_commands.specs.Reconta.{RecontaEnds, no_recount, recount_no_cabinet, recount_no_memory, record_at_fault, recounted, report_at_fault}
use Rattle.urna_commands.specs.Repoe.{RepoeEnds, not_replaced, replace_no_cabinet, replace_no_memory, replace_refused, replaced, replaced_untold}
use Rattle.call_laws.specs.Replaced.{StandingIsInUse}
use Rattle.urna_commands.specs.Totaliza.{TotalizaEnds, list_no_cabinet, list_no_memory, list_refused, report_no_cabinet, report_no_memory, report_refused, totalled, totals_not_told, verdict_not_told}
use Rattle.report_lines.specs.Verdicts.{verdict_line, verdict_lines}
use Rattle.urna_commands.specs.Verdicts.{verdict_status}
use Rattle.urna_commands.specs.Verifica.{VerificaEnds, certificate_at_fault, checked_line, checked_status, verified, verify_no_cabinet, verify_no_contest, verify_no_memory}
use Rattle.urna_commands.specs.Vota.{VotaEnds, cut, no_cabinet, no_memory, not_started, refused, session_held}
use Rattle.urna_commands.specs.declared.status.Status.{Status}
use Rattle.command_parts.proofs.Idle.{Idles, cut_idles, idle_left, idle_stop, idles-append, shown_idles, synced_idles, told_idles, untouched_idles}
use Rattle.command_parts.proofs.InUse.{alone_in_use, one_in_use}
use Rattle.call_laws.proofs.Idle.{emite_idles}
use Rattle.call_laws.proofs.NeverBusy.{carga_does}
use Rattle.state_store.specs.Held.{poll}

-- ---- commands that have no flash

confere_idles : (names : Confere) (c d : CabinetTold) (m b : Told) (s : Status) → ConfereEnds names c d m b s → Idles m b
confere_idles names c d m b _ (check_refused why taken un) = untouched_idles m b un
confere_idles names c d m b _ (check_no_memory taken un) = untouched_idles m b un
confere_idles names c d m b _ (check_no_cabinet taken un) = untouched_idles m b un
confere_idles names c d m b _ (check_not_told {v} has taken off) = cut_idles (verdict_line v ∷ []) m b off
confere_idles names c d m b _ (checked {v} has taken shown) = shown_idles (verdict_line v ∷ []) m b shown

answer_idles : (line : List ℕ) (given : Status) (m b : Told) (s : Status) → Answers line given m b s → Idles m b
answer_idles line given m b _ (answered shown) = shown_idles (line ∷ []) m b shown
answer_idles line given m b _ (cut_short off) = cut_idles (line ∷ []) m b off

reconta_idles : (names : Reconta) (c d : CabinetTold) (m b : Told) (s : Status) → RecontaEnds names c d m b s → Idles m b
reconta_idles names c d m b _ (report_at_fault why taken un) = untouched_idles m b un
reconta_idles names c d m b _ (record_at_fault has why taken un) = untouched_idles m b un
reconta_idles names c d m b _ (recount_no_memory taken un) = untouched_idles m b un
reconta_idles names c d m b _ (recount_no_cabinet taken un) = untouched_idles m b un
reconta_idles names c d m b s (no_recount {v} has taken tells) = answer_idles (verdict_line v) (verdict_status v) m b s tells
reconta_idles names c d m b s (recounted {r} {p} has taken tells) = answer_idles (finding_line r p) (finding_status (finding r p)) m b s tells

totaliza_idles : (names : Totaliza) (c d : CabinetTold) (m b : Told) (s : Status) → TotalizaEnds names c d m b s → Idles m b
totaliza_idles names c d m b _ (list_refused why taken un) = untouched_idles m b un
totaliza_idles names c d m b _ (list_no_memory taken un) = untouched_idles m b un
totaliza_idles names c d m b _ (list_no_cabinet taken un) = untouched_idles m b un
totaliza_idles names c d m b _ (report_refused {verdicts} is offered why taken shown) = shown_idles (verdict_lines verdicts) m b shown
totaliza_idles names c d m b _ (report_no_cabinet {verdicts} is offered taken shown) = shown_idles (verdict_lines verdicts) m b shown
totaliza_idles names c d m b _ (report_no_memory {verdicts} is offered taken shown) = shown_idles (verdict_lines verdicts) m b shown
totaliza_idles names c d m b _ (verdict_not_told {verdicts} is offered taken off) = cut_idles (verdict_lines verdicts) m b off
totaliza_idles names c d m b _ (totals_not_told {verdicts} {lines} is has taken off) = cut_idles (verdict_lines verdicts ++ lines) m b off
totaliza_idles names c d m b _ (totalled {verdicts} {lines} is has taken shown) = shown_idles (verdict_lines verdicts ++ lines) m b shown

-- a command that has no contest
stops_untouched : (tables list : List ℕ) (code : ℕ) (c d : CabinetTold) (m b : Told) (s : Status) → ContestStops tables list code c d m b s → IsUntouched m b
stops_untouched tables list code c d m b _ (contest_refused why taken un) = un
stops_untouched tables list code c d m b _ (contest_no_memory taken un) = un
stops_untouched tables list code c d m b _ (contest_no_cabinet taken un) = un

certifica_idles : (names : Certifica) (c d : CabinetTold) (m b : Told) (s : Status) → CertificaEnds names c d m b s → Idles m b
certifica_idles names c d m b s (certify_no_contest stops) = untouched_idles m b (stops_untouched names.tables names.list names.code c d m b s stops)
certifica_idles names c d m b _ (certify_no_seats has none taken un) = untouched_idles m b un
certifica_idles names c d m b _ (certify_no_memory has taken un) = untouched_idles m b un
certifica_idles names c d m b _ (certificate_not_put after made fails un) = untouched_idles m b un
certifica_idles names c d m b _ (certified_untold {lines} after made put off) = cut_idles lines m b off
certifica_idles names c d m b _ (certified {lines} after made put shown) = shown_idles lines m b shown

verifica_idles : (names : Verifica) (c d : CabinetTold) (m b : Told) (s : Status) → VerificaEnds names c d m b s → Idles m b
verifica_idles names c d m b s (verify_no_contest stops) = untouched_idles m b (stops_untouched names.tables names.list names.code c d m b s stops)
verifica_idles names c d m b _ (certificate_at_fault has why taken un) = untouched_idles m b un
verifica_idles names c d m b _ (verify_no_memory taken un) = untouched_idles m b un
verifica_idles names c d m b _ (verify_no_cabinet taken un) = untouched_idles m b un
verifica_idles names c d m b s (verified found has is taken tells) = answer_idles (checked_line names.code found) (checked_status found) m b s tells

ensaio_idles : (voters : ℕ) (c d : CabinetTold) (m b : Told) (s : Status) → EnsaioEnds voters c d m b s → Idles m b
ensaio_idles voters c d m b _ (not_rehearsed kept un) = untouched_idles m b un
ensaio_idles voters c d m b _ (rehearsal_not_put is stop un) = untouched_idles m b un
ensaio_idles voters c d m b _ (rehearsal_not_told {r} is put off) = cut_idles r.lines.items m b off
ensaio_idles voters c d m b _ (rehearsed {r} is put shown) = shown_idles r.lines.items m b shown

-- ---- carga over a poll that was opened

-- the phase of such a poll is written as 1 or 2
opened_byte : (p : Phase) → p ≢ phase.Ready → (phase_byte p ≡ 1) ⊎ (phase_byte p ≡ 2)
opened_byte phase.Ready opened = absurd (opened refl)
opened_byte (phase.Polling at) opened = inl refl
opened_byte (phase.Sealed at closed) opened = inr refl

begun_body : (t : TablesData) (voters : ℕ) (s : State) → s.phase ≢ phase.Ready → (body : List ℕ) → IsEncoding t voters s body → IsBegun body
begun_body t voters s opened body is =
    let byte = encoded_byte t voters s body is in elim (opened_byte s.phase opened) [ inl first ↦ inl (byte ∙ first) | inr second ↦ inr (byte ∙ second) ]

-- so a flash that stands for such a poll is in use
pub standing_is_in_use : StandingIsInUse
standing_is_in_use t r section s d image is opened =
    alone_in_use (poll t (length r.titles)) s magic IsBegun (begun_body t (length r.titles) s opened) image (begins_so t r section d image is.frame) is.held

-- and of two that hold it one is
pub opened_is_in_use : OpenedIsInUse
opened_is_in_use t r section s start found opened =
    one_in_use (poll t (length r.titles)) s magic IsBegun (begun_body t (length r.titles) s opened) start (begins start found) found.held
  where
    begins : (start : Flashes) → AreFound t r section s start → (d : Dev) → take 8 (flash_of d start).content ≡ magic
    begins start found dev.Internal = begins_so t r section dev.Internal start.internal.content found.loaded.internal_frame
    begins start found dev.External = begins_so t r section dev.External start.external.content found.loaded.external_frame

-- ---- carga, where one is in use

-- it made no call, or answers that one is in use, or that a flash failed
abbrev AnswersSo : Told → Told → Status → Type 0
AnswersSo m b answer = IsUntouched m b ⊎ (((e : Dev) × (answer ≡ status.Busy e)) ⊎ ((e : Dev) × (answer ≡ port_status (port_of e))))

module _ (start : Flashes) (used : Dev) (in_use : IsInUse (flash_of used start).content) (m b : Told) (told : m.flashes ≡ Some start) where
  not_loads : (ops : List Op) → Loads m ops → ⊥
  not_loads ops loads = loads.free start told used in_use

  not_ran : (between : Told) → Runs (λ ops. (rest : List Op) × (ops ≡ both_synced ++ rest) × Loads m rest) m between → ⊥
  not_ran between ran = not_loads ran.2.0 ran.2.2

  fails_so : (e : LoadError) → FailsToLoad m b e → AnswersSo m b (load_status e)
  fails_so load.Memory h = inl h
  fails_so (load.Flash dev.Internal) h = inr (inr (dev.Internal, refl))
  fails_so (load.Flash dev.External) h = inr (inr (dev.External, refl))
  fails_so (load.Busy d) h = inr (inl (d, refl))

  carga_so : (names : Carga) (c d : CabinetTold) (answer : Status) → CargaEnds names c d m b answer → AnswersSo m b answer
  carga_so names c d _ (load_refused why taken un) = inl un
  carga_so names c d _ (load_no_memory taken un) = inl un
  carga_so names c d _ (load_no_cabinet taken un) = inl un
  carga_so names c d _ (no_section given none taken un) = inl un
  carga_so names c d _ (not_loaded e given asked taken h) = fails_so e h.fails
  carga_so names c d _ (not_told between given asked taken h off) = absurd (not_ran between h.ran)
  carga_so names c d _ (loaded between given asked taken h shown) = absurd (not_ran between h.ran)

  carga_idles : (names : Carga) (c d : CabinetTold) (answer : Status) → CargaEnds names c d m b answer → Idles m b
  carga_idles names c d answer h = elim (carga_does names c d m b answer h) [
    | inl idles ↦ idles
    | inr run ↦ absurd (not_loads run.2.0 run.2.3)
  ]

pub load_is_kept_out : LoadIsKeptOut
load_is_kept_out names c d m n answer ends start used told in_use = (carga_idles start used in_use m n told names c d answer ends, carga_so start used in_use m n told names c d answer ends)

-- ---- by the ending

port_among : (p : Port) → IsNoneOf (status.InternalFlash ∷ status.ExternalFlash ∷ status.Display ∷ []) (port_status p) → ⊥
port_among port.Internal none = none.0 refl
port_among port.External none = none.1.0 refl
port_among port.Display none = none.1.1.0 refl

vota_start_idles : (t : TablesData) (r : RollData) (m b : Told) (e : StartError) → FailsToStart t r m b e
    → IsNoneOf (status.InternalFlash ∷ status.ExternalFlash ∷ status.Display ∷ []) (start_status e) → Idles m b
vota_start_idles t r m b starting.Memory h none = untouched_idles m b h
vota_start_idles t r m b (starting.Port port.Internal) h none = absurd (none.0 refl)
vota_start_idles t r m b (starting.Port port.External) h none = absurd (none.1.0 refl)
vota_start_idles t r m b (starting.Port port.Display) h none = absurd (none.1.1.0 refl)
vota_start_idles t r m b (starting.Foreign e) h none = synced_idles m b h.0
vota_start_idles t r m b starting.NoImage h none = synced_idles m b h.0

results_among : (word : List ℕ) (t : TablesData) (section : Section) (s : State) (c d : CabinetTold) (answer : Status) → PutsResults word t section s c d answer
    → answer ≢ status.Done → answer ≢ status.Memory → answer ≢ status.Cabinet → ⊥
results_among word t section s c d _ (no_results unsealed same) done memory cabinet = done refl
results_among word t section s c d _ (results_put sealed put) done memory cabinet = done refl
results_among word t section s c d _ (results_not_made sealed same) done memory cabinet = memory refl
results_among word t section s c d _ (results_not_put sealed stop) done memory cabinet = cabinet refl

vota_idles : (names : Vota) (c d : CabinetTold) (m b : Told) (answer : Status) → VotaEnds names c d m b answer → IsIdleEnding (Some (ToVote names)) answer → Idles m b
vota_idles names c d m b _ (refused why taken un) none = untouched_idles m b un
vota_idles names c d m b _ (no_memory taken un) none = untouched_idles m b un
vota_idles names c d m b _ (no_cabinet taken un) none = untouched_idles m b un
vota_idles names c d m b _ (not_started {t} {r} e given taken h) none = vota_start_idles t r m b e h none.1.1.1
vota_idles names c d m b _ (cut p given taken h) none = absurd (port_among p none.1.1.1)
vota_idles names c d m b answer (session_held {t} after given taken h one_of state put) none =
    absurd (results_among names.out t h.load.section h.last after d answer put none.0 none.1.0 none.1.1.0)

load_idles : (m b : Told) (e : LoadError) → FailsToLoad m b e → load_status e ≢ status.InternalFlash → load_status e ≢ status.ExternalFlash → Idles m b
load_idles m b load.Memory h internal external = untouched_idles m b h
load_idles m b (load.Flash dev.Internal) h internal external = absurd (internal refl)
load_idles m b (load.Flash dev.External) h internal external = absurd (external refl)
load_idles m b (load.Busy d) h internal external = synced_idles m b h.0

carga_ends_idles : (names : Carga) (c d : CabinetTold) (m b : Told) (answer : Status) → CargaEnds names c d m b answer → IsIdleEnding (Some (ToLoad names)) answer → Idles m b
carga_ends_idles names c d m b _ (load_refused why taken un) none = untouched_idles m b un
carga_ends_idles names c d m b _ (load_no_memory taken un) none = untouched_idles m b un
carga_ends_idles names c d m b _ (load_no_cabinet taken un) none = untouched_idles m b un
carga_ends_idles names c d m b _ (no_section given lacks taken un) none = untouched_idles m b un
carga_ends_idles names c d m b _ (not_loaded e given asked taken h) none = load_idles m b e h.fails none.1.0 none.1.1.0
carga_ends_idles names c d m b _ (not_told between given asked taken h off) none = absurd (none.1.1.1.0 refl)
carga_ends_idles names c d m b _ (loaded between given asked taken h shown) none = absurd (none.0 refl)

replace_idles : (t : TablesData) (r : RollData) (at : Dev) (m b : Told) (e : ReplaceError) → FailsToReplace t r at m b e
    → replace_status e ≢ status.InternalFlash → replace_status e ≢ status.ExternalFlash → Idles m b
replace_idles t r at m b replace.Memory h internal external = untouched_idles m b h
replace_idles t r at m b (replace.Flash dev.Internal) h internal external = absurd (internal refl)
replace_idles t r at m b (replace.Flash dev.External) h internal external = absurd (external refl)
replace_idles t r at m b (replace.Foreign d) h internal external = synced_idles m b h.1
replace_idles t r at m b (replace.NoStanding d) h internal external = synced_idles m b h.1
replace_idles t r at m b (replace.Busy d) h internal external = synced_idles m b h.1

repoe_idles : (names : Repoe) (c d : CabinetTold) (m b : Told) (answer : Status) → RepoeEnds names c d m b answer → IsIdleEnding (Some (ToReplace names)) answer → Idles m b
repoe_idles names c d m b _ (replace_refused why taken un) none = untouched_idles m b un
repoe_idles names c d m b _ (replace_no_memory taken un) none = untouched_idles m b un
repoe_idles names c d m b _ (replace_no_cabinet taken un) none = untouched_idles m b un
repoe_idles names c d m b _ (not_replaced {t} {r} e given taken h) none = replace_idles t r names.replaced m b e h none.1.0 none.1.1.0
repoe_idles names c d m b _ (replaced_untold between given taken h off) none = absurd (none.1.1.1.0 refl)
repoe_idles names c d m b _ (replaced between given taken h shown) none = absurd (none.0 refl)

command_idles : (command : Option Command) (c d : CabinetTold) (m b : Told) (answer : Status) → CommandEnds command c d m b answer → IsIdleEnding command answer → Idles m b
command_idles None c d m b answer h is = untouched_idles m b h.untouched
command_idles (Some (ToVote names)) c d m b answer h is = vota_idles names c d m b answer h is
command_idles (Some (ToLoad names)) c d m b answer h is = carga_ends_idles names c d m b answer h is
command_idles (Some (ToEmit names)) c d m b answer h is = emite_idles names c d m b answer h
command_idles (Some (ToCheck names)) c d m b answer h is = confere_idles names c d m b answer h
command_idles (Some (ToRecount names)) c d m b answer h is = reconta_idles names c d m b answer h
command_idles (Some (ToCertify names)) c d m b answer h is = certifica_idles names c d m b answer h
command_idles (Some (ToVerify names)) c d m b answer h is = verifica_idles names c d m b answer h
command_idles (Some (ToTotal names)) c d m b answer h is = totaliza_idles names c d m b answer h
command_idles (Some (ToRehearse voters)) c d m b answer h is = ensaio_idles voters c d m b answer h
command_idles (Some (ToReplace names)) c d m b answer h is = repoe_idles names c d m b answer h is

pub idle_endings : IdleEndings
idle_endings words c d m n answer ends is =
    idles-append m ends.between n (command_idles (command_of words) c d m ends.between answer ends.command is) (told_idles (fault_text answer) ends.between n ends.told)

pub idle_leaves_no_more : IdleLeavesNoMore
idle_leaves_no_more start ops done left idle stop is = idle_left done start (shown_by done) left (idle_stop ops done idle stop) is
