-- How a command ends, by the answer of its steps
use Rattle.std.proofs.Common.{◌≡◌, ◌≢◌, ℕ, zero, suc, List, Option, Some, Result, Ok, Err, IsSomeAnd, refl, sym, subst}
use Rattle.std.specs.Prelude.{IfErr}
use Rattle.std.specs.Result.{IsErrAnd}
use Rattle.urna_outside.specs.Cabinet.{CabinetTold, Files, Tally}
use Rattle.urna_outside.specs.ShownLines.{HasShown, IsCutOff, Shows}
use Rattle.urna_outside.specs.Told.{Told}
use Rattle.urna_outside.specs.declared.device.Dev.TheVariants as dev
use Rattle.urna_outside.specs.declared.device.Port.{Port}
use Rattle.urna_outside.specs.declared.device.Port.TheVariants as port
use Rattle.election_tables.specs.Roll.{RollData}
use Rattle.election_tables.specs.TablesData.{TablesData}
use Rattle.key_script.specs.declared.keys.Event.{Event}
use Rattle.section_intake.specs.declared.verdict.Verdict.{Verdict}
use Rattle.section_intake.specs.declared.verdict.Verdict.TheVariants as verdict
use Rattle.record_audit.specs.declared.finding.Finding.{Finding}
use Rattle.record_audit.specs.declared.finding.Finding.TheVariants as found
use Rattle.flash_store.specs.Syncs.{IsUntouched}
use Rattle.state_store.specs.declared.store.LoadError.{LoadError}
use Rattle.state_store.specs.declared.store.LoadError.TheVariants as load
use Rattle.state_store.specs.declared.store.StoreError.{StoreError}
use Rattle.state_store.specs.declared.store.StoreError.TheVariants as store
use Rattle.contingency.specs.declared.replacement.ReplaceError.{ReplaceError}
use Rattle.contingency.specs.declared.replacement.ReplaceError.TheVariants as replace
use Rattle.station.specs.declared.station.StartError.{StartError}
use Rattle.station.specs.declared.station.StartError.TheVariants as start
use Rattle.command_parts.specs.Taking.{CountsFor, HasTaken as HasTakenOf}
use Rattle.command_parts.specs.declared.error.CommandError.{CommandError}
use Rattle.command_parts.specs.declared.error.CommandError.TheVariants as error
use Rattle.command_parts.proofs.Ending.{fault_ends_as, told_by}
use Rattle.urna_commands.specs.Answering.{Answers, answered, cut_short}
use Rattle.urna_commands.specs.Command.{Command, Vota, command_of}
use Rattle.command_parts.specs.Documents.{HasKeys, HasRoll, HasTables}
use Rattle.urna_commands.specs.Ending.{CommandEnds}
use Rattle.urna_commands.specs.Errors.{error_of, load_status, port_status, replace_status, start_status, store_status}
use Rattle.urna_commands.specs.Findings.{finding_status}
use Rattle.urna_commands.specs.Holding.{FailsToHold, hold_status}
use Rattle.urna_commands.specs.Taking.{HasTaken, status_in}
use Rattle.urna_commands.specs.Totaliza.{refused_status}
use Rattle.urna_commands.specs.Verifica.{Check, checked_status}
use Rattle.urna_commands.specs.Vota.{IsGiven, VotaEnds, cut, not_started}
use Rattle.urna_commands.specs.Verdicts.{verdict_status}
use Rattle.urna_commands.specs.declared.status.Status.{Status}
use Rattle.urna_commands.specs.declared.status.Status.TheVariants as status
use Rattle.urna_commands.specs.declared.vota.HoldError.{HoldError}
use Rattle.urna_commands.specs.declared.vota.HoldError.TheVariants as hold
use Rattle.command_parts.proofs.Calls.{taken_as}

-- the status of an error that was passed on
pub passed_on : {T : Type 0} {P : Status → Type 0} (r : Result T Status) (s : Status) → IsErrAnd r P → ((e : Status) → P e → e ≡ s) → status_in r ≡ s
passed_on (Ok x) s h f = absurd h
passed_on (Err e) s h f = f e h

-- a line that tells the end of a command ends it
pub told : {T : Type 0} (Ends : Status → Type 0) (lines : List (List ℕ)) (r : Result T Status) (old new : Told) → Shows r lines old new
    → IfErr r (λ s. s ≡ status.Display) → (HasShown lines old new → Ends status.Done) → (IsCutOff lines old new → Ends status.Display) → Ends (status_in r)
told Ends lines (Ok x) old new shown fails whole part = whole shown
told Ends lines (Err s) old new shown fails whole part = subst Ends (sym fails) (part shown)

-- nothing was done between a moment and itself
pub untouched : (m : Told) → IsUntouched m m
untouched m = refl

-- the status that tells an error
abbrev pub status_of : CommandError → Status
status_of error.Memory = status.Memory
status_of error.Usage = status.Usage
status_of error.TablesNotToml = status.TablesNotToml
status_of (error.TablesRule k) = status.TablesRule k
status_of error.RollCount = status.RollCount
status_of (error.RollLine k) = status.RollLine k
status_of (error.Line k) = status.Line k
status_of (error.RecordLine k) = status.RecordLine k
status_of (error.CertificateLine k) = status.CertificateLine k
status_of (error.TooLong d) = status.TooLong d
status_of (error.Missing d) = status.Missing d
status_of error.Cabinet = status.Cabinet
status_of (error.Foreign d) = status.Foreign d
status_of error.NoImage = status.NoImage
status_of (error.Busy d) = status.Busy d

-- no other status tells it
pub only_status : (s : Status) (e : CommandError) → error_of s ≡ Some e → s ≡ status_of e
only_status status.Memory e is = told_by status_of error.Memory e is
only_status status.Usage e is = told_by status_of error.Usage e is
only_status status.TablesNotToml e is = told_by status_of error.TablesNotToml e is
only_status (status.TablesRule k) e is = told_by status_of (error.TablesRule k) e is
only_status status.RollCount e is = told_by status_of error.RollCount e is
only_status (status.RollLine k) e is = told_by status_of (error.RollLine k) e is
only_status (status.Line k) e is = told_by status_of (error.Line k) e is
only_status (status.RecordLine k) e is = told_by status_of (error.RecordLine k) e is
only_status (status.CertificateLine k) e is = told_by status_of (error.CertificateLine k) e is
only_status (status.TooLong d) e is = told_by status_of (error.TooLong d) e is
only_status (status.Missing d) e is = told_by status_of (error.Missing d) e is
only_status status.Cabinet e is = told_by status_of error.Cabinet e is
only_status (status.Foreign d) e is = told_by status_of (error.Foreign d) e is
only_status status.NoImage e is = told_by status_of error.NoImage e is
only_status (status.Busy d) e is = told_by status_of (error.Busy d) e is
only_status status.Done e is = absurd (cc)
only_status (status.SomeRefused k) e is = absurd (cc)
only_status (status.ReportRefused v) e is = absurd (cc)
only_status (status.Disagrees f) e is = absurd (cc)
only_status (status.CertificateRefused f) e is = absurd (cc)
only_status status.InternalFlash e is = absurd (cc)
only_status status.ExternalFlash e is = absurd (cc)
only_status status.Display e is = absurd (cc)
only_status status.NotSealed e is = absurd (cc)
only_status status.NoSection e is = absurd (cc)
only_status (status.NoStanding d) e is = absurd (cc)
only_status status.NoOffice e is = absurd (cc)
only_status status.NoSeats e is = absurd (cc)

-- A step that took no document ends a command: for want of memory, by a fault of the cabinet, or as one that refuses the document.
pub fault_ends : {T : Type 0} (Ends : Status → Type 0) (most : ℕ) (c d : CabinetTold) (Fault : CommandError → Type 0) (r : Result T Status) (e : CommandError)
    → IsErrAnd r (λ s. error_of s ≡ Some e) → (HasTaken most status.Memory c d → Ends status.Memory) → (HasTaken most status.Cabinet c d → Ends status.Cabinet)
    → ((u : Status) → IsSomeAnd (error_of u) Fault → HasTaken most u c d → Ends u) → (e ≢ error.Memory → e ≢ error.Cabinet → Fault e) → HasTakenOf most (Some e) c d
    → Ends (status_in r)
fault_ends Ends most c d Fault (Ok x) e is memory cabinet refused found taken = absurd is
fault_ends Ends most c d Fault (Err s) e is memory cabinet refused found taken = fault_ends_as error_of status_of only_status Ends most c d Fault s e is memory cabinet refused found taken

-- the keys are taken behind the tables and the roll
pub given_keys : (names : Vota) (c d : CabinetTold) (t : TablesData) (r : RollData) (es : List Event) → HasTables c.files names.tables t
    → HasRoll c.files names.roll r → HasTaken 2 status.Done c d → HasKeys d.files names.keys es → IsGiven c.files names t r es
given_keys names c d t r es has read taken pressed =
    record { tables = has; roll = read; keys = subst (λ (fs : Option Files). HasKeys fs names.keys es) taken.files pressed }

-- what the count of refused reports says of the cabinet's counts
pub counts_refused : (n : ℕ) (old new : Tally) → new ≡ old → CountsFor (error_of (refused_status n)) old new
counts_refused zero old new same = same
counts_refused (suc n) old new same = same

counts_port : (p : Port) (old new : Tally) → new ≡ old → CountsFor (error_of (port_status p)) old new
counts_port port.Internal old new same = same
counts_port port.External old new same = same
counts_port port.Display old new same = same

counts_start : (e : StartError) (old new : Tally) → new ≡ old → CountsFor (error_of (start_status e)) old new
counts_start start.Memory old new same = same
counts_start (start.Port p) old new same = counts_port p old new same
counts_start (start.Foreign d) old new same = same
counts_start start.NoImage old new same = same

pub counts_store : (e : StoreError) (old new : Tally) → new ≡ old → CountsFor (error_of (store_status e)) old new
counts_store store.Memory old new same = same
counts_store (store.Flash dev.Internal) old new same = same
counts_store (store.Flash dev.External) old new same = same
counts_store (store.Foreign d) old new same = same
counts_store store.NoImage old new same = same

pub counts_load : (e : LoadError) (old new : Tally) → new ≡ old → CountsFor (error_of (load_status e)) old new
counts_load load.Memory old new same = same
counts_load (load.Flash dev.Internal) old new same = same
counts_load (load.Flash dev.External) old new same = same
counts_load (load.Busy d) old new same = same

pub counts_replace : (e : ReplaceError) (old new : Tally) → new ≡ old → CountsFor (error_of (replace_status e)) old new
counts_replace replace.Memory old new same = same
counts_replace (replace.Flash dev.Internal) old new same = same
counts_replace (replace.Flash dev.External) old new same = same
counts_replace (replace.Foreign d) old new same = same
counts_replace (replace.NoStanding d) old new same = same
counts_replace (replace.Busy d) old new same = same

pub counts_verdict : (v : Verdict) (old new : Tally) → new ≡ old → CountsFor (error_of (verdict_status v)) old new
counts_verdict (verdict.Accepted zone number) old new same = same
counts_verdict (verdict.Part f) old new same = same
counts_verdict (verdict.Fields f) old new same = same
counts_verdict verdict.Strange old new same = same
counts_verdict (verdict.Repeated zone number) old new same = same
counts_verdict (verdict.Conflict zone number) old new same = same

pub counts_finding : (f : Finding) (old new : Tally) → new ≡ old → CountsFor (error_of (finding_status f)) old new
counts_finding found.Agree old new same = same
counts_finding found.Heading old new same = same
counts_finding (found.Office k) old new same = same
counts_finding (found.Differs panel c lines said) old new same = same

pub counts_check : (checked : Check) (old new : Tally) → new ≡ old → CountsFor (error_of (checked_status checked)) old new
counts_check (Ok valid) old new same = same
counts_check (Err f) old new same = same

-- an answer that was told, or whose line the display cut off, counts as it does
pub counts_answer : (line : List ℕ) (given : Status) (m n : Told) (s : Status) (old new : Tally) → Answers line given m n s
    → CountsFor (error_of given) old new → new ≡ old → CountsFor (error_of s) old new
counts_answer line given m n _ old new (answered shown) counts same = counts
counts_answer line given m n _ old new (cut_short off) counts same = same

-- a session that was not held ends the command
pub not_held : (names : Vota) (c d : CabinetTold) (m n : Told) (t : TablesData) (r : RollData) (es : List Event) (e : HoldError) → IsGiven c.files names t r es
    → HasTaken 3 status.Done c d → FailsToHold t r es m n e → VotaEnds names c d m n (hold_status e)
not_held names c d m n t r es (hold.Start e) given taken fails = not_started e given (taken_as 3 c d (counts_start e c.tally d.tally) taken) fails
not_held names c d m n t r es (hold.Port p) given taken fails = cut p given (taken_as 3 c d (counts_port p c.tally d.tally) taken) fails

-- the words are a command, and the call ends as it
pub ends_as : (words : List (List ℕ)) (k : Command) (c d : CabinetTold) (m b : Told) (s : Status) → command_of words ≡ Some k
    → CommandEnds (command_of words) c d m b s → CommandEnds (Some k) c d m b s
ends_as words k c d m b s is = subst (λ (o : Option Command). CommandEnds o c d m b s) is
