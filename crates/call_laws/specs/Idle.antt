-- Calls that put nothing on a flash
use Rattle.std.specs.Prelude.{ℕ, ◌≡◌, ◌≢◌, ◌⊎◌, List, [], ◌∷◌, Option, Some, None}
use Rattle.std.specs.List.{AllByRecursion}
use Rattle.urna_outside.specs.Cabinet.{CabinetTold, Files}
use Rattle.urna_outside.specs.Flash.{Flashes, Op, after, flash_of, shown_by}
use Rattle.urna_outside.specs.Stop.{IsLeft, IsStop, Left}
use Rattle.urna_outside.specs.Told.{Runs, Told, port_of}
use Rattle.urna_outside.specs.declared.device.Dev.{Dev}
use Rattle.election_tables.specs.Roll.{IsRoll, RollData}
use Rattle.election_tables.specs.TablesData.{IsTables, TablesData}
use Rattle.election_tables.specs.declared.tables.sections.Section.{Section}
use Rattle.key_script.specs.declared.keys.Event.{Event}
use Rattle.turnout.specs.declared.phase.Phase.TheVariants as phase
use Rattle.image_codec.specs.State.{State}
use Rattle.flash_store.specs.Syncs.{IsUntouched, IsFrontOfSyncs}
use Rattle.command_parts.specs.Idle.{AreIdle}
use Rattle.state_store.specs.Calls.{AreFound}
use Rattle.state_store.specs.Rest.{IsInUse}
use Rattle.urna_commands.specs.Carga.{CargaEnds}
use Rattle.urna_commands.specs.Command.{Carga, Command, ToCertify, ToCheck, ToEmit, ToLoad, ToRecount, ToRehearse, ToReplace, ToTotal, ToVerify, ToVote, Vota, command_of}
use Rattle.urna_commands.specs.Ending.{Ends}
use Rattle.urna_commands.specs.Errors.{port_status}
use Rattle.urna_commands.specs.Vota.{IsGiven, VotaEnds}
use Rattle.urna_commands.specs.declared.status.Status.{Status}
use Rattle.urna_commands.specs.declared.status.Status.TheVariants as status

-- ---- what is done

-- Where the power stops a call that does nothing but sync and show, what it leaves it might have left before the call.
abbrev pub IdleLeavesNoMore : Type 0
IdleLeavesNoMore =
    (start : Flashes) (ops done : List Op) (left : Left) → AreIdle ops → IsStop ops done
    → IsLeft (after done start) (shown_by done) left → IsLeft start (shown_by done) left

-- ---- by the ending

-- the status is none of these
abbrev pub IsNoneOf : List Status → Status → Type 0
IsNoneOf list s = AllByRecursion (λ x. s ≢ x) list

-- The endings with which a command has put nothing: of words of no command and of each command but vota, carga and repoe all; of vota those
-- that refuse a document or the flashes; of carga and repoe those that refuse a document, the section or the flashes, and those for want of
-- memory or by a fault of the cabinet.
abbrev pub IsIdleEnding : Option Command → Status → Type 0
IsIdleEnding (Some (ToVote names)) s =
    IsNoneOf (status.Done ∷ status.Memory ∷ status.Cabinet ∷ status.InternalFlash ∷ status.ExternalFlash ∷ status.Display ∷ []) s
IsIdleEnding (Some (ToLoad names)) s = IsNoneOf (status.Done ∷ status.InternalFlash ∷ status.ExternalFlash ∷ status.Display ∷ []) s
IsIdleEnding (Some (ToEmit names)) s = Unit {0}
IsIdleEnding (Some (ToCheck names)) s = Unit {0}
IsIdleEnding (Some (ToTotal names)) s = Unit {0}
IsIdleEnding (Some (ToRehearse voters)) s = Unit {0}
IsIdleEnding (Some (ToReplace names)) s = IsNoneOf (status.Done ∷ status.InternalFlash ∷ status.ExternalFlash ∷ status.Display ∷ []) s
IsIdleEnding (Some (ToRecount names)) s = Unit {0}
IsIdleEnding (Some (ToCertify names)) s = Unit {0}
IsIdleEnding (Some (ToVerify names)) s = Unit {0}
IsIdleEnding None s = Unit {0}

-- A call that ends with one of these did nothing but sync and show.
abbrev pub IdleEndings : Type 0
IdleEndings =
    (words : List (List ℕ)) (c d : CabinetTold) (m n : Told) (answer : Status) → Ends words c d m n answer
    → IsIdleEnding (command_of words) answer → Runs AreIdle m n

-- ---- over flashes that hold a poll

-- Over flashes of which one is in use carga puts nothing, however it ends; and but for the line that tells a fault it made no call of the
-- machine, or it answers that one is in use, or that a flash failed.
abbrev pub LoadIsKeptOut : Type 0
LoadIsKeptOut =
    (names : Carga) (c d : CabinetTold) (m n : Told) (answer : Status) → CargaEnds names c d m n answer
    → (start : Flashes) (used : Dev) → m.flashes ≡ Some start → IsInUse (flash_of used start).content
    → Runs AreIdle m n × (IsUntouched m n ⊎ (((e : Dev) × (answer ≡ status.Busy e)) ⊎ ((e : Dev) × (answer ≡ port_status (port_of e)))))

-- One of the flashes that hold a poll which was opened is in use.
abbrev pub OpenedIsInUse : Type 0
OpenedIsInUse =
    (t : TablesData) (r : RollData) (section : Section) (s : State) (start : Flashes) → AreFound t r section s start → s.phase ≢ phase.Ready
    → (used : Dev) × IsInUse (flash_of used start).content

-- Whatever these files give to vota, it isn't tables and a roll of the same hashes as these: a file is not there or at fault, or they are
-- others.
abbrev pub GivesOthers : TablesData → RollData → Files → Vota → Type 0
GivesOthers t r files names =
    (u : TablesData) (q : RollData) (es : List Event) → IsGiven (Some files) names u q es → ¬ ((u.digest ≡ t.digest) × (q.digest ≡ r.digest))

-- Over flashes that hold a poll of these tables and this roll vota does no more than the two opening syncs where it is given others, of another
-- hash: it puts nothing, and shows nothing but the line that tells a fault.
abbrev pub OthersAreKeptOut : Type 0
OthersAreKeptOut =
    (t : TablesData) (r : RollData) (section : Section) (s : State) (start : Flashes) → IsTables t → IsRoll r → AreFound t r section s start
    → (names : Vota) (files : Files) → GivesOthers t r files names
    → (c d : CabinetTold) (m n : Told) (answer : Status) → VotaEnds names c d m n answer → c.files ≡ Some files → m.flashes ≡ Some start → Runs IsFrontOfSyncs m n
