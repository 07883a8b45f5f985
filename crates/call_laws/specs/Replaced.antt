-- What the commands do over a replaced flash
use Rattle.std.specs.Prelude.{◌≡◌, ◌≢◌, ◌⊎◌, List, ℕ, Some}
use Rattle.urna_outside.specs.Cabinet.{CabinetTold, Files}
use Rattle.urna_outside.specs.Flash.{Flashes, flash_of}
use Rattle.urna_outside.specs.Told.{Runs, Told, port_of}
use Rattle.urna_outside.specs.declared.device.Dev.{Dev}
use Rattle.election_tables.specs.Roll.{IsRoll, RollData}
use Rattle.election_tables.specs.TablesData.{IsTables, TablesData}
use Rattle.election_tables.specs.declared.tables.sections.Section.{Section}
use Rattle.key_script.specs.declared.keys.Event.{Event}
use Rattle.turnout.specs.declared.phase.Phase.TheVariants as phase
use Rattle.image_codec.specs.State.{State}
use Rattle.flash_store.specs.Syncs.{IsFrontOfSyncs}
use Rattle.state_store.specs.Held.{HasFrameOf}
use Rattle.state_store.specs.Rest.{IsInUse}
use Rattle.contingency.specs.Replaced.{IsReplaced, IsStanding}
use Rattle.call_laws.specs.Again.{GivesNoCollision}
use Rattle.call_laws.specs.AtRest.{RestWith}
use Rattle.urna_commands.specs.Command.{Emite, Repoe, Vota}
use Rattle.command_parts.specs.Documents.{HasDocuments}
use Rattle.urna_commands.specs.Emite.{EmiteEnds}
use Rattle.urna_commands.specs.Errors.{port_status}
use Rattle.urna_commands.specs.Repoe.{RepoeEnds}
use Rattle.urna_commands.specs.Vota.{IsGiven, VotaEnds}
use Rattle.urna_commands.specs.declared.status.Status.{Status}
use Rattle.urna_commands.specs.declared.status.Status.TheVariants as status

-- A flash isn't of this load; or memory was wanted, or the cabinet or a flash failed.
abbrev pub EndsForeign : Status → Type 0
EndsForeign s =
    ((e : Dev) × (s ≡ status.Foreign e)) ⊎ (s ≡ status.Memory) ⊎ (s ≡ status.Cabinet) ⊎ ((e : Dev) × (s ≡ port_status (port_of e)))

-- Over a replaced flash that hasn't the load's frame vota, where it is given no collision of SHA-256, does no more than its two opening syncs, and
-- shows nothing but the line that tells a fault. With the documents of the load vota and emite end so.
abbrev pub ReplacedIsForeign : Type 0
ReplacedIsForeign =
    (t : TablesData) (r : RollData) (section : Section) (s : State) (replaced : Dev) (start : Flashes) → IsTables t → IsRoll r
    → IsReplaced t r section s replaced start → ¬ HasFrameOf t r section replaced (flash_of replaced start).content
    → (files : Files) (c d : CabinetTold) (m n : Told) (answer : Status) → c.files ≡ Some files → m.flashes ≡ Some start
    → ((names : Vota) → GivesNoCollision t r files names → VotaEnds names c d m n answer → Runs IsFrontOfSyncs m n)
    × ((names : Vota) (es : List Event) → IsGiven (Some files) names t r es → VotaEnds names c d m n answer → EndsForeign answer)
    × ((names : Emite) → HasDocuments (Some files) names.tables names.roll t r → EmiteEnds names c d m n answer → EndsForeign answer)

-- Over a replaced flash beside one that stands for the poll s, repoe of it with the documents of the load leaves both flashes at rest with s and is
-- Done, or the display failed in its line; or memory was wanted, or the cabinet or a flash failed.
abbrev pub ReplacedIsLoaded : Type 0
ReplacedIsLoaded =
    (t : TablesData) (r : RollData) (section : Section) (s : State) (start : Flashes) (names : Repoe) → IsTables t
    → IsReplaced t r section s names.replaced start
    → (files : Files) (c d : CabinetTold) (m n : Told) (answer : Status) → c.files ≡ Some files → m.flashes ≡ Some start
    → HasDocuments (Some files) names.tables names.roll t r → RepoeEnds names c d m n answer
    → (((answer ≡ status.Done) ⊎ (answer ≡ status.Display)) × RestWith t r section s n)
    ⊎ (answer ≡ status.Memory) ⊎ (answer ≡ status.Cabinet) ⊎ ((e : Dev) × (answer ≡ port_status (port_of e)))

-- A flash that stands for a poll which was opened is in use, so repoe never loads it.
abbrev pub StandingIsInUse : Type 0
StandingIsInUse =
    (t : TablesData) (r : RollData) (section : Section) (s : State) (d : Dev) (image : List ℕ) → IsStanding t r section s d image
    → s.phase ≢ phase.Ready → IsInUse image
