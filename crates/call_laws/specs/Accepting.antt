-- The report that one call put is accepted by the next
use Rattle.std.specs.Prelude.{◌≡◌, ◌≢◌, ◌⊎◌, ℕ, List, [], ◌∷◌, Some}
use Rattle.std.specs.List.{AllByRecursion}
use Rattle.std.specs.Option.{ForSome}
use Rattle.urna_outside.specs.Cabinet.{CabinetTold, Files}
use Rattle.urna_outside.specs.ShownLines.{HasShown}
use Rattle.urna_outside.specs.Told.{Told}
use Rattle.election_tables.specs.Roll.{RollData}
use Rattle.election_tables.specs.TablesData.{TablesData}
use Rattle.election_tables.specs.declared.tables.sections.Section.{Section}
use Rattle.key_script.specs.declared.keys.Event.{Event}
use Rattle.turnout.specs.declared.phase.Phase.TheVariants as phase
use Rattle.section_intake.specs.declared.verdict.Verdict.TheVariants as verdict
use Rattle.image_codec.specs.State.{State}
use Rattle.state_store.specs.Calls.{AreFound}
use Rattle.station.specs.Output.{Output}
use Rattle.station.specs.Run.{IsRun}
use Rattle.station.specs.Setting.{setting_of}
use Rattle.call_laws.specs.AtRest.{VotaOver}
use Rattle.urna_commands.specs.Command.{Emite, Vota}
use Rattle.urna_commands.specs.Confere.{ConfereEnds}
use Rattle.command_parts.specs.Documents.{HasDocuments}
use Rattle.urna_commands.specs.Emite.{EmiteEnds}
use Rattle.urna_commands.specs.Putting.{report_name, result_names}
use Rattle.report_lines.specs.Verdicts.{verdict_line}
use Rattle.urna_commands.specs.declared.status.Status.{Status}
use Rattle.urna_commands.specs.declared.status.Status.TheVariants as status

-- Whoever calls confere with these tables and the report of this word over the files that a cabinet tells is shown that it is accepted for
-- this section, and the status is Done; or memory was wanted, or the cabinet or the display failed.
abbrev pub IsAccepted : List ℕ → List ℕ → Section → CabinetTold → Type 0
IsAccepted tables out section told =
    (c d : CabinetTold) (m n : Told) (answer : Status) → ConfereEnds (record { tables = tables; report = report_name out }) c d m n answer → c.files ≡ told.files
    → ((answer ≡ status.Done) × HasShown (verdict_line (verdict.Accepted section.zone section.number) ∷ []) m n)
    ⊎ (answer ≡ status.Memory) ⊎ (answer ≡ status.Cabinet) ⊎ (answer ≡ status.Display)

-- the name of the tables is none of those of the files of results
abbrev pub IsOwnName : List ℕ → List ℕ → Type 0
IsOwnName tables out = AllByRecursion (λ own. tables ≢ own) (result_names out)

-- Where vota is Done, its run leaves the poll sealed, and the tables have a name of their own, the report that lies there then is accepted;
abbrev pub VotedIsAccepted : Type 0
VotedIsAccepted =
    (names : Vota) (c d : CabinetTold) (m n : Told) (t : TablesData) (r : RollData) (es : List Event) (section : Section) (s : State) (files : Files)
    → VotaOver names c d m n status.Done t r es section s files
    → (last : State) (out : List Output) → IsRun (setting_of t r.titles) s es last out → (opened closed : ℕ) → last.phase ≡ phase.Sealed opened closed
    → IsOwnName names.tables names.out → IsAccepted names.tables names.out section d

-- and so is the one that emite put where it is Done, of a section whose sealed poll the flashes hold, where they are told.
abbrev pub EmittedIsAccepted : Type 0
EmittedIsAccepted =
    (names : Emite) (c d : CabinetTold) (m n : Told) → EmiteEnds names c d m n status.Done → (files : Files) → c.files ≡ Some files → IsOwnName names.tables names.out
    → (t : TablesData) × (r : RollData) × (section : Section) × (s : State) × HasDocuments (Some files) names.tables names.roll t r × ForSome m.flashes (AreFound t r section s)
    × (opened : ℕ) × (closed : ℕ) × (s.phase ≡ phase.Sealed opened closed) × IsAccepted names.tables names.out section d
