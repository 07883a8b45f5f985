-- The command repoe: what it does, and how it ends
use Rattle.std.specs.Prelude.{◌≡◌, ℕ, List, [], ◌∷◌, ◌++◌, codes}
use Rattle.std.specs.Fmt.{decimal}
use Rattle.std.specs.Option.{ForSome}
use Rattle.urna_outside.specs.Cabinet.{CabinetTold}
use Rattle.urna_outside.specs.Faults.{IsFaultless}
use Rattle.urna_outside.specs.Flash.{Op}
use Rattle.urna_outside.specs.ShownLines.{HasShown, IsCutOff}
use Rattle.urna_outside.specs.Told.{Runs, Told}
use Rattle.urna_outside.specs.declared.device.Dev.{Dev}
use Rattle.election_tables.specs.Roll.{RollData}
use Rattle.election_tables.specs.TablesData.{TablesData}
use Rattle.election_tables.specs.declared.tables.sections.Section.{Section}
use Rattle.turnout.specs.Turnout.{number_came}
use Rattle.image_codec.specs.Encoding.{IsStateOf}
use Rattle.image_codec.specs.State.{State}
use Rattle.flash_store.specs.Syncs.{IsUntouched, both_synced}
use Rattle.state_store.specs.Load.{IsSectionOf, load_of}
use Rattle.state_store.specs.Rest.{AreAtRest}
use Rattle.contingency.specs.Calls.{FailsToReplace, IsReplacement, Replaces}
use Rattle.contingency.specs.declared.replacement.ReplaceError.{ReplaceError}
use Rattle.urna_commands.specs.Command.{Repoe}
use Rattle.command_parts.specs.Documents.{HasDocuments}
use Rattle.urna_commands.specs.Documents.{IsFirstFault}
use Rattle.urna_commands.specs.Errors.{replace_status}
use Rattle.command_parts.specs.FaultLines.{device_word}
use Rattle.urna_commands.specs.Taking.{HasTaken}
use Rattle.command_parts.specs.declared.error.Doc.TheVariants as doc
use Rattle.urna_commands.specs.declared.status.Status.{Status}
use Rattle.urna_commands.specs.declared.status.Status.TheVariants as status

-- ---- the replacement

-- the line that tells that a flash was replaced, and how many came
abbrev pub replaced_line : Dev → Section → State → List ℕ
replaced_line d section s =
    codes "REPOSTA " ++ device_word d ++ codes " " ++ decimal section.zone ++ codes " " ++ decimal section.number ++ codes " " ++ decimal (number_came s.came) ++ 10 ∷ []

-- Both flashes are at rest with the state that the standing one held, and at each stop it held it. Nothing but this replacement was done.
pub record HasReplaced (t : TablesData) (r : RollData) (section : Section) (s : State) (replaced : Dev) (old new : Told) : Type 0 where
  pub one_of : IsSectionOf t r section
  pub state : IsStateOf t section.voters s
  pub ran : Runs (λ ops. (rest : List Op) × (ops ≡ both_synced ++ rest) × Replaces t r section s replaced old rest) old new
  pub exact : ForSome old.flashes (λ start. Runs (IsReplacement t r section s replaced start) old new)
  pub rest : ForSome new.flashes (AreAtRest t (load_of t r section) s)
  pub fine : IsFaultless old new

-- ---- the endings

-- How repoe ends, but for the line that tells a fault.
pub data RepoeEnds (names : Repoe) (c d : CabinetTold) (m n : Told) : Status → Type 0 where
  replace_refused : {s : Status} → IsFirstFault c.files names.tables doc.Roll names.roll s → HasTaken 2 s c d → IsUntouched m n → RepoeEnds names c d m n s
  replace_no_memory : HasTaken 2 status.Memory c d → IsUntouched m n → RepoeEnds names c d m n status.Memory
  replace_no_cabinet : HasTaken 2 status.Cabinet c d → IsUntouched m n → RepoeEnds names c d m n status.Cabinet
  -- The flash was not replaced.
  not_replaced : {t : TablesData} {r : RollData} (e : ReplaceError) → HasDocuments c.files names.tables names.roll t r
      → HasTaken 2 (replace_status e) c d → FailsToReplace t r names.replaced m n e → RepoeEnds names c d m n (replace_status e)
  -- It was, and the display failed in the line that tells it.
  replaced_untold : {t : TablesData} {r : RollData} {section : Section} {s : State} (between : Told) → HasDocuments c.files names.tables names.roll t r
      → HasTaken 2 status.Display c d → HasReplaced t r section s names.replaced m between
      → IsCutOff (replaced_line names.replaced section s ∷ []) between n → RepoeEnds names c d m n status.Display
  replaced : {t : TablesData} {r : RollData} {section : Section} {s : State} (between : Told) → HasDocuments c.files names.tables names.roll t r
      → HasTaken 2 status.Done c d → HasReplaced t r section s names.replaced m between
      → HasShown (replaced_line names.replaced section s ∷ []) between n → RepoeEnds names c d m n status.Done
