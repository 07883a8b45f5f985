-- What each command may touch: the flashes, the files, and how many calls of the cabinet it makes
use Rattle.std.specs.Prelude.{◌≡◌, ◌≤◌, ◌+◌, ◌++◌, ℕ, List, [], ◌∷◌, Option, Some, None}
use Rattle.urna_outside.specs.Cabinet.{CabinetTold, Files}
use Rattle.urna_outside.specs.Flash.{Op}
use Rattle.urna_outside.specs.Shows.{AreShows}
use Rattle.urna_outside.specs.Told.{Runs, Told}
use Rattle.flash_store.specs.Syncs.{IsFrontOfSyncs}
use Rattle.urna_commands.specs.Certifica.{certificate_name}
use Rattle.urna_commands.specs.Command.{Command, ToCertify, ToCheck, ToEmit, ToLoad, ToRecount, ToRehearse, ToReplace, ToTotal, ToVerify, ToVote, command_of}
use Rattle.urna_commands.specs.Ending.{Ends}
use Rattle.urna_commands.specs.Ensaio.{rehearsal_names}
use Rattle.urna_commands.specs.Offered.{AreToTake}
use Rattle.urna_commands.specs.Putting.{OthersStay, result_names}
use Rattle.command_parts.specs.Taking.{calls_made}
use Rattle.urna_commands.specs.declared.status.Status.{Status}

-- ---- what is done on the machine

-- at most one sync of each flash, the internal one first, and behind them nothing but shows
abbrev pub AreSyncsAndShows : List Op → Type 0
AreSyncsAndShows ops = (syncs shows : List Op) × (ops ≡ syncs ++ shows) × IsFrontOfSyncs syncs × AreShows shows

-- whatever may be done
abbrev pub AreAny : List Op → Type 0
AreAny ops = Unit {0}

-- ---- the table

-- A call touched no more than this: such operations were done on the machine; of the files no name but these was changed, where the
-- cabinet tells them; and at most so many calls of the cabinet were made.
pub record Touches (does : List Op → Type 0) (own : List (List ℕ)) (most : ℕ) (c d : CabinetTold) (m n : Told) : Type 0 where
  pub ops : Runs does m n
  pub files : (before : Files) → c.files ≡ Some before → (now : Files) × (d.files ≡ Some now) × OthersStay own before now
  pub made : ℕ
  pub few : made ≤ most
  pub calls : d.calls ≡ calls_made made c.calls

-- What each command may touch, however it ends. Words of no command, confere, totaliza, reconta, certifica, verifica and ensaio put and sync nothing
-- on a flash; emite syncs each at most once, and puts nothing; confere, totaliza, reconta, verifica, carga and repoe leave each file as it is; vota and
-- emite change their two files of results alone, certifica that of its certificate, and ensaio its six.
abbrev pub TouchesAtMost : Option Command → CabinetTold → CabinetTold → Told → Told → Type 0
TouchesAtMost None c d m n = Touches AreShows [] 0 c d m n
TouchesAtMost (Some (ToCheck names)) c d m n = Touches AreShows [] 2 c d m n
TouchesAtMost (Some (ToRecount names)) c d m n = Touches AreShows [] 2 c d m n
TouchesAtMost (Some (ToTotal names)) c d m n = (k : ℕ) × AreToTake c.files names.tables names.list k × Touches AreShows [] (k + 2) c d m n
TouchesAtMost (Some (ToCertify names)) c d m n =
    (k : ℕ) × AreToTake c.files names.tables names.list k × Touches AreShows (certificate_name names.out ∷ []) (k + 3) c d m n
TouchesAtMost (Some (ToVerify names)) c d m n = (k : ℕ) × AreToTake c.files names.tables names.list k × Touches AreShows [] (k + 3) c d m n
TouchesAtMost (Some (ToRehearse voters)) c d m n = Touches AreShows rehearsal_names 6 c d m n
TouchesAtMost (Some (ToEmit names)) c d m n = Touches AreSyncsAndShows (result_names names.out) 4 c d m n
TouchesAtMost (Some (ToLoad names)) c d m n = Touches AreAny [] 2 c d m n
TouchesAtMost (Some (ToReplace names)) c d m n = Touches AreAny [] 2 c d m n
TouchesAtMost (Some (ToVote names)) c d m n = Touches AreAny (result_names names.out) 5 c d m n

-- Each call, however it ends, touches no more than its command may.
abbrev pub EachTouchesAtMost : Type 0
EachTouchesAtMost =
    (words : List (List ℕ)) (c d : CabinetTold) (m n : Told) (answer : Status) → Ends words c d m n answer → TouchesAtMost (command_of words) c d m n
