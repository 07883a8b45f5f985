-- What lies at rest when vota has ended, and that it tells no order of voting
use Rattle.std.specs.Prelude.{◌≡◌, ◌≢◌, ◌⊎◌, ◌<◌, ◌++◌, ℕ, List, Some, length, IsPermutation}
use Rattle.std.specs.Option.{option_map}
use Rattle.urna_outside.specs.Cabinet.{CabinetTold, Files, file_at}
use Rattle.urna_outside.specs.Flash.{Flashes, flash_of}
use Rattle.urna_outside.specs.Told.{Told}
use Rattle.urna_outside.specs.declared.device.Dev.{Dev}
use Rattle.election_tables.specs.Roll.{RollData}
use Rattle.election_tables.specs.TablesData.{TablesData}
use Rattle.election_tables.specs.declared.tables.sections.Section.{Section}
use Rattle.key_script.specs.declared.keys.Event.{Event}
use Rattle.turnout.specs.Turnout.{has_come}
use Rattle.turnout.specs.declared.phase.Phase.TheVariants as phase
use Rattle.vote_kinds.specs.declared.choice.Choice.{Choice}
use Rattle.vote_record.specs.Bag.{bag_at, count_of}
use Rattle.vote_kinds.specs.Ballot.{ballot_lines}
use Rattle.image_codec.specs.Also.{HasAlso}
use Rattle.image_codec.specs.Encoding.{IsStateOf}
use Rattle.image_codec.specs.State.{State}
use Rattle.state_store.specs.Calls.{AreFound}
use Rattle.state_store.specs.Load.{load_of}
use Rattle.flash_store.specs.Pieces.{text_in}
use Rattle.state_store.specs.Rest.{AreAtRest, rest}
use Rattle.state_store.specs.declared.load.Load.{Load}
use Rattle.station.specs.Cast.{ballots_of}
use Rattle.station.specs.Output.{Output}
use Rattle.station.specs.Run.{IsRun}
use Rattle.station.specs.Setting.{setting_of}
use Rattle.urna_commands.specs.Command.{Vota}
use Rattle.call_laws.specs.Headline.{VotaEnded, session_of}
use Rattle.urna_commands.specs.Putting.{HasBoth, IsNotSealed, record_name, report_name, result_files}
use Rattle.urna_commands.specs.declared.status.Status.{Status}
use Rattle.urna_commands.specs.declared.status.Status.TheVariants as status

-- ---- behind a call of vota

-- A call of vota ended so, over a machine that tells its flashes, which held the poll s of its tables and roll.
pub record VotaOver (names : Vota) (c d : CabinetTold) (m n : Told) (answer : Status) (t : TablesData) (r : RollData) (es : List Event) (section : Section) (s : State) (files : Files) : Type 0 where
  pub call : VotaEnded names c d m n answer t r es files
  pub start : Flashes
  pub flashes : m.flashes ≡ Some start
  pub found : AreFound t r section s start

-- the machine tells flashes that are at rest with this state
pub record RestWith (t : TablesData) (r : RollData) (section : Section) (s : State) (n : Told) : Type 0 where
  pub now : Flashes
  pub told : n.flashes ≡ Some now
  pub rest : AreAtRest t (load_of t r section) s now

-- The files behind a poll: where it is sealed both files of results are there, and all other names are as before; else all are as before.
pub data AreResults (word : List ℕ) (t : TablesData) (section : Section) (s : State) (before now : Files) : Type 0 where
  no_files : IsNotSealed s → now ≡ before → AreResults word t section s before now
  both_files : {opened closed : ℕ} → s.phase ≡ phase.Sealed opened closed → HasBoth word t section s opened closed before now
      → AreResults word t section s before now

-- Both flashes are at rest with the last state of the run of all presses, which is one of a poll of the tables, and where the machine tells what
-- it shows, its text was shown.
pub record RestAtEnd (t : TablesData) (r : RollData) (section : Section) (s last : State) (out : List Output) (m n : Told) : Type 0 where
  pub valid : IsStateOf t section.voters last
  pub flashes : RestWith t r section last n
  pub shown : n.shown ≡ option_map (λ before. before ++ text_in (session_of t s out)) m.shown

-- Where vota is Done, both flashes are at rest with the last state of the run of all presses, its text was shown, and the files are those of
-- that state.
abbrev pub DoneIsWhole : Type 0
DoneIsWhole =
    (names : Vota) (c d : CabinetTold) (m n : Told) (t : TablesData) (r : RollData) (es : List Event) (section : Section) (s : State) (files : Files)
    → VotaOver names c d m n status.Done t r es section s files
    → (last : State) (out : List Output) → IsRun (setting_of t r.titles) s es last out
    → RestAtEnd t r section s last out m n × (now : Files) × (d.files ≡ Some now) × AreResults names.out t section last files now

-- Where vota is Done, both flashes are at rest with the poll s and all ballots of the run.
abbrev pub AllAreCounted : Type 0
AllAreCounted =
    (names : Vota) (c d : CabinetTold) (m n : Told) (t : TablesData) (r : RollData) (es : List Event) (section : Section) (s : State) (files : Files)
    → VotaOver names c d m n status.Done t r es section s files
    → (last : State) (out : List Output) (run : IsRun (setting_of t r.titles) s es last out)
    → HasAlso (ballot_lines t) s (ballots_of run) last × RestWith t r section last n

-- Where vota answers that memory was wanted, or that the cabinet failed, it made no call of the machine; or both flashes are at rest with the
-- last state of the run of all presses, its text was shown, and that state is sealed.
abbrev pub LateFaultIsSealed : Type 0
LateFaultIsSealed =
    (names : Vota) (c d : CabinetTold) (m n : Told) (answer : Status) (t : TablesData) (r : RollData) (es : List Event) (section : Section) (s : State) (files : Files)
    → VotaOver names c d m n answer t r es section s files → (answer ≡ status.Memory) ⊎ (answer ≡ status.Cabinet)
    → (last : State) (out : List Output) → IsRun (setting_of t r.titles) s es last out
    → (n ≡ m) ⊎ (RestAtEnd t r section s last out m n × (opened closed : ℕ) × (last.phase ≡ phase.Sealed opened closed))

-- Both flashes are at rest with the state after a prefix of these presses.
pub record RestAtPrefix (t : TablesData) (r : RollData) (section : Section) (s : State) (es : List Event) (n : Told) : Type 0 where
  pub prefix : List Event
  pub more : List Event
  pub events : es ≡ prefix ++ more
  pub state : State
  pub put : List Output
  pub run : IsRun (setting_of t r.titles) s prefix state put
  pub flashes : RestWith t r section state n

-- Where no flash failed, vota made no call of the machine, or both flashes are at rest with the state after a prefix of its presses.
abbrev pub RestsWhereNoFlashFailed : Type 0
RestsWhereNoFlashFailed =
    (names : Vota) (c d : CabinetTold) (m n : Told) (answer : Status) (t : TablesData) (r : RollData) (es : List Event) (section : Section) (s : State) (files : Files)
    → VotaOver names c d m n answer t r es section s files
    → answer ≢ status.InternalFlash → answer ≢ status.ExternalFlash → (n ≡ m) ⊎ RestAtPrefix t r section s es n

-- ---- no order of voting

-- Two polls of one load, in one phase with the same moments, where the same voters came and each choice has as many votes, have the same
-- flashes at rest, and the same files of results: in whatever order the voters came, and whoever chose what.
abbrev pub SameAtRest : Type 0
SameAtRest = (out : List ℕ) (t : TablesData) (load : Load) (s u : State) → IsStateOf t load.section.voters s → IsStateOf t load.section.voters u
    → s.phase ≡ u.phase → ((place : ℕ) → has_come s.came place ≡ has_come u.came place)
    → ((panel : ℕ) (c : Choice) → panel < length t.panels → count_of c (bag_at s.bags panel) ≡ count_of c (bag_at u.bags panel))
    → ((d : Dev) → rest t load d s ≡ rest t load d u)
    × ((opened closed : ℕ) → result_files out t load.section s opened closed ≡ result_files out t load.section u opened closed)

-- both machines tell flashes of the same content, if they tell them
abbrev pub HaveSameFlashes : Told → Told → Type 0
HaveSameFlashes n k = (a b : Flashes) → n.flashes ≡ Some a → k.flashes ≡ Some b → (d : Dev) → (flash_of d a).content ≡ (flash_of d b).content

-- both cabinets have the same file of this name, if they tell it
abbrev pub HaveSameFile : List ℕ → CabinetTold → CabinetTold → Type 0
HaveSameFile name c d = (a b : Files) → c.files ≡ Some a → d.files ≡ Some b → file_at name a ≡ file_at name b

-- Two sessions over the same poll, with other presses, that are both Done: where the ballots of the one are those of the other in another
-- order, and both leave the poll in the same phase with the same moments, they leave the same flashes; and where it is sealed and the word
-- OUT is the same, the same two files of results.
abbrev pub SameInAnyOrder : Type 0
SameInAnyOrder =
    (names : Vota) (t : TablesData) (r : RollData) (section : Section) (s : State)
    (c d : CabinetTold) (m n : Told) (es : List Event) (files : Files) → VotaOver names c d m n status.Done t r es section s files
    → (other : Vota) (c1 d1 : CabinetTold) (m1 n1 : Told) (fs : List Event) (files1 : Files) → VotaOver other c1 d1 m1 n1 status.Done t r fs section s files1
    → (last : State) (out : List Output) (run : IsRun (setting_of t r.titles) s es last out)
    → (last1 : State) (out1 : List Output) (run1 : IsRun (setting_of t r.titles) s fs last1 out1)
    → IsPermutation (ballots_of run) (ballots_of run1) → last.phase ≡ last1.phase
    → HaveSameFlashes n n1
    × (other.out ≡ names.out → (opened closed : ℕ) → last.phase ≡ phase.Sealed opened closed → HaveSameFile (report_name names.out) d d1 × HaveSameFile (record_name names.out) d d1)
