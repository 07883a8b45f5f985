-- Any calls one after the other, each of which the power may have stopped, and between which a flash may be exchanged
use Rattle.std.specs.Prelude.{◌≡◌, ◌≢◌, ◌⊎◌, ℕ, List, [], ◌∷◌, ◌++◌, Some, length}
use Rattle.std.specs.List.{AllByRecursion}
use Rattle.urna_outside.specs.Cabinet.{CabinetTold, Files}
use Rattle.urna_outside.specs.Flash.{Flashes, IsClean, Op, flash_of}
use Rattle.urna_outside.specs.Started.{clean_flashes}
use Rattle.urna_outside.specs.Stop.{IsLeft, Left, left_on}
use Rattle.urna_outside.specs.Told.{Told}
use Rattle.urna_outside.specs.declared.device.Dev.{Dev}
use Rattle.election_tables.specs.Roll.{IsRoll, RollData}
use Rattle.election_tables.specs.TablesData.{IsTables, TablesData}
use Rattle.election_tables.specs.declared.tables.sections.Section.{Section}
use Rattle.key_script.specs.declared.keys.Event.{Event}
use Rattle.turnout.specs.declared.phase.Phase.TheVariants as phase
use Rattle.vote_kinds.specs.Ballot.{ballot_lines}
use Rattle.image_codec.specs.Also.{HasAlso}
use Rattle.image_codec.specs.CodecLaws.{Ballot}
use Rattle.image_codec.specs.Encoding.{IsStateOf}
use Rattle.image_codec.specs.State.{State}
use Rattle.image_codec.specs.Valid.{ready_state}
use Rattle.twin_image.specs.Slots.{beside}
use Rattle.state_store.specs.Held.{KeepFrames, HasFrameOf}
use Rattle.state_store.specs.Rest.{AreFree}
use Rattle.state_store.specs.Calls.{AreFound}
use Rattle.state_store.specs.Laws.{AreWhole}
use Rattle.state_store.specs.Load.{IsSectionOf, load_of}
use Rattle.flash_store.specs.Pieces.{commits_reached, lines_in, text_in}
use Rattle.state_store.specs.Rest.{AreAtRest, IsInUse, device_size}
use Rattle.contingency.specs.Replaced.{IsReplaced, IsStanding}
use Rattle.station.specs.Cast.{ballots_of, fims_reached}
use Rattle.station.specs.Output.{Output}
use Rattle.station.specs.Prefixes.{IsAfterPrefix}
use Rattle.station.specs.Run.{IsRun}
use Rattle.station.specs.Setting.{setting_of}
use Rattle.urna_commands.specs.Carga.{IsSectionAsked}
use Rattle.urna_commands.specs.Command.{Carga, Repoe, ToLoad, ToReplace, ToVote, Vota, command_of}
use Rattle.command_parts.specs.Documents.{HasDocuments}
use Rattle.urna_commands.specs.Ending.{Ends}
use Rattle.urna_commands.specs.Errors.{port_status}
use Rattle.command_parts.specs.FaultLines.{fault_line}
use Rattle.command_parts.specs.Idle.{AreIdle}
use Rattle.command_parts.specs.Steps.{Call as CallOf, IsCall as IsCallOf, IsToldOrOneMore}
use Rattle.urna_commands.specs.FaultLines.{fault_text}
use Rattle.call_laws.specs.Headline.{IsSafeOver, session_of}
use Rattle.urna_commands.specs.Vota.{IsGiven}
use Rattle.urna_commands.specs.declared.status.Status.{Status}
use Rattle.urna_commands.specs.declared.status.Status.TheVariants as status

-- ---- one call

-- a call of this program as one sees it
abbrev pub Call : Type 0
Call = CallOf Status

-- it was made over these flashes, and ended or was stopped, and there is this for the next
abbrev pub IsCall : Flashes → Call → Flashes → Type 0
IsCall start x next = IsCallOf Ends start x next

-- ---- what flashes stand for

-- Both flashes together hold the poll s of the section; or one of them isn't in use, and the one beside it stands for s.
pub data HavePoll (t : TablesData) (r : RollData) (section : Section) (s : State) (flashes : Flashes) : Type 0 where
  by_both : AreFound t r section s flashes → HavePoll t r section s flashes
  by_one : (replaced : Dev) → IsReplaced t r section s replaced flashes → HavePoll t r section s flashes

-- ---- what is asked of a call

-- These files give to vota no other tables and no other roll of the same hashes.
abbrev pub GivesNoCollision : TablesData → RollData → Files → Vota → Type 0
GivesNoCollision t r files names =
    (u : TablesData) (q : RollData) (es : List Event) → IsGiven (Some files) names u q es → u.digest ≡ t.digest → q.digest ≡ r.digest → (u ≡ t) × (q ≡ r)

-- These files are no other tables and no other roll of the same hashes.
abbrev pub AreNoCollision : TablesData → RollData → Files → Repoe → Type 0
AreNoCollision t r files names =
    (u : TablesData) (q : RollData) → HasDocuments (Some files) names.tables names.roll u q → u.digest ≡ t.digest → q.digest ≡ r.digest → (u ≡ t) × (q ≡ r)

-- All that is asked of a call that did these operations. Where carga is called while the poll is still ready, it has put nothing on a flash; nor has
-- repoe, where it then names the flash that stands for the poll beside one that hasn't the frame of its load. And vota and repoe are given no
-- collision of SHA-256.
pub record MayBeCalled (t : TablesData) (r : RollData) (section : Section) (start : Flashes) (x : Call) (done : List Op) : Type 0 where
  pub no_load : (names : Carga) → command_of x.words ≡ Some (ToLoad names)
      → (s : State) → HavePoll t r section s start → s.phase ≡ phase.Ready → AreIdle done
  pub no_wrong_flash : (names : Repoe) → command_of x.words ≡ Some (ToReplace names)
      → (s : State) → IsReplaced t r section s (beside names.replaced) start
      → ¬ HasFrameOf t r section (beside names.replaced) (flash_of (beside names.replaced) start).content → s.phase ≡ phase.Ready → AreIdle done
  pub no_collision : (names : Vota) → command_of x.words ≡ Some (ToVote names) → GivesNoCollision t r x.files names
  pub no_other_documents : (names : Repoe) → command_of x.words ≡ Some (ToReplace names) → AreNoCollision t r x.files names

-- ---- to which poll steps lead

-- what is done to the flashes, one after the other: a call, or one of them is exchanged
pub data Step : Type 0 where
  Called : Call → Step
  Exchanged : Dev → Step

-- It is a call of vota whose files hold these tables and this roll, and these keys.
pub record IsSessionOf (t : TablesData) (r : RollData) (x : Call) (es : List Event) : Type 0 where
  pub names : Vota
  pub command : command_of x.words ≡ Some (ToVote names)
  pub given : IsGiven (Some x.files) names t r es

-- A session leads from the poll s to the one after a prefix of its presses. What was shown is a front of its text over s, which begins with
-- where the poll stands. The run over the prefix commits as many states as lines that tell one, and has as many ballots as lines FIM, as the
-- display had begun to show; or where the session was interrupted one more.
pub record LeadsOn (t : TablesData) (r : RollData) (x : Call) (es : List Event) (s u : State) : Type 0 where
  pub last : State
  pub out : List Output
  pub run : IsRun (setting_of t r.titles) s es last out
  pub rest : List ℕ
  pub front : text_in (session_of t s out) ≡ x.shown ++ rest
  pub number : ℕ
  pub after : IsAfterPrefix (setting_of t r.titles) s es out (ballots_of run) number u
  pub told : IsToldOrOneMore port_status x.status (commits_reached (session_of t s out) (length x.shown)) number
  pub fims : IsToldOrOneMore port_status x.status (fims_reached (lines_in (session_of t s out)) (length x.shown)) (length (ballots_of after.run))

-- no more is shown than the line that tells of a flash that it isn't of this load
abbrev pub TellsForeign : List ℕ → Type 0
TellsForeign shown = (d : Dev) × (text : List ℕ) × (rest : List ℕ) × (fault_text (status.Foreign d) ≡ Some text) × (fault_line text ≡ shown ++ rest)

-- So each call leads on: a session that showed something of its text does so; one that showed nothing, or that a flash isn't of this load, and
-- any other call leaves the poll as it is.
pub data LeadsTo (t : TablesData) (r : RollData) (x : Call) : State → State → Type 0 where
  session : {es : List Event} {s u : State} → IsSessionOf t r x es → x.shown ≢ [] → (on : LeadsOn t r x es s u) → LeadsTo t r x s u
  other : {s : State} → ((es : List Event) → ¬ IsSessionOf t r x es) → LeadsTo t r x s s
  silent : {s : State} → x.shown ≡ [] → LeadsTo t r x s s
  foreign : {s : State} → TellsForeign x.shown → LeadsTo t r x s s

-- the ballots with which it does
abbrev pub ballots_in : {t : TablesData} {r : RollData} {x : Call} {s u : State} → LeadsTo t r x s u → List Ballot
ballots_in (session begun some on) = ballots_of on.after.run
ballots_in (other none) = []
ballots_in (silent unshown) = []
ballots_in (foreign told) = []

-- And so many steps do, of which the last stands first: each from the poll to which those before it led. An exchange leaves it as it is.
pub data LeadTo (t : TablesData) (r : RollData) (s : State) : List Step → State → Type 0 where
  stays : LeadTo t r s [] s
  leads : {before : List Step} {x : Call} {v u : State} → LeadTo t r s before v → (one : LeadsTo t r x v u) → LeadTo t r s (Called x ∷ before) u
  exchanges : {before : List Step} {d : Dev} {u : State} → LeadTo t r s before u → LeadTo t r s (Exchanged d ∷ before) u

-- the ballots of them all
abbrev pub ballots_led : {t : TablesData} {r : RollData} {s u : State} {steps : List Step} → LeadTo t r s steps u → List Ballot
ballots_led stays = []
ballots_led (leads before one) = ballots_led before ++ ballots_in one
ballots_led (exchanges before) = ballots_led before

-- ---- steps, one after the other

-- While the power is off one flash is exchanged for one of its size, on which nothing is dirty and which isn't in use; the other one stays as it is,
-- with nothing dirty.
pub record IsExchange (d : Dev) (start next : Flashes) : Type 0 where
  pub stays : flash_of (beside d) next ≡ flash_of (beside d) start
  pub clean : (e : Dev) → IsClean (flash_of e next)
  pub size : length (flash_of d next).content ≡ device_size
  pub unused : ¬ IsInUse (flash_of d next).content

-- Such steps from these flashes on, of which the last stands first, each over what the one before it left. A flash is exchanged only where the one
-- that stays stands for a poll to which the steps before lead.
pub data AreDone (t : TablesData) (r : RollData) (section : Section) (s : State) (start : Flashes) : List Step → Flashes → Type 0 where
  done_nothing : AreDone t r section s start [] start
  done_call : {before : List Step} {now next : Flashes} {x : Call} → AreDone t r section s start before now → (is : IsCall now x next) → MayBeCalled t r section now x is.done
      → AreDone t r section s start (Called x ∷ before) next
  done_exchange : {before : List Step} {now next : Flashes} {d : Dev} {u : State} → AreDone t r section s start before now → IsExchange d now next → LeadTo t r s before u
      → IsStanding t r section u (beside d) (flash_of (beside d) now).content → AreDone t r section s start (Exchanged d ∷ before) next

-- no flash is exchanged, and repoe isn't called
abbrev pub ReplacesNothing : Step → Type 0
ReplacesNothing (Called x) = (names : Repoe) → command_of x.words ≢ Some (ToReplace names)
ReplacesNothing (Exchanged d) = ⊥

-- so it is with all of them
abbrev pub ReplaceNothing : List Step → Type 0
ReplaceNothing steps = AllByRecursion ReplacesNothing steps

-- ---- what is kept

-- What both flashes are when the steps begin: of their size, with nothing dirty, loaded for the section, and with the poll s.
pub record AreReady (t : TablesData) (r : RollData) (section : Section) (s : State) (start : Flashes) : Type 0 where
  pub tables : IsTables t
  pub roll : IsRoll r
  pub whole : AreWhole start
  pub clean : (d : Dev) → IsClean (flash_of d start)
  pub found : AreFound t r section s start

-- What is left behind the steps is a poll of the section again, the one to which they lead from s: s with their ballots. Where nothing was
-- replaced, both flashes hold it, and the frames stay.
pub record HasKept (t : TablesData) (r : RollData) (section : Section) (s : State) (start : Flashes) (steps : List Step) (left : Left) : Type 0 where
  pub state : State
  pub poll : HavePoll t r section state (clean_flashes left.internal left.external)
  pub whole : AreWhole (clean_flashes left.internal left.external)
  pub led : LeadTo t r s steps state
  pub has : HasAlso (ballot_lines t) s (ballots_led led) state
  pub both : ReplaceNothing steps → AreFound t r section state (clean_flashes left.internal left.external) × KeepFrames start left

-- Whatever is called, wherever the power stops it, and whichever flash is exchanged: what a power cut leaves behind the steps keeps their votes.
abbrev pub StepsKeepVotes : Type 0
StepsKeepVotes =
    (t : TablesData) (r : RollData) (section : Section) (s : State) (start last : Flashes) (steps : List Step)
    → AreReady t r section s start → AreDone t r section s start steps last
    → (left : Left) → IsLeft last [] left → HasKept t r section s start steps left

-- The next call finds such a poll, s with the ballots of the steps. Where both flashes hold it, as they do where nothing was replaced, it is safe
-- over it.
abbrev pub NextIsSafe : Type 0
NextIsSafe =
    (t : TablesData) (r : RollData) (section : Section) (s : State) (start last : Flashes) (steps : List Step)
    → AreReady t r section s start → AreDone t r section s start steps last
    → (u : State) × (led : LeadTo t r s steps u) × HasAlso (ballot_lines t) s (ballots_led led) u × HavePoll t r section u last
    × (ReplaceNothing steps → AreFound t r section u last) × (AreFound t r section u last → IsSafeOver t r u last)

-- Steps that lead from a poll with as many voters as the roll lead to it with their ballots.
abbrev pub LedHasBallots : Type 0
LedHasBallots =
    (t : TablesData) (r : RollData) (s u : State) (steps : List Step) → length s.came ≡ length r.titles
    → (led : LeadTo t r s steps u) → HasAlso (ballot_lines t) s (ballots_led led) u

-- Whatever a power cut leaves of these flashes, this one alone stands for a poll to which the steps lead: so the other one may be exchanged.
abbrev pub StandsAlone : TablesData → RollData → Section → State → List Step → Flashes → Dev → Type 0
StandsAlone t r section s steps flashes d =
    (left : Left) → IsLeft flashes [] left → (u : State) × LeadTo t r s steps u × IsStanding t r section u d (left_on d left)

-- Behind a session over both flashes that began to show its text each of them alone stands for such a poll.
abbrev pub EitherMayBeExchanged : Type 0
EitherMayBeExchanged =
    (t : TablesData) (r : RollData) (section : Section) (s : State) (start now next : Flashes) (before : List Step) (x : Call) (es : List Event)
    → AreReady t r section s start → AreDone t r section s start before now → (v : State) → AreFound t r section v now
    → IsCall now x next → IsSessionOf t r x es → x.shown ≢ []
    → (d : Dev) → StandsAlone t r section s (Called x ∷ before) next d

-- A flash that alone stands for such a poll does so behind a call, too, that did nothing but sync and show and that leads nowhere; and behind repoe of
-- the other flash, however it ended or wherever it was stopped, where it is given no collision of SHA-256.
abbrev pub StillStandsAlone : Type 0
StillStandsAlone =
    (t : TablesData) (r : RollData) (section : Section) (s : State) (now next : Flashes) (before : List Step) (x : Call) (d : Dev) → IsTables t → IsRoll r
    → StandsAlone t r section s before now d → (is : IsCall now x next)
    → (AreIdle is.done × ((u : State) → LeadsTo t r x u u))
    ⊎ ((names : Repoe) × (command_of x.words ≡ Some (ToReplace names)) × (d ≡ beside names.replaced) × AreNoCollision t r x.files names)
    → StandsAlone t r section s (Called x ∷ before) next d

-- It does so behind an exchange of the other one.
abbrev pub ExchangeLeavesIt : Type 0
ExchangeLeavesIt =
    (t : TablesData) (r : RollData) (section : Section) (s : State) (now next : Flashes) (before : List Step) (d : Dev)
    → StandsAlone t r section s before now d → IsExchange (beside d) now next → StandsAlone t r section s (Exchanged (beside d) ∷ before) next d

-- Of two flashes at rest with a poll to which the steps lead, each does so.
abbrev pub RestStandsAlone : Type 0
RestStandsAlone =
    (t : TablesData) (r : RollData) (section : Section) (s u : State) (flashes : Flashes) (steps : List Step) (d : Dev) → IsTables t → IsRoll r → IsSectionOf t r section
    → IsStateOf t (length r.titles) u → AreAtRest t (load_of t r section) u flashes → LeadTo t r s steps u → StandsAlone t r section s steps flashes d

-- A poll that was opened stays one that was, wherever steps lead from it.
abbrev pub OpenedStays : Type 0
OpenedStays = (t : TablesData) (r : RollData) (s u : State) (steps : List Step) → LeadTo t r s steps u → s.phase ≢ phase.Ready → u.phase ≢ phase.Ready

-- Where carga answered Done, both flashes are ready for such steps, whatever they held before: with the poll of the section that was asked for,
-- in which nobody came. Neither is in use.
abbrev pub LoadMakesReady : Type 0
LoadMakesReady =
    (words : List (List ℕ)) (c d : CabinetTold) (m n : Told) → Ends words c d m n status.Done
    → (names : Carga) (files : Files) (t : TablesData) (r : RollData) → command_of words ≡ Some (ToLoad names) → c.files ≡ Some files → HasDocuments (Some files) names.tables names.roll t r
    → (start : Flashes) → n.flashes ≡ Some start
    → (section : Section) × IsSectionAsked names t r section × AreReady t r section (ready_state t (length r.titles)) start × AreFree start

-- Whatever a power cut leaves of these flashes, neither is in use.
abbrev pub StayFree : Flashes → Type 0
StayFree flashes = (left : Left) → IsLeft flashes [] left → AreFree (clean_flashes left.internal left.external)

-- Where carga is called over flashes of which neither is in use, whatever a power cut leaves of them, as a load leaves them, it leaves such ones,
-- ended or stopped. And where it is Done, they are ready, with the poll that was asked for, and the steps begin anew.
abbrev pub LoadMayFollow : Type 0
LoadMayFollow =
    (start next : Flashes) (x : Call) (names : Carga) → IsCall start x next → command_of x.words ≡ Some (ToLoad names)
    → (StayFree start → StayFree next)
    × (x.status ≡ Some status.Done → (t : TablesData) (r : RollData) → HasDocuments (Some x.files) names.tables names.roll t r
    → (section : Section) × IsSectionAsked names t r section × AreReady t r section (ready_state t (length r.titles)) next)
