-- What a list of events comes to, by whole visits
use Rattle.std.specs.Prelude.{◌≡◌, ℕ, List, [], ◌∷◌, ◌++◌, Option, Some, None}
use Rattle.std.specs.List.{AllByRecursion}
use Rattle.key_script.specs.declared.keys.Key.{Key}
use Rattle.key_script.specs.declared.keys.Key.TheVariants as key
use Rattle.key_script.specs.declared.keys.Event.{Event}
use Rattle.key_script.specs.declared.keys.Event.TheVariants.{Clerk, Voter}
use Rattle.key_script.specs.declared.keys.ClerkKey.{ClerkKey}
use Rattle.key_script.specs.declared.keys.ClerkKey.TheVariants as clerk
use Rattle.key_script.specs.Event.{keys_of}
use Rattle.vote_kinds.specs.declared.choice.Choice.{Choice}
use Rattle.vote_kinds.specs.Ballot.{BallotLine}
use Rattle.voter_term.specs.Field.{IsUnconfirmed, Confirms}
use Rattle.turnout.specs.Turnout.{number_came}
use Rattle.clerk_term.specs.declared.replies.Mode.TheVariants as mode
use Rattle.clerk_term.specs.declared.replies.ClerkAnswer.TheVariants as answer
use Rattle.image_codec.specs.State.{State, opened_at, sealed_at, with_ballot, filled_up}
use Rattle.station.specs.Setting.{Setting, reply_at}
use Rattle.station.specs.Output.{Output, Says, Commits, Reports, refusal, line_at, earlier_for, call_of, echo}
use Rattle.station.specs.declared.line.Line.TheVariants as line
use Rattle.station.specs.declared.line.Title.TheVariants as title

-- neither LIBERA nor CANCELA
abbrev pub IsWaiting : Event → Type 0
IsWaiting (Voter k) = Unit {0}
IsWaiting (Clerk (clerk.Abre m)) = Unit {0}
IsWaiting (Clerk (clerk.Titulo t)) = Unit {0}
IsWaiting (Clerk clerk.Libera) = ⊥
IsWaiting (Clerk clerk.Cancela) = ⊥
IsWaiting (Clerk clerk.Suspende) = Unit {0}
IsWaiting (Clerk (clerk.Encerra m)) = Unit {0}

-- not SUSPENDE
abbrev pub IsVisiting : Event → Type 0
IsVisiting (Voter k) = Unit {0}
IsVisiting (Clerk (clerk.Abre m)) = Unit {0}
IsVisiting (Clerk (clerk.Titulo t)) = Unit {0}
IsVisiting (Clerk clerk.Libera) = Unit {0}
IsVisiting (Clerk clerk.Cancela) = Unit {0}
IsVisiting (Clerk clerk.Suspende) = ⊥
IsVisiting (Clerk (clerk.Encerra m)) = Unit {0}

-- What is put out while the voter of a place waits: the clerk's keys are refused, the voter's show nothing.
abbrev pub wait_outputs : Setting → State → ℕ → List Event → List Output
wait_outputs v s place [] = []
wait_outputs v s place (Voter k ∷ es) = wait_outputs v s place es
wait_outputs v s place (Clerk c ∷ es) = refusal (reply_at v s (mode.Identified place) c) ++ wait_outputs v s place es

-- What is put out on a line of the ballot, where the word w was typed before: each of the clerk's keys is refused in its
-- place, and each of the voter's keys shows its echo.
abbrev pub line_outputs : Setting → State → ℕ → BallotLine → Option Choice → List Key → List Event → List Output
line_outputs v s place l earlier w [] = []
line_outputs v s place l earlier w (Clerk c ∷ es) = refusal (reply_at v s (mode.Voting place) c) ++ line_outputs v s place l earlier w es
line_outputs v s place l earlier w (Voter k ∷ es) = echo l earlier w k ++ line_outputs v s place l earlier (w ++ k ∷ []) es

-- The events take the voter through the first lines of the ballot, with these choices: for each line a list without SUSPENDE,
-- and then the CONFIRMA with which the voter's keys are one panel word. The text of each line begins with its call.
pub data Votes (v : Setting) (s : State) (place : ℕ) : List Event → List Choice → List Output → Type 0 where
  start : Votes v s place [] [] []
  voted : {es : List Event} {choices : List Choice} {text : List Output} {c : Choice}
      (l : BallotLine) (more : List Event) → Votes v s place es choices text → line_at v choices ≡ Some l
      → AllByRecursion IsVisiting more → Confirms l (earlier_for v choices l) (keys_of more) c
      → Votes v s place (es ++ (more ++ Voter key.Confirm ∷ [])) (choices ++ c ∷ [])
      (text ++ call_of choices l ∷ line_outputs v s place l (earlier_for v choices l) [] more)

-- The events take the voter through the first lines of the ballot, with these choices, and then on the next line to no end.
pub data IsOpen (v : Setting) (s : State) (place : ℕ) : List Event → List Choice → List Output → Type 0 where
  open_at : {es : List Event} {choices : List Choice} {text : List Output}
      (l : BallotLine) (more : List Event) → Votes v s place es choices text → line_at v choices ≡ Some l
      → AllByRecursion IsVisiting more → IsUnconfirmed l (keys_of more)
      → IsOpen v s place (es ++ more) choices (text ++ call_of choices l ∷ line_outputs v s place l (earlier_for v choices l) [] more)

-- A voter who is suspended before the first choice did not come; after it the ballot counts, with Null on each line that is
-- left.
abbrev pub after_suspension : Setting → State → ℕ → List Choice → State
after_suspension v s place [] = s
after_suspension v s place (c ∷ choices) = with_ballot v.lines s place (filled_up v.lines (c ∷ choices))

-- what a suspended visit puts out, by the choices that were confirmed in it
abbrev pub suspension : Setting → State → ℕ → List Choice → Output
suspension v s place [] = Says line.Suspended
suspension v s place (c ∷ choices) = Commits (with_ballot v.lines s place (filled_up v.lines (c ∷ choices))) line.Ended

-- The visit of the voter of a place, from the release on: whole, where no line of the ballot is left, or suspended.
pub data Visit (v : Setting) (s : State) (place : ℕ) : List Event → State → List Output → Type 0 where
  whole : {es : List Event} {choices : List Choice} {text : List Output} → Votes v s place es choices text → line_at v choices ≡ None
      → Visit v s place es (with_ballot v.lines s place choices) (text ++ Commits (with_ballot v.lines s place choices) line.Ended ∷ [])
  suspended : {es : List Event} {choices : List Choice} {text : List Output} → IsOpen v s place es choices text
      → Visit v s place (es ++ Clerk clerk.Suspende ∷ []) (after_suspension v s place choices) (text ++ suspension v s place choices ∷ [])

-- From a state with nobody identified, the events lead to this state and put this out.
pub data IsRun (v : Setting) : State → List Event → State → List Output → Type 0 where
  ends : {s : State} → IsRun v s [] s []
  ignores : {s t : State} {es : List Event} {out : List Output} {k : Key} → IsRun v s es t out → IsRun v s (Voter k ∷ es) t out
  refuses : {s t : State} {es : List Event} {out : List Output} {c : ClerkKey} {n : ℕ}
      → reply_at v s mode.Idle c ≡ answer.Refused n → IsRun v s es t out
      → IsRun v s (Clerk c ∷ es) t (Says (line.Refused n) ∷ out)
  opens : {s t : State} {es : List Event} {out : List Output} {c : ClerkKey} {m : ℕ}
      → reply_at v s mode.Idle c ≡ answer.Opens m → IsRun v (opened_at s m) es t out
      → IsRun v s (Clerk c ∷ es) t (Reports title.Zeresima (opened_at s m) ∷ Commits (opened_at s m) (line.Opened m) ∷ out)
  seals : {s t : State} {es : List Event} {out : List Output} {c : ClerkKey} {m : ℕ}
      → reply_at v s mode.Idle c ≡ answer.Seals m → IsRun v (sealed_at s m) es t out
      → IsRun v s (Clerk c ∷ es) t
      (Commits (sealed_at s m) (line.Sealed m (number_came s.came)) ∷ Reports title.Boletim (sealed_at s m) ∷ out)
  -- Somebody is identified, and the events end while the voter waits.
  waits : {s : State} {number place : ℕ} (before : List Event)
      → reply_at v s mode.Idle (clerk.Titulo number) ≡ answer.Identifies place → AllByRecursion IsWaiting before
      → IsRun v s (Clerk (clerk.Titulo number) ∷ before) s (Says (line.Voter number) ∷ wait_outputs v s place before)
  cancels : {s t : State} {number place : ℕ} {es : List Event} {out : List Output} (before : List Event)
      → reply_at v s mode.Idle (clerk.Titulo number) ≡ answer.Identifies place → AllByRecursion IsWaiting before → IsRun v s es t out
      → IsRun v s (Clerk (clerk.Titulo number) ∷ (before ++ Clerk clerk.Cancela ∷ es)) t
      (Says (line.Voter number) ∷ (wait_outputs v s place before ++ Says line.Canceled ∷ out))
  visits : {s t u : State} {number place : ℕ} {visit es : List Event} {text out : List Output} (before : List Event)
      → reply_at v s mode.Idle (clerk.Titulo number) ≡ answer.Identifies place → AllByRecursion IsWaiting before
      → Visit v s place visit u text → IsRun v u es t out
      → IsRun v s (Clerk (clerk.Titulo number) ∷ (before ++ Clerk clerk.Libera ∷ (visit ++ es))) t
      (Says (line.Voter number) ∷ (wait_outputs v s place before ++ Says line.Released ∷ (text ++ out)))
  -- The events end in the middle of a visit, which then changes nothing.
  cut_off : {s : State} {number place : ℕ} {visit : List Event} {choices : List Choice} {text : List Output} (before : List Event)
      → reply_at v s mode.Idle (clerk.Titulo number) ≡ answer.Identifies place → AllByRecursion IsWaiting before
      → IsOpen v s place visit choices text
      → IsRun v s (Clerk (clerk.Titulo number) ∷ (before ++ Clerk clerk.Libera ∷ visit)) s
      (Says (line.Voter number) ∷ (wait_outputs v s place before ++ Says line.Released ∷ text))
