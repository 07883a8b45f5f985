-- One event at a standing
use Rattle.std.proofs.Common.{◌≡◌, ℕ, ◌<◌, Bool, true, false, cond, List, [], ◌∷◌, ◌++◌, Option, Some, None, refl, sym, ap, ◌∙◌}
use Rattle.key_script.specs.declared.keys.Key.{Key}
use Rattle.key_script.specs.declared.keys.Key.TheVariants as key
use Rattle.vote_kinds.specs.declared.choice.Choice.{Choice}
use Rattle.vote_kinds.specs.declared.choice.Field.{Field}
use Rattle.voter_term.specs.declared.panel.Shown.TheVariants as shown
use Rattle.vote_kinds.specs.Ballot.{BallotLine, is_confirmable, choice_of}
use Rattle.voter_term.specs.Field.{field_after, same_field}
use Rattle.voter_term.specs.Panel.{next_field}
use Rattle.voter_term.proofs.Screens.{same_field_is}
use Rattle.voter_term.proofs.Words.{field_after-more}
use Rattle.turnout.specs.Turnout.{has_come}
use Rattle.clerk_term.specs.Reply.{answer_to, polling_answer, title_answer, place_of}
use Rattle.image_codec.specs.State.{State}
use Rattle.station.specs.Setting.{Setting, reply_at}
use Rattle.station.specs.Output.{refusal, line_at, earlier_for, echo, screen}
use Rattle.station.specs.Run.{IsWaiting, IsVisiting}
use Rattle.station.specs.Press.{Standing, press, after_key, calls_next, voting_at}
use Rattle.key_script.specs.declared.keys.Event.TheVariants.{Clerk, Voter}
use Rattle.key_script.specs.declared.keys.ClerkKey.{ClerkKey}
use Rattle.key_script.specs.declared.keys.ClerkKey.TheVariants as clerk
use Rattle.turnout.specs.declared.phase.Phase.{Phase}
use Rattle.turnout.specs.declared.phase.Phase.TheVariants as phase
use Rattle.clerk_term.specs.declared.replies.Mode.TheVariants as mode
use Rattle.clerk_term.specs.declared.replies.ClerkAnswer.{ClerkAnswer}
use Rattle.clerk_term.specs.declared.replies.ClerkAnswer.TheVariants as answer

-- The clerk

abbrev pub IsRefused : ClerkAnswer → Type 0
IsRefused a = (n : ℕ) × (a ≡ answer.Refused n)

-- a voter is identified only while the poll is open
pub polls : (v : Setting) (s : State) (p : Phase) (number place : ℕ) → answer_to v.roll p s.came mode.Idle (clerk.Titulo number) ≡ answer.Identifies place → (opened : ℕ) × (p ≡ phase.Polling opened)
polls v s phase.Ready number place e = absurd (cc)
polls v s (phase.Polling opened) number place e = (opened, refl)
polls v s (phase.Sealed opened closed) number place e = absurd (cc)

title_waits : (s : State) (place : ℕ) (come : Bool) → IsRefused (cond come (answer.Refused 5) (answer.Refused 6))
title_waits s place true = (5, refl)
title_waits s place false = (6, refl)

title_identified : (s : State) (place : ℕ) (found : Option ℕ) → IsRefused (title_answer s.came (mode.Identified place) found)
title_identified s place None = (4, refl)
title_identified s place (Some other) = title_waits s place (has_come s.came other)

title_voting : (s : State) (place : ℕ) (found : Option ℕ) → IsRefused (title_answer s.came (mode.Voting place) found)
title_voting s place None = (4, refl)
title_voting s place (Some other) = title_waits s place (has_come s.came other)

polling_waits : (v : Setting) (s : State) (opened place : ℕ) (c : ClerkKey) → IsWaiting (Clerk c) → IsRefused (polling_answer v.roll opened s.came (mode.Identified place) c)
polling_waits v s opened place (clerk.Abre m) w = (2, refl)
polling_waits v s opened place (clerk.Titulo t) w = title_identified s place (place_of v.roll t)
polling_waits v s opened place clerk.Libera w = absurd w
polling_waits v s opened place clerk.Cancela w = absurd w
polling_waits v s opened place clerk.Suspende w = (8, refl)
polling_waits v s opened place (clerk.Encerra m) w = (6, refl)

polling_visits : (v : Setting) (s : State) (opened place : ℕ) (c : ClerkKey) → IsVisiting (Clerk c) → IsRefused (polling_answer v.roll opened s.came (mode.Voting place) c)
polling_visits v s opened place (clerk.Abre m) w = (2, refl)
polling_visits v s opened place (clerk.Titulo t) w = title_voting s place (place_of v.roll t)
polling_visits v s opened place clerk.Libera w = (6, refl)
polling_visits v s opened place clerk.Cancela w = (6, refl)
polling_visits v s opened place clerk.Suspende w = absurd w
polling_visits v s opened place (clerk.Encerra m) w = (6, refl)

-- where a voter was identified, the poll is open
abbrev pub Polls : State → Type 0
Polls s = (opened : ℕ) × (s.phase ≡ phase.Polling opened)

-- while a voter waits, and while one votes, the clerk's other keys are refused
pub refused_waiting : (v : Setting) (s : State) (place : ℕ) (c : ClerkKey) → Polls s → IsWaiting (Clerk c) → IsRefused (reply_at v s (mode.Identified place) c)
refused_waiting v s place c polling w = rw polling.1 (polling_waits v s polling.0 place c w)

pub refused_visiting : (v : Setting) (s : State) (place : ℕ) (c : ClerkKey) → Polls s → IsVisiting (Clerk c) → IsRefused (reply_at v s (mode.Voting place) c)
refused_visiting v s place c polling w = rw polling.1 (polling_visits v s polling.0 place c w)

pub press_refused : (v : Setting) (x : Standing) (c : ClerkKey) → IsRefused (reply_at v x.state x.mode c) → press v (x) (Clerk c) ≡ record { standing = x; out = refusal (reply_at v x.state x.mode c) }
press_refused v x c r = rw r.1 refl

-- The voter

after_change : (v : Setting) (s : State) (place : ℕ) (choices : List Choice) (l : BallotLine) (k : Key) (f g : Field) (b : Bool)
    → same_field g f ≡ b → next_field l.digits f k ≡ g
    → after_key v s place choices f l k (cond b shown.Nothing shown.Screen)
    ≡ record { standing = voting_at s place choices g; out = cond b [] (screen l (earlier_for v choices l) g ∷ []) }
after_change v s place choices l k f g true t e = ap (λ (h : Field). record { standing = voting_at s place choices h; out = [] }) (sym (same_field_is g f t))
after_change v s place choices l k f g false t e = ap (λ (h : Field). record { standing = voting_at s place choices h; out = screen l (earlier_for v choices l) h ∷ [] }) e

changes : (v : Setting) (s : State) (place : ℕ) (choices : List Choice) (l : BallotLine) (k : Key) (f g : Field)
    → g ≡ next_field l.digits f k
    → after_key v s place choices f l k (cond (same_field (next_field l.digits f k) f) shown.Nothing shown.Screen)
    ≡ record { standing = voting_at s place choices g; out = cond (same_field g f) [] (screen l (earlier_for v choices l) g ∷ []) }
changes v s place choices l k f g e =
    ap (λ (h : Field). after_key v s place choices f l k (cond (same_field h f) shown.Nothing shown.Screen)) (sym e)
    ∙ after_change v s place choices l k f g (same_field g f) refl (sym e)

-- a key that ends no panel word
pub press_key : (v : Setting) (s : State) (place : ℕ) (choices : List Choice) (l : BallotLine) (w : List Key) (k : Key)
    → 0 < l.digits → line_at v choices ≡ Some l → (k ≡ key.Confirm → is_confirmable l (field_after l.digits w) ≡ false)
    → press v (voting_at s place choices (field_after l.digits w)) (Voter k)
    ≡ record { standing = voting_at s place choices (field_after l.digits (w ++ k ∷ [])); out = echo l (earlier_for v choices l) w k }
press_key v s place choices l w key.Confirm h at last =
    rw (at, last refl) (ap (λ (f : Field). record { standing = voting_at s place choices f; out = [] }) (sym (field_after-more l.digits w key.Confirm h)))
press_key v s place choices l w key.Blank h at last = rw at (changes v s place choices l key.Blank (field_after l.digits w) _ (field_after-more l.digits w key.Blank h))
press_key v s place choices l w key.Correct h at last = rw at (changes v s place choices l key.Correct (field_after l.digits w) _ (field_after-more l.digits w key.Correct h))
press_key v s place choices l w (key.Digit d) h at last = rw at (changes v s place choices l (key.Digit d) (field_after l.digits w) _ (field_after-more l.digits w (key.Digit d) h))

-- the CONFIRMA that ends one
pub press_confirm : (v : Setting) (s : State) (place : ℕ) (choices : List Choice) (l : BallotLine) (w : List Key)
    → line_at v choices ≡ Some l → is_confirmable l (field_after l.digits w) ≡ true
    → press v (voting_at s place choices (field_after l.digits w)) (Voter key.Confirm)
    ≡ calls_next v s place (choices ++ choice_of l (earlier_for v choices l) (field_after l.digits w) ∷ [])
press_confirm v s place choices l w at t = rw (at, t) refl
