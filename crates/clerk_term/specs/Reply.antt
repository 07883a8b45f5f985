-- The clerk's terminal: what each key does, by the phase and by who is at the station.
-- Refused 1: not opened; 2: already opened; 3: sealed; 4: a title that isn't in the roll; 5: who voted already; 6: somebody is
-- identified or voting; 7: nobody is identified; 8: nobody is voting; 9: a closing moment below the opening moment.
use Rattle.std.specs.Prelude.{ℕ, Bool, List, Option, Some, None, if◌then◌else◌, nat_lt, ◌==◌, position}
use Rattle.key_script.specs.declared.keys.ClerkKey.{ClerkKey}
use Rattle.key_script.specs.declared.keys.ClerkKey.TheVariants as clerk
use Rattle.turnout.specs.Turnout.{has_come}
use Rattle.turnout.specs.declared.phase.Phase.{Phase}
use Rattle.turnout.specs.declared.phase.Phase.TheVariants as phase
use Rattle.clerk_term.specs.declared.replies.Mode.{Mode}
use Rattle.clerk_term.specs.declared.replies.Mode.TheVariants as mode
use Rattle.clerk_term.specs.declared.replies.ClerkAnswer.{ClerkAnswer}
use Rattle.clerk_term.specs.declared.replies.ClerkAnswer.TheVariants as answer

-- the place of a title in the roll
abbrev pub place_of : List ℕ → ℕ → Option ℕ
place_of roll title = position (λ t. t == title) roll

-- one choice by who is at the station
abbrev pub by_mode : {A : Type 0} → Mode → A → (ℕ → A) → (ℕ → A) → A
by_mode mode.Idle idle identified voting = idle
by_mode (mode.Identified place) idle identified voting = identified place
by_mode (mode.Voting place) idle identified voting = voting place

-- what a key does before the poll is opened
abbrev pub ready_answer : ClerkKey → ClerkAnswer
ready_answer (clerk.Abre moment) = answer.Opens moment
ready_answer (clerk.Titulo title) = answer.Refused 1
ready_answer clerk.Libera = answer.Refused 1
ready_answer clerk.Cancela = answer.Refused 1
ready_answer clerk.Suspende = answer.Refused 1
ready_answer (clerk.Encerra moment) = answer.Refused 1

-- a title of this place in the roll, or of none
abbrev pub title_answer : List Bool → Mode → Option ℕ → ClerkAnswer
title_answer came m None = answer.Refused 4
title_answer came m (Some place) =
    if has_come came place then answer.Refused 5
    else by_mode m (answer.Identifies place) (λ other. answer.Refused 6) (λ other. answer.Refused 6)

-- what a key does while the poll is open, by the roll, the opening, who came and who is at the station
abbrev pub polling_answer : List ℕ → ℕ → List Bool → Mode → ClerkKey → ClerkAnswer
polling_answer roll opened came m (clerk.Abre moment) = answer.Refused 2
polling_answer roll opened came m (clerk.Titulo title) = title_answer came m (place_of roll title)
polling_answer roll opened came m clerk.Libera = by_mode m (answer.Refused 7) (λ place. answer.Releases place) (λ place. answer.Refused 6)
polling_answer roll opened came m clerk.Cancela = by_mode m (answer.Refused 7) (λ place. answer.Cancels place) (λ place. answer.Refused 6)
polling_answer roll opened came m clerk.Suspende = by_mode m (answer.Refused 8) (λ place. answer.Refused 8) (λ place. answer.Suspends place)
polling_answer roll opened came m (clerk.Encerra moment) =
    by_mode m (if nat_lt moment opened then answer.Refused 9 else answer.Seals moment) (λ place. answer.Refused 6) (λ place. answer.Refused 6)

-- what a key does
abbrev pub answer_to : List ℕ → Phase → List Bool → Mode → ClerkKey → ClerkAnswer
answer_to roll phase.Ready came m k = ready_answer k
answer_to roll (phase.Polling opened) came m k = polling_answer roll opened came m k
answer_to roll (phase.Sealed opened closed) came m k = answer.Refused 3
