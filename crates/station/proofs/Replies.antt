-- What the reply table says of the state
use Rattle.std.proofs.Common.{◌≡◌, ◌<◌, ℕ, Bool, true, false, cond, List, Option, Some, None, length, nat_eq, nat_lt, refl, sym, subst}
use Rattle.std.proofs.lemmas.Bool.{ltb-false}
use Rattle.std.proofs.lemmas.List.Quantifiers.{position-Some}
use Rattle.key_script.specs.declared.keys.ClerkKey.{ClerkKey}
use Rattle.key_script.specs.declared.keys.ClerkKey.TheVariants as clerk
use Rattle.vote_kinds.specs.declared.choice.Choice.{Choice}
use Rattle.turnout.specs.Turnout.{has_come}
use Rattle.turnout.specs.declared.phase.Phase.{Phase}
use Rattle.turnout.specs.declared.phase.Phase.TheVariants as phase
use Rattle.clerk_term.specs.Reply.{answer_to, polling_answer, title_answer, place_of}
use Rattle.clerk_term.specs.declared.replies.Mode.{Mode}
use Rattle.clerk_term.specs.declared.replies.Mode.TheVariants as mode
use Rattle.clerk_term.specs.declared.replies.ClerkAnswer.TheVariants as answer
use Rattle.image_codec.specs.State.{State, IsPolling}
use Rattle.station.specs.Setting.{Setting, reply_at}
use Rattle.station.specs.Press.{Standing}
use Rattle.station.specs.Valid.{IsPlaced, IsAnswer}

pub place_known : (v : Setting) (title place : ℕ) → place_of v.roll title ≡ Some place → place < length v.roll
place_known v title place h = (position-Some (λ t. nat_eq t title) v.roll place 0 h).0

may_vote : (v : Setting) (s : State) (choices : List Choice) (k : ClerkKey) (place : ℕ) (come : Bool) → has_come s.came place ≡ come → IsPolling s.phase → place < length s.came
    → IsAnswer v s choices k (cond come (answer.Refused 5) (answer.Identifies place))
may_vote v s choices k place true h p within = tt
may_vote v s choices k place false h p within = record { polling = p; known = within; absent = h }

refused : (v : Setting) (s : State) (choices : List Choice) (k : ClerkKey) (come : Bool) → IsAnswer v s choices k (cond come (answer.Refused 5) (answer.Refused 6))
refused v s choices k true = tt
refused v s choices k false = tt

title_is : (v : Setting) (s : State) (m : Mode) (choices : List Choice) (title : ℕ) (found : Option ℕ) → place_of v.roll title ≡ found → IsPolling s.phase → length s.came ≡ length v.roll
    → IsAnswer v s choices (clerk.Titulo title) (title_answer s.came m found)
title_is v s m choices title None h p r = tt
title_is v s mode.Idle choices title (Some place) h p r =
    may_vote v s choices (clerk.Titulo title) place (has_come s.came place) refl p (subst (λ (n : ℕ). place < n) (sym r) (place_known v title place h))
title_is v s (mode.Identified other) choices title (Some place) h p r = refused v s choices (clerk.Titulo title) (has_come s.came place)
title_is v s (mode.Voting other) choices title (Some place) h p r = refused v s choices (clerk.Titulo title) (has_come s.came place)

seal_is : (v : Setting) (s : State) (choices : List Choice) (opened m : ℕ) (early : Bool) → nat_lt m opened ≡ early → s.phase ≡ phase.Polling opened
    → IsAnswer v s choices (clerk.Encerra m) (cond early (answer.Refused 9) (answer.Seals m))
seal_is v s choices opened m true e p = tt
seal_is v s choices opened m false e p = (refl, (opened, p, ltb-false m opened e))

polls_at : (s : State) (opened : ℕ) → s.phase ≡ phase.Polling opened → IsPolling s.phase
polls_at s opened e = subst IsPolling (sym e) tt

polling_is : (v : Setting) (x : Standing) (opened : ℕ) (m : Mode) (k : ClerkKey) → x.state.phase ≡ phase.Polling opened → length x.state.came ≡ length v.roll → IsPlaced v x m
    → IsAnswer v x.state x.choices k (polling_answer v.roll opened x.state.came m k)
polling_is v x opened m (clerk.Abre t) p r h = tt
polling_is v x opened m (clerk.Titulo t) p r h = title_is v x.state m x.choices t (place_of v.roll t) refl (polls_at x.state opened p) r
polling_is v x opened mode.Idle clerk.Libera p r h = tt
polling_is v x opened (mode.Identified place) clerk.Libera p r h = h.0
polling_is v x opened (mode.Voting place) clerk.Libera p r h = tt
polling_is v x opened mode.Idle clerk.Cancela p r h = tt
polling_is v x opened (mode.Identified place) clerk.Cancela p r h = tt
polling_is v x opened (mode.Voting place) clerk.Cancela p r h = tt
polling_is v x opened mode.Idle clerk.Suspende p r h = tt
polling_is v x opened (mode.Identified place) clerk.Suspende p r h = tt
polling_is v x opened (mode.Voting place) clerk.Suspende p r h = (h.0, h.1)
polling_is v x opened mode.Idle (clerk.Encerra t) p r h = seal_is v x.state x.choices opened t (nat_lt t opened) refl p
polling_is v x opened (mode.Identified place) (clerk.Encerra t) p r h = tt
polling_is v x opened (mode.Voting place) (clerk.Encerra t) p r h = tt

phase_is : (v : Setting) (x : Standing) (f : Phase) (m : Mode) (k : ClerkKey) → x.state.phase ≡ f → length x.state.came ≡ length v.roll → IsPlaced v x m
    → IsAnswer v x.state x.choices k (answer_to v.roll f x.state.came m k)
phase_is v x phase.Ready m (clerk.Abre t) e r h = (e, refl)
phase_is v x phase.Ready m (clerk.Titulo t) e r h = tt
phase_is v x phase.Ready m clerk.Libera e r h = tt
phase_is v x phase.Ready m clerk.Cancela e r h = tt
phase_is v x phase.Ready m clerk.Suspende e r h = tt
phase_is v x phase.Ready m (clerk.Encerra t) e r h = tt
phase_is v x (phase.Polling opened) m k e r h = polling_is v x opened m k e r h
phase_is v x (phase.Sealed opened closed) m k e r h = tt

-- The answer at a standing may be acted on.
pub answer_of : (v : Setting) (x : Standing) (k : ClerkKey) → length x.state.came ≡ length v.roll → IsPlaced v x x.mode → IsAnswer v x.state x.choices k (reply_at v x.state x.mode k)
answer_of v x k r h = phase_is v x x.state.phase x.mode k refl r h
