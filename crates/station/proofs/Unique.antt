-- A run by whole visits is the run event by event
use Rattle.std.proofs.Common.{◌≡◌, ℕ, ◌<◌, List, [], ◌∷◌, ◌++◌, Option, Some, refl, sym, ap, subst, ◌∙◌, append_assoc}
use Rattle.std.proofs.lemmas.List.{append-nil}
use Rattle.std.specs.List.{AllByRecursion}
use Rattle.key_script.specs.declared.keys.Key.{Key}
use Rattle.key_script.specs.declared.keys.Key.TheVariants as key
use Rattle.vote_kinds.specs.declared.choice.Choice.{Choice}
use Rattle.vote_kinds.specs.declared.choice.Field.{Field}
use Rattle.vote_kinds.specs.declared.choice.Field.TheVariants as field
use Rattle.vote_kinds.specs.Ballot.{BallotLine, choice_of}
use Rattle.voter_term.specs.Field.{field_after, IsUnconfirmed}
use Rattle.key_script.specs.Event.{keys_of}
use Rattle.turnout.specs.Turnout.{number_came}
use Rattle.image_codec.specs.State.{State, with_ballot, opened_at, sealed_at}
use Rattle.station.specs.Setting.{Setting, IsSetting, reply_at}
use Rattle.station.specs.Output.{Output, Says, Commits, Reports, refusal, line_at, earlier_for, echo, call_of}
use Rattle.station.specs.Run.{IsWaiting, IsVisiting, wait_outputs, line_outputs, Votes, start, voted, IsOpen, open_at, IsRun, ends, ignores, refuses, opens, seals, waits, cancels, visits, cut_off, Visit, whole, suspended, suspension}
use Rattle.station.specs.Press.{Standing, Pressed, press, calls_next, call, idle_at, identified_at, voting_at, after, outputs, answered}
use Rattle.station.proofs.Single.{polls, Polls, refused_waiting, refused_visiting, press_refused, press_key, press_confirm}
use Rattle.key_script.specs.declared.keys.Event.{Event}
use Rattle.key_script.specs.declared.keys.Event.TheVariants.{Clerk, Voter}
use Rattle.key_script.specs.declared.keys.ClerkKey.TheVariants as clerk
use Rattle.clerk_term.specs.declared.replies.Mode.TheVariants as mode
use Rattle.clerk_term.specs.declared.replies.ClerkAnswer.TheVariants as answer
use Rattle.station.specs.declared.line.Line.TheVariants as line
use Rattle.station.specs.declared.line.Title.TheVariants as title

-- From x the events, one by one, end with this state and put this out.
abbrev pub Ends : Setting → Standing → List Event → State → List Output → Type 0
Ends v x es t out = (t ≡ (after v x es).state) × (out ≡ outputs v x es)

-- the same after an event
abbrev pub EndsAfter : Setting → Pressed → List Event → State → List Output → Type 0
EndsAfter v r es t out = (t ≡ (after v r.standing es).state) × (out ≡ r.out ++ outputs v r.standing es)

ends_press : (v : Setting) (x : Standing) (e : Event) (r : Pressed) (es : List Event) (t : State) (out : List Output)
    → press v x e ≡ r → EndsAfter v r es t out → Ends v x (e ∷ es) t out
ends_press v x e r es t out p h = subst (λ (q : Pressed). EndsAfter v q es t out) (sym p) h

ends_wait : (v : Setting) (s : State) (place : ℕ) (before es : List Event) (t : State) (out : List Output)
    → Polls s → AllByRecursion IsWaiting before → Ends v (identified_at s place) es t out
    → Ends v (identified_at s place) (before ++ es) t (wait_outputs v s place before ++ out)
ends_wait v s place [] es t out polling w h = h
ends_wait v s place (Voter k ∷ before) es t out polling w h = ends_wait v s place before es t out polling w.1 h
ends_wait v s place (Clerk c ∷ before) es t out polling w h =
    let more = ends_wait v s place before es t out polling w.1 h in
    let told = refusal (reply_at v s (mode.Identified place) c) in
    ends_press v (identified_at s place) (Clerk c) _ (before ++ es) t _ (press_refused v (identified_at s place) c (refused_waiting v s place c polling w.0))
    (more.0, append_assoc told (wait_outputs v s place before) out ∙ ap (λ (o : List Output). told ++ o) more.1)

ends_line : (v : Setting) (s : State) (place : ℕ) (choices : List Choice) (l : BallotLine) (w : List Key) (on es : List Event) (t : State) (out : List Output)
    → Polls s → 0 < l.digits → line_at v choices ≡ Some l → AllByRecursion IsVisiting on → IsUnconfirmed l (w ++ keys_of on)
    → Ends v (voting_at s place choices (field_after l.digits (w ++ keys_of on))) es t out
    → Ends v (voting_at s place choices (field_after l.digits w)) (on ++ es) t (line_outputs v s place l (earlier_for v choices l) w on ++ out)
ends_line v s place choices l w [] es t out polling d at visit u h =
    subst (λ (x : List Key). Ends v (voting_at s place choices (field_after l.digits x)) es t out) (append-nil w) h
ends_line v s place choices l w (Clerk c ∷ on) es t out polling d at visit u h =
    let more = ends_line v s place choices l w on es t out polling d at visit.1 u h in
    let told = refusal (reply_at v s (mode.Voting place) c) in
    let x = voting_at s place choices (field_after l.digits w) in
    ends_press v x (Clerk c) _ (on ++ es) t _ (press_refused v x c (refused_visiting v s place c polling visit.0))
    (more.0, append_assoc told (line_outputs v s place l (earlier_for v choices l) w on) out ∙ ap (λ (o : List Output). told ++ o) more.1)
ends_line v s place choices l w (Voter k ∷ on) es t out polling d at visit u h =
    let assoc : (w ++ k ∷ []) ++ keys_of on ≡ w ++ k ∷ keys_of on = append_assoc w (k ∷ []) (keys_of on) in
    let told = echo l (earlier_for v choices l) w k in
    let more = ends_line v s place choices l (w ++ k ∷ []) on es t out polling d at visit.1
    (subst (IsUnconfirmed l) (sym assoc) u)
    (subst (λ (y : List Key). Ends v (voting_at s place choices (field_after l.digits y)) es t out) (sym assoc) h) in
    ends_press v (voting_at s place choices (field_after l.digits w)) (Voter k) _ (on ++ es) t _
    (press_key v s place choices l w k d at (λ e. u w (keys_of on) (ap (λ (j : Key). w ++ j ∷ keys_of on) e)))
    (more.0, append_assoc told (line_outputs v s place l (earlier_for v choices l) (w ++ k ∷ []) on) out ∙ ap (λ (o : List Output). told ++ o) more.1)

ends_moved : (v : Setting) (r : Pressed) (es fs : List Event) (t : State) (out put : List Output) → es ≡ fs → out ≡ put → EndsAfter v r es t out → EndsAfter v r fs t put
ends_moved v r es fs t out put p q h = subst (λ (o : List Output). EndsAfter v r fs t o) q (subst (λ (f : List Event). EndsAfter v r f t out) p h)

-- from the release on, through the first ballot lines
ends_votes : {v : Setting} {s : State} {place : ℕ} {es : List Event} {choices : List Choice} {text : List Output}
    → IsSetting v → Polls s → Votes v s place es choices text → (more : List Event) (t : State) (out : List Output)
    → EndsAfter v (calls_next v s place choices) more t out → EndsAfter v (calls_next v s place []) (es ++ more) t (text ++ out)
ends_votes valid polling start more t out h = h
ends_votes {v} {s} {place} valid polling (voted {es} {choices} {text} {c} l on votes at visit confirms) more t out h =
    let confirm : List Event = Voter key.Confirm ∷ [] in
    let earlier = earlier_for v choices l in
    let chosen : EndsAfter v (calls_next v s place (choices ++ choice_of l earlier (field_after l.digits (keys_of on)) ∷ [])) more t out =
    subst (λ (d : Choice). EndsAfter v (calls_next v s place (choices ++ d ∷ [])) more t out) confirms.chosen h in
    let last : Ends v (voting_at s place choices (field_after l.digits (keys_of on))) (Voter key.Confirm ∷ more) t out =
    ends_press v (voting_at s place choices (field_after l.digits (keys_of on))) (Voter key.Confirm) _ more t out
    (press_confirm v s place choices l (keys_of on) at confirms.confirmable) chosen in
    let typed : Ends v (voting_at s place choices field.Empty) (on ++ Voter key.Confirm ∷ more) t (line_outputs v s place l (earlier_for v choices l) [] on ++ out) =
    ends_line v s place choices l [] on (Voter key.Confirm ∷ more) t out polling (valid _ l at) at visit confirms.shortest last in
    let called : EndsAfter v (calls_next v s place choices) (on ++ Voter key.Confirm ∷ more) t ((call_of choices l ∷ line_outputs v s place l (earlier_for v choices l) [] on) ++ out) =
    subst (λ (o : Option BallotLine). EndsAfter v (call v s place choices o) (on ++ Voter key.Confirm ∷ more) t ((call_of choices l ∷ line_outputs v s place l (earlier_for v choices l) [] on) ++ out)) (sym at)
    (typed.0, ap (λ (o : List Output). call_of choices l ∷ o) typed.1) in
    let before = ends_votes valid polling votes (on ++ Voter key.Confirm ∷ more) t ((call_of choices l ∷ line_outputs v s place l (earlier_for v choices l) [] on) ++ out) called in
    ends_moved v (calls_next v s place []) _ _ t _ _
    (sym (append_assoc es (on ++ confirm) more ∙ ap (λ (e : List Event). es ++ e) (append_assoc on confirm more)))
    (sym (append_assoc text (call_of choices l ∷ line_outputs v s place l (earlier_for v choices l) [] on) out))
    before

-- where nobody is identified before the events, and again after the first of them
ends_visit : (v : Setting) (s t : State) (number place : ℕ) (before on : List Event) (text : List Output)
    → reply_at v s mode.Idle (clerk.Titulo number) ≡ answer.Identifies place → AllByRecursion IsWaiting before
    → Ends v (identified_at s place) on t text
    → Ends v (idle_at s) (Clerk (clerk.Titulo number) ∷ (before ++ on)) t (Says (line.Voter number) ∷ (wait_outputs v s place before ++ text))
ends_visit v s t number place before on text e w h =
    let more = ends_wait v s place before on t text (polls v s s.phase number place e) w h in
    ends_press v (idle_at s) (Clerk (clerk.Titulo number)) (answered v (idle_at s) (clerk.Titulo number) (answer.Identifies place)) (before ++ on) t _
    (ap (answered v (idle_at s) (clerk.Titulo number)) e) (more.0, ap (λ (o : List Output). Says (line.Voter number) ∷ o) more.1)

ends_release : (v : Setting) (s t : State) (place : ℕ) (on : List Event) (text : List Output)
    → Polls s → EndsAfter v (calls_next v s place []) on t text
    → Ends v (identified_at s place) (Clerk clerk.Libera ∷ on) t (Says line.Released ∷ text)
ends_release v s t place on text polling h =
    let released : reply_at v s (mode.Identified place) clerk.Libera ≡ answer.Releases place = rw polling.1 refl in
    ends_press v (identified_at s place) (Clerk clerk.Libera) (answered v (identified_at s place) clerk.Libera (answer.Releases place)) on t _
    (ap (answered v (identified_at s place) clerk.Libera) released) (h.0, ap (λ (o : List Output). Says line.Released ∷ o) h.1)

-- from the release on, through some ballot lines and into the next one
ends_open : {v : Setting} {s : State} {place : ℕ} {es : List Event} {choices : List Choice} {text : List Output}
    → IsSetting v → Polls s → IsOpen v s place es choices text → (more : List Event) (t : State) (out : List Output)
    → ((f : Field) → Ends v (voting_at s place choices f) more t out) → EndsAfter v (calls_next v s place []) (es ++ more) t (text ++ out)
ends_open {v} {s} {place} valid polling (open_at {es} {choices} {text} l on votes at visit unconfirmed) more t out h =
    let typed : Ends v (voting_at s place choices field.Empty) (on ++ more) t (line_outputs v s place l (earlier_for v choices l) [] on ++ out) =
    ends_line v s place choices l [] on more t out polling (valid _ l at) at visit unconfirmed (h _) in
    let called : EndsAfter v (calls_next v s place choices) (on ++ more) t ((call_of choices l ∷ line_outputs v s place l (earlier_for v choices l) [] on) ++ out) =
    subst (λ (o : Option BallotLine). EndsAfter v (call v s place choices o) (on ++ more) t ((call_of choices l ∷ line_outputs v s place l (earlier_for v choices l) [] on) ++ out)) (sym at)
    (typed.0, ap (λ (o : List Output). call_of choices l ∷ o) typed.1) in
    let before = ends_votes valid polling votes (on ++ more) t ((call_of choices l ∷ line_outputs v s place l (earlier_for v choices l) [] on) ++ out) called in
    ends_moved v (calls_next v s place []) _ _ t _ _ (sym (append_assoc es on more))
    (sym (append_assoc text (call_of choices l ∷ line_outputs v s place l (earlier_for v choices l) [] on) out)) before

-- a whole or suspended visit, and what follows from the state that it leaves
ends_visited : {v : Setting} {s u : State} {place : ℕ} {visit : List Event} {text : List Output}
    → IsSetting v → Polls s → Visit v s place visit u text → (es : List Event) (t : State) (out : List Output)
    → Ends v (idle_at u) es t out → EndsAfter v (calls_next v s place []) (visit ++ es) t (text ++ out)
ends_visited {v} {s} {place} valid polling (whole {es = visit} {choices} {text} votes at) es t out h =
    let told = Commits (with_ballot v.lines s place choices) line.Ended in
    let ended : EndsAfter v (calls_next v s place choices) es t (told ∷ out) =
    subst (λ (o : Option BallotLine). EndsAfter v (call v s place choices o) es t (told ∷ out)) (sym at)
    (h.0, ap (λ (o : List Output). told ∷ o) h.1) in
    ends_moved v (calls_next v s place []) _ _ t _ _ refl (sym (append_assoc text (told ∷ []) out)) (ends_votes valid polling votes es t (told ∷ out) ended)
ends_visited {v} {s} {place} valid polling (suspended {es = visit} {choices} {text} on) es t out h =
    let told = suspension v s place choices in
    let suspends : reply_at v s (mode.Voting place) clerk.Suspende ≡ answer.Suspends place = rw polling.1 refl in
    ends_moved v (calls_next v s place []) _ _ t _ _ (sym (append_assoc visit (Clerk clerk.Suspende ∷ []) es)) (sym (append_assoc text (told ∷ []) out))
    (ends_open valid polling on (Clerk clerk.Suspende ∷ es) t (told ∷ out)
    (λ f. ends_press v (voting_at s place choices f) (Clerk clerk.Suspende) _ es t _ (ap (answered v (voting_at s place choices f) clerk.Suspende) suspends)
    (h.0, ap (λ (o : List Output). told ∷ o) h.1)))

-- A run by whole visits is the run event by event.
pub run_by_events : {v : Setting} {s t : State} {es : List Event} {out : List Output} → IsSetting v → IsRun v s es t out → Ends v (idle_at s) es t out
run_by_events valid ends = (refl, refl)
run_by_events valid (ignores run) = run_by_events valid run
run_by_events {v} {s} valid (refuses {t} {es} {out} {c} {n} e run) =
    let more = run_by_events valid run in
    ends_press v (idle_at s) (Clerk c) _ es t _ (ap (answered v (idle_at s) c) e) (more.0, ap (λ (o : List Output). Says (line.Refused n) ∷ o) more.1)
run_by_events {v} {s} valid (opens {t} {es} {out} {c} {m} e run) =
    let more = run_by_events valid run in
    ends_press v (idle_at s) (Clerk c) _ es t _ (ap (answered v (idle_at s) c) e) (more.0, ap (λ (o : List Output). Reports title.Zeresima (opened_at s m) ∷ Commits (opened_at s m) (line.Opened m) ∷ o) more.1)
run_by_events {v} {s} valid (seals {t} {es} {out} {c} {m} e run) =
    let more = run_by_events valid run in
    ends_press v (idle_at s) (Clerk c) _ es t _ (ap (answered v (idle_at s) c) e) (more.0, ap (λ (o : List Output). Commits (sealed_at s m) (line.Sealed m (number_came s.came)) ∷ Reports title.Boletim (sealed_at s m) ∷ o) more.1)
run_by_events {v} {s} valid (waits {number} {place} before e w) =
    let front = ends_visit v s s number place before [] [] e w (refl, refl) in
    let told : List Output = Says (line.Voter number) ∷ wait_outputs v s place before in
    subst (λ (o : List Output). Ends v (idle_at s) (Clerk (clerk.Titulo number) ∷ before) s o) (append-nil told)
    (subst (λ (b : List Event). Ends v (idle_at s) (Clerk (clerk.Titulo number) ∷ b) s (told ++ [])) (append-nil before) front)
run_by_events {v} {s} valid (cancels {t} {number} {place} {es} {out} before e w run) =
    let more = run_by_events valid run in
    let polling = polls v s s.phase number place e in
    let canceled : reply_at v s (mode.Identified place) clerk.Cancela ≡ answer.Cancels place = rw polling.1 refl in
    ends_visit v s t number place before (Clerk clerk.Cancela ∷ es) (Says line.Canceled ∷ out) e w
    (ends_press v (identified_at s place) (Clerk clerk.Cancela) _ es t _ (ap (answered v (identified_at s place) clerk.Cancela) canceled)
    (more.0, ap (λ (o : List Output). Says line.Canceled ∷ o) more.1))
run_by_events {v} {s} valid (visits {t} {u} {number} {place} {visit} {es} {text} {out} before e w visited run) =
    let polling = polls v s s.phase number place e in
    ends_visit v s t number place before _ _ e w (ends_release v s t place _ _ polling (ends_visited valid polling visited es t out (run_by_events valid run)))
run_by_events {v} {s} valid (cut_off {number} {place} {visit} {choices} {text} before e w on) =
    let polling = polls v s s.phase number place e in
    let front = ends_open valid polling on [] s [] (λ f. (refl, refl)) in
    ends_visit v s s number place before _ _ e w (ends_release v s s place _ _ polling
    (ends_moved v (calls_next v s place []) _ _ s _ _ (append-nil visit) (append-nil text) front))
