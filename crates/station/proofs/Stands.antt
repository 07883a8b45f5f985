-- Event by event a station goes on to stand for a state and its events, or is idle after a run of them
use Rattle.std.proofs.Common.{◌≡◌, ℕ, Bool, true, false, cond, nat_lt, List, [], ◌∷◌, ◌++◌, Option, Some, None, refl, sym, ap, subst, ◌∙◌, append_assoc}
use Rattle.std.proofs.lemmas.List.{append-nil}
use Rattle.std.specs.List.{AllByRecursion}
use Rattle.urna_base.proofs.Every.{every_append}
use Rattle.key_script.specs.declared.keys.Key.{Key}
use Rattle.key_script.specs.declared.keys.Key.TheVariants as key
use Rattle.vote_kinds.specs.declared.choice.Choice.{Choice}
use Rattle.vote_kinds.specs.Ballot.{BallotLine, is_confirmable, choice_of}
use Rattle.voter_term.specs.Field.{field_after, IsUnconfirmed}
use Rattle.voter_term.proofs.PanelWords.{unconfirmed_nil, unconfirmed_more}
use Rattle.key_script.specs.Event.{keys_of}
use Rattle.turnout.specs.Turnout.{has_come}
use Rattle.clerk_term.specs.Reply.{answer_to, title_answer, place_of}
use Rattle.image_codec.specs.State.{State, with_ballot, opened_at, sealed_at}
use Rattle.station.specs.Setting.{Setting, IsSetting, reply_at}
use Rattle.station.specs.Output.{Output, Says, Commits, refusal, line_at, earlier_for, echo, call_of}
use Rattle.station.specs.Run.{IsWaiting, IsVisiting, wait_outputs, line_outputs, Votes, start, voted, open_at, IsRun, ends, ignores, refuses, opens, seals, waits, cancels, visits, cut_off, whole, suspended, after_suspension, suspension}
use Rattle.station.specs.Press.{Standing, Pressed, press, calls_next, call, idle_at, identified_at, voting_at, after, outputs, answered, title_of}
use Rattle.station.specs.Stands.{StandsFor, StandsOn, idle, identified, voting}
use Rattle.station.proofs.Single.{polls, Polls, refused_waiting, refused_visiting, press_refused, press_key, press_confirm}
use Rattle.key_script.specs.declared.keys.Event.{Event}
use Rattle.key_script.specs.declared.keys.Event.TheVariants.{Clerk, Voter}
use Rattle.key_script.specs.declared.keys.ClerkKey.{ClerkKey}
use Rattle.key_script.specs.declared.keys.ClerkKey.TheVariants as clerk
use Rattle.turnout.specs.declared.phase.Phase.{Phase}
use Rattle.turnout.specs.declared.phase.Phase.TheVariants as phase
use Rattle.clerk_term.specs.declared.replies.Mode.TheVariants as mode
use Rattle.clerk_term.specs.declared.replies.ClerkAnswer.{ClerkAnswer}
use Rattle.clerk_term.specs.declared.replies.ClerkAnswer.TheVariants as answer
use Rattle.station.specs.declared.line.Line.TheVariants as line
use Rattle.key_script.proofs.EventLaws.{keys_of-append}

-- After these events, which put this out, a station stands for s and the events, or it is idle and the events are a run that
-- whatever follows continues.
pub data Goes (v : Setting) (s : State) : Standing → List Event → List Output → Type 0 where
  stands : {x : Standing} {es : List Event} {out : List Output} → StandsFor v s x es out → Goes v s x es out
  done : (t : State) {es : List Event} {out : List Output}
      → ((more : List Event) (u : State) (put : List Output) → IsRun v t more u put → IsRun v s (es ++ more) u (out ++ put))
      → Goes v s (idle_at t) es out

pub run_moved : {v : Setting} {s t : State} {es fs : List Event} {out put : List Output} → es ≡ fs → out ≡ put → IsRun v s es t out → IsRun v s fs t put
run_moved {v} {s} {t} {es} {fs} {out} {put} p q h = subst (λ (o : List Output). IsRun v s fs t o) q (subst (λ (f : List Event). IsRun v s f t out) p h)

goes_moved : {v : Setting} {s : State} {x y : Standing} {es fs : List Event} {out put : List Output} → x ≡ y → es ≡ fs → out ≡ put → Goes v s x es out → Goes v s y fs put
goes_moved {v} {s} {x} {y} {es} {fs} {out} {put} r p q h =
    subst (λ (o : List Output). Goes v s y fs o) q (subst (λ (f : List Event). Goes v s y f out) p (subst (λ (z : Standing). Goes v s z es out) r h))

-- by what the press comes to
goes_press : (v : Setting) (s : State) (x : Standing) (e : Event) (r : Pressed) (es : List Event) (out : List Output)
    → press v x e ≡ r → Goes v s r.standing es (out ++ r.out) → Goes v s (press v x e).standing es (out ++ (press v x e).out)
goes_press v s x e r es out p h = subst (λ (q : Pressed). Goes v s q.standing es (out ++ q.out)) (sym p) h

-- Lists with one more at the end

wait_outputs-append : (v : Setting) (s : State) (place : ℕ) (es fs : List Event) → wait_outputs v s place (es ++ fs) ≡ wait_outputs v s place es ++ wait_outputs v s place fs
wait_outputs-append v s place [] fs = refl
wait_outputs-append v s place (Voter k ∷ es) fs = wait_outputs-append v s place es fs
wait_outputs-append v s place (Clerk c ∷ es) fs =
    let told = refusal (reply_at v s (mode.Identified place) c) in
    ap (λ (o : List Output). told ++ o) (wait_outputs-append v s place es fs) ∙ sym (append_assoc told (wait_outputs v s place es) (wait_outputs v s place fs))

line_outputs-append : (v : Setting) (s : State) (place : ℕ) (l : BallotLine) (earlier : Option Choice) (w : List Key) (es fs : List Event)
    → line_outputs v s place l earlier w (es ++ fs) ≡ line_outputs v s place l earlier w es ++ line_outputs v s place l earlier (w ++ keys_of es) fs
line_outputs-append v s place l earlier w [] fs = ap (λ (u : List Key). line_outputs v s place l earlier u fs) (sym (append-nil w))
line_outputs-append v s place l earlier w (Clerk c ∷ es) fs =
    let told = refusal (reply_at v s (mode.Voting place) c) in
    ap (λ (o : List Output). told ++ o) (line_outputs-append v s place l earlier w es fs) ∙ sym (append_assoc told (line_outputs v s place l earlier w es) _)
line_outputs-append v s place l earlier w (Voter k ∷ es) fs =
    let told = echo l earlier w k in
    ap (λ (o : List Output). told ++ o) (line_outputs-append v s place l earlier (w ++ k ∷ []) es fs
    ∙ ap (λ (u : List Key). line_outputs v s place l earlier (w ++ k ∷ []) es ++ line_outputs v s place l earlier u fs) (append_assoc w (k ∷ []) (keys_of es)))
    ∙ sym (append_assoc told (line_outputs v s place l earlier (w ++ k ∷ []) es) _)

-- Nobody is identified

-- what the answer may be, by the key
abbrev MayAnswer : ClerkKey → ClerkAnswer → Type 0
MayAnswer c (answer.Refused n) = Unit {0}
MayAnswer c (answer.Opens m) = Unit {0}
MayAnswer c (answer.Identifies p) = c ≡ clerk.Titulo (title_of c)
MayAnswer c (answer.Releases p) = ⊥
MayAnswer c (answer.Cancels p) = ⊥
MayAnswer c (answer.Suspends p) = ⊥
MayAnswer c (answer.Seals m) = Unit {0}

may_identify : (t place : ℕ) (come : Bool) → MayAnswer (clerk.Titulo t) (cond come (answer.Refused 5) (answer.Identifies place))
may_identify t place true = tt
may_identify t place false = refl

may_find : (s : State) (t : ℕ) (found : Option ℕ) → MayAnswer (clerk.Titulo t) (title_answer s.came mode.Idle found)
may_find s t None = tt
may_find s t (Some place) = may_identify t place (has_come s.came place)

may_seal : (m : ℕ) (early : Bool) → MayAnswer (clerk.Encerra m) (cond early (answer.Refused 9) (answer.Seals m))
may_seal m true = tt
may_seal m false = tt

may_answer : (v : Setting) (s : State) (p : Phase) (c : ClerkKey) → MayAnswer c (answer_to v.roll p s.came mode.Idle c)
may_answer v s phase.Ready (clerk.Abre m) = tt
may_answer v s phase.Ready (clerk.Titulo t) = tt
may_answer v s phase.Ready clerk.Libera = tt
may_answer v s phase.Ready clerk.Cancela = tt
may_answer v s phase.Ready clerk.Suspende = tt
may_answer v s phase.Ready (clerk.Encerra m) = tt
may_answer v s (phase.Polling o) (clerk.Abre m) = tt
may_answer v s (phase.Polling o) (clerk.Titulo t) = may_find s t (place_of v.roll t)
may_answer v s (phase.Polling o) clerk.Libera = tt
may_answer v s (phase.Polling o) clerk.Cancela = tt
may_answer v s (phase.Polling o) clerk.Suspende = tt
may_answer v s (phase.Polling o) (clerk.Encerra m) = may_seal m (nat_lt m o)
may_answer v s (phase.Sealed o m) c = tt

goes_idle : (v : Setting) (s : State) (c : ClerkKey) (a : ClerkAnswer) → reply_at v s mode.Idle c ≡ a → MayAnswer c a
    → Goes v s (answered v (idle_at s) c a).standing (Clerk c ∷ []) (answered v (idle_at s) c a).out
goes_idle v s c (answer.Refused n) e may = done s (λ more u put run. refuses e run)
goes_idle v s c (answer.Opens m) e may = done (opened_at s m) (λ more u put run. opens e run)
goes_idle v s c (answer.Seals m) e may = done (sealed_at s m) (λ more u put run. seals e run)
goes_idle v s c (answer.Identifies place) e may =
    goes_moved refl (ap (λ (d : ClerkKey). Clerk d ∷ []) (sym may)) refl
    (stands (identified {number = title_of c} [] (ap (reply_at v s mode.Idle) (sym may) ∙ e) tt))
goes_idle v s c (answer.Releases p) e may = absurd may
goes_idle v s c (answer.Cancels p) e may = absurd may
goes_idle v s c (answer.Suspends p) e may = absurd may

-- A visit

-- the visit so far, from the identification on
abbrev visit_events : ℕ → List Event → List Event → List Event
visit_events number before es = Clerk (clerk.Titulo number) ∷ (before ++ Clerk clerk.Libera ∷ es)

abbrev visit_outputs : Setting → State → ℕ → ℕ → List Event → List Output → List Output
visit_outputs v s number place before text = Says (line.Voter number) ∷ (wait_outputs v s place before ++ Says line.Released ∷ text)

visit_events-append : (number : ℕ) (before es fs : List Event) → visit_events number before (es ++ fs) ≡ visit_events number before es ++ fs
visit_events-append number before es fs = ap (λ (e : List Event). Clerk (clerk.Titulo number) ∷ e) (sym (append_assoc before (Clerk clerk.Libera ∷ es) fs))

visit_outputs-append : (v : Setting) (s : State) (number place : ℕ) (before : List Event) (text more : List Output) → visit_outputs v s number place before (text ++ more) ≡ visit_outputs v s number place before text ++ more
visit_outputs-append v s number place before text more = ap (λ (o : List Output). Says (line.Voter number) ∷ o) (sym (append_assoc (wait_outputs v s place before) (Says line.Released ∷ text) more))

-- after a choice, or the release: the next line is called, or the visit is whole
goes_called : (v : Setting) (s : State) (number place : ℕ) (before es : List Event) (choices : List Choice) (text : List Output) (o : Option BallotLine)
    → reply_at v s mode.Idle (clerk.Titulo number) ≡ answer.Identifies place → AllByRecursion IsWaiting before → Votes v s place es choices text
    → line_at v choices ≡ o
    → Goes v s (call v s place choices o).standing (visit_events number before es) (visit_outputs v s number place before text ++ (call v s place choices o).out)
goes_called v s number place before es choices text (Some l) e w votes at =
    goes_moved refl (ap (visit_events number before) (append-nil es)) (visit_outputs-append v s number place before text (call_of choices l ∷ []))
    (stands (voting before l [] e w votes at tt (unconfirmed_nil l)))
goes_called v s number place before es choices text None e w votes at =
    let told = Commits (with_ballot v.lines s place choices) line.Ended in
    done (with_ballot v.lines s place choices) (λ more u put run.
    run_moved (visit_events-append number before es more)
    (visit_outputs-append v s number place before (text ++ told ∷ []) put ∙ ap (λ (o : List Output). o ++ put) (visit_outputs-append v s number place before text (told ∷ [])))
    (visits before e w (whole votes at) run))

-- A voter is identified

-- an event that leaves the voter waiting
goes_waiting : (v : Setting) (s : State) (number place : ℕ) (before : List Event) (e : Event)
    → reply_at v s mode.Idle (clerk.Titulo number) ≡ answer.Identifies place → AllByRecursion IsWaiting before → IsWaiting e
    → press v (identified_at s place) e ≡ record { standing = identified_at s place; out = wait_outputs v s place (e ∷ []) }
    → Goes v s (press v (identified_at s place) e).standing (Clerk (clerk.Titulo number) ∷ (before ++ e ∷ []))
    ((Says (line.Voter number) ∷ wait_outputs v s place before) ++ (press v (identified_at s place) e).out)
goes_waiting v s number place before e h w waiting p =
    goes_press v s (identified_at s place) e _ _ (Says (line.Voter number) ∷ wait_outputs v s place before) p
    (goes_moved refl refl (ap (λ (o : List Output). Says (line.Voter number) ∷ o) (wait_outputs-append v s place before (e ∷ [])))
    (stands (identified (before ++ e ∷ []) h (every_append IsWaiting before (e ∷ []) w (waiting, tt)))))

refused_text : (v : Setting) (s : State) (place : ℕ) (c : ClerkKey) → Polls s → IsWaiting (Clerk c)
    → press v (identified_at s place) (Clerk c) ≡ record { standing = identified_at s place; out = wait_outputs v s place (Clerk c ∷ []) }
refused_text v s place c polling w =
    press_refused v (identified_at s place) c (refused_waiting v s place c polling w)
    ∙ ap (λ (o : List Output). record { standing = identified_at s place; out = o }) (sym (append-nil (refusal (reply_at v s (mode.Identified place) c))))

goes_identified : (v : Setting) (s : State) (number place : ℕ) (before : List Event) (e : Event)
    → reply_at v s mode.Idle (clerk.Titulo number) ≡ answer.Identifies place → AllByRecursion IsWaiting before
    → Goes v s (press v (identified_at s place) e).standing (Clerk (clerk.Titulo number) ∷ (before ++ e ∷ []))
    ((Says (line.Voter number) ∷ wait_outputs v s place before) ++ (press v (identified_at s place) e).out)
goes_identified v s number place before (Voter k) h w = goes_waiting v s number place before (Voter k) h w tt refl
goes_identified v s number place before (Clerk (clerk.Abre m)) h w =
    goes_waiting v s number place before _ h w tt (refused_text v s place _ (polls v s s.phase number place h) tt)
goes_identified v s number place before (Clerk (clerk.Titulo t)) h w =
    goes_waiting v s number place before _ h w tt (refused_text v s place _ (polls v s s.phase number place h) tt)
goes_identified v s number place before (Clerk clerk.Suspende) h w =
    goes_waiting v s number place before _ h w tt (refused_text v s place _ (polls v s s.phase number place h) tt)
goes_identified v s number place before (Clerk (clerk.Encerra m)) h w =
    goes_waiting v s number place before _ h w tt (refused_text v s place _ (polls v s s.phase number place h) tt)
goes_identified v s number place before (Clerk clerk.Cancela) h w =
    let polling = polls v s s.phase number place h in
    let canceled : reply_at v s (mode.Identified place) clerk.Cancela ≡ answer.Cancels place = rw polling.1 refl in
    goes_press v s (identified_at s place) (Clerk clerk.Cancela) (answered v (identified_at s place) clerk.Cancela (answer.Cancels place)) _ (Says (line.Voter number) ∷ wait_outputs v s place before)
    (ap (answered v (identified_at s place) clerk.Cancela) canceled)
    (done s (λ more u put run. run_moved
    (ap (λ (e : List Event). Clerk (clerk.Titulo number) ∷ e) (sym (append_assoc before (Clerk clerk.Cancela ∷ []) more)))
    (ap (λ (o : List Output). Says (line.Voter number) ∷ o) (sym (append_assoc (wait_outputs v s place before) (Says line.Canceled ∷ []) put)))
    (cancels before h w run)))
goes_identified v s number place before (Clerk clerk.Libera) h w =
    let polling = polls v s s.phase number place h in
    let released : reply_at v s (mode.Identified place) clerk.Libera ≡ answer.Releases place = rw polling.1 refl in
    goes_press v s (identified_at s place) (Clerk clerk.Libera) (answered v (identified_at s place) clerk.Libera (answer.Releases place)) _ (Says (line.Voter number) ∷ wait_outputs v s place before)
    (ap (answered v (identified_at s place) clerk.Libera) released)
    (goes_moved refl refl
    (ap (λ (o : List Output). Says (line.Voter number) ∷ o) (append_assoc (wait_outputs v s place before) (Says line.Released ∷ []) (calls_next v s place []).out))
    (goes_called v s number place before [] [] [] (line_at v []) h w start refl))

-- A voter votes

module _ (v : Setting) (s : State) (number place : ℕ) (before es : List Event) (choices : List Choice) (text : List Output) (l : BallotLine) (on : List Event)
    (valid : IsSetting v) (h : reply_at v s mode.Idle (clerk.Titulo number) ≡ answer.Identifies place) (w : AllByRecursion IsWaiting before)
    (votes : Votes v s place es choices text) (at : line_at v choices ≡ Some l)
    (visit : AllByRecursion IsVisiting on) (unconfirmed : IsUnconfirmed l (keys_of on)) where
  abbrev here : Standing
  here = voting_at s place choices (field_after l.digits (keys_of on))

  abbrev told : List Output
  told = visit_outputs v s number place before (text ++ call_of choices l ∷ line_outputs v s place l (earlier_for v choices l) [] on)

  -- an event that leaves the voter on the line
  goes_on_line : (e : Event) → IsVisiting e → IsUnconfirmed l (keys_of (on ++ e ∷ []))
      → press v here e ≡ record { standing = voting_at s place choices (field_after l.digits (keys_of (on ++ e ∷ []))); out = line_outputs v s place l (earlier_for v choices l) (keys_of on) (e ∷ []) }
      → Goes v s (press v here e).standing (visit_events number before (es ++ (on ++ e ∷ []))) (told ++ (press v here e).out)
  goes_on_line e visiting u p =
      let called : List Output = text ++ call_of choices l ∷ line_outputs v s place l (earlier_for v choices l) [] on in
      let shown : List Output = line_outputs v s place l (earlier_for v choices l) (keys_of on) (e ∷ []) in
      goes_press v s here e _ _ told p
      (goes_moved refl refl
      (ap (λ (o : List Output). visit_outputs v s number place before (text ++ call_of choices l ∷ o)) (line_outputs-append v s place l (earlier_for v choices l) [] on (e ∷ []))
      ∙ ap (visit_outputs v s number place before) (sym (append_assoc text (call_of choices l ∷ line_outputs v s place l (earlier_for v choices l) [] on) shown))
      ∙ visit_outputs-append v s number place before called shown)
      (stands (voting before l (on ++ e ∷ []) h w votes at (every_append IsVisiting on (e ∷ []) visit (visiting, tt)) u)))

  -- a key that ends no panel word
  goes_typed : (k : Key) → (k ≡ key.Confirm → is_confirmable l (field_after l.digits (keys_of on)) ≡ false)
      → Goes v s (press v here (Voter k)).standing (visit_events number before (es ++ (on ++ Voter k ∷ []))) (told ++ (press v here (Voter k)).out)
  goes_typed k last =
      let more : keys_of (on ++ Voter k ∷ []) ≡ keys_of on ++ k ∷ [] = keys_of-append on (Voter k ∷ []) in
      goes_on_line (Voter k) tt (subst (IsUnconfirmed l) (sym more) (unconfirmed_more l (keys_of on) k unconfirmed (λ e. last (sym e))))
      (press_key v s place choices l (keys_of on) k (valid _ l at) at last
      ∙ ap (λ (u : List Key). record { standing = voting_at s place choices (field_after l.digits u); out = echo l (earlier_for v choices l) (keys_of on) k }) (sym more)
      ∙ ap (λ (o : List Output). record { standing = voting_at s place choices (field_after l.digits (keys_of (on ++ Voter k ∷ []))); out = o }) (sym (append-nil (echo l (earlier_for v choices l) (keys_of on) k))))

  -- a key of the clerk that is refused
  goes_refused : (c : ClerkKey) → IsVisiting (Clerk c)
      → Goes v s (press v here (Clerk c)).standing (visit_events number before (es ++ (on ++ Clerk c ∷ []))) (told ++ (press v here (Clerk c)).out)
  goes_refused c visiting =
      let polling = polls v s s.phase number place h in
      let same : keys_of (on ++ Clerk c ∷ []) ≡ keys_of on = keys_of-append on (Clerk c ∷ []) ∙ append-nil (keys_of on) in
      goes_on_line (Clerk c) visiting (subst (IsUnconfirmed l) (sym same) unconfirmed)
      (press_refused v here c (refused_visiting v s place c polling visiting)
      ∙ ap (λ (u : List Key). record { standing = voting_at s place choices (field_after l.digits u); out = refusal (reply_at v s (mode.Voting place) c) }) (sym same)
      ∙ ap (λ (o : List Output). record { standing = voting_at s place choices (field_after l.digits (keys_of (on ++ Clerk c ∷ []))); out = o }) (sym (append-nil (refusal (reply_at v s (mode.Voting place) c)))))

  -- the CONFIRMA that ends one
  goes_confirmed : is_confirmable l (field_after l.digits (keys_of on)) ≡ true
      → Goes v s (press v here (Voter key.Confirm)).standing (visit_events number before (es ++ (on ++ Voter key.Confirm ∷ []))) (told ++ (press v here (Voter key.Confirm)).out)
  goes_confirmed t =
      let chosen = choice_of l (earlier_for v choices l) (field_after l.digits (keys_of on)) in
      goes_press v s here (Voter key.Confirm) _ _ told (press_confirm v s place choices l (keys_of on) at t)
      (goes_called v s number place before (es ++ (on ++ Voter key.Confirm ∷ [])) (choices ++ chosen ∷ [])
      (text ++ call_of choices l ∷ line_outputs v s place l (earlier_for v choices l) [] on) (line_at v (choices ++ chosen ∷ [])) h w
      (voted l on votes at visit (record { confirmable = t; shortest = unconfirmed; chosen = refl })) refl)

  goes_suspended : Goes v s (press v here (Clerk clerk.Suspende)).standing (visit_events number before (es ++ (on ++ Clerk clerk.Suspende ∷ []))) (told ++ (press v here (Clerk clerk.Suspende)).out)
  goes_suspended =
      let polling = polls v s s.phase number place h in
      let suspends : reply_at v s (mode.Voting place) clerk.Suspende ≡ answer.Suspends place = rw polling.1 refl in
      let shown : List Output = text ++ call_of choices l ∷ line_outputs v s place l (earlier_for v choices l) [] on in
      let last = suspension v s place choices in
      goes_press v s here (Clerk clerk.Suspende) (answered v here clerk.Suspende (answer.Suspends place)) _ told (ap (answered v here clerk.Suspende) suspends)
      (done (after_suspension v s place choices) (λ more u put run. run_moved
      (ap (λ (e : List Event). visit_events number before (e ++ more)) (append_assoc es on (Clerk clerk.Suspende ∷ []))
      ∙ visit_events-append number before (es ++ (on ++ Clerk clerk.Suspende ∷ [])) more)
      (visit_outputs-append v s number place before (shown ++ last ∷ []) put ∙ ap (λ (o : List Output). o ++ put) (visit_outputs-append v s number place before shown (last ∷ [])))
      (visits before h w (suspended (open_at l on votes at visit unconfirmed)) run)))

  goes_key : (k : Key) (b : Bool) → is_confirmable l (field_after l.digits (keys_of on)) ≡ b
      → Goes v s (press v here (Voter k)).standing (visit_events number before (es ++ (on ++ Voter k ∷ []))) (told ++ (press v here (Voter k)).out)
  goes_key key.Confirm true t = goes_confirmed t
  goes_key key.Confirm false t = goes_typed key.Confirm (λ e. t)
  goes_key key.Blank b t = goes_typed key.Blank (λ e. absurd (cc))
  goes_key key.Correct b t = goes_typed key.Correct (λ e. absurd (cc))
  goes_key (key.Digit d) b t = goes_typed (key.Digit d) (λ e. absurd (cc))

  goes_voting : (e : Event) → Goes v s (press v here e).standing (visit_events number before (es ++ (on ++ e ∷ []))) (told ++ (press v here e).out)
  goes_voting (Voter k) = goes_key k _ refl
  goes_voting (Clerk (clerk.Abre m)) = goes_refused (clerk.Abre m) tt
  goes_voting (Clerk (clerk.Titulo t)) = goes_refused (clerk.Titulo t) tt
  goes_voting (Clerk clerk.Libera) = goes_refused clerk.Libera tt
  goes_voting (Clerk clerk.Cancela) = goes_refused clerk.Cancela tt
  goes_voting (Clerk clerk.Suspende) = goes_suspended
  goes_voting (Clerk (clerk.Encerra m)) = goes_refused (clerk.Encerra m) tt

-- A station that stands for s and some events goes on so with one more, or is idle after a run.
pub goes : {v : Setting} {s : State} {x : Standing} {es : List Event} {out : List Output} → IsSetting v → StandsFor v s x es out → (e : Event)
    → Goes v s (press v x e).standing (es ++ e ∷ []) (out ++ (press v x e).out)
goes {v} {s} valid idle (Voter k) = done s (λ more u put run. ignores run)
goes {v} {s} valid idle (Clerk c) = goes_idle v s c (reply_at v s mode.Idle c) refl (may_answer v s s.phase c)
goes {v} {s} valid (identified {number} {place} before h w) e = goes_identified v s number place before e h w
goes {v} {s} valid (voting {number} {place} {es} {choices} {text} before l on h w votes at visit unconfirmed) e =
    goes_moved refl (ap (visit_events number before) (sym (append_assoc es on (e ∷ []))) ∙ visit_events-append number before (es ++ on) (e ∷ [])) refl
    (goes_voting v s number place before es choices text l on valid h w votes at visit unconfirmed e)

-- The events for which a station stands are a run that leaves the state as it was.
pub stands_run : {v : Setting} {s : State} {x : Standing} {es : List Event} {out : List Output} → StandsFor v s x es out → IsRun v s es s out
stands_run idle = ends
stands_run (identified before h w) = waits before h w
stands_run (voting before l on h w votes at visit unconfirmed) = cut_off before h w (open_at l on votes at visit unconfirmed)

stands_state : {v : Setting} {s : State} {x : Standing} {es : List Event} {out : List Output} → StandsFor v s x es out → s ≡ x.state
stands_state idle = refl
stands_state (identified before h w) = refl
stands_state (voting before l on h w votes at visit unconfirmed) = refl

goes_run : {v : Setting} {s : State} {x : Standing} {es : List Event} {out : List Output} → Goes v s x es out → (more : List Event)
    → ((t : State) (y : Standing) (fs : List Event) (put : List Output) → StandsFor v t y fs put → IsRun v t (fs ++ more) (after v y more).state (put ++ outputs v y more))
    → IsRun v s (es ++ more) (after v x more).state (out ++ outputs v x more)
goes_run (stands h) more rest = rest _ _ _ _ h
goes_run (done t f) more rest = f more _ _ (rest t (idle_at t) [] [] idle)

-- Event by event, a run.
pub events_by_run : (v : Setting) → IsSetting v → (more : List Event) (s : State) (x : Standing) (es : List Event) (out : List Output) → StandsFor v s x es out
    → IsRun v s (es ++ more) (after v x more).state (out ++ outputs v x more)
events_by_run v valid [] s x es out h =
    subst (λ (t : State). IsRun v s (es ++ []) t (out ++ [])) (stands_state h) (run_moved (sym (append-nil es)) (sym (append-nil out)) (stands_run h))
events_by_run v valid (e ∷ more) s x es out h =
    run_moved (append_assoc es (e ∷ []) more) (append_assoc out (press v x e).out (outputs v (press v x e).standing more))
    (goes_run (goes valid h e) more (events_by_run v valid more))

pub stands_on : {v : Setting} {s : State} {x : Standing} {es : List Event} {out : List Output} → Goes v s x es out → StandsOn v s x.mode x es out
stands_on (stands idle) = (ends, idle)
stands_on (stands (identified before h w)) = identified before h w
stands_on (stands (voting before l on h w votes at visit unconfirmed)) = voting before l on h w votes at visit unconfirmed
stands_on (done t f) = (run_moved (append-nil _) (append-nil _) (f [] t [] ends), idle)
