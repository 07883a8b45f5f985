-- Laws of runs
use Rattle.std.proofs.lemmas.List.{append-nil, append_cancel_left}
use Rattle.station.proofs.Faithful.{press_faithful}
use Rattle.std.proofs.Common.{◌≡◌, ◌≤◌, length, ℕ, Bool, true, false, cond, List, [], ◌∷◌, ◌++◌, refl, sym, ap, subst, ◌∙◌, append_assoc, Option}
use Rattle.key_script.specs.declared.keys.Key.{Key}
use Rattle.key_script.specs.declared.keys.Key.TheVariants as key
use Rattle.vote_kinds.specs.declared.choice.Choice.{Choice}
use Rattle.vote_kinds.specs.Ballot.{BallotLine}
use Rattle.urna_base.specs.Moment.{is_moment}
use Rattle.std.specs.List.{AllByRecursion}
use Rattle.election_tables.specs.TablesData.{TablesData}
use Rattle.key_script.specs.Event.{IsClerkKey, IsEvent}
use Rattle.turnout.specs.declared.phase.Phase.{Phase}
use Rattle.image_codec.specs.Encoding.{IsStateOf}
use Rattle.image_codec.specs.State.{State, with_ballot, filled_up, MayVote}
use Rattle.image_codec.specs.Valid.{MayClose}
use Rattle.image_codec.proofs.OfTables.{of_tables-opened_at, of_tables-sealed_at, of_tables-with_ballot}
use Rattle.station.specs.Setting.{Setting, IsSetting, reply_at, setting_of}
use Rattle.station.specs.Output.{Output, Says, Commits, Reports, commits_of, refusal, echo, screen, earlier_for}
use Rattle.station.specs.Run.{wait_outputs, line_outputs, Votes, start, voted, IsOpen, open_at, IsRun, ends, ignores, refuses, opens, seals, waits, cancels, visits, cut_off, Visit, whole, suspended, after_suspension, suspension}
use Rattle.station.specs.Press.{Standing, press, idle_at, after, outputs}
use Rattle.station.specs.Stands.{idle}
use Rattle.station.specs.States.{opening, voter, seal, IsHistory, same, then}
use Rattle.std.proofs.Math.ListN.{length-set}
use Rattle.urna_base.proofs.Every.{every_apart}
use Rattle.key_script.specs.declared.keys.ClerkKey.{ClerkKey}
use Rattle.key_script.specs.declared.keys.ClerkKey.TheVariants as clerk
use Rattle.station.specs.declared.line.Line.TheVariants as line
use Rattle.station.specs.Valid.{IsAnswer}
use Rattle.station.proofs.Choosing.{first_all, first_filled, votes_first, open_first}
use Rattle.station.proofs.Replies.{answer_of}
use Rattle.station.proofs.Unique.{run_by_events}
use Rattle.station.proofs.Stands.{events_by_run}
use Rattle.key_script.specs.declared.keys.Event.{Event}
use Rattle.key_script.specs.declared.keys.Event.TheVariants.{Clerk, Voter}
use Rattle.clerk_term.specs.declared.replies.ClerkAnswer.{ClerkAnswer}
use Rattle.clerk_term.specs.declared.replies.ClerkAnswer.TheVariants as answer
use Rattle.clerk_term.specs.declared.replies.Mode.TheVariants as mode

pub run_exists : (v : Setting) (s : State) (es : List Event) → IsSetting v → (t : State) × (out : List Output) × IsRun v s es t out
run_exists v s es valid = ((after v (idle_at s) es).state, outputs v (idle_at s) es, events_by_run v valid es s (idle_at s) [] [] idle)

pub run_unique : (v : Setting) (s t u : State) (es : List Event) (out put : List Output) → IsSetting v → IsRun v s es t out → IsRun v s es u put → (t ≡ u) × (out ≡ put)
run_unique v s t u es out put valid a b =
    let x = run_by_events valid a in
    let y = run_by_events valid b in
    (x.0 ∙ sym y.0, x.1 ∙ sym y.1)

pub outputs-append : (v : Setting) (x : Standing) (es more : List Event) → outputs v x (es ++ more) ≡ outputs v x es ++ outputs v (after v x es) more
outputs-append v x [] more = refl
outputs-append v x (e ∷ es) more =
    ap (λ (o : List Output). (press v x e).out ++ o) (outputs-append v (press v x e).standing es more)
    ∙ sym (append_assoc (press v x e).out (outputs v (press v x e).standing es) (outputs v (after v (press v x e).standing es) more))

pub run_prefix : (v : Setting) (s t u : State) (es more : List Event) (out put : List Output) → IsSetting v → IsRun v s es t out → IsRun v s (es ++ more) u put → (rest : List Output) × (put ≡ out ++ rest)
run_prefix v s t u es more out put valid a b =
    let x = run_by_events valid a in
    let y = run_by_events valid b in
    let rest = outputs v (after v (idle_at s) es) more in
    (rest, y.1 ∙ (outputs-append v (idle_at s) es more ∙ ap (λ (o : List Output). o ++ rest) (sym x.1)))

-- The states that a run commits

pub commits_of-append : (a b : List Output) → commits_of (a ++ b) ≡ commits_of a ++ commits_of b
commits_of-append [] b = refl
commits_of-append (Says l ∷ a) b = commits_of-append a b
commits_of-append (Reports t s ∷ a) b = commits_of-append a b
commits_of-append (Commits s l ∷ a) b = ap (λ (ss : List State). s ∷ ss) (commits_of-append a b)

-- after a text that commits nothing
pub says : (a b : List Output) → commits_of a ≡ [] → commits_of (a ++ b) ≡ commits_of b
says a b h = commits_of-append a b ∙ ap (λ (ss : List State). ss ++ commits_of b) h

refusal_says : (a : ClerkAnswer) → commits_of (refusal a) ≡ []
refusal_says (answer.Refused n) = refl
refusal_says (answer.Opens m) = refl
refusal_says (answer.Identifies p) = refl
refusal_says (answer.Releases p) = refl
refusal_says (answer.Cancels p) = refl
refusal_says (answer.Suspends p) = refl
refusal_says (answer.Seals m) = refl

pub wait_says : (v : Setting) (s : State) (place : ℕ) (es : List Event) → commits_of (wait_outputs v s place es) ≡ []
wait_says v s place [] = refl
wait_says v s place (Voter k ∷ es) = wait_says v s place es
wait_says v s place (Clerk c ∷ es) = says (refusal (reply_at v s (mode.Identified place) c)) _ (refusal_says (reply_at v s (mode.Identified place) c)) ∙ wait_says v s place es

cond_says : (b : Bool) (o : Output) → commits_of (o ∷ []) ≡ [] → commits_of (cond b [] (o ∷ [])) ≡ []
cond_says true o h = refl
cond_says false o h = h

key_says : (l : BallotLine) (earlier : Option Choice) (w : List Key) (k : Key) → commits_of (echo l earlier w k) ≡ []
key_says l earlier w key.Confirm = refl
key_says l earlier w key.Blank = cond_says _ (screen l earlier _) refl
key_says l earlier w key.Correct = cond_says _ (screen l earlier _) refl
key_says l earlier w (key.Digit d) = cond_says _ (screen l earlier _) refl

line_says : (v : Setting) (s : State) (place : ℕ) (l : BallotLine) (earlier : Option Choice) (w : List Key) (es : List Event) → commits_of (line_outputs v s place l earlier w es) ≡ []
line_says v s place l earlier w [] = refl
line_says v s place l earlier w (Clerk c ∷ es) = says (refusal (reply_at v s (mode.Voting place) c)) _ (refusal_says (reply_at v s (mode.Voting place) c)) ∙ line_says v s place l earlier w es
line_says v s place l earlier w (Voter k ∷ es) = says (echo l earlier w k) _ (key_says l earlier w k) ∙ line_says v s place l earlier (w ++ k ∷ []) es

pub votes_say : {v : Setting} {s : State} {place : ℕ} {es : List Event} {choices : List Choice} {text : List Output} → Votes v s place es choices text → commits_of text ≡ []
votes_say start = refl
votes_say {v} {s} {place} (voted {choices} {text} l on votes at visit confirms) = says text _ (votes_say votes) ∙ line_says v s place l (earlier_for v choices l) [] on

pub open_says : {v : Setting} {s : State} {place : ℕ} {es : List Event} {choices : List Choice} {text : List Output} → IsOpen v s place es choices text → commits_of text ≡ []
open_says {v} {s} {place} (open_at {choices} {text} l on votes at visit unconfirmed) = says text _ (votes_say votes) ∙ line_says v s place l (earlier_for v choices l) [] on

history_moved : {v : Setting} {s t : State} {a b : List State} → a ≡ b → IsHistory v s b t → IsHistory v s a t
history_moved {v} {s} {t} e h = subst (λ (ss : List State). IsHistory v s ss t) (sym e) h

-- the answer to a key in idle may be acted on, whatever else
idle_answer : (v : Setting) (s : State) (k : ClerkKey) → length s.came ≡ length v.roll → IsAnswer v s [] k (reply_at v s mode.Idle k)
idle_answer v s k r = answer_of v (idle_at s) k r (refl, refl)

idle_answer_at : (v : Setting) (s : State) (k : ClerkKey) (a : ClerkAnswer) → length s.came ≡ length v.roll → reply_at v s mode.Idle k ≡ a → IsAnswer v s [] k a
idle_answer_at v s k a r e = subst (IsAnswer v s [] k) e (idle_answer v s k r)

-- an act keeps the roll
pub roll_kept : (v : Setting) (s : State) (place : ℕ) (choices : List Choice) → length s.came ≡ length v.roll → length (with_ballot v.lines s place choices).came ≡ length v.roll
roll_kept v s place choices r = length-set s.came place true ∙ r

suspended_says : {v : Setting} {s : State} {place : ℕ} {es : List Event} (out : List Output) (choices : List Choice) (text : List Output) → IsOpen v s place es choices text
    → length s.came ≡ length v.roll → MayVote s place
    → (length (after_suspension v s place choices).came ≡ length v.roll)
    × ((t : State) → IsHistory v (after_suspension v s place choices) (commits_of out) t → IsHistory v s (commits_of ((text ++ suspension v s place choices ∷ []) ++ out)) t)
suspended_says {v} {s} {place} out [] text on r may =
    (r, λ t h. history_moved (ap commits_of (append_assoc text (Says line.Suspended ∷ []) out) ∙ says text (Says line.Suspended ∷ out) (open_says on)) h)
suspended_says {v} {s} {place} out (c ∷ choices) text on r may =
    let told = suspension v s place (c ∷ choices) in (
      roll_kept v s place (filled_up v.lines (c ∷ choices)) r,
      λ t h. history_moved (ap commits_of (append_assoc text (told ∷ []) out) ∙ says text (told ∷ out) (open_says on))
          (then (voter place (filled_up v.lines (c ∷ choices)) may (first_filled v.lines (c ∷ choices) (open_first on))) h),
    )

visit_says : {v : Setting} {s u : State} {place : ℕ} {es : List Event} {text : List Output} (out : List Output) → Visit v s place es u text
    → length s.came ≡ length v.roll → MayVote s place
    → (length u.came ≡ length v.roll) × ((t : State) → IsHistory v u (commits_of out) t → IsHistory v s (commits_of (text ++ out)) t)
visit_says {v} {s} {place} out (whole {es} {choices} {text} votes at) r may =
    let told = Commits (with_ballot v.lines s place choices) line.Ended in (
      roll_kept v s place choices r,
      λ t h. history_moved (ap commits_of (append_assoc text (told ∷ []) out) ∙ says text (told ∷ out) (votes_say votes))
          (then (voter place choices may (first_all v.lines choices (votes_first votes) at)) h),
    )
visit_says out (suspended {es} {choices} {text} on) r may = suspended_says out choices text on r may

-- The states that a run commits follow one another by one opening, one voter or one seal, and the run leads to the last.
pub run_history : {v : Setting} {s t : State} {es : List Event} {out : List Output} → length s.came ≡ length v.roll → IsRun v s es t out → IsHistory v s (commits_of out) t
run_history r ends = same
run_history r (ignores run) = run_history r run
run_history r (refuses e run) = run_history r run
run_history {v} {s} r (opens {t} {es} {out} {c} {m} e run) = then (opening m (idle_answer_at v s c (answer.Opens m) r e).0) (run_history r run)
run_history {v} {s} r (seals {t} {es} {out} {c} {m} e run) =
    let may = idle_answer_at v s c (answer.Seals m) r e in
    then (seal m may.1.1 may.1.2) (run_history r run)
run_history {v} {s} r (waits {place} before e w) = history_moved (wait_says v s place before) same
run_history {v} {s} r (cancels {place} before e w run) = history_moved (says (wait_outputs v s place before) _ (wait_says v s place before)) (run_history r run)
run_history {v} {s} r (visits {t} {u} {number} {place} {visit} {es} {text} {out} before e w visited run) =
    let more = visit_says out visited r (idle_answer_at v s (clerk.Titulo number) (answer.Identifies place) r e) in
    history_moved (says (wait_outputs v s place before) _ (wait_says v s place before)) (more.1 t (run_history more.0 run))
run_history {v} {s} r (cut_off {place} {text} before e w on) =
    history_moved (says (wait_outputs v s place before) _ (wait_says v s place before) ∙ open_says on) same

-- Each of them is a state of a poll of the tables, and so is the one that the run leads to, where that at its start is one and the
-- events are valid.
module _ (t : TablesData) (titles : List ℕ) where
  abbrev v : Setting
  v = setting_of t titles

  abbrev Is : State → Type 0
  Is s = IsStateOf t (length titles) s

  abbrev Are : List State → Type 0
  Are states = AllByRecursion Is states

  suspended_state : {s : State} {place : ℕ} {es : List Event} (choices : List Choice) (text : List Output) → IsOpen v s place es choices text → Is s → MayVote s place
      → Is (after_suspension v s place choices)
      × ((out : List Output) → Are (commits_of out) → Are (commits_of ((text ++ suspension v s place choices ∷ []) ++ out)))
  suspended_state [] text on of may = (
    of,
    λ out all. subst Are (sym (ap commits_of (append_assoc text (Says line.Suspended ∷ []) out) ∙ says text (Says line.Suspended ∷ out) (open_says on))) all,
  )
  suspended_state {s} {place} (c ∷ choices) text on of may =
      let filled = filled_up v.lines (c ∷ choices) in
      let told = suspension v s place (c ∷ choices) in
      let now = of_tables-with_ballot t (length titles) s place filled of may (first_filled v.lines (c ∷ choices) (open_first on)) in (
        now,
        λ out all. subst Are (sym (ap commits_of (append_assoc text (told ∷ []) out) ∙ says text (told ∷ out) (open_says on))) (now, all),
      )

  visit_state : {s u : State} {place : ℕ} {es : List Event} {text : List Output} → Visit v s place es u text → Is s → MayVote s place
      → Is u × ((out : List Output) → Are (commits_of out) → Are (commits_of (text ++ out)))
  visit_state {s} {u} {place} (whole {es} {choices} {text} votes at) of may =
      let told = Commits (with_ballot v.lines s place choices) line.Ended in
      let now = of_tables-with_ballot t (length titles) s place choices of may (first_all v.lines choices (votes_first votes) at) in (
        now,
        λ out all. subst Are (sym (ap commits_of (append_assoc text (told ∷ []) out) ∙ says text (told ∷ out) (votes_say votes))) (now, all),
      )
  visit_state (suspended {es} {choices} {text} on) of may = suspended_state choices text on of may

  pub run_states : {s u : State} {es : List Event} {out : List Output} → Is s → AllByRecursion IsEvent es → IsRun v s es u out → Are (commits_of out) × Is u
  run_states of events ends = (tt, of)
  run_states of events (ignores run) = run_states of events.1 run
  run_states of events (refuses e run) = run_states of events.1 run
  run_states {s} of events (opens {es} {out} {c} {m} e run) =
      let may = idle_answer_at v s c (answer.Opens m) of.roll e in
      let moment : is_moment m ≡ true = subst IsClerkKey may.1 events.0 in
      let now = of_tables-opened_at t (length titles) s m of moment in
      let rest = run_states now events.1 run in
      ((now, rest.0), rest.1)
  run_states {s} of events (seals {es} {out} {c} {m} e run) =
      let may = idle_answer_at v s c (answer.Seals m) of.roll e in
      let moment : is_moment m ≡ true = subst IsClerkKey may.0 events.0 in
      let closes : MayClose s.phase m = subst (λ (p : Phase). MayClose p m) (sym may.1.1) may.1.2 in
      let now = of_tables-sealed_at t (length titles) s m of closes moment in
      let rest = run_states now events.1 run in
      ((now, rest.0), rest.1)
  run_states {s} of events (waits {place} before e w) = (subst Are (sym (wait_says v s place before)) tt, of)
  run_states {s} of events (cancels {place} {es} {out} before e w run) =
      let rest = run_states of (every_apart IsEvent before (Clerk clerk.Cancela ∷ es) events.1).1.1 run in
      (subst Are (sym (says (wait_outputs v s place before) (Says line.Canceled ∷ out) (wait_says v s place before))) rest.0, rest.1)
  run_states {s} of events (visits {number} {place} {visit} {es} {text} {out} before e w visited run) =
      let more = visit_state visited of (idle_answer_at v s (clerk.Titulo number) (answer.Identifies place) of.roll e) in
      let behind = (every_apart IsEvent before (Clerk clerk.Libera ∷ (visit ++ es)) events.1).1.1 in
      let rest = run_states more.0 (every_apart IsEvent visit es behind).1 run in
      (subst Are (sym (says (wait_outputs v s place before) (Says line.Released ∷ (text ++ out)) (wait_says v s place before))) (more.1 out rest.0), rest.1)
  run_states {s} of events (cut_off {place} {text} before e w on) =
      (subst Are (sym (says (wait_outputs v s place before) (Says line.Released ∷ text) (wait_says v s place before) ∙ open_says on)) tt, of)

-- One event more
pub run_press : (v : Setting) (s t u : State) (es : List Event) (e : Event) (out put : List Output) → IsSetting v → IsRun v s es t out → IsRun v s (es ++ e ∷ []) u (out ++ put)
    → put ≡ (press v (after v (idle_at s) es) e).out
run_press v s t u es e out put valid a b =
    let x = run_by_events valid a in
    let y = run_by_events valid b in
    append_cancel_left out put (press v (after v (idle_at s) es) e).out
    (y.1 ∙ (outputs-append v (idle_at s) es (e ∷ []) ∙ (ap (λ (o : List Output). o ++ ((press v (after v (idle_at s) es) e).out ++ [])) (sym x.1)
    ∙ ap (λ (o : List Output). out ++ o) (append-nil (press v (after v (idle_at s) es) e).out))))

pub run_press_commits : (v : Setting) (s t u : State) (es : List Event) (e : Event) (out put : List Output) → IsSetting v → IsRun v s es t out → IsRun v s (es ++ e ∷ []) u (out ++ put)
    → length (commits_of put) ≤ 1
run_press_commits v s t u es e out put valid a b =
    let same = run_press v s t u es e out put valid a b in
    subst (λ (o : List Output). length (commits_of o) ≤ 1) (sym same) (press_faithful v (after v (idle_at s) es) e).one
