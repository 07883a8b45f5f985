-- Events one by one, from a station that is idle
use Rattle.std.proofs.Common.{◌≡◌, List, [], ◌∷◌, ◌++◌, refl, sym, ap, subst, ◌∙◌, append_assoc}
use Rattle.std.proofs.lemmas.List.{append-nil}
use Rattle.std.proofs.lemmas.Grind.{flat_map-append}
use Rattle.key_script.specs.declared.keys.Event.{Event}
use Rattle.election_tables.specs.TablesData.{TablesData}
use Rattle.vote_kinds.specs.declared.choice.Choice.{Choice}
use Rattle.vote_kinds.specs.declared.choice.Field.{Field}
use Rattle.vote_kinds.specs.declared.choice.Field.TheVariants as field
use Rattle.clerk_term.specs.declared.replies.Mode.{Mode}
use Rattle.clerk_term.specs.declared.replies.Mode.TheVariants as mode
use Rattle.image_codec.specs.State.{State}
use Rattle.station.specs.Setting.{Setting, IsSetting}
use Rattle.flash_store.specs.Pieces.{state_after}
use Rattle.state_store.specs.Pieces.{Piece}
use Rattle.station.specs.Acts.{last_state}
use Rattle.station.specs.Output.{Output, Says, Commits, Reports}
use Rattle.station.specs.Run.{IsRun, ends}
use Rattle.station.specs.Press.{Standing, press, after, outputs, idle_at}
use Rattle.station.specs.Stands.{StandsFor, IsReached, idle}
use Rattle.station.specs.Text.{output_pieces, session_pieces}
use Rattle.station.specs.Valid.{IsStanding, IsPlaced}
use Rattle.station.proofs.Doing.{state_after_outputs}
use Rattle.station.proofs.Faithful.{press_faithful}
use Rattle.station.proofs.Stands.{Goes, stands, done, goes, run_moved, events_by_run}
use Rattle.station.proofs.RunLaws.{outputs-append}

-- What is reached, as a run that whatever follows continues, and the events since.
record ReachedBy (v : Setting) (s : State) (x : Standing) (es : List Event) (out : List Output) : Type 0 where
  mid : State
  before : List Event
  since : List Event
  first : List Output
  last : List Output
  events : es ≡ before ++ since
  texts : out ≡ first ++ last
  continues : (more : List Event) (u : State) (put : List Output) → IsRun v mid more u put → IsRun v s (before ++ more) u (first ++ put)
  stands : StandsFor v mid x since last

reach_goes : {v : Setting} {s mid : State} {y : Standing} {fs : List Event} {q : List Output} (before : List Event) (first : List Output)
    → ((more : List Event) (u : State) (put : List Output) → IsRun v mid more u put → IsRun v s (before ++ more) u (first ++ put))
    → Goes v mid y fs q → ReachedBy v s y (before ++ fs) (first ++ q)
reach_goes {v} {s} {mid} before first on (stands {x} {es} {out} h) =
    record { mid = mid; before = before; since = es; first = first; last = out; events = refl; texts = refl; continues = on; stands = h }
reach_goes {v} {s} {mid} before first on (done t {es} {out} f) =
    record {
      mid = t;
      before = before ++ es;
      since = [];
      first = first ++ out;
      last = [];
      events = sym (append-nil (before ++ es));
      texts = sym (append-nil (first ++ out));
      continues = λ more u put run.
          run_moved (sym (append_assoc before es more)) (sym (append_assoc first out put)) (on (es ++ more) u (out ++ put) (f more u put run));
      stands = idle;
    }

reach_moved : {v : Setting} {s : State} {x : Standing} {es fs : List Event} {out put : List Output} → es ≡ fs → out ≡ put → ReachedBy v s x es out → ReachedBy v s x fs put
reach_moved {v} {s} {x} {es} {fs} {out} {put} p q h = subst (λ (o : List Output). ReachedBy v s x fs o) q (subst (λ (f : List Event). ReachedBy v s x f out) p h)

reach_more : {v : Setting} {s : State} {x : Standing} {es : List Event} {out : List Output} → IsSetting v → ReachedBy v s x es out → (e : Event)
    → ReachedBy v s (press v x e).standing (es ++ e ∷ []) (out ++ (press v x e).out)
reach_more {v} {s} {x} {es} {out} valid h e =
    reach_moved
    (sym (append_assoc h.before h.since (e ∷ [])) ∙ ap (λ (f : List Event). f ++ e ∷ []) (sym h.events))
    (sym (append_assoc h.first h.last (press v x e).out) ∙ ap (λ (o : List Output). o ++ (press v x e).out) (sym h.texts))
    (reach_goes h.before h.first h.continues (goes valid h.stands e))

reach_all : (v : Setting) → IsSetting v → (s : State) (x : Standing) (es : List Event) (out : List Output) (more : List Event) → ReachedBy v s x es out
    → ReachedBy v s (after v x more) (es ++ more) (out ++ outputs v x more)
reach_all v valid s x es out [] h = reach_moved (sym (append-nil es)) (sym (append-nil out)) h
reach_all v valid s x es out (e ∷ more) h =
    reach_moved (append_assoc es (e ∷ []) more) (append_assoc out (press v x e).out (outputs v (press v x e).standing more))
    (reach_all v valid s (press v x e).standing (es ++ e ∷ []) (out ++ (press v x e).out) more (reach_more valid h e))

-- the events from an idle station lead to where it stands after them
reached : (v : Setting) (s : State) (es : List Event) → IsSetting v → IsReached v s es (outputs v (idle_at s) es) (after v (idle_at s) es)
reached v s es valid =
    let h = reach_all v valid s (idle_at s) [] [] es (record { mid = s; before = []; since = []; first = []; last = []; events = refl; texts = refl; continues = λ more u put run. run; stands = idle }) in
    record {
      state = h.mid;
      before = h.before;
      since = h.since;
      put_before = h.first;
      put_since = h.last;
      events = h.events;
      texts = h.texts;
      run = run_moved (append-nil h.before) (append-nil h.first) (h.continues [] h.mid [] ends);
      stands = h.stands;
    }

-- the events are a run to where it stands
run_of_events : (v : Setting) (s : State) (es : List Event) → IsSetting v → IsRun v s es (after v (idle_at s) es).state (outputs v (idle_at s) es)
run_of_events v s es valid = events_by_run v valid es s (idle_at s) [] [] idle

-- what a script comes to, where its events are done
pub reached_end : (v : Setting) (s : State) (script : List Event) (x : Standing) → IsSetting v → x ≡ after v (idle_at s) script
    → IsRun v s script x.state (outputs v (idle_at s) script) × IsReached v s script (outputs v (idle_at s) script) x
reached_end v s script x valid at =
    subst (λ (y : Standing). IsRun v s script y.state (outputs v (idle_at s) script) × IsReached v s script (outputs v (idle_at s) script) y) (sym at)
    (run_of_events v s script valid, reached v s script valid)

-- One event more

pub after_one : (v : Setting) (x : Standing) (es : List Event) (e : Event) → after v x (es ++ e ∷ []) ≡ (press v (after v x es) e).standing
after_one v x [] e = refl
after_one v x (d ∷ es) e = after_one v (press v x d).standing es e

pieces_of_more : (t : TablesData) (v : Setting) (x : Standing) (es more : List Event)
    → session_pieces t (outputs v x (es ++ more)) ≡ session_pieces t (outputs v x es) ++ session_pieces t (outputs v (after v x es) more)
pieces_of_more t v x es more = ap (session_pieces t) (outputs-append v x es more) ∙ flat_map-append (output_pieces t) (outputs v x es) (outputs v (after v x es) more)

pub pieces_one : (t : TablesData) (v : Setting) (x y : Standing) (es : List Event) (e : Event) → y ≡ after v x es
    → session_pieces t (outputs v x (es ++ e ∷ [])) ≡ session_pieces t (outputs v x es) ++ session_pieces t (press v y e).out
pieces_one t v x y es e at =
    pieces_of_more t v x es (e ∷ [])
    ∙ (ap (λ (o : List Output). session_pieces t (outputs v x es) ++ session_pieces t o) (append-nil (press v (after v x es) e).out)
    ∙ ap (λ (z : Standing). session_pieces t (outputs v x es) ++ session_pieces t (press v z e).out) (sym at))

pub pieces_rest : (t : TablesData) (v : Setting) (x y : Standing) (es more : List Event) (e : Event) → y ≡ after v x es
    → (rest : List Piece) × (session_pieces t (outputs v x (es ++ e ∷ more)) ≡ (session_pieces t (outputs v x es) ++ session_pieces t (press v y e).out) ++ rest)
pieces_rest t v x y es more e at =
    let z = after v x (es ++ e ∷ []) in (
      session_pieces t (outputs v z more),
      ap (λ (f : List Event). session_pieces t (outputs v x f)) (sym (append_assoc es (e ∷ []) more))
          ∙ (pieces_of_more t v x (es ++ e ∷ []) more
          ∙ ap (λ (ls : List Piece). ls ++ session_pieces t (outputs v z more)) (pieces_one t v x y es e at)),
    )

last-append : (s : State) (a b : List Output) → last_state s (a ++ b) ≡ last_state (last_state s a) b
last-append s [] b = refl
last-append s (Says l ∷ a) b = last-append s a b
last-append s (Commits u l ∷ a) b = last-append u a b
last-append s (Reports title u ∷ a) b = last-append s a b

last_after : (v : Setting) (x : Standing) (es : List Event) → last_state x.state (outputs v x es) ≡ (after v x es).state
last_after v x [] = refl
last_after v x (e ∷ es) =
    let y = (press v x e).standing in
    last-append x.state (press v x e).out (outputs v y es)
    ∙ (ap (λ (s : State). last_state s (outputs v y es)) (press_faithful v x e).last ∙ last_after v y es)

-- the state after the pieces of events is that where the station stands
pub pieces_after : (t : TablesData) (v : Setting) (x : Standing) (es : List Event) → state_after x.state (session_pieces t (outputs v x es)) ≡ (after v x es).state
pieces_after t v x es = state_after_outputs t x.state (outputs v x es) ∙ last_after v x es

-- one event more is a run, which puts out what the press does
pub press_run : (v : Setting) (s : State) (x : Standing) (e : Event) (es : List Event) (out : List Output) → IsSetting v → StandsFor v s x es out
    → IsRun v s (es ++ e ∷ []) (press v x e).standing.state (out ++ (press v x e).out)
press_run v s x e es out valid h = run_moved refl (ap (λ (o : List Output). out ++ o) (append-nil (press v x e).out)) (events_by_run v valid (e ∷ []) s x es out h)

-- a station with nobody at it
placed_idle : (v : Setting) (x : Standing) (m : Mode) → m ≡ mode.Idle → IsPlaced v x m → (x.choices ≡ []) × (x.field ≡ field.Empty)
placed_idle v x mode.Idle e h = h
placed_idle v x (mode.Identified place) e h = absurd (cc)
placed_idle v x (mode.Voting place) e h = absurd (cc)

pub is_idle : (v : Setting) (x : Standing) → IsStanding v x → x.mode ≡ mode.Idle → x ≡ idle_at x.state
is_idle v x h e =
    let bare = placed_idle v x x.mode e h.placed in
    ap (λ (m : Mode). record { state = x.state; mode = m; choices = x.choices; field = x.field }) e
    ∙ (ap (λ (cs : List Choice). record { state = x.state; mode = mode.Idle; choices = cs; field = x.field }) bare.0
    ∙ ap (λ (f : Field). record { state = x.state; mode = mode.Idle; choices = []; field = f }) bare.1)
