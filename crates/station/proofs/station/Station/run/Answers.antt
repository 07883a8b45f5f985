use Rattle.std.proofs.Common.{◌≡◌, ◌==◌, ◌++◌, ◌∷◌, [], List, length, true, sym, ap, subst, ◌∙◌, refl, arith}
use Rattle.urna_outside.specs.Told.{Told}
use Rattle.election_tables.specs.Roll.{RollData}
use Rattle.election_tables.specs.TablesData.{TablesData}
use Rattle.std.proofs.lemmas.Bool.{OnTrue_at, eqb-true}
use Rattle.std.proofs.lemmas.List.{append-nil}
use Rattle.key_script.specs.declared.keys.Event.{Event}
use Rattle.key_script.proofs.EventLaws.{yielded_more}
use Rattle.image_codec.specs.State.{State}
use Rattle.state_store.specs.Played.{HasPut, HasStopped, kept_poll}
use Rattle.state_store.specs.Store.{AreDevices, StoreData}
use Rattle.state_store.specs.declared.load.Load.{Load}
use Rattle.flash_store.proofs.Playing.{put_nothing, put_to, stopped_within}
use Rattle.state_store.proofs.Stored.{stored}
use Rattle.station.specs.Setting.{setting_of}
use Rattle.station.specs.Output.{Output}
use Rattle.station.specs.Press.{ChangesNothing, Pressed, Standing, press, after, outputs, idle_at}
use Rattle.station.specs.Station.{IsAsked, IsStationed, StationData}
use Rattle.station.specs.declared.perform.Act.{Act}
use Rattle.station.specs.Text.{session_pieces}
use Rattle.station.proofs.Doing.{nothing_put, nothing_stationed}
use Rattle.station.proofs.Performing.{tables_setting}
use Rattle.station.proofs.Reaching.{after_one, is_idle, reached_end, pieces_after, pieces_one, pieces_rest}
use Rattle.station.proofs.Pieces.{full_pieces}
use Rattle.station.proofs.station.Station.run.Invariants.{AreDone}
use Rattle.station.proofs.station.Station.run.Goals as goal

pub loop-event-init : goal.loop-event-init
loop-event-init g c =
    let is = c.requires.stationed in
    record {
      place = c.into_iter-event-iterator.ensures.into_iter_gives ∙ c.events-event-items.ensures.all;
      standing = refl;
      stationed = is;
      load = refl;
      devices = c.requires.devices;
      put =
          put_nothing (kept_poll c.args.tables.now c.args.self.store.load) c.args.self.standing.state (g.M.Machine.told c.args.m.now)
          (stored c.args.tables.now c.args.roll.now c.args.self.store.load c.args.self.standing.state is.load is.kept.state) is.kept.rest;
    }

-- an event more is done
event_done : (t : TablesData) (r : RollData) (from x y : StationData) (script yielded left rest : List Event) (e : Event) (old before new : Told)
    → AreDone t r (setting_of t r.titles) from script yielded left x old before → left ≡ e ∷ rest
    → y.standing ≡ (press (setting_of t r.titles) x.standing e).standing → IsStationed t r new y → y.store.load ≡ x.store.load
    → HasPut t x.store.load x.standing.state (session_pieces t (press (setting_of t r.titles) x.standing e).out) before new
    → AreDone t r (setting_of t r.titles) from script (yielded ++ e ∷ []) rest y old new
event_done t r from x y script yielded left rest e old before new done split standing stationed load put =
    let v = setting_of t r.titles in
    let front = session_pieces t (outputs v from.standing yielded) in
    let piece = session_pieces t (press v x.standing e).out in
    let state : x.standing.state ≡ (after v from.standing yielded).state = ap (λ (z : Standing). z.state) done.standing in
    record {
      place = yielded_more _ _ _ _ _ done.place split;
      standing = standing ∙ (ap (λ (z : Standing). (press v z e).standing) done.standing ∙ sym (after_one v from.standing yielded e));
      stationed = stationed;
      load = load ∙ done.load;
      devices = subst AreDevices (sym put.does.sizes) done.devices;
      put =
          put_to (kept_poll t from.store.load) from.standing.state front piece (session_pieces t (outputs v from.standing (yielded ++ e ∷ []))) old before new
          (pieces_one t v from.standing x.standing yielded e done.standing) (full_pieces t (outputs v from.standing yielded)) done.put
          (subst (λ (s : State). HasPut t from.store.load s piece before new) (state ∙ sym (pieces_after t v from.standing yielded))
          (subst (λ (l : Load). HasPut t l x.standing.state piece before new) done.load put));
    }

-- a key that is passed over
pub loop-event-preserved-then-passes_over : goal.loop-event-preserved-then-passes_over
loop-event-preserved-then-passes_over g c =
    let t = c.args.tables.now in
    let r = c.args.roll.now in
    let v = setting_of t r.titles in
    let e = c.in-Some.event in
    let done = c.loop-event.invariant in
    let told = g.M.Machine.told c.loop-event.m in
    let x = c.loop-event.station in
    let is = done.stationed in
    let nothing : ChangesNothing v x.standing e =
    subst (λ (y : Standing). ChangesNothing v y e) (ap (λ (z : StationData). z.standing) c.station.view_is) (OnTrue_at c.if-passes_over.true (c.passes_over.ensures v)) in
    event_done t r c.args.self x x c.args.script.now c.loop-event.yielded c.loop-event.event-iterator c.next.new.self e (g.M.Machine.told c.args.m.now) told told done
    c.in-Some.ensures.steps (sym (ap (λ (p : Pressed). p.standing) nothing)) is refl
    (subst (λ (out : List Output). HasPut t x.store.load x.standing.state (session_pieces t out) told told) (sym (ap (λ (p : Pressed). p.out) nothing))
    (put_nothing (kept_poll t x.store.load) x.standing.state told (stored t r x.store.load x.standing.state is.load is.kept.state) is.kept.rest))

no_acts : (acts : List Act) → true ≡ (length acts == 0) → acts ≡ []
no_acts [] e = refl
no_acts (act ∷ acts) e = absurd (omega (arith, eqb-true (length (act ∷ acts)) 0 (sym e)))

-- an event that asks for nothing
pub loop-event-preserved-then-is_empty : goal.loop-event-preserved-then-is_empty
loop-event-preserved-then-is_empty g c =
    let t = c.args.tables.now in
    let r = c.args.roll.now in
    let done = c.loop-event.invariant in
    let told = g.M.Machine.told c.loop-event.m in
    let x = c.loop-event.station in
    let y = c.take_event-acts.new.self in
    let asked : IsAsked t r told x c.in-Some.event y [] =
    subst (λ (acts : List Act). IsAsked t r told x c.in-Some.event y acts) (no_acts c.take_event-acts.result.items c.if-is_empty.ensures) (c.take_event-acts.ensures.asked told done.stationed) in
    event_done t r c.args.self x y c.args.script.now c.loop-event.yielded c.loop-event.event-iterator c.next.new.self c.in-Some.event (g.M.Machine.told c.args.m.now) told told done
    c.in-Some.ensures.steps asked.standing (nothing_stationed t r told x c.in-Some.event y asked) (ap (λ (z : StoreData). z.load) asked.store)
    (nothing_put t r told x c.in-Some.event y asked)

pub perform-requires-clause-asked : goal.perform-requires-clause-asked
perform-requires-clause-asked g c =
    let told = g.M.Machine.told c.loop-event.m in
    let x = c.loop-event.station in (
      x,
      c.in-Some.event,
      subst (λ (acts : List Act). IsAsked c.args.tables.now c.args.roll.now told x c.in-Some.event c.take_event-acts.new.self acts) (sym c.deref.ensures.0)
          (c.take_event-acts.ensures.asked told c.loop-event.invariant.stationed),
    )

pub loop-event-preserved : goal.loop-event-preserved
loop-event-preserved g c =
    let t = c.args.tables.now in
    let r = c.args.roll.now in
    let done = c.loop-event.invariant in
    let told = g.M.Machine.told c.loop-event.m in
    let x = c.loop-event.station in
    let y = c.take_event-acts.new.self in
    let asked = c.take_event-acts.ensures.asked told done.stationed in
    event_done t r c.args.self x c.in-Ok.station c.args.script.now c.loop-event.yielded c.loop-event.event-iterator c.next.new.self c.in-Some.event (g.M.Machine.told c.args.m.now) told
    (g.M.Machine.told c.perform.new.m) done
    c.in-Some.ensures.steps (c.in-Ok.ensures.standing ∙ asked.standing) c.in-Ok.ensures.stationed (c.in-Ok.ensures.load ∙ ap (λ (z : StoreData). z.load) asked.store)
    (c.in-Ok.ensures.puts x c.in-Some.event
    (subst (λ (acts : List Act). IsAsked t r told x c.in-Some.event y acts) (sym c.deref.ensures.0) asked))

pub returns-in-Err-clause-cut : goal.returns-in-Err-clause-cut
returns-in-Err-clause-cut g c =
    let t = c.args.tables.now in
    let v = setting_of t c.args.roll.now.titles in
    let done = c.loop-event.invariant in
    let e = c.in-Some.event in
    let x = c.loop-event.station in
    let from = c.args.self in
    let script = c.args.script.now in
    let load = from.store.load in
    let s = from.standing.state in
    let old = g.M.Machine.told c.args.m.now in
    let before = g.M.Machine.told c.loop-event.m in
    let new = g.M.Machine.told c.perform.new.m in
    let asked = subst (λ (acts : List Act). IsAsked t c.args.roll.now before x e c.take_event-acts.new.self acts) (sym c.deref.ensures.0)
    (c.take_event-acts.ensures.asked before done.stationed) in
    let valid = tables_setting t c.args.roll.now.titles c.requires.stationed.load.tables in
    let idle = is_idle v from.standing c.requires.stationed.stands c.requires.idle in
    let all : c.loop-event.yielded ++ e ∷ c.next.new.self ≡ script =
    ap (λ (es : List Event). c.loop-event.yielded ++ es) (sym c.in-Some.ensures.steps) ∙ done.place in
    let rest = pieces_rest t v from.standing x.standing c.loop-event.yielded c.next.new.self e done.standing in
    let front = session_pieces t (outputs v from.standing c.loop-event.yielded) in
    let piece = session_pieces t (press v x.standing e).out in
    let state : x.standing.state ≡ (after v from.standing c.loop-event.yielded).state = ap (λ (y : Standing). y.state) done.standing in
    let stopped : HasStopped t load s (session_pieces t (outputs v from.standing (c.loop-event.yielded ++ e ∷ c.next.new.self))) c.in-Err.port old new =
    stopped_within (kept_poll t load) s front piece rest.0 _ c.in-Err.port old before new rest.1 (full_pieces t (outputs v from.standing c.loop-event.yielded)) done.put
    (subst (λ (u : State). HasStopped t load u piece c.in-Err.port before new) (state ∙ sym (pieces_after t v from.standing c.loop-event.yielded))
    (subst (λ (l : Load). HasStopped t l x.standing.state piece c.in-Err.port before new) done.load (c.in-Err.ensures.puts x e asked))) in
    let end = reached_end v s script (after v (idle_at s) script) valid refl in (
      (after v (idle_at s) script).state,
      outputs v (idle_at s) script,
      end.0,
      subst (λ (y : Standing). HasStopped t load s (session_pieces t (outputs v y script)) c.in-Err.port old new) idle
          (subst (λ (es : List Event). HasStopped t load s (session_pieces t (outputs v from.standing es)) c.in-Err.port old new) all stopped),
    )

pub returns-clause-run : goal.returns-clause-run
returns-clause-run g c =
    let t = c.args.tables.now in
    let v = setting_of t c.args.roll.now.titles in
    let done = c.loop-event.invariant in
    let from = c.args.self in
    let script = c.args.script.now in
    let load = from.store.load in
    let s = from.standing.state in
    let old = g.M.Machine.told c.args.m.now in
    let new = g.M.Machine.told c.loop-event.m in
    let valid = tables_setting t c.args.roll.now.titles c.requires.stationed.load.tables in
    let idle = is_idle v from.standing c.requires.stationed.stands c.requires.idle in
    let all : c.loop-event.yielded ≡ script =
    sym (append-nil c.loop-event.yielded) ∙ (ap (λ (es : List Event). c.loop-event.yielded ++ es) (sym c.in-None.ensures.steps.0) ∙ done.place) in
    let here : c.loop-event.station.standing ≡ after v (idle_at s) script =
    done.standing ∙ (ap (λ (y : Standing). after v y c.loop-event.yielded) idle ∙ ap (λ (es : List Event). after v (idle_at s) es) all) in
    let end = reached_end v s script c.loop-event.station.standing valid here in (
      outputs v (idle_at s) script,
      end.0,
      end.1,
      subst (λ (y : Standing). HasPut t load s (session_pieces t (outputs v y script)) old new) idle
          (subst (λ (es : List Event). HasPut t load s (session_pieces t (outputs v from.standing es)) old new) all done.put),
    )

pub returns-clause-stationed : goal.returns-clause-stationed
returns-clause-stationed g c = c.loop-event.invariant.stationed

pub returns-clause-load : goal.returns-clause-load
returns-clause-load g c = c.loop-event.invariant.load
