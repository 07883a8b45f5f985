use Rattle.std.proofs.Common.{◌≡◌, ◌++◌, ◌∷◌, [], List, Result, Ok, Err, IfOk, IfErr, sym, subst}
use Rattle.urna_outside.specs.Told.{Told}
use Rattle.urna_outside.specs.declared.device.Port.{Port}
use Rattle.key_script.specs.declared.keys.Event.{Event}
use Rattle.election_tables.specs.TablesData.{TablesData}
use Rattle.image_codec.specs.State.{State}
use Rattle.state_store.specs.Played.{HasPut, HasStopped, Puts}
use Rattle.state_store.specs.declared.load.Load.{Load}
use Rattle.station.specs.Setting.{IsSetting, Setting, setting_of}
use Rattle.station.specs.Output.{Output}
use Rattle.station.specs.Press.{Standing, press}
use Rattle.station.specs.Run.{IsRun}
use Rattle.station.specs.Stands.{StandsFor, StandsOn}
use Rattle.station.specs.Station.{StationData}
use Rattle.station.specs.Text.{session_pieces}
use Rattle.station.proofs.Performing.{tables_setting}
use Rattle.station.proofs.Reaching.{press_run}
use Rattle.station.proofs.Stands.{goes, stands_on}
use Rattle.station.proofs.station.Station.press.Goals as goal

module _ (t : TablesData) (load : Load) (v : Setting) (setting : IsSetting v) (x : Standing) (e : Event) (a b : Told) where
  pressed_on : (r : Result StationData Port) → IfOk r (λ next. next.standing ≡ (press v x e).standing) → Puts {E = Port} (λ p. p) r t load x.state (session_pieces t (press v x e).out) a b
      → IfOk r (λ next. (put : List Output) × HasPut t load x.state (session_pieces t put) a b
      × ((s : State) (es : List Event) (out : List Output) → StandsFor v s x es out → StandsOn v s next.standing.mode next.standing (es ++ e ∷ []) (out ++ put)))
  pressed_on (Ok next) standing put = (
    (press v x e).out,
    put,
    λ (s : State) (es : List Event) (out : List Output) (h : StandsFor v s x es out).
        subst (λ (y : Standing). StandsOn v s y.mode y (es ++ e ∷ []) (out ++ (press v x e).out)) (sym standing) (stands_on (goes setting h e)),
  )
  pressed_on (Err p) standing put = tt

  pressed_cut : (r : Result StationData Port) → Puts {E = Port} (λ p. p) r t load x.state (session_pieces t (press v x e).out) a b
      → IfErr r (λ port. (put : List Output) × HasStopped t load x.state (session_pieces t put) port a b
      × ((s : State) (es : List Event) (out : List Output) → StandsFor v s x es out → (u : State) × IsRun v s (es ++ e ∷ []) u (out ++ put)))
  pressed_cut (Ok next) put = tt
  pressed_cut (Err p) stopped = (
    (press v x e).out,
    stopped,
    λ (s : State) (es : List Event) (out : List Output) (h : StandsFor v s x es out). ((press v x e).standing.state, press_run v s x e es out setting h),
  )

pub returns-clause-run : goal.returns-clause-run
returns-clause-run g c =
    let t = c.args.tables.now in
    let v = setting_of t c.args.roll.now.titles in
    pressed_on t c.args.self.store.load v (tables_setting t c.args.roll.now.titles c.do_event.ensures.tables) c.args.self.standing c.args.event (g.M.Machine.told c.args.m.now) (g.M.Machine.told c.do_event.new.m) c.do_event.result c.do_event.ensures.standing c.do_event.ensures.puts

pub returns-clause-cut : goal.returns-clause-cut
returns-clause-cut g c =
    let t = c.args.tables.now in
    let v = setting_of t c.args.roll.now.titles in
    pressed_cut t c.args.self.store.load v (tables_setting t c.args.roll.now.titles c.do_event.ensures.tables) c.args.self.standing c.args.event (g.M.Machine.told c.args.m.now) (g.M.Machine.told c.do_event.new.m) c.do_event.result c.do_event.ensures.puts
