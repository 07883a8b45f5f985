-- Acts that are done one after another
use Rattle.std.proofs.Common.{◌≡◌, ◌<◌, ◌+◌, ℕ, List, [], ◌∷◌, length, map, take, drop, get_or, refl, sym, ap, subst, ◌∙◌, add-one, drop-cons}
use Rattle.urna_outside.specs.Told.{Told}
use Rattle.election_tables.specs.Roll.{RollData}
use Rattle.election_tables.specs.TablesData.{TablesData}
use Rattle.image_codec.specs.Encoding.{IsStateOf}
use Rattle.image_codec.specs.State.{State}
use Rattle.state_store.specs.Played.{HasPut, kept_poll}
use Rattle.flash_store.specs.Pieces.{state_after, quiet}
use Rattle.state_store.specs.Pieces.{Piece}
use Rattle.state_store.specs.Store.{AreDevices, IsLoadedWith, Keeps, StoreData}
use Rattle.state_store.specs.declared.load.Load.{Load}
use Rattle.flash_store.proofs.Counting.{state_after-append, state_after-quiet}
use Rattle.flash_store.proofs.Playing.{put_nothing, put_to}
use Rattle.state_store.proofs.Stored.{stored}
use Rattle.station.specs.Acts.{output_of, outputs_of, IsAct, act_of, last_state}
use Rattle.station.specs.Doing.{AreDoable, MayDoAll}
use Rattle.station.specs.Text.{output_pieces, session_pieces, title_text}
use Rattle.station.specs.declared.perform.Act.{Act}
use Rattle.key_script.specs.Event.{IsEvent}
use Rattle.key_script.specs.declared.keys.Event.{Event}
use Rattle.poll_report.specs.Counts.{count_lines}
use Rattle.std.specs.List.{AllByRecursion}
use Rattle.station.specs.Output.{Output, Says, Commits, Reports}
use Rattle.station.specs.Press.{Pressed, Standing, press}
use Rattle.station.specs.Setting.{setting_of}
use Rattle.station.specs.Session.{FitsLine}
use Rattle.station.specs.Station.{IsAsked, IsStationed, StationData}
use Rattle.station.proofs.Faithful.{press_faithful}
use Rattle.station.proofs.Leading.{Leads, press_leads}
use Rattle.station.proofs.Performing.{press_acts, tables_panels, tables_setting}
use Rattle.station.proofs.Stepping.{press_stands}
use Rattle.station.proofs.Pieces.{acts_more, full_pieces, kept_by_act}

-- The first acts are done over a state, from what the store kept first, and the rest may be.
pub record ActsDone (t : TablesData) (r : RollData) (u : State) (first now : StoreData) (done rest : List Act) (old new : Told) : Type 0 where
  pub load : now.load ≡ first.load
  pub loaded : IsLoadedWith t r now.load
  pub state : IsStateOf t now.load.section.voters u
  pub devices : AreDevices new.sizes
  pub kept : (s : State) → Keeps t old first s → Keeps t new now (state_after s (session_pieces t (outputs_of u done)))
  pub put : (s : State) → Keeps t old first s → HasPut t first.load s (session_pieces t (outputs_of u done)) old new
  pub may : AreDoable t new now u rest

-- before the first act
pub acts_begin : (t : TablesData) (r : RollData) (u : State) (first : StoreData) (acts : List Act) (a : Told) → IsLoadedWith t r first.load → IsStateOf t first.load.section.voters u
    → AreDevices a.sizes → AreDoable t a first u acts → ActsDone t r u first first [] acts a a
acts_begin t r u first acts a loaded state devices may =
    record {
      load = refl;
      loaded = loaded;
      state = state;
      devices = devices;
      kept = λ s kept. kept;
      put = λ s kept. put_nothing (kept_poll t first.load) s a (stored t r first.load s loaded kept.state) kept.rest;
      may = may;
    }

-- an act more
pub acts_go_on : (t : TablesData) (r : RollData) (u : State) (first now next : StoreData) (acts : List Act) (i : ℕ) (d : Act) (a b c : Told) → i < length acts
    → ActsDone t r u first now (take i acts) (drop i acts) a b → next.load ≡ now.load
    → ((s : State) → Keeps t b now s → Keeps t c next (state_after s (output_pieces t (output_of u (get_or acts i d)))))
    → ((s : State) → Keeps t b now s → HasPut t now.load s (output_pieces t (output_of u (get_or acts i d))) b c)
    → ActsDone t r u first next (take (i + 1) acts) (drop (i + 1) acts) a c
acts_go_on t r u first now next acts i d a b c below h same kept put =
    record {
      load = same ∙ h.load;
      loaded = subst (λ (l : Load). IsLoadedWith t r l) (sym same) h.loaded;
      state = subst (λ (l : Load). IsStateOf t l.section.voters u) (sym same) h.state;
      devices = subst AreDevices (sym (put h.may.state h.may.kept).does.sizes) h.devices;
      kept = λ s before. subst (λ (x : State). Keeps t c next x) (sym (after s)) (kept (state_after s front) (h.kept s before));
      put = λ s before.
          put_to (kept_poll t first.load) s front piece all a b c (acts_more t u acts i d below) (full_pieces t (outputs_of u (take i acts))) (h.put s before)
          (subst (λ (l : Load). HasPut t l (state_after s front) piece b c) h.load (put (state_after s front) (h.kept s before)));
      may =
          record {
            state = state_after h.may.state piece;
            kept = kept h.may.state h.may.kept;
            may = subst (λ (x : State). MayDoAll x u (drop (i + 1) acts)) (sym (kept_by_act t h.may.state u (get_or acts i d))) now_may.1;
          };
    }
  where
    split : drop i acts ≡ get_or acts i d ∷ drop (i + 1) acts
    split = rw (add-one, drop-cons acts i d) refl

    now_may : MayDoAll h.may.state u (get_or acts i d ∷ drop (i + 1) acts)
    now_may = subst (MayDoAll h.may.state u) split h.may.may

    front : List Piece
    front = session_pieces t (outputs_of u (take i acts))

    piece : List Piece
    piece = output_pieces t (output_of u (get_or acts i d))

    all : List Piece
    all = session_pieces t (outputs_of u (take (i + 1) acts))

    after : (s : State) → state_after s all ≡ state_after (state_after s front) piece
    after s = ap (state_after s) (acts_more t u acts i d below) ∙ state_after-append s front piece

-- An event at a station

-- the state after the pieces of some outputs
pub state_after_outputs : (t : TablesData) (s : State) (out : List Output) → state_after s (session_pieces t out) ≡ last_state s out
state_after_outputs t s [] = refl
state_after_outputs t s (Says l ∷ out) = state_after_outputs t s out
state_after_outputs t s (Commits u l ∷ out) = state_after_outputs t u out
state_after_outputs t s (Reports title u ∷ out) =
    state_after-append s (quiet (title_text title ∷ count_lines t u.bags)) (session_pieces t out)
    ∙ ap (λ (x : State). state_after x (session_pieces t out)) (state_after-quiet s (title_text title ∷ count_lines t u.bags)) ∙ state_after_outputs t s out

module _ (t : TablesData) (r : RollData) (told : Told) (x : StationData) (e : Event) (valid : IsEvent e) (is : IsStationed t r told x) where
  abbrev pressed : Pressed
  pressed = press (setting_of t r.titles) x.standing e

  voters_are : x.store.load.section.voters ≡ length r.titles
  voters_are = is.load.section.voters

  leads : Leads t (length r.titles) x.standing.state pressed
  leads =
      press_leads t r.titles x.standing e (subst (λ (n : ℕ). IsStateOf t n x.standing.state) voters_are is.kept.state) valid is.stands

  pub event_acts : AllByRecursion (IsAct t) (map act_of pressed.out)
  event_acts =
      press_acts t (setting_of t r.titles) x.standing e (tables_setting t r.titles is.load.tables) (tables_panels t r.titles) valid is.stands

  pub event_state : IsStateOf t x.store.load.section.voters pressed.standing.state
  event_state = subst (λ (n : ℕ). IsStateOf t n pressed.standing.state) (sym voters_are) leads.state

  pub event_doable : AreDoable t told x.store pressed.standing.state (map act_of pressed.out)
  event_doable = record { state = x.standing.state; kept = is.kept; may = leads.may }

  pub event_pieces : session_pieces t (outputs_of pressed.standing.state (map act_of pressed.out)) ≡ session_pieces t pressed.out
  event_pieces = ap (session_pieces t) (press_faithful (setting_of t r.titles) x.standing e).acts

  pub event_after : state_after x.standing.state (session_pieces t pressed.out) ≡ pressed.standing.state
  event_after = state_after_outputs t x.standing.state pressed.out ∙ (press_faithful (setting_of t r.titles) x.standing e).last

  -- the station that stands after it
  pub event_stationed : (new : Told) (store : StoreData) (digits : ℕ) → FitsLine (setting_of t r.titles) pressed.standing digits → store.load ≡ x.store.load
      → Keeps t new store pressed.standing.state → IsStationed t r new (record { standing = pressed.standing; digits = digits; store = store })
  event_stationed new store digits panel same kept =
      record {
        stands = press_stands (setting_of t r.titles) x.standing e (tables_setting t r.titles is.load.tables) valid is.stands;
        panel = panel;
        load = subst (λ (l : Load). IsLoadedWith t r l) (sym same) is.load;
        kept = kept;
      }

-- What an event asked for, at the station that stands behind it in memory

module _ (t : TablesData) (r : RollData) (told : Told) (from : StationData) (e : Event) (x : StationData) (acts : List Act) (is : IsAsked t r told from e x acts) where
  abbrev asked : Pressed
  asked = press (setting_of t r.titles) from.standing e

  pub asked_loaded : IsLoadedWith t r x.store.load
  asked_loaded = subst (λ (y : StoreData). IsLoadedWith t r y.load) (sym is.store) is.before.load

  pub asked_kept : Keeps t told x.store from.standing.state
  asked_kept = subst (λ (y : StoreData). Keeps t told y from.standing.state) (sym is.store) is.before.kept

  pub asked_acts : AllByRecursion (IsAct t) acts
  asked_acts = subst (AllByRecursion (IsAct t)) (sym is.asks) (event_acts t r told from e is.valid is.before)

  pub asked_state : IsStateOf t x.store.load.section.voters x.standing.state
  asked_state =
      subst (λ (y : StoreData). IsStateOf t y.load.section.voters x.standing.state) (sym is.store)
      (subst (λ (y : Standing). IsStateOf t from.store.load.section.voters y.state) (sym is.standing) (event_state t r told from e is.valid is.before))

  pub asked_doable : AreDoable t told x.store x.standing.state acts
  asked_doable =
      subst (λ (l : List Act). AreDoable t told x.store x.standing.state l) (sym is.asks)
      (subst (λ (y : StoreData). AreDoable t told y x.standing.state (map act_of asked.out)) (sym is.store)
      (subst (λ (y : Standing). AreDoable t told from.store y.state (map act_of asked.out)) (sym is.standing) (event_doable t r told from e is.valid is.before)))

  pub asked_pieces : session_pieces t (outputs_of x.standing.state acts) ≡ session_pieces t asked.out
  asked_pieces =
      ap (λ (y : Standing). session_pieces t (outputs_of y.state acts)) is.standing ∙ ap (λ (l : List Act). session_pieces t (outputs_of asked.standing.state l)) is.asks
      ∙ event_pieces t r told from e is.valid is.before

  -- the acts were done
  pub asked_stationed : (new : Told) (store : StoreData) → store.load ≡ x.store.load → Keeps t new store (state_after from.standing.state (session_pieces t (outputs_of x.standing.state acts)))
      → IsStationed t r new (record { standing = x.standing; digits = x.digits; store = store })
  asked_stationed new store load kept =
      let after = ap (state_after from.standing.state) asked_pieces ∙ event_after t r told from e is.valid is.before in
      subst (λ (y : Standing). IsStationed t r new (record { standing = y; digits = x.digits; store = store })) (sym is.standing)
      (event_stationed t r told from e is.valid is.before new store x.digits (subst (λ (y : Standing). FitsLine (setting_of t r.titles) y x.digits) is.standing is.panel)
      (load ∙ ap (λ (y : StoreData). y.load) is.store) (subst (Keeps t new store) after kept))

-- Nothing was asked for.
module _ (t : TablesData) (r : RollData) (told : Told) (from : StationData) (e : Event) (x : StationData) (is : IsAsked t r told from e x []) where
  pub nothing_stationed : IsStationed t r told x
  nothing_stationed = asked_stationed t r told from e x [] is told x.store refl (asked_kept t r told from e x [] is)

  pub nothing_put : HasPut t from.store.load from.standing.state (session_pieces t (press (setting_of t r.titles) from.standing e).out) told told
  nothing_put =
      subst (λ (l : List Piece). HasPut t from.store.load from.standing.state l told told) (asked_pieces t r told from e x [] is)
      (put_nothing (kept_poll t from.store.load) from.standing.state told (stored t r from.store.load from.standing.state is.before.load is.before.kept.state) is.before.kept.rest)
