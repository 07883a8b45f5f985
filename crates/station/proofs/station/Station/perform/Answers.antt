use Rattle.std.proofs.Common.{◌≡◌, List, sym, ap, subst, ◌∙◌}
use Rattle.image_codec.specs.Encoding.{IsStateOf}
use Rattle.state_store.specs.Played.{HasPut, HasStopped}
use Rattle.flash_store.specs.Pieces.{state_after}
use Rattle.state_store.specs.Pieces.{Piece}
use Rattle.state_store.specs.Store.{IsLoadedWith, Keeps, StoreData}
use Rattle.station.specs.Acts.{outputs_of}
use Rattle.station.specs.Doing.{AreDoable}
use Rattle.station.specs.Press.{Standing}
use Rattle.station.specs.Station.{IsStationed, StationData}
use Rattle.station.specs.Text.{session_pieces}
use Rattle.station.proofs.Doing.{asked_acts, asked_doable, asked_kept, asked_loaded, asked_state, asked_stationed, asked_pieces}
use Rattle.station.proofs.station.Station.perform.Goals as goal

pub perform_all-requires-clause-acts : goal.perform_all-requires-clause-acts
perform_all-requires-clause-acts g c =
    let asked = c.requires.asked in
    asked_acts c.args.tables.now c.args.roll.now (g.M.Machine.told c.args.m.now) asked.0 asked.1 c.args.self c.args.acts.now asked.2

pub perform_all-requires-clause-load : goal.perform_all-requires-clause-load
perform_all-requires-clause-load g c =
    let t = c.args.tables.now in
    let r = c.args.roll.now in
    let told = g.M.Machine.told c.args.m.now in
    let x = c.args.self in
    let standing : c.self.inside.session.standing ≡ x.standing = ap (λ (y : StationData). y.standing) c.self.view_is in
    let store : c.self.inside.store ≡ x.store = ap (λ (y : StationData). y.store) c.self.view_is in
    let asked = c.requires.asked in
    subst (λ (y : StoreData). IsLoadedWith t r y.load) (sym store) (asked_loaded t r told asked.0 asked.1 x c.args.acts.now asked.2)

pub perform_all-requires-clause-state : goal.perform_all-requires-clause-state
perform_all-requires-clause-state g c =
    let t = c.args.tables.now in
    let r = c.args.roll.now in
    let told = g.M.Machine.told c.args.m.now in
    let x = c.args.self in
    let standing : c.self.inside.session.standing ≡ x.standing = ap (λ (y : StationData). y.standing) c.self.view_is in
    let store : c.self.inside.store ≡ x.store = ap (λ (y : StationData). y.store) c.self.view_is in
    let asked = c.requires.asked in
    subst (λ (y : StoreData). IsStateOf t y.load.section.voters c.self.inside.session.standing.state) (sym store)
    (subst (λ (y : Standing). IsStateOf t x.store.load.section.voters y.state) (sym standing) (asked_state t r told asked.0 asked.1 x c.args.acts.now asked.2))

pub perform_all-requires-clause-may : goal.perform_all-requires-clause-may
perform_all-requires-clause-may g c =
    let t = c.args.tables.now in
    let r = c.args.roll.now in
    let told = g.M.Machine.told c.args.m.now in
    let x = c.args.self in
    let standing : c.self.inside.session.standing ≡ x.standing = ap (λ (y : StationData). y.standing) c.self.view_is in
    let store : c.self.inside.store ≡ x.store = ap (λ (y : StationData). y.store) c.self.view_is in
    let asked = c.requires.asked in
    subst (λ (y : StoreData). AreDoable t told y c.self.inside.session.standing.state c.args.acts.now) (sym store)
    (subst (λ (y : Standing). AreDoable t told x.store y.state c.args.acts.now) (sym standing) (asked_doable t r told asked.0 asked.1 x c.args.acts.now asked.2))

pub returns-in-Ok-clause-stationed : goal.returns-in-Ok-clause-stationed
returns-in-Ok-clause-stationed g c =
    let t = c.args.tables.now in
    let r = c.args.roll.now in
    let told = g.M.Machine.told c.args.m.now in
    let x = c.args.self in
    let standing : c.self.inside.session.standing ≡ x.standing = ap (λ (y : StationData). y.standing) c.self.view_is in
    let store : c.self.inside.store ≡ x.store = ap (λ (y : StationData). y.store) c.self.view_is in
    let asked = c.requires.asked in
    let end = g.M.Machine.told c.perform_all.new.m in
    let kept =
    subst (λ (y : StoreData). Keeps t told y asked.0.standing.state) (sym store) (asked_kept t r told asked.0 asked.1 x c.args.acts.now asked.2) in
    subst (λ (y : StationData). IsStationed t r end (record { standing = y.standing; digits = y.digits; store = c.in-Ok.store })) (sym c.self.view_is)
    (asked_stationed t r told asked.0 asked.1 x c.args.acts.now asked.2 end c.in-Ok.store (c.in-Ok.ensures.load ∙ ap (λ (y : StoreData). y.load) store)
    (subst (λ (y : Standing). Keeps t end c.in-Ok.store (state_after asked.0.standing.state (session_pieces t (outputs_of y.state c.args.acts.now)))) standing
    (c.in-Ok.ensures.kept asked.0.standing.state kept)))

pub returns-in-Ok-clause-puts : goal.returns-in-Ok-clause-puts
returns-in-Ok-clause-puts g c from event asked =
    let t = c.args.tables.now in
    let r = c.args.roll.now in
    let told = g.M.Machine.told c.args.m.now in
    let x = c.args.self in
    let standing : c.self.inside.session.standing ≡ x.standing = ap (λ (y : StationData). y.standing) c.self.view_is in
    let store : c.self.inside.store ≡ x.store = ap (λ (y : StationData). y.store) c.self.view_is in
    let end = g.M.Machine.told c.perform_all.new.m in
    let kept = subst (λ (y : StoreData). Keeps t told y from.standing.state) (sym store) (asked_kept t r told from event x c.args.acts.now asked) in
    let pieces = ap (λ (y : Standing). session_pieces t (outputs_of y.state c.args.acts.now)) standing ∙ asked_pieces t r told from event x c.args.acts.now asked in
    subst (λ (l : List Piece). HasPut t from.store.load from.standing.state l told end) pieces
    (subst (λ (y : StoreData). HasPut t y.load from.standing.state (session_pieces t (outputs_of c.self.inside.session.standing.state c.args.acts.now)) told end) (store ∙ asked.store)
    (c.in-Ok.ensures.puts from.standing.state kept))

pub returns-in-Err-clause-puts : goal.returns-in-Err-clause-puts
returns-in-Err-clause-puts g c from event asked =
    let t = c.args.tables.now in
    let r = c.args.roll.now in
    let told = g.M.Machine.told c.args.m.now in
    let x = c.args.self in
    let standing : c.self.inside.session.standing ≡ x.standing = ap (λ (y : StationData). y.standing) c.self.view_is in
    let store : c.self.inside.store ≡ x.store = ap (λ (y : StationData). y.store) c.self.view_is in
    let end = g.M.Machine.told c.perform_all.new.m in
    let kept = subst (λ (y : StoreData). Keeps t told y from.standing.state) (sym store) (asked_kept t r told from event x c.args.acts.now asked) in
    let pieces = ap (λ (y : Standing). session_pieces t (outputs_of y.state c.args.acts.now)) standing ∙ asked_pieces t r told from event x c.args.acts.now asked in
    subst (λ (l : List Piece). HasStopped t from.store.load from.standing.state l c.in-Err.port told end) pieces
    (subst (λ (y : StoreData). HasStopped t y.load from.standing.state (session_pieces t (outputs_of c.self.inside.session.standing.state c.args.acts.now)) c.in-Err.port told end) (store ∙ asked.store)
    (c.in-Err.ensures.puts from.standing.state kept))
