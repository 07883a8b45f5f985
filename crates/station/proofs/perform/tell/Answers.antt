use Rattle.std.proofs.Common.{◌∷◌, [], ℕ, List, sym, subst, ◌∙◌}
use Rattle.std.specs.Option.{ForSome}
use Rattle.urna_outside.specs.ShownLines.{HasShown, IsCutOff}
use Rattle.urna_outside.specs.Told.{port_of}
use Rattle.urna_outside.specs.declared.device.Port.{Port}
use Rattle.urna_outside.specs.declared.device.Port.TheVariants.{Display}
use Rattle.image_codec.specs.Encoding.{IsStateOf}
use Rattle.image_codec.specs.State.{State}
use Rattle.state_store.specs.Played.{HasPut, HasStopped, kept_poll}
use Rattle.state_store.specs.Rest.{AreAtRest}
use Rattle.flash_store.specs.Pieces.{telling}
use Rattle.state_store.specs.declared.load.Load.{Load}
use Rattle.flash_store.proofs.Playing.{put_told, stopped_commit, stopped_told}
use Rattle.state_store.proofs.Stored.{stored}
use Rattle.station.specs.Text.{line_text}
use Rattle.station.proofs.perform.tell.Goals as goal

pub returns-in-Err-clause-puts : goal.returns-in-Err-clause-puts
returns-in-Err-clause-puts g c s kept =
    let t = c.args.tables.now in
    let load = c.args.store.load in
    let a = g.M.Machine.told c.args.m.now in
    let b = g.M.Machine.told c.commit.new.m in
    let line = line_text t c.args.line in
    let stopped = stopped_commit (kept_poll t load) s c.state.result.now line c.in-Err.dev a b (c.commit.ensures.ran s kept) (c.commit.ensures.bytes s kept) (c.in-Err.ensures.order s kept) c.in-Err.ensures.fails in
    subst (λ (p : Port). HasStopped t load s (telling c.args.session.now.standing.state line) p a b) (sym c.port_of.ensures)
    (subst (λ (u : State). HasStopped t load s (telling u line) (port_of c.in-Err.dev) a b) c.state.ensures stopped)

pub returns-in-Ok-show_line-clause-puts : goal.returns-in-Ok-show_line-clause-puts
returns-in-Ok-show_line-clause-puts g c s kept =
    let t = c.args.tables.now in
    let load = c.args.store.load in
    let a = g.M.Machine.told c.args.m.now in
    let b = g.M.Machine.told c.commit.new.m in
    let d = g.M.Machine.told c.show_line.new.machine in
    let line = line_text t c.args.line in
    let u = c.state.result.now in
    let state = subst (IsStateOf t load.section.voters) (sym c.state.ensures) c.requires.state in
    let rest = subst (λ (l : Load). ForSome b.flashes (AreAtRest c.args.tables.now l u)) c.in-Ok.ensures.load c.in-Ok.ensures.kept.rest in
    let shown = subst (λ (bytes : List ℕ). HasShown (bytes ∷ []) b d) (c.as_bytes.ensures.bytes ∙ c.text.ensures) c.in-Ok-show_line.ensures in
    subst (λ (v : State). HasPut t load s (telling v line) a d) c.state.ensures
    (put_told (kept_poll t load) s u line a b d (stored t c.args.roll.now load u c.requires.load state) (c.commit.ensures.ran s kept) (c.commit.ensures.bytes s kept) (c.in-Ok.ensures.order s kept) c.in-Ok.ensures.fails rest shown)

pub returns-in-Err-show_line-clause-puts : goal.returns-in-Err-show_line-clause-puts
returns-in-Err-show_line-clause-puts g c s kept =
    let t = c.args.tables.now in
    let load = c.args.store.load in
    let a = g.M.Machine.told c.args.m.now in
    let b = g.M.Machine.told c.commit.new.m in
    let d = g.M.Machine.told c.show_line.new.machine in
    let line = line_text t c.args.line in
    let u = c.state.result.now in
    let state = subst (IsStateOf t load.section.voters) (sym c.state.ensures) c.requires.state in
    let rest = subst (λ (l : Load). ForSome b.flashes (AreAtRest c.args.tables.now l u)) c.in-Ok.ensures.load c.in-Ok.ensures.kept.rest in
    let cut = subst (λ (bytes : List ℕ). IsCutOff (bytes ∷ []) b d) (c.as_bytes.ensures.bytes ∙ c.text.ensures) c.in-Err-show_line.ensures in
    subst (λ (v : State). HasStopped t load s (telling v line) Display a d) c.state.ensures
    (stopped_told (kept_poll t load) s u line a b d (stored t c.args.roll.now load u c.requires.load state) (c.commit.ensures.ran s kept) (c.commit.ensures.bytes s kept) (c.in-Ok.ensures.order s kept) c.in-Ok.ensures.fails rest cut)
