use Rattle.std.proofs.Common.{◌∷◌, [], ℕ, List, sym, ap, subst, ◌∙◌}
use Rattle.urna_outside.specs.ShownLines.{HasShown, IsCutOff}
use Rattle.urna_outside.specs.declared.device.Port.TheVariants.{Display}
use Rattle.vote_kinds.specs.declared.choice.Choice.{Choice}
use Rattle.image_codec.specs.State.{State}
use Rattle.state_store.specs.Played.{HasPut, HasStopped, kept_poll}
use Rattle.flash_store.specs.Pieces.{state_after}
use Rattle.state_store.specs.Store.{Keeps}
use Rattle.flash_store.proofs.Playing.{put_shown, stopped_shown}
use Rattle.state_store.proofs.Stored.{stored}
use Rattle.poll_report.specs.Counts.{count_lines}
use Rattle.station.specs.Acts.{output_of}
use Rattle.station.specs.Text.{line_text, output_pieces, title_text}
use Rattle.station.specs.declared.perform.Act.{Act}
use Rattle.station.proofs.Pieces.{keeps_shown}
use Rattle.station.proofs.perform.perform.Goals as goal

pub returns-in-Ok-clause-puts : goal.returns-in-Ok-clause-puts
returns-in-Ok-clause-puts g c s kept =
    let t = c.args.tables.now in
    let load = c.args.store.load in
    let a = g.M.Machine.told c.args.m.now in
    let b = g.M.Machine.told c.show_line.new.machine in
    let shown = subst (λ (bytes : List ℕ). HasShown (bytes ∷ []) a b) (c.as_bytes.ensures.bytes ∙ c.text.ensures) c.in-Ok.ensures in
    subst (λ (x : Act). HasPut t load s (output_pieces t (output_of c.args.session.now.standing.state x)) a b) (sym c.in-Say.is)
    (put_shown (kept_poll t load) s (line_text t c.in-Say.line ∷ []) a b (stored t c.args.roll.now load s c.requires.load kept.state) kept.rest shown)

pub returns-in-Err-clause-puts : goal.returns-in-Err-clause-puts
returns-in-Err-clause-puts g c s kept =
    let t = c.args.tables.now in
    let load = c.args.store.load in
    let a = g.M.Machine.told c.args.m.now in
    let b = g.M.Machine.told c.show_line.new.machine in
    let cut = subst (λ (bytes : List ℕ). IsCutOff (bytes ∷ []) a b) (c.as_bytes.ensures.bytes ∙ c.text.ensures) c.in-Err.ensures in
    subst (λ (x : Act). HasStopped t load s (output_pieces t (output_of c.args.session.now.standing.state x)) Display a b) (sym c.in-Say.is)
    (stopped_shown (kept_poll t load) s (line_text t c.in-Say.line ∷ []) a b (stored t c.args.roll.now load s c.requires.load kept.state) kept.rest cut)

pub returns-in-Ok-show_counts-clause-kept : goal.returns-in-Ok-show_counts-clause-kept
returns-in-Ok-show_counts-clause-kept g c s kept =
    let t = c.args.tables.now in
    let a = g.M.Machine.told c.args.m.now in
    let b = g.M.Machine.told c.show_counts.new.m in
    let u = c.args.session.now.standing.state in
    let shown = subst (λ (bags : List (List Choice)). HasShown (c.text-in-Report.result.now ∷ count_lines t bags) a b) (c.votes.ensures.bags ∙ ap (λ (x : State). x.bags) c.state.ensures) c.in-Ok-show_counts.ensures in
    let titled = subst (λ (title : List ℕ). HasShown (title ∷ count_lines t u.bags) a b) c.text-in-Report.ensures shown in
    subst (λ (x : Act). Keeps t b c.args.store (state_after s (output_pieces t (output_of u x)))) (sym c.in-Report.is)
    (keeps_shown t c.args.roll.now c.args.store s (title_text c.in-Report.title ∷ count_lines t u.bags) a b c.requires.load kept titled)

pub returns-in-Ok-show_counts-clause-puts : goal.returns-in-Ok-show_counts-clause-puts
returns-in-Ok-show_counts-clause-puts g c s kept =
    let t = c.args.tables.now in
    let load = c.args.store.load in
    let a = g.M.Machine.told c.args.m.now in
    let b = g.M.Machine.told c.show_counts.new.m in
    let u = c.args.session.now.standing.state in
    let shown = subst (λ (bags : List (List Choice)). HasShown (c.text-in-Report.result.now ∷ count_lines t bags) a b) (c.votes.ensures.bags ∙ ap (λ (x : State). x.bags) c.state.ensures) c.in-Ok-show_counts.ensures in
    let titled = subst (λ (title : List ℕ). HasShown (title ∷ count_lines t u.bags) a b) c.text-in-Report.ensures shown in
    subst (λ (x : Act). HasPut t load s (output_pieces t (output_of u x)) a b) (sym c.in-Report.is)
    (put_shown (kept_poll t load) s (title_text c.in-Report.title ∷ count_lines t u.bags) a b (stored t c.args.roll.now load s c.requires.load kept.state) kept.rest titled)

pub returns-in-Err-show_counts-clause-puts : goal.returns-in-Err-show_counts-clause-puts
returns-in-Err-show_counts-clause-puts g c s kept =
    let t = c.args.tables.now in
    let load = c.args.store.load in
    let a = g.M.Machine.told c.args.m.now in
    let b = g.M.Machine.told c.show_counts.new.m in
    let u = c.args.session.now.standing.state in
    let cut = subst (λ (bags : List (List Choice)). IsCutOff (c.text-in-Report.result.now ∷ count_lines t bags) a b) (c.votes.ensures.bags ∙ ap (λ (x : State). x.bags) c.state.ensures) c.in-Err-show_counts.ensures in
    let titled = subst (λ (title : List ℕ). IsCutOff (title ∷ count_lines t u.bags) a b) c.text-in-Report.ensures cut in
    subst (λ (x : Act). HasStopped t load s (output_pieces t (output_of u x)) Display a b) (sym c.in-Report.is)
    (stopped_shown (kept_poll t load) s (title_text c.in-Report.title ∷ count_lines t u.bags) a b (stored t c.args.roll.now load s c.requires.load kept.state) kept.rest titled)
