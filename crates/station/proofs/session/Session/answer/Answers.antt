use Rattle.std.proofs.Common.{◌≡◌, List, Bool, sym, ap, subst, ◌∙◌}
use Rattle.turnout.specs.declared.phase.Phase.{Phase}
use Rattle.clerk_term.specs.Reply.{answer_to}
use Rattle.station.specs.Setting.{setting_of, reply_at}
use Rattle.station.specs.Session.{SessionData}
use Rattle.station.specs.Valid.{IsAnswer}
use Rattle.station.proofs.Replies.{answer_of}
use Rattle.station.proofs.session.Session.answer.Goals as goal

pub returns-clause-may : goal.returns-clause-may
returns-clause-may c =
    let titles = c.args.roll.now.titles in
    let v = setting_of c.args.tables.now titles in
    let x = c.args.self.now.standing in
    let inside = c.self.inside in
    let same : c.reply.result ≡ reply_at v x.state x.mode c.args.key =
    c.reply.ensures
    ∙ (ap (λ (p : Phase). answer_to titles p c.turnout.result.now inside.mode c.args.key) c.phase.ensures.phase
    ∙ (ap (λ (came : List Bool). answer_to titles inside.state.phase came inside.mode c.args.key) c.turnout.ensures
    ∙ ap (λ (y : SessionData). reply_at v y.standing.state y.standing.mode c.args.key) c.self.view_is)) in
    subst (IsAnswer v x.state x.choices c.args.key) (sym same) (answer_of v x c.args.key c.requires.roll c.requires.placed)
