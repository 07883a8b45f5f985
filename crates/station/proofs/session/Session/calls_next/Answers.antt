use Rattle.std.proofs.Common.{◌≡◌, List, length, slice_get, option_map, None, sym, ap, subst, ◌∙◌}
use Rattle.vote_kinds.specs.declared.choice.Choice.{Choice}
use Rattle.vote_kinds.specs.Ballot.{ballot_lines, line_of}
use Rattle.image_codec.specs.State.{IsBallot}
use Rattle.station.specs.Session.{SessionData}
use Rattle.station.proofs.Choosing.{first_all}
use Rattle.station.proofs.session.Session.calls_next.Goals as goal

pub ballot-requires-clause-ballot : goal.ballot-requires-clause-ballot
ballot-requires-clause-ballot c =
    let t = c.args.tables.now in
    let lines = ballot_lines t in
    let choices = c.args.self.now.standing.choices in
    let held : c.self.inside.choices.items ≡ choices = ap (λ (x : SessionData). x.standing.choices) c.self.view_is in
    let at : slice_get lines (length choices) ≡ None =
    ap (λ (cs : List Choice). slice_get lines (length cs)) (sym held) ∙ (sym c.line_behind.ensures.line ∙ ap (option_map (λ x. line_of t x.panel)) c.in-None.is) in
    subst (λ (cs : List Choice). IsBallot lines cs) (sym (c.deref.ensures.0 ∙ held)) (first_all lines choices c.requires.choices at)
