use Rattle.std.proofs.Common.{◌≡◌, ◌-◌, ◌++◌, ℕ, List, length, replicate, nat_eq, false, sym, ap, subst, ◌∙◌}
use Rattle.vote_kinds.specs.declared.choice.Choice.{Choice}
use Rattle.vote_kinds.specs.declared.choice.Choice.TheVariants.{Null}
use Rattle.vote_kinds.specs.Ballot.{ballot_lines}
use Rattle.vote_kinds.proofs.Lookups.{lines_length}
use Rattle.image_codec.specs.State.{IsBallot, filled_up, with_ballot}
use Rattle.station.specs.Setting.{setting_of}
use Rattle.station.specs.Press.{idle_at}
use Rattle.station.specs.Session.{SessionData}
use Rattle.station.proofs.Choosing.{first_filled}
use Rattle.station.proofs.Typing.{came_suspended}
use Rattle.station.proofs.session.Session.suspends.Goals as goal

pub ballot-requires-clause-ballot : goal.ballot-requires-clause-ballot
ballot-requires-clause-ballot c =
    let lines = ballot_lines c.args.tables.now in
    let choices = c.args.self.now.standing.choices in
    let held : c.self.inside.choices.items ≡ choices = ap (λ (x : SessionData). x.standing.choices) c.self.view_is in
    let filled : c.fill_up.new.choices.items ≡ filled_up lines choices =
    c.fill_up.ensures ∙ (ap (λ (cs : List Choice). cs ++ replicate (c.ballot_lines.result - length cs) Null) held
    ∙ ap (λ (n : ℕ). choices ++ replicate (n - length choices) Null) (c.ballot_lines.ensures.count ∙ sym (lines_length c.args.tables.now))) in
    subst (λ (cs : List Choice). IsBallot lines cs) (sym (c.deref.ensures.0 ∙ filled)) (first_filled lines choices c.requires.choices)

pub returns-clause-standing : goal.returns-clause-standing
returns-clause-standing c =
    let t = c.args.tables.now in
    let v = setting_of t c.args.roll.now.titles in
    let lines = ballot_lines t in
    let x = c.args.self.now.standing in
    let place = c.args.place in
    let held : c.self.inside.choices.items ≡ x.choices = ap (λ (y : SessionData). y.standing.choices) c.self.view_is in
    let filled : c.fill_up.new.choices.items ≡ filled_up lines x.choices =
    c.fill_up.ensures ∙ (ap (λ (cs : List Choice). cs ++ replicate (c.ballot_lines.result - length cs) Null) held
    ∙ ap (λ (n : ℕ). x.choices ++ replicate (n - length x.choices) Null) (c.ballot_lines.ensures.count ∙ sym (lines_length t))) in
    let some : nat_eq (length x.choices) 0 ≡ false = ap (λ (cs : List Choice). nat_eq (length cs) 0) (sym held) ∙ sym c.if-is_empty.ensures in
    c.clear-2.ensures.standing ∙ ap idle_at (c.ballot.ensures
    ∙ (ap (with_ballot lines c.self.inside.state place) (c.deref.ensures.0 ∙ filled)
    ∙ (ap (λ (y : SessionData). with_ballot lines y.standing.state place (filled_up lines x.choices)) c.self.view_is
    ∙ sym (came_suspended v x.state place x.choices some))))
