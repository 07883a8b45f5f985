use Rattle.std.proofs.Common.{◌≡◌, ℕ, ◌∷◌, [], ◌++◌, List, length, map, slice_get, option_map, IfSome, Option, Some, sym, ap, subst, ◌∙◌}
use Rattle.vote_kinds.specs.declared.choice.Choice.{Choice}
use Rattle.vote_kinds.specs.declared.choice.Field.{Field}
use Rattle.vote_kinds.specs.Ballot.{ballot_lines, line_of}
use Rattle.voter_term.specs.Panel.{next_field, next_shown}
use Rattle.clerk_term.specs.declared.replies.Mode.{Mode}
use Rattle.clerk_term.specs.declared.replies.Mode.TheVariants.{Voting}
use Rattle.image_codec.specs.State.{AreFirst, State}
use Rattle.station.specs.Setting.{setting_of}
use Rattle.station.specs.Output.{earlier_for, line_at, screen}
use Rattle.station.specs.Acts.{act_of}
use Rattle.station.specs.Press.{Pressed, Standing, typed, calls_next}
use Rattle.station.specs.Session.{SessionData}
use Rattle.station.specs.Terminal.{digits_in, field_in}
use Rattle.station.specs.declared.visit.StandingLine.{StandingLine}
use Rattle.station.specs.Valid.{IsPlaced}
use Rattle.station.proofs.Choosing.{first_more, voted_is}
use Rattle.station.proofs.Typing.{nothing_stays, typed_nothing, typed_screen, typed_voted}
use Rattle.station.proofs.session.Session.typed.Goals as goal

abbrev stood : State → Mode → List Choice → Field → Standing
stood s m choices f = record { state = s; mode = m; choices = choices; field = f }

pub calls_next-requires-clause-choices : goal.calls_next-requires-clause-choices
calls_next-requires-clause-choices c =
    let t = c.args.tables.now in
    let v = setting_of t c.args.roll.now.titles in
    let x = c.args.self.now.standing in
    let l = line_of t c.in-Some.line.panel in
    let held : c.self.inside.choices.items ≡ x.choices = ap (λ (y : SessionData). y.standing.choices) c.self.view_is in
    let voting : x.mode ≡ Voting c.in-Voting.place = sym (ap (λ (y : SessionData). y.standing.mode) c.self.view_is) ∙ c.in-Voting.is in
    let placed : IsPlaced v x (Voting c.in-Voting.place) = subst (λ (m : Mode). IsPlaced v x m) voting c.requires.stands.placed in
    let at : line_at v x.choices ≡ Some l =
    ap (λ (cs : List Choice). slice_get (ballot_lines t) (length cs)) (sym held) ∙ (sym c.line_behind.ensures.line ∙ ap (option_map (λ x. line_of t x.panel)) c.in-Some.is) in
    subst (AreFirst (ballot_lines t)) (sym (c.push.ensures.items ∙ ap (λ (cs : List Choice). cs ++ c.in-Voted.choice ∷ []) held))
    (first_more (ballot_lines t) x.choices l c.in-Voted.choice placed.1 at
    (voted_is l c.in-Some.line.before (field_in c.self.inside.panel) c.args.key c.in-Voted.choice (sym c.key.ensures.tells ∙ c.in-Voted.is)))

pub returns-in-Screen-clause-acts : goal.returns-in-Screen-clause-acts
returns-in-Screen-clause-acts c =
    let t = c.args.tables.now in
    let v = setting_of t c.args.roll.now.titles in
    let x = c.args.self.now.standing in
    let l = line_of t c.in-Some.line.panel in
    let inside = c.self.inside in
    let at : line_at v inside.choices.items ≡ Some l =
    sym c.line_behind.ensures.line ∙ ap (option_map (λ x. line_of t x.panel)) c.in-Some.is in
    let held = ap (λ (y : SessionData). y.standing) c.self.view_is in
    let fits : l.digits ≡ digits_in inside.panel =
    c.requires.panel.fits c.in-Voting.place l (sym (ap (λ (y : Standing). y.mode) held) ∙ c.in-Voting.is) (ap (λ (y : Standing). line_at v y.choices) (sym held) ∙ at)
    ∙ sym (ap (λ (y : SessionData). y.digits) c.self.view_is) in
    let before : c.in-Some.line.before ≡ earlier_for v inside.choices.items l =
    subst (λ (o : Option StandingLine). IfSome o (λ x. x.before ≡ earlier_for v inside.choices.items (line_of t x.panel))) c.in-Some.is (c.line_behind.ensures.before c.args.roll.now.titles) in
    let is = typed_screen v inside.state c.in-Voting.place inside.choices.items (field_in inside.panel) c.args.key l at
    (ap (λ (e : Option Choice). next_shown l e (field_in inside.panel) c.args.key) (sym before) ∙ (sym c.key.ensures.tells ∙ c.in-Screen.is)) in
    c.one.ensures
    ∙ (ap (λ (e : Option Choice). act_of (screen l e c.field.result) ∷ []) before
    ∙ ap (λ (f : Field). act_of (screen l (earlier_for v inside.choices.items l) f) ∷ []) (c.field.ensures ∙ (c.key.ensures.next ∙ ap (λ (n : ℕ). next_field n (field_in inside.panel) c.args.key) (sym fits)))
    ∙ (sym (ap (λ (p : Pressed). map act_of p.out) is)
    ∙ (ap (λ (m : Mode). map act_of (typed v inside.state m inside.choices.items (field_in inside.panel) c.args.key).out) (sym c.in-Voting.is)
    ∙ ap (λ (y : SessionData). map act_of (typed v y.standing.state y.standing.mode y.standing.choices y.standing.field c.args.key).out) c.self.view_is)))

pub returns-in-Voted-clause-standing : goal.returns-in-Voted-clause-standing
returns-in-Voted-clause-standing c =
    let t = c.args.tables.now in
    let v = setting_of t c.args.roll.now.titles in
    let l = line_of t c.in-Some.line.panel in
    let inside = c.self.inside in
    let at : line_at v inside.choices.items ≡ Some l =
    sym c.line_behind.ensures.line ∙ ap (option_map (λ x. line_of t x.panel)) c.in-Some.is in
    let before : c.in-Some.line.before ≡ earlier_for v inside.choices.items l =
    subst (λ (o : Option StandingLine). IfSome o (λ x. x.before ≡ earlier_for v inside.choices.items (line_of t x.panel))) c.in-Some.is (c.line_behind.ensures.before c.args.roll.now.titles) in
    let is = typed_voted v inside.state c.in-Voting.place inside.choices.items (field_in inside.panel) c.args.key l c.in-Voted.choice at
    (ap (λ (e : Option Choice). next_shown l e (field_in inside.panel) c.args.key) (sym before) ∙ (sym c.key.ensures.tells ∙ c.in-Voted.is)) in
    c.calls_next.ensures.standing
    ∙ (ap (λ (cs : List Choice). (calls_next v inside.state c.in-Voting.place cs).standing) c.push.ensures.items
    ∙ (sym (ap (λ (p : Pressed). p.standing) is)
    ∙ (ap (λ (m : Mode). (typed v inside.state m inside.choices.items (field_in inside.panel) c.args.key).standing) (sym c.in-Voting.is)
    ∙ ap (λ (y : SessionData). (typed v y.standing.state y.standing.mode y.standing.choices y.standing.field c.args.key).standing) c.self.view_is)))

pub returns-in-Voted-clause-acts : goal.returns-in-Voted-clause-acts
returns-in-Voted-clause-acts c =
    let t = c.args.tables.now in
    let v = setting_of t c.args.roll.now.titles in
    let l = line_of t c.in-Some.line.panel in
    let inside = c.self.inside in
    let at : line_at v inside.choices.items ≡ Some l =
    sym c.line_behind.ensures.line ∙ ap (option_map (λ x. line_of t x.panel)) c.in-Some.is in
    let before : c.in-Some.line.before ≡ earlier_for v inside.choices.items l =
    subst (λ (o : Option StandingLine). IfSome o (λ x. x.before ≡ earlier_for v inside.choices.items (line_of t x.panel))) c.in-Some.is (c.line_behind.ensures.before c.args.roll.now.titles) in
    let is = typed_voted v inside.state c.in-Voting.place inside.choices.items (field_in inside.panel) c.args.key l c.in-Voted.choice at
    (ap (λ (e : Option Choice). next_shown l e (field_in inside.panel) c.args.key) (sym before) ∙ (sym c.key.ensures.tells ∙ c.in-Voted.is)) in
    c.one-in-Voted.ensures ∙ (c.calls_next.ensures.act
    ∙ (ap (λ (cs : List Choice). map act_of (calls_next v inside.state c.in-Voting.place cs).out) c.push.ensures.items
    ∙ (sym (ap (λ (p : Pressed). map act_of p.out) is)
    ∙ (ap (λ (m : Mode). map act_of (typed v inside.state m inside.choices.items (field_in inside.panel) c.args.key).out) (sym c.in-Voting.is)
    ∙ ap (λ (y : SessionData). map act_of (typed v y.standing.state y.standing.mode y.standing.choices y.standing.field c.args.key).out) c.self.view_is))))

pub returns-in-Nothing-clause-standing : goal.returns-in-Nothing-clause-standing
returns-in-Nothing-clause-standing c =
    let t = c.args.tables.now in
    let v = setting_of t c.args.roll.now.titles in
    let l = line_of t c.in-Some.line.panel in
    let inside = c.self.inside in
    let at : line_at v inside.choices.items ≡ Some l =
    sym c.line_behind.ensures.line ∙ ap (option_map (λ x. line_of t x.panel)) c.in-Some.is in
    let held = ap (λ (y : SessionData). y.standing) c.self.view_is in
    let fits : l.digits ≡ digits_in inside.panel =
    c.requires.panel.fits c.in-Voting.place l (sym (ap (λ (y : Standing). y.mode) held) ∙ c.in-Voting.is) (ap (λ (y : Standing). line_at v y.choices) (sym held) ∙ at)
    ∙ sym (ap (λ (y : SessionData). y.digits) c.self.view_is) in
    let shows = sym c.key.ensures.tells ∙ c.in-Nothing.is in
    let before : c.in-Some.line.before ≡ earlier_for v inside.choices.items l =
    subst (λ (o : Option StandingLine). IfSome o (λ x. x.before ≡ earlier_for v inside.choices.items (line_of t x.panel))) c.in-Some.is (c.line_behind.ensures.before c.args.roll.now.titles) in
    let is = typed_nothing v inside.state c.in-Voting.place inside.choices.items (field_in inside.panel) c.args.key l at
    (ap (λ (e : Option Choice). next_shown l e (field_in inside.panel) c.args.key) (sym before) ∙ shows) in
    let field : field_in c.key.new.self ≡ field_in inside.panel =
    c.key.ensures.next ∙ (ap (λ (n : ℕ). next_field n (field_in inside.panel) c.args.key) (sym fits) ∙ nothing_stays l c.in-Some.line.before (field_in inside.panel) c.args.key shows) in
    ap (stood inside.state inside.mode inside.choices.items) field
    ∙ (ap (λ (m : Mode). stood inside.state m inside.choices.items (field_in inside.panel)) c.in-Voting.is
    ∙ (sym (ap (λ (p : Pressed). p.standing) is)
    ∙ (ap (λ (m : Mode). (typed v inside.state m inside.choices.items (field_in inside.panel) c.args.key).standing) (sym c.in-Voting.is)
    ∙ ap (λ (y : SessionData). (typed v y.standing.state y.standing.mode y.standing.choices y.standing.field c.args.key).standing) c.self.view_is)))

pub returns-in-Screen-clause-standing : goal.returns-in-Screen-clause-standing
returns-in-Screen-clause-standing c =
    let t = c.args.tables.now in
    let v = setting_of t c.args.roll.now.titles in
    let l = line_of t c.in-Some.line.panel in
    let inside = c.self.inside in
    let at : line_at v inside.choices.items ≡ Some l =
    sym c.line_behind.ensures.line ∙ ap (option_map (λ x. line_of t x.panel)) c.in-Some.is in
    let held = ap (λ (y : SessionData). y.standing) c.self.view_is in
    let fits : l.digits ≡ digits_in inside.panel =
    c.requires.panel.fits c.in-Voting.place l (sym (ap (λ (y : Standing). y.mode) held) ∙ c.in-Voting.is) (ap (λ (y : Standing). line_at v y.choices) (sym held) ∙ at)
    ∙ sym (ap (λ (y : SessionData). y.digits) c.self.view_is) in
    let before : c.in-Some.line.before ≡ earlier_for v inside.choices.items l =
    subst (λ (o : Option StandingLine). IfSome o (λ x. x.before ≡ earlier_for v inside.choices.items (line_of t x.panel))) c.in-Some.is (c.line_behind.ensures.before c.args.roll.now.titles) in
    let is = typed_screen v inside.state c.in-Voting.place inside.choices.items (field_in inside.panel) c.args.key l at
    (ap (λ (e : Option Choice). next_shown l e (field_in inside.panel) c.args.key) (sym before) ∙ (sym c.key.ensures.tells ∙ c.in-Screen.is)) in
    ap (stood inside.state inside.mode inside.choices.items) (c.key.ensures.next ∙ ap (λ (n : ℕ). next_field n (field_in inside.panel) c.args.key) (sym fits))
    ∙ (ap (λ (m : Mode). stood inside.state m inside.choices.items (next_field l.digits (field_in inside.panel) c.args.key)) c.in-Voting.is
    ∙ (sym (ap (λ (p : Pressed). p.standing) is)
    ∙ (ap (λ (m : Mode). (typed v inside.state m inside.choices.items (field_in inside.panel) c.args.key).standing) (sym c.in-Voting.is)
    ∙ ap (λ (y : SessionData). (typed v y.standing.state y.standing.mode y.standing.choices y.standing.field c.args.key).standing) c.self.view_is)))
