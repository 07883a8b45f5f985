-- The lines of a press can be printed
use Rattle.std.proofs.Common.{◌≡◌, ◌<◌, ◌^◌, ℕ, List, [], ◌∷◌, ◌++◌, map, length, slice_get, lit<, Option, Some, None, sym, subst, arith}
use Rattle.std.specs.List.{AllByRecursion}
use Rattle.urna_base.proofs.MomentLaws.{is_moment-below}
use Rattle.key_script.specs.declared.keys.Key.{Key}
use Rattle.key_script.specs.declared.keys.Event.{Event}
use Rattle.key_script.specs.declared.keys.Event.TheVariants.{Clerk, Voter}
use Rattle.key_script.specs.declared.keys.ClerkKey.{ClerkKey}
use Rattle.key_script.specs.declared.keys.ClerkKey.TheVariants as clerk
use Rattle.key_script.specs.Event.{IsKey, IsClerkKey, IsEvent}
use Rattle.election_tables.specs.TablesData.{TablesData, IsTables}
use Rattle.vote_kinds.specs.declared.choice.Choice.{Choice}
use Rattle.vote_kinds.specs.declared.choice.Field.{Field}
use Rattle.vote_kinds.specs.Ballot.{BallotLine, IsField, line_of}
use Rattle.vote_kinds.proofs.Lookups.{line_digits, line_has_panel}
use Rattle.voter_term.specs.declared.panel.Shown.{Shown}
use Rattle.voter_term.specs.declared.panel.Shown.TheVariants as shown
use Rattle.voter_term.specs.Panel.{next_field, next_shown}
use Rattle.voter_term.proofs.FieldFits.{next_field-fits}
use Rattle.clerk_term.specs.declared.replies.Mode.{Mode}
use Rattle.clerk_term.specs.declared.replies.Mode.TheVariants as mode
use Rattle.clerk_term.specs.declared.replies.ClerkAnswer.{ClerkAnswer}
use Rattle.clerk_term.specs.declared.replies.ClerkAnswer.TheVariants as answer
use Rattle.image_codec.specs.State.{State}
use Rattle.station.specs.Setting.{Setting, IsSetting, setting_of, reply_at}
use Rattle.station.specs.Output.{Says, line_at, earlier_for}
use Rattle.station.specs.Run.{suspension}
use Rattle.station.specs.declared.line.Line.TheVariants as line
use Rattle.station.specs.Press.{Standing, press, typed, on_line, after_key, call, answered, title_of}
use Rattle.station.specs.Acts.{IsAct, act_of}
use Rattle.station.specs.Valid.{IsStanding, IsPlaced, IsAnswer}
use Rattle.station.specs.Text.{IsLine}
use Rattle.station.proofs.Replies.{answer_of}

-- each line of the ballot is one of a panel of the tables
abbrev pub ArePanels : TablesData → Setting → Type 0
ArePanels t v = (n : ℕ) (l : BallotLine) → slice_get v.lines n ≡ Some l → (l.panel < length t.panels) × (line_of t l.panel ≡ l)

pub tables_setting : (t : TablesData) (titles : List ℕ) → IsTables t → IsSetting (setting_of t titles)
tables_setting t titles h n l at = omega (arith, (line_digits t h n l at).0)

pub tables_panels : (t : TablesData) (titles : List ℕ) → ArePanels t (setting_of t titles)
tables_panels t titles n l at = let has = line_has_panel t n l at in (has.within, has.same)

screen_is : (t : TablesData) (l : BallotLine) (earlier : Option Choice) (f : Field) → (l.panel < length t.panels) × (line_of t l.panel ≡ l) → IsField l.digits f → IsLine t (line.Screen l.panel earlier f)
screen_is t l earlier f in_tables is = (in_tables.0, subst (λ (m : BallotLine). IsField m.digits f) (sym in_tables.1) is)

call_acts : (t : TablesData) (v : Setting) (s : State) (place : ℕ) (choices : List Choice) (o : Option BallotLine) → AllByRecursion (IsAct t) (map act_of (call v s place choices o).out)
call_acts t v s place choices (Some l) = (tt, tt)
call_acts t v s place choices None = (tt, tt)

after_key_acts : (t : TablesData) (v : Setting) (s : State) (place : ℕ) (choices : List Choice) (f : Field) (l : BallotLine) (k : Key) (r : Shown) → IsSetting v → ArePanels t v → IsKey k
    → line_at v choices ≡ Some l → IsField l.digits f → AllByRecursion (IsAct t) (map act_of (after_key v s place choices f l k r).out)
after_key_acts t v s place choices f l k shown.Nothing setting panels valid at is = tt
after_key_acts t v s place choices f l k shown.Screen setting panels valid at is =
    (screen_is t l (earlier_for v choices l) (next_field l.digits f k) (panels (length choices) l at) (next_field-fits l.digits f k (setting (length choices) l at) valid is), tt)
after_key_acts t v s place choices f l k (shown.Voted c) setting panels valid at is = call_acts t v s place (choices ++ c ∷ []) (line_at v (choices ++ c ∷ []))

on_line_acts : (t : TablesData) (v : Setting) (s : State) (place : ℕ) (choices : List Choice) (f : Field) (k : Key) (l : BallotLine) (o : Option BallotLine) → IsSetting v → ArePanels t v → IsKey k
    → o ≡ Some l → line_at v choices ≡ Some l → IsField l.digits f → AllByRecursion (IsAct t) (map act_of (on_line v s place choices f k o).out)
on_line_acts t v s place choices f k l None setting panels valid e at is = tt
on_line_acts t v s place choices f k l (Some m) setting panels valid e at is =
    let same : l ≡ m = cc in
    subst (λ (n : BallotLine). AllByRecursion (IsAct t) (map act_of (after_key v s place choices f n k (next_shown n (earlier_for v choices n) f k)).out)) same
    (after_key_acts t v s place choices f l k (next_shown l (earlier_for v choices l) f k) setting panels valid at is)

typed_acts : (t : TablesData) (v : Setting) (s : State) (m : Mode) (choices : List Choice) (f : Field) (k : Key) → IsSetting v → ArePanels t v → IsKey k
    → IsPlaced v (record { state = s; mode = m; choices = choices; field = f }) m → AllByRecursion (IsAct t) (map act_of (typed v s m choices f k).out)
typed_acts t v s mode.Idle choices f k setting panels valid placed = tt
typed_acts t v s (mode.Identified place) choices f k setting panels valid placed = tt
typed_acts t v s (mode.Voting place) choices f k setting panels valid placed =
    on_line_acts t v s place choices f k placed.2.0 (line_at v choices) setting panels valid placed.2.1 placed.2.1 placed.2.2

title_below : (k : ClerkKey) → IsClerkKey k → title_of k < 10 ^ 12
title_below (clerk.Abre m) h = lit< tt
title_below (clerk.Titulo t) h = h
title_below clerk.Libera h = lit< tt
title_below clerk.Cancela h = lit< tt
title_below clerk.Suspende h = lit< tt
title_below (clerk.Encerra m) h = lit< tt

opened_below : (k : ClerkKey) (m : ℕ) → IsClerkKey k → k ≡ clerk.Abre m → m < 10 ^ 14
opened_below k m h e = let valid : IsClerkKey (clerk.Abre m) = subst IsClerkKey e h in is_moment-below m valid

closed_below : (k : ClerkKey) (m : ℕ) → IsClerkKey k → k ≡ clerk.Encerra m → m < 10 ^ 14
closed_below k m h e = let valid : IsClerkKey (clerk.Encerra m) = subst IsClerkKey e h in is_moment-below m valid

suspension_acts : (t : TablesData) (v : Setting) (s : State) (place : ℕ) (choices : List Choice) → IsAct t (act_of (suspension v s place choices))
suspension_acts t v s place [] = tt
suspension_acts t v s place (c ∷ choices) = tt

released_acts : (t : TablesData) (v : Setting) (s : State) (place : ℕ) (o : Option BallotLine) → AllByRecursion (IsAct t) (map act_of (Says line.Released ∷ (call v s place [] o).out))
released_acts t v s place (Some l) = (tt, (tt, tt))
released_acts t v s place None = (tt, (tt, tt))

answered_acts : (t : TablesData) (v : Setting) (x : Standing) (k : ClerkKey) (a : ClerkAnswer) → IsClerkKey k → IsAnswer v x.state x.choices k a → AllByRecursion (IsAct t) (map act_of (answered v x k a).out)
answered_acts t v x k (answer.Refused n) valid may = (tt, tt)
answered_acts t v x k (answer.Opens m) valid may = (tt, (opened_below k m valid may.1, tt))
answered_acts t v x k (answer.Identifies place) valid may = (title_below k valid, tt)
answered_acts t v x k (answer.Releases place) valid may = released_acts t v x.state place (line_at v [])
answered_acts t v x k (answer.Cancels place) valid may = (tt, tt)
answered_acts t v x k (answer.Suspends place) valid may = (suspension_acts t v x.state place x.choices, tt)
answered_acts t v x k (answer.Seals m) valid may = (closed_below k m valid may.0, (tt, tt))

pub press_acts : (t : TablesData) (v : Setting) (x : Standing) (e : Event) → IsSetting v → ArePanels t v → IsEvent e → IsStanding v x → AllByRecursion (IsAct t) (map act_of (press v x e).out)
press_acts t v x (Voter k) setting panels valid h = typed_acts t v x.state x.mode x.choices x.field k setting panels valid h.placed
press_acts t v x (Clerk k) setting panels valid h = answered_acts t v x k (reply_at v x.state x.mode k) valid (answer_of v x k h.roll h.placed)
