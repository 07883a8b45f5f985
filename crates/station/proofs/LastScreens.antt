-- The last screen on each line of the ballot
use Rattle.std.proofs.Common.{◌≡◌, ◌+◌, ◌-◌, ℕ, zero, suc, Bool, true, false, cond, List, [], ◌∷◌, ◌++◌, Option, Some, None, length, map, filter, flat_map, replicate, slice_get, ◌⊎◌, inl, inr, refl, sym, ap, subst, ◌∙◌, arith}
use Rattle.std.proofs.Math.Seq.{take-append_seam}
use Rattle.std.proofs.lemmas.Grind.{flat_map-append}
use Rattle.std.proofs.lemmas.List.{append-nil, length-append, map-append, take-append-le}
use Rattle.std.proofs.lemmas.List.Elements.{filter-append}
use Rattle.std.proofs.lemmas.Option.{slice_get_cases, slice_get_within}
use Rattle.key_script.specs.declared.keys.Key.{Key}
use Rattle.key_script.specs.declared.keys.Key.TheVariants as key
use Rattle.key_script.specs.declared.keys.Event.{Event}
use Rattle.key_script.specs.declared.keys.Event.TheVariants.{Clerk, Voter}
use Rattle.key_script.specs.Event.{keys_of}
use Rattle.vote_kinds.specs.declared.choice.Choice.{Choice}
use Rattle.vote_kinds.specs.declared.choice.Choice.TheVariants.{Null}
use Rattle.vote_kinds.specs.declared.choice.Field.{Field}
use Rattle.vote_kinds.specs.Ballot.{BallotLine, is_confirmable, choice_of}
use Rattle.voter_term.specs.declared.panel.Shown.TheVariants as shown
use Rattle.voter_term.specs.Field.{field_after, same_field, screen_in, screens_behind, shown_by}
use Rattle.voter_term.proofs.Screens.{last_screen}
use Rattle.clerk_term.specs.declared.replies.ClerkAnswer.{ClerkAnswer}
use Rattle.clerk_term.specs.declared.replies.ClerkAnswer.TheVariants as answer
use Rattle.clerk_term.specs.declared.replies.Mode.TheVariants as mode
use Rattle.image_codec.specs.CodecLaws.{Ballot}
use Rattle.image_codec.specs.State.{State, filled_up}
use Rattle.station.specs.Cast.{ballot_of, suspended_ballot}
use Rattle.station.specs.Output.{Output, call_of, earlier_for, echo, line_at, refusal, screen}
use Rattle.station.specs.Run.{IsOpen, Visit, Votes, line_outputs, open_at, start, suspended, suspension, voted, whole}
use Rattle.station.specs.Screens.{AreOfLastScreens, IsOfLastScreen, confirmed_in, is_call, is_screen, lines_told, screens_by_call, screens_of, screens_until_call}
use Rattle.station.specs.Setting.{IsSetting, Setting, reply_at}
use Rattle.station.specs.declared.line.Line.{Line}
use Rattle.station.specs.declared.line.Line.TheVariants as line

abbrev shown_lines : List Output → List Line
shown_lines out = flat_map lines_told out

-- Lists of lines

abbrev NoCalls : List Line → Type 0
NoCalls [] = Unit {0}
NoCalls (l ∷ lines) = (is_call l ≡ false) × NoCalls lines

no_calls-append : (a b : List Line) → NoCalls a → NoCalls b → NoCalls (a ++ b)
no_calls-append [] b h g = g
no_calls-append (l ∷ a) b h g = (h.0, no_calls-append a b h.1 g)

until_all : (a : List Line) → NoCalls a → screens_until_call a ≡ filter is_screen a
until_all [] h = refl
until_all (l ∷ a) h = rw h.0 (ap (λ (x : List Line). cond (is_screen l) (l ∷ x) x) (until_all a h.1))

by_none : (a : List Line) → NoCalls a → screens_by_call a ≡ []
by_none [] h = refl
by_none (l ∷ a) h = rw h.0 (by_none a h.1)

until_stops : (a b : List Line) (c : Line) → is_call c ≡ true → screens_until_call (a ++ c ∷ b) ≡ screens_until_call a
until_stops [] b c h = rw h refl
until_stops (l ∷ a) b c h = ap (λ (x : List Line). cond (is_call l) [] (cond (is_screen l) (l ∷ x) x)) (until_stops a b c h)

by_piece : (p : Bool) (u w : List Line) (x y z : List (List Line)) → u ≡ w → x ≡ y ++ z → cond p (u ∷ x) x ≡ cond p (w ∷ y) y ++ z
by_piece true u w x y z e h = ap (λ (l : List Line). l ∷ x) e ∙ ap (λ (l : List (List Line)). w ∷ l) h
by_piece false u w x y z e h = h

-- a call begins the screens of the next line
by_called : (a b : List Line) (c : Line) → is_call c ≡ true → screens_by_call (a ++ c ∷ b) ≡ screens_by_call a ++ screens_until_call b ∷ screens_by_call b
by_called [] b c h = rw h refl
by_called (l ∷ a) b c h =
    by_piece (is_call l) (screens_until_call (a ++ c ∷ b)) (screens_until_call a) (screens_by_call (a ++ c ∷ b)) (screens_by_call a) (screens_until_call b ∷ screens_by_call b)
    (until_stops a b c h) (by_called a b c h)

until_more : (a : List Line) (c : Line) → is_call c ≡ false → is_screen c ≡ false → screens_until_call (a ++ c ∷ []) ≡ screens_until_call a
until_more [] c h g = rw (h, g) refl
until_more (l ∷ a) c h g = ap (λ (x : List Line). cond (is_call l) [] (cond (is_screen l) (l ∷ x) x)) (until_more a c h g)

-- another line at the end changes nothing
by_more : (a : List Line) (c : Line) → is_call c ≡ false → is_screen c ≡ false → screens_by_call (a ++ c ∷ []) ≡ screens_by_call a
by_more [] c h g = rw h refl
by_more (l ∷ a) c h g =
    ap (λ (x : List (List Line)). cond (is_call l) (screens_until_call (a ++ c ∷ []) ∷ x) x) (by_more a c h g)
    ∙ ap (λ (u : List Line). cond (is_call l) (u ∷ screens_by_call a) (screens_by_call a)) (until_more a c h g)

-- Elements by number

get_front : {A : Type 0} (xs ys : List A) (n : ℕ) (x : A) → slice_get xs n ≡ Some x → slice_get (xs ++ ys) n ≡ Some x
get_front [] ys n x h = absurd (cc)
get_front (y ∷ xs) ys zero x h = h
get_front (y ∷ xs) ys (suc n) x h = get_front xs ys n x h

get_last : {A : Type 0} (xs : List A) (x : A) → slice_get (xs ++ x ∷ []) (length xs) ≡ Some x
get_last [] x = refl
get_last (y ∷ xs) x = get_last xs x

pub get_more : {A : Type 0} (xs : List A) (x : A) (n : ℕ) (y : A) → slice_get (xs ++ x ∷ []) n ≡ Some y → (slice_get xs n ≡ Some y) ⊎ ((n ≡ length xs) × (y ≡ x))
get_more [] x zero y h = inr (refl, cc)
get_more [] x (suc n) y h = absurd (cc)
get_more (z ∷ xs) x zero y h = inl h
get_more (z ∷ xs) x (suc n) y h = elim (get_more xs x n y h) [
  | inl p ↦ inl p
  | inr p ↦ inr (ap suc p.0, p.1)
]

-- What is put out on a line of the ballot

-- nothing is called, and the screens are those of the fields
abbrev ShowsFields : ℕ → Option Choice → List Output → List Field → Type 0
ShowsFields panel earlier out fields = NoCalls (shown_lines out) × (filter is_screen (shown_lines out) ≡ map (line.Screen panel earlier) fields)

shows-append : (panel : ℕ) (earlier : Option Choice) (a b : List Output) (f g : List Field) → ShowsFields panel earlier a f → ShowsFields panel earlier b g → ShowsFields panel earlier (a ++ b) (f ++ g)
shows-append panel earlier a b f g h k =
    let parts : shown_lines (a ++ b) ≡ shown_lines a ++ shown_lines b = flat_map-append lines_told a b in (
      subst NoCalls (sym parts) (no_calls-append (shown_lines a) (shown_lines b) h.0 k.0),
      ap (filter is_screen) parts ∙ filter-append is_screen (shown_lines a) (shown_lines b)
          ∙ (ap (λ (x : List Line). x ++ filter is_screen (shown_lines b)) h.1 ∙ ap (λ (x : List Line). map (line.Screen panel earlier) f ++ x) k.1
          ∙ sym (map-append (line.Screen panel earlier) f g)),
    )

shows_refusal : (panel : ℕ) (earlier : Option Choice) (a : ClerkAnswer) → ShowsFields panel earlier (refusal a) []
shows_refusal panel earlier (answer.Refused n) = ((refl, tt), refl)
shows_refusal panel earlier (answer.Opens m) = (tt, refl)
shows_refusal panel earlier (answer.Identifies p) = (tt, refl)
shows_refusal panel earlier (answer.Releases p) = (tt, refl)
shows_refusal panel earlier (answer.Cancels p) = (tt, refl)
shows_refusal panel earlier (answer.Suspends p) = (tt, refl)
shows_refusal panel earlier (answer.Seals m) = (tt, refl)

shows_change : (l : BallotLine) (earlier : Option Choice) (f : Field) (same : Bool) → ShowsFields l.panel earlier (cond same [] (screen l earlier f ∷ [])) (screen_in (cond same shown.Nothing shown.Screen) f)
shows_change l earlier f true = (tt, refl)
shows_change l earlier f false = ((refl, tt), refl)

shows_end : (panel : ℕ) (earlier : Option Choice) (f : Field) (c : Choice) (taken : Bool) → ShowsFields panel earlier [] (screen_in (cond taken (shown.Voted c) shown.Nothing) f)
shows_end panel earlier f c true = (tt, refl)
shows_end panel earlier f c false = (tt, refl)

module _ (l : BallotLine) (earlier : Option Choice) where
  abbrev behind : List Key → List Key → List Field
  behind w keys = screens_behind l earlier w keys

  shows_key : (w : List Key) (k : Key) → ShowsFields l.panel earlier (echo l earlier w k) (screen_in (shown_by l earlier w k) (field_after l.digits (w ++ k ∷ [])))
  shows_key w key.Confirm = shows_end l.panel earlier (field_after l.digits (w ++ key.Confirm ∷ [])) (choice_of l earlier (field_after l.digits w)) (is_confirmable l (field_after l.digits w))
  shows_key w key.Blank = shows_change l earlier (field_after l.digits (w ++ key.Blank ∷ [])) (same_field (field_after l.digits (w ++ key.Blank ∷ [])) (field_after l.digits w))
  shows_key w key.Correct = shows_change l earlier (field_after l.digits (w ++ key.Correct ∷ [])) (same_field (field_after l.digits (w ++ key.Correct ∷ [])) (field_after l.digits w))
  shows_key w (key.Digit d) = shows_change l earlier (field_after l.digits (w ++ key.Digit d ∷ [])) (same_field (field_after l.digits (w ++ key.Digit d ∷ [])) (field_after l.digits w))

  shows_line : (v : Setting) (s : State) (place : ℕ) (w : List Key) (es : List Event) → ShowsFields l.panel earlier (line_outputs v s place l earlier w es) (behind w (keys_of es))
  shows_line v s place w [] = (tt, refl)
  shows_line v s place w (Clerk c ∷ es) =
      shows-append l.panel earlier (refusal (reply_at v s (mode.Voting place) c)) (line_outputs v s place l earlier w es) [] (behind w (keys_of es))
      (shows_refusal l.panel earlier (reply_at v s (mode.Voting place) c)) (shows_line v s place w es)
  shows_line v s place w (Voter k ∷ es) =
      shows-append l.panel earlier (echo l earlier w k) (line_outputs v s place l earlier (w ++ k ∷ []) es)
      (screen_in (shown_by l earlier w k) (field_after l.digits (w ++ k ∷ []))) (behind (w ++ k ∷ []) (keys_of es))
      (shows_key w k) (shows_line v s place (w ++ k ∷ []) es)

-- a line of the ballot, behind what was put out before
line_screens : (v : Setting) (s : State) (place : ℕ) (choices : List Choice) (text : List Output) (l : BallotLine) (es : List Event)
    → screens_of (text ++ call_of choices l ∷ line_outputs v s place l (earlier_for v choices l) [] es) ≡ screens_of text ++ filter is_screen (shown_lines (line_outputs v s place l (earlier_for v choices l) [] es)) ∷ []
line_screens v s place choices text l es =
    let on = line_outputs v s place l (earlier_for v choices l) [] es in
    let quiet = (shows_line l (earlier_for v choices l) v s place [] es).0 in
    ap screens_by_call (flat_map-append lines_told text (call_of choices l ∷ on))
    ∙ (by_called (shown_lines text) (shown_lines on) (line.Ballot (length choices + 1) l.code) refl
    ∙ (ap (λ (x : List Line). screens_of text ++ x ∷ screens_by_call (shown_lines on)) (until_all (shown_lines on) quiet)
    ∙ ap (λ (x : List (List Line)). screens_of text ++ filter is_screen (shown_lines on) ∷ x) (by_none (shown_lines on) quiet)))

-- Visits

-- more that is called changes nothing of what was shown before
screens_stay : (v : Setting) (choices : List Choice) (out put : List Output) (more : List (List Line)) → screens_of put ≡ screens_of out ++ more
    → AreOfLastScreens v choices out → AreOfLastScreens v choices put
screens_stay v choices out put more e are number c h =
    let is = are number c h in
    record {
      line = is.line;
      earlier = is.earlier;
      field = is.field;
      before = is.before;
      stands = is.stands;
      earlier_is = is.earlier_is;
      screens = ap (λ (x : List (List Line)). slice_get x number) e ∙ get_front (screens_of out) more number _ is.screens;
      confirmable = is.confirmable;
      chosen = is.chosen;
    }

-- the choices before, with one choice more
before_one : (v : Setting) (choices : List Choice) (c : Choice) (out : List Output) → AreOfLastScreens v choices out
    → (number : ℕ) (d : Choice) → slice_get choices number ≡ Some d → IsOfLastScreen v (choices ++ c ∷ []) out number d
before_one v choices c out are number d h =
    let is = are number d h in
    let within = slice_get_within choices number d h in
    record {
      line = is.line;
      earlier = is.earlier;
      field = is.field;
      before = is.before;
      stands = is.stands;
      earlier_is = is.earlier_is ∙ ap (λ (cs : List Choice). earlier_for v cs is.line) (sym (take-append-le number choices (c ∷ []) (omega arith)));
      screens = is.screens;
      confirmable = is.confirmable;
      chosen = is.chosen;
    }

-- the choice that was confirmed last
last_one : (v : Setting) (choices : List Choice) (c : Choice) (l : BallotLine) (f : Field) (out put : List Output) (before : List Line)
    → line_at v choices ≡ Some l → is_confirmable l f ≡ true → c ≡ choice_of l (earlier_for v choices l) f
    → length (screens_of out) ≡ length choices → screens_of put ≡ screens_of out ++ (before ++ line.Screen l.panel (earlier_for v choices l) f ∷ []) ∷ []
    → IsOfLastScreen v (choices ++ c ∷ []) put (length choices) c
last_one v choices c l f out put before at may chosen as_many e =
    record {
      line = l;
      earlier = earlier_for v choices l;
      field = f;
      before = before;
      stands = at;
      earlier_is = ap (λ (cs : List Choice). earlier_for v cs l) (sym (take-append_seam choices (c ∷ [])));
      screens = ap (λ (x : List (List Line)). slice_get x (length choices)) e
          ∙ (ap (slice_get (screens_of out ++ (before ++ line.Screen l.panel (earlier_for v choices l) f ∷ []) ∷ [])) (sym as_many)
          ∙ get_last (screens_of out) (before ++ line.Screen l.panel (earlier_for v choices l) f ∷ []));
      confirmable = may;
      chosen = chosen;
    }

abbrev Told : Setting → List Choice → List Output → Type 0
Told v choices text = (length (screens_of text) ≡ length choices) × AreOfLastScreens v choices text

told_more : (v : Setting) (choices : List Choice) (c : Choice) (l : BallotLine) (f : Field) (out put : List Output) (before : List Line)
    → line_at v choices ≡ Some l → is_confirmable l f ≡ true → c ≡ choice_of l (earlier_for v choices l) f
    → screens_of put ≡ screens_of out ++ (before ++ line.Screen l.panel (earlier_for v choices l) f ∷ []) ∷ [] → Told v choices out → Told v (choices ++ c ∷ []) put
told_more v choices c l f out put before at may chosen e told =
    let last = last_one v choices c l f out put before at may chosen told.0 e in
    let stay = before_one v choices c put (screens_stay v choices out put ((before ++ line.Screen l.panel (earlier_for v choices l) f ∷ []) ∷ []) e told.1) in (
      ap length e ∙ (length-append (screens_of out) ((before ++ line.Screen l.panel (earlier_for v choices l) f ∷ []) ∷ [])
          ∙ (ap (λ (n : ℕ). n + 1) told.0 ∙ sym (length-append choices (c ∷ [])))),
      λ number d h. elim (get_more choices c number d h) [
        | inl p ↦ stay number d p
        | inr p ↦ subst (λ (x : Choice). IsOfLastScreen v (choices ++ c ∷ []) put number x) (sym p.1)
            (subst (λ (n : ℕ). IsOfLastScreen v (choices ++ c ∷ []) put n c) (sym p.0) last)
      ],
    )

votes_told : {v : Setting} {s : State} {place : ℕ} {es : List Event} {choices : List Choice} {text : List Output} → IsSetting v → Votes v s place es choices text → Told v choices text
votes_told valid start = (refl, λ number c h. absurd (cc))
votes_told {v} {s} {place} valid (voted {choices} {text} {c} l on votes at visit confirms) =
    let earlier = earlier_for v choices l in
    let f = field_after l.digits (keys_of on) in
    let last = last_screen l earlier (valid _ l at) (keys_of on) confirms.confirmable in
    let shows = (shows_line l earlier v s place [] on).1 in
    let ends : filter is_screen (shown_lines (line_outputs v s place l (earlier_for v choices l) [] on)) ≡ map (line.Screen l.panel earlier) last.0 ++ line.Screen l.panel earlier f ∷ [] =
    shows ∙ (ap (map (line.Screen l.panel earlier)) last.1 ∙ map-append (line.Screen l.panel earlier) last.0 (f ∷ [])) in
    told_more v choices c l f text (text ++ call_of choices l ∷ line_outputs v s place l (earlier_for v choices l) [] on) (map (line.Screen l.panel earlier) last.0) at confirms.confirmable confirms.chosen
    (line_screens v s place choices text l on ∙ ap (λ (x : List Line). screens_of text ++ x ∷ []) ends) (votes_told valid votes)

open_told : {v : Setting} {s : State} {place : ℕ} {es : List Event} {choices : List Choice} {text : List Output} → IsSetting v → IsOpen v s place es choices text → AreOfLastScreens v choices text
open_told {v} {s} {place} valid (open_at {choices} {text} l on votes at visit unconfirmed) =
    screens_stay v choices text (text ++ call_of choices l ∷ line_outputs v s place l (earlier_for v choices l) [] on) (filter is_screen (shown_lines (line_outputs v s place l (earlier_for v choices l) [] on)) ∷ [])
    (line_screens v s place choices text l on) (votes_told valid votes).1

-- one line more that is no call and no screen
ended : (v : Setting) (choices : List Choice) (text : List Output) (o : Output) (l : Line) → lines_told o ≡ l ∷ [] → is_call l ≡ false → is_screen l ≡ false
    → AreOfLastScreens v choices text → AreOfLastScreens v choices (text ++ o ∷ [])
ended v choices text o l e h g =
    screens_stay v choices text (text ++ o ∷ []) []
    (ap screens_by_call (flat_map-append lines_told text (o ∷ []) ∙ ap (λ (x : List Line). shown_lines text ++ x) (append-nil (lines_told o) ∙ e))
    ∙ (by_more (shown_lines text) l h g ∙ sym (append-nil (screens_of text))))

suspended_told : (v : Setting) (s : State) (place : ℕ) (choices : List Choice) (text : List Output) → AreOfLastScreens v choices text → AreOfLastScreens v choices (text ++ suspension v s place choices ∷ [])
suspended_told v s place [] text = ended v [] text (suspension v s place []) line.Suspended refl refl refl
suspended_told v s place (c ∷ choices) text = ended v (c ∷ choices) text (suspension v s place (c ∷ choices)) line.Ended refl refl refl

pub visit_told : {v : Setting} {s t : State} {place : ℕ} {es : List Event} {out : List Output} → IsSetting v → (visit : Visit v s place es t out) → AreOfLastScreens v (confirmed_in visit) out
visit_told {v} valid (whole {choices} {text} votes at) = ended v choices text _ line.Ended refl refl refl (votes_told valid votes).1
visit_told {v} {s} {place} valid (suspended {choices} {text} on) = suspended_told v s place choices text (open_told valid on)

-- The ballot of a visit

full_stays : (lines : List BallotLine) (choices : List Choice) → slice_get lines (length choices) ≡ None → filled_up lines choices ≡ choices
full_stays lines choices at = elim ((slice_get_cases lines (length choices)).1) [
  | inl found ↦ let both : None ≡ Some found.0 = sym at ∙ found.2 in absurd (cc)
  | inr past ↦
      let none : length lines - length choices ≡ 0 = let h = past.0 in omega arith in
      ap (λ (n : ℕ). choices ++ replicate n Null) none ∙ append-nil choices
]

suspended_records : (lines : List BallotLine) (place : ℕ) (choices : List Choice) (b : Ballot) → suspended_ballot lines place choices ≡ b ∷ []
    → b ≡ record { place = place; choices = filled_up lines choices }
suspended_records lines place [] b e = absurd (cc)
suspended_records lines place (c ∷ choices) b e = cc

pub visit_records : {v : Setting} {s t : State} {place : ℕ} {es : List Event} {out : List Output} (visit : Visit v s place es t out) (b : Ballot) → ballot_of visit ≡ b ∷ []
    → b ≡ record { place = place; choices = filled_up v.lines (confirmed_in visit) }
visit_records {v} {place} (whole {choices} votes at) b e =
    let is : b ≡ record { place = place; choices = choices } = cc in
    is ∙ ap (λ (cs : List Choice). record { place = place; choices = cs }) (sym (full_stays v.lines choices at))
visit_records {v} {place} (suspended {choices} on) b e = suspended_records v.lines place choices b e
