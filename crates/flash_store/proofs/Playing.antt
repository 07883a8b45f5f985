-- Pieces that are put out over two flashes, some after others.
use Rattle.std.proofs.Common.{◌≡◌, inl, inr, ℕ, ◌+◌, ◌<◌, ◌≤◌, Option, Some, None, IsSome, List, [], ◌∷◌, ◌++◌, length, take, unwrap_or, refl, sym, ap, subst, ◌∙◌, arith, append_assoc, length-append}
use Rattle.std.proofs.lemmas.Bool.{cases_lt}
use Rattle.std.proofs.lemmas.List.{length-map}
use Rattle.std.proofs.lemmas.Option.{same_Some}
use Rattle.std.specs.List.{concat}
use Rattle.std.specs.Option.{ForSome}
use Rattle.urna_base.proofs.Every.{every_append}
use Rattle.urna_outside.specs.Faults.{EndsAt, IsFaultless}
use Rattle.urna_outside.specs.Flash.{Op, Show, Flashes, IsImage, flash_of, after, shown_by}
use Rattle.urna_outside.specs.ShownLines.{shows, HasShown, IsCutOff, IsCutShort}
use Rattle.urna_outside.specs.Shows.{ShowsFront}
use Rattle.urna_outside.specs.Stop.{Left, AtEachStop}
use Rattle.urna_outside.specs.Told.{Told, Does, Runs, port_of}
use Rattle.urna_outside.specs.declared.device.Dev.{Dev}
use Rattle.urna_outside.specs.declared.device.Dev.TheVariants.{Internal, External}
use Rattle.urna_outside.specs.declared.device.Port.{Port}
use Rattle.urna_outside.specs.declared.device.Port.TheVariants as port
use Rattle.urna_outside.proofs.Courses.{in_shows, stops_silent}
use Rattle.urna_outside.proofs.Doing.{does-append, does_nothing, told_after}
use Rattle.urna_outside.proofs.Faults.{ends_later, faultless_none, faultless_trans}
use Rattle.urna_outside.proofs.Showing.{shows_keep}
use Rattle.urna_outside.proofs.ShowingLines.{cut_front, shows_lines, cut_later, cut_longer, shows_of-append}
use Rattle.urna_outside.proofs.Stops.{stops-append, stops-append_silent, stops_both}
use Rattle.gate_slot.specs.Front.{IsFrontOfSome}
use Rattle.twin_image.specs.Slots.{AreClean, KeepsFrame}
use Rattle.twin_image.specs.Rewrite.{PutsAtMost}
use Rattle.twin_image.specs.Twin.{IsOfTwin}
use Rattle.flash_store.specs.Calls.{Commits, KeepsHeld}
use Rattle.flash_store.specs.Held.{HeldAlone, HeldByBoth, HoldEither, IsEither, KeepFrames}
use Rattle.flash_store.specs.Pieces.{AreFull, Piece, lines_in, lines_reached, quiet, state_after, telling, text_in}
use Rattle.flash_store.specs.Played.{AreInOrder, AreInOrderTo, IsBeforeLine, IsCutCommit, IsCutPiece, Follows, HasPut, HasStopped, HoldAfter, IsCutAt, IsInCommit, IsOfSession, IsSafe, Keeping, Plays, Survives, shows_in}
use Rattle.flash_store.specs.Syncs.{both_synced}
use Rattle.flash_store.proofs.Counting.{contained_after, contained_before, either_after, either_before, few_reached, lines_before, lines_behind, lines_in-append, lines_in-quiet, reached_more, reached_quiet, state_after-append, state_after-quiet, state_of-quiet, text_in-append, text_in-quiet}
use Rattle.flash_store.proofs.Resting.{frames_at_end, frames_same, frames_text, frames_trans}
use Rattle.flash_store.proofs.ShowStops.{front_of_text, session_shows, session_slots, shows_in-append, shows_in_shows, shows_in_silent, stops_of_shows, text_of_lines}
use Rattle.flash_store.proofs.Tracing.{TellsToo, still_tells, traced_bytes, traced_over}

-- Flashes at rest with a state hold it, both and each alone, and nothing is dirty.
pub record RestHolds {S : Type 0} (keeping : Keeping S) (s : S) : Type 0 where
  pub holds : (flashes : Flashes) (left : Left) → keeping.AreAtRest s flashes → IsImage flashes.internal left.internal → IsImage flashes.external left.external → HoldEither keeping.codec s s left
  pub clean : (flashes : Flashes) → keeping.AreAtRest s flashes → AreClean flashes

module _ {S : Type 0} (keeping : Keeping S) where
  -- what is left at a stop of the pieces
  abbrev Leaves : S → List (Piece S) → Flashes → Left → Type 0
  Leaves s pieces start left = Follows keeping.codec s pieces left × KeepFrames keeping.codec.size start left

  -- Lines that tell no state

  quiet_state : (s : S) (lines : List (List ℕ)) (k : ℕ) (left : Left) → HoldEither keeping.codec s s left → HoldAfter keeping.codec s (quiet lines) k left
  quiet_state s lines k left holds =
      subst (λ (u : S). HoldEither keeping.codec u (state_after s (take (k + 1) (quiet lines))) left) (sym (state_of-quiet s lines k))
      (subst (λ (u : S). HoldEither keeping.codec s u left) (sym (state_of-quiet s lines (k + 1))) holds)

  -- shows of a front of their text, from flashes at rest on
  plays_quiet : (s : S) (lines : List (List ℕ)) (start : Option Flashes) (ops : List Op) → RestHolds keeping s → ForSome start (keeping.AreAtRest s) → ShowsFront (concat lines) ops → Plays keeping.codec s (quiet lines) start ops
  plays_quiet s lines start ops stored rest part =
      record {
        slots = session_shows keeping.codec.size ops part.shows;
        stops = λ flashes told.
            let resting = rest flashes told in
            stops_of_shows flashes ops (Leaves s (quiet lines) flashes) part.shows (λ left internal external more split.
            let holds = stored.holds flashes left resting internal external in (
              record {
                rest = more ++ part.back;
                front = text_in-quiet S lines ∙ part.front ∙ ap (λ (l : List ℕ). l ++ part.back) split ∙ append_assoc left.shown more part.back;
                holds = quiet_state s lines (lines_reached (lines_in (quiet {S = S} lines)) (length left.shown)) left holds;
              },
              frames_same keeping.codec.size flashes left (stored.clean flashes resting) internal external,
            ));
      }

  module _ (told : Told) where
    -- pieces in order, and others behind them
    order-append : (s : S) (xs ys : List (Piece S)) (first second : List Op) → AreInOrder keeping told s xs first → AreInOrder keeping told (state_after s xs) ys second → AreInOrder keeping told s (xs ++ ys) (first ++ second)
    order-append s [] ys first second none after = subst (λ (l : List Op). AreInOrder keeping told s ys (l ++ second)) (sym none) after
    order-append s (x ∷ xs) ys first second (commit, rest, of, is, more) after = (
      commit,
      rest ++ second,
      of,
      ap (λ (l : List Op). l ++ second) is ∙ append_assoc commit (Show x.line ∷ rest) second,
      order-append (unwrap_or x.commit s) xs ys rest second more after,
    )

    -- a fault in the first pieces, and one in the pieces behind them
    order_before : (at : Port) (s : S) (xs ys : List (Piece S)) (ops : List Op) → AreInOrderTo keeping told at s xs ops → AreInOrderTo keeping told at s (xs ++ ys) ops
    order_before at s [] ys ops to = absurd to
    order_before at s (x ∷ xs) ys ops (inl cut) = inl cut
    order_before at s (x ∷ xs) ys ops (inr (commit, rest, of, is, more)) =
        inr (commit, rest, of, is, order_before at (unwrap_or x.commit s) xs ys rest more)

    order_after : (at : Port) (s : S) (xs ys : List (Piece S)) (first second : List Op) → AreInOrder keeping told s xs first → AreInOrderTo keeping told at (state_after s xs) ys second → AreInOrderTo keeping told at s (xs ++ ys) (first ++ second)
    order_after at s [] ys first second none after = subst (λ (l : List Op). AreInOrderTo keeping told at s ys (l ++ second)) (sym none) after
    order_after at s (x ∷ xs) ys first second (commit, rest, of, is, more) after =
        inr (
          commit,
          rest ++ second,
          of,
          ap (λ (l : List Op). l ++ second) is ∙ append_assoc commit (Show x.line ∷ rest) second,
          order_after at (unwrap_or x.commit s) xs ys rest second more after,
        )

    -- a line that tells no state
    commits_none : (s : S) (line : List ℕ) → IsBeforeLine keeping told s (record { line = line; commit = None }) []
    commits_none s line =
        record { silent = refl; syncs = omega arith; bytes = λ traced. omega arith; order = λ traced there u is. absurd (cc); none = λ none. refl }

    order_quiet : (s : S) (lines : List (List ℕ)) → AreInOrder keeping told s (quiet lines) (shows lines)
    order_quiet s [] = refl
    order_quiet s (line ∷ lines) = ([], shows lines, commits_none s line, refl, order_quiet s lines)

    order_cut : (s : S) (lines : List (List ℕ)) (ops : List Op) → IsCutShort lines ops → AreInOrderTo keeping told port.Display s (quiet lines) ops
    order_cut s [] ops cut = absurd cut
    order_cut s (line ∷ lines) ops (inl torn) =
        inl (record { commit = []; torn = ops; before = commits_none s line; line = torn; in_row = refl })
    order_cut s (line ∷ lines) ops (inr (rest, is, cut)) = inr ([], rest, commits_none s line, is, order_cut s lines rest cut)

    -- what is in order over what a machine tells later is so over what it told before
    module _ (p : Told) (too : TellsToo told p) where
      before_told : (s : S) (piece : Piece S) (ops : List Op) → IsBeforeLine keeping p s piece ops → IsBeforeLine keeping told s piece ops
      before_told s piece ops of =
          record {
            silent = of.silent;
            syncs = of.syncs;
            bytes = λ traced. of.bytes (too.trail traced);
            order = λ traced there. of.order (too.trail traced) (too.flashes there);
            none = of.none;
          }

      commit_told : (s : S) (piece : Piece S) (ops : List Op) → IsCutCommit keeping p s piece ops → IsCutCommit keeping told s piece ops
      commit_told s piece ops cut =
          record {
            some = cut.some;
            silent = cut.silent;
            syncs = cut.syncs;
            bytes = λ traced. cut.bytes (too.trail traced);
            order = λ traced there. cut.order (too.trail traced) (too.flashes there);
          }

      cut_told : (at : Port) (s : S) (piece : Piece S) (ops : List Op) → IsCutPiece keeping p at s piece ops → IsCutPiece keeping told at s piece ops
      cut_told port.Internal s piece ops cut = commit_told s piece ops cut
      cut_told port.External s piece ops cut = commit_told s piece ops cut
      cut_told port.Display s piece ops cut =
          record { commit = cut.commit; torn = cut.torn; before = before_told s piece cut.commit cut.before; line = cut.line; in_row = cut.in_row }

      order_told : (s : S) (pieces : List (Piece S)) (ops : List Op) → AreInOrder keeping p s pieces ops → AreInOrder keeping told s pieces ops
      order_told s [] ops nothing = nothing
      order_told s (x ∷ xs) ops (commit, rest, of, is, more) = (commit, rest, before_told s x commit of, is, order_told (unwrap_or x.commit s) xs rest more)

      order_to_told : (at : Port) (s : S) (pieces : List (Piece S)) (ops : List Op) → AreInOrderTo keeping p at s pieces ops → AreInOrderTo keeping told at s pieces ops
      order_to_told at s [] ops none = absurd none
      order_to_told at s (x ∷ xs) ops (inl cut) = inl (cut_told at s x ops cut)
      order_to_told at s (x ∷ xs) ops (inr (commit, rest, of, is, more)) =
          inr (commit, rest, before_told s x commit of, is, order_to_told at (unwrap_or x.commit s) xs rest more)

  -- no piece
  pub put_nothing : (s : S) (a : Told) → RestHolds keeping s → ForSome a.flashes (keeping.AreAtRest s) → HasPut keeping s [] a a
  put_nothing s a stored rest =
      record {
        ops = [];
        does = does_nothing a;
        plays = plays_quiet s [] a.flashes [] stored rest (record { shows = tt; back = []; front = refl });
        shown = refl;
        order = refl;
        rest = rest;
        fine = faultless_none a;
      }

  -- lines that were shown
  pub put_shown : (s : S) (lines : List (List ℕ)) (a b : Told) → RestHolds keeping s → ForSome a.flashes (keeping.AreAtRest s) → HasShown lines a b → HasPut keeping s (quiet lines) a b
  put_shown s lines a b stored rest showed =
      let text = shows_lines lines in
      let kept = shows_keep (shows lines) a b text.shows showed.does in
      record {
        ops = shows lines;
        does = showed.does;
        plays = plays_quiet s lines a.flashes (shows lines) stored rest (front_of_text (concat lines) (shows lines) text);
        shown = shows_in_shows (shows lines) text.shows ∙ ap shows (sym (lines_in-quiet S lines));
        order = order_quiet a s lines;
        rest = subst (λ (u : S). ForSome b.flashes (keeping.AreAtRest u)) (sym (state_after-quiet s lines)) (subst (λ (o : Option Flashes). ForSome o (keeping.AreAtRest s)) (sym kept) rest);
        fine = record { faults = showed.faults; calls = showed.calls };
      }

  -- lines in which the display failed
  pub stopped_shown : (s : S) (lines : List (List ℕ)) (a b : Told) → RestHolds keeping s → ForSome a.flashes (keeping.AreAtRest s) → IsCutOff lines a b → HasStopped keeping s (quiet lines) port.Display a b
  stopped_shown s lines a b stored rest off =
      let part = cut_front lines off.ops off.cut in
      let kept = shows_keep off.ops a b part.shows off.does in
      record {
        ops = off.ops;
        does = off.does;
        plays = plays_quiet s lines a.flashes off.ops stored rest part;
        cut =
            subst (λ (l : List (List ℕ)). IsCutShort l (shows_in off.ops)) (sym (lines_in-quiet S lines)) (subst (IsCutShort lines) (sym (shows_in_shows off.ops part.shows)) off.cut);
        order = order_cut a s lines off.ops off.cut;
        rest = λ display. (s, (0, omega arith, refl), subst (λ (o : Option Flashes). ForSome o (keeping.AreAtRest s)) (sym kept) rest);
        fault = record { faults = off.faults; calls = off.calls };
      }

  -- A line that tells a state

  module _ (s u : S) (line : List ℕ) where
    -- while it is committed
    while_committed : (a : Told) (ops : List Op) → Commits keeping.codec s u a ops → (start : Flashes) → a.flashes ≡ Some start → AtEachStop start ops (Leaves s (telling u line) start)
    while_committed a ops commits start told =
        stops_both start ops (λ left. HoldEither keeping.codec s u left × KeepFrames keeping.codec.size start left) (λ left. left.shown ≡ []) (Leaves s (telling u line) start)
        (commits.stops start told) (stops_silent (λ d k. IsOfTwin keeping.codec.size k) start ops commits.slots.within) (λ left holds silent.
        let none : 0 ≡ lines_reached (line ∷ []) (length left.shown) = sym (ap (λ (l : List ℕ). lines_reached (line ∷ []) (length l)) silent) in (
          record {
            rest = line ++ [];
            front = ap (λ (l : List ℕ). l ++ (line ++ [])) (sym silent);
            holds = subst (λ (k : ℕ). HoldAfter keeping.codec s (telling u line) k left) none holds.0;
          },
          holds.1,
        ))

    -- the state is kept, and some of the line was shown, or none of it
    told_state : (left : Left) → HoldEither keeping.codec u u left → HoldAfter keeping.codec s (telling u line) (lines_reached (line ∷ []) (length left.shown)) left
    told_state left holds = elim (cases_lt 0 (length left.shown)) [
      | inl some ↦ subst (λ (k : ℕ). HoldAfter keeping.codec s (telling u line) k left) (sym (reached_more line [] (length left.shown) some)) holds
      | inr nothing ↦
          let none : 0 ≡ length left.shown = omega arith in
          subst (λ (n : ℕ). HoldAfter keeping.codec s (telling u line) (lines_reached (line ∷ []) n) left) none
          (record { both = next (HeldByBoth keeping.codec left.internal left.external) holds.both; internal = next (HeldAlone keeping.codec left.internal) holds.internal; external = next (HeldAlone keeping.codec left.external) holds.external })
    ]
      where
        next : (held : S → Type 0) → IsEither u u held → IsEither s u held
        next held (inl is) = inr is
        next held (inr is) = inr is

    -- a commit that a port cut off
    plays_commit : (a : Told) (ops : List Op) → Commits keeping.codec s u a ops → Plays keeping.codec s (telling u line) a.flashes ops
    plays_commit a ops commits =
        record {
          slots = session_slots keeping.codec.size ops commits.slots.within;
          stops = while_committed a ops commits;
        }

    -- a commit, and then shows of a front of the line
    plays_told : (a b : Told) (xs ys : List Op) → RestHolds keeping u → Commits keeping.codec s u a xs → Does xs a b → ForSome b.flashes (keeping.AreAtRest u) → ShowsFront (line ++ []) ys → Plays keeping.codec s (telling u line) a.flashes (xs ++ ys)
    plays_told a b xs ys stored commits does rest part =
        record {
          slots = every_append (IsOfSession keeping.codec.size) xs ys (session_slots keeping.codec.size xs commits.slots.within) (session_shows keeping.codec.size ys part.shows);
          stops = λ start told.
              let mid = after xs start in
              let resting = rest mid (told_after xs a b start does told) in
              let kept = frames_at_end keeping.codec.size start start xs (λ done stop left is. (commits.stops start told done stop left is).1) in
              stops-append_silent start xs ys (Leaves s (telling u line) start) (in_shows (λ d k. IsOfTwin keeping.codec.size k) xs commits.slots.within) (while_committed a xs commits start told)
              (stops_of_shows mid ys (Leaves s (telling u line) start) part.shows (λ left internal external more split.
              let holds = stored.holds mid left resting internal external in (
                record {
                  rest = more ++ part.back;
                  front = part.front ∙ ap (λ (l : List ℕ). l ++ part.back) split ∙ append_assoc left.shown more part.back;
                  holds = told_state left holds;
                },
                frames_trans keeping.codec.size start mid left kept (frames_same keeping.codec.size mid left (stored.clean mid resting) internal external),
              )));
        }

    -- what is known of all that was done, of the one state that the piece tells
    of_state : (P : S → List Op → Type 0) (a b : Told) (ops : List Op) → Does ops a b → ForSome a.flashes (λ start. Runs (P u) a b)
        → IsSome a.trail → IsSome a.flashes → (v : S) → Some u ≡ Some v → P v ops
    of_state P a b ops does order traced there v is =
        subst (λ (w : S). P w ops) (same_Some u v is) (traced_over (P u) a b ops traced there does order)

    -- the commit of the state
    commits_state : (a b : Told) → (run : Runs (Commits keeping.codec s u a) a b) → Runs (PutsAtMost (keeping.commit_bytes s u)) a b → ForSome a.flashes (λ start. Runs (keeping.IsCommit s u) a b)
        → IsBeforeLine keeping a s (record { line = line; commit = Some u }) run.0
    commits_state a b run few order =
        record {
          silent = shows_in_silent (λ d k. IsOfTwin keeping.codec.size k) run.0 run.2.slots.within;
          syncs = run.2.slots.syncs;
          bytes = λ told. let most = traced_bytes (keeping.commit_bytes s u) a b run.0 told run.1 few in omega (arith, most);
          order = of_state (keeping.IsCommit s) a b run.0 run.1 order;
          none = λ none. absurd (cc);
        }

    -- a fault in its line
    order_in_line : (a b : Told) (ys : List Op) → (run : Runs (Commits keeping.codec s u a) a b) → Runs (PutsAtMost (keeping.commit_bytes s u)) a b → ForSome a.flashes (λ start. Runs (keeping.IsCommit s u) a b)
        → IsCutShort (line ∷ []) ys → AreInOrderTo keeping a port.Display s (telling u line) (run.0 ++ ys)
    order_in_line a b ys run few order (inl torn) =
        inl (record { commit = run.0; torn = ys; before = commits_state a b run few order; line = torn; in_row = refl })
    order_in_line a b ys run few order (inr (rest, is, cut)) = absurd cut

    -- the state was committed and its line shown
    pub put_told : (a b c : Told) → RestHolds keeping u → Runs (Commits keeping.codec s u a) a b → Runs (PutsAtMost (keeping.commit_bytes s u)) a b → ForSome a.flashes (λ start. Runs (keeping.IsCommit s u) a b)
        → IsFaultless a b → ForSome b.flashes (keeping.AreAtRest u) → HasShown (line ∷ []) b c → HasPut keeping s (telling u line) a c
    put_told a b c stored run few order fine rest showed =
        let text = shows_lines (line ∷ []) in
        let kept = shows_keep (Show line ∷ []) b c text.shows showed.does in
        record {
          ops = run.0 ++ Show line ∷ [];
          does = does-append run.0 (Show line ∷ []) a b c run.1 showed.does;
          plays = plays_told a b run.0 (Show line ∷ []) stored run.2 run.1 rest (front_of_text (line ++ []) (Show line ∷ []) text);
          shown =
              shows_in-append run.0 (Show line ∷ []) ∙ ap (λ (l : List Op). l ++ Show line ∷ []) (shows_in_silent (λ d k. IsOfTwin keeping.codec.size k) run.0 run.2.slots.within);
          order = (run.0, [], commits_state a b run few order, refl, refl);
          rest = subst (λ (o : Option Flashes). ForSome o (keeping.AreAtRest u)) (sym kept) rest;
          fine = faultless_trans a b c fine (record { faults = showed.faults; calls = showed.calls });
        }

    -- the state was committed, and the display failed in its line
    pub stopped_told : (a b c : Told) → RestHolds keeping u → Runs (Commits keeping.codec s u a) a b → Runs (PutsAtMost (keeping.commit_bytes s u)) a b → ForSome a.flashes (λ start. Runs (keeping.IsCommit s u) a b)
        → IsFaultless a b → ForSome b.flashes (keeping.AreAtRest u) → IsCutOff (line ∷ []) b c → HasStopped keeping s (telling u line) port.Display a c
    stopped_told a b c stored run few order fine rest off =
        let part = cut_front (line ∷ []) off.ops off.cut in
        let kept = shows_keep off.ops b c part.shows off.does in
        let shown : shows_in (run.0 ++ off.ops) ≡ off.ops =
        shows_in-append run.0 off.ops ∙ ap (λ (l : List Op). l ++ shows_in off.ops) (shows_in_silent (λ d k. IsOfTwin keeping.codec.size k) run.0 run.2.slots.within) ∙ shows_in_shows off.ops part.shows in
        record {
          ops = run.0 ++ off.ops;
          does = does-append run.0 off.ops a b c run.1 off.does;
          plays = plays_told a b run.0 off.ops stored run.2 run.1 rest part;
          cut = subst (IsCutShort (line ∷ [])) (sym shown) off.cut;
          order = order_in_line a b off.ops run few order off.cut;
          rest = λ display. (u, (1, omega arith, refl), subst (λ (o : Option Flashes). ForSome o (keeping.AreAtRest u)) (sym kept) rest);
          fault = ends_later port.Display a b c fine (record { faults = off.faults; calls = off.calls });
        }

    cut_in_commit : (d : Dev) (ops : List Op) → shows_in ops ≡ [] → IsCutAt (port_of d) (telling u line) (shows_in ops)
    cut_in_commit Internal ops silent = ([], record { line = line; commit = Some u }, [], refl, refl, silent)
    cut_in_commit External ops silent = ([], record { line = line; commit = Some u }, [], refl, refl, silent)

    no_display : (d : Dev) → port_of d ≡ port.Display → ⊥
    no_display Internal same = cc
    no_display External same = cc

    -- the front of a commit
    cut_commit : (a b : Told) → (run : Runs (Commits keeping.codec s u a) a b) → Runs (PutsAtMost (keeping.commit_bytes s u)) a b → ForSome a.flashes (λ start. Runs (IsFrontOfSome (keeping.IsCommit s u)) a b)
        → IsCutCommit keeping a s (record { line = line; commit = Some u }) run.0
    cut_commit a b run few order =
        record {
          some = refl;
          silent = shows_in_silent (λ d k. IsOfTwin keeping.codec.size k) run.0 run.2.slots.within;
          syncs = run.2.slots.syncs;
          bytes = λ told. let most = traced_bytes (keeping.commit_bytes s u) a b run.0 told run.1 few in omega (arith, most);
          order = of_state (λ v. IsFrontOfSome (keeping.IsCommit s v)) a b run.0 run.1 order;
        }

    order_in_commit : (d : Dev) (a : Told) (ops : List Op) → IsCutCommit keeping a s (record { line = line; commit = Some u }) ops → AreInOrderTo keeping a (port_of d) s (telling u line) ops
    order_in_commit Internal a ops cut = inl cut
    order_in_commit External a ops cut = inl cut

    -- a flash failed in the commit
    pub stopped_commit : (d : Dev) (a b : Told) → Runs (Commits keeping.codec s u a) a b → Runs (PutsAtMost (keeping.commit_bytes s u)) a b → ForSome a.flashes (λ start. Runs (IsFrontOfSome (keeping.IsCommit s u)) a b)
        → EndsAt (port_of d) a b → HasStopped keeping s (telling u line) (port_of d) a b
    stopped_commit d a b run few order fault =
        record {
          ops = run.0;
          does = run.1;
          plays = plays_commit a run.0 run.2;
          cut = cut_in_commit d run.0 (shows_in_silent (λ x k. IsOfTwin keeping.codec.size k) run.0 run.2.slots.within);
          order = order_in_commit d a run.0 (cut_commit a b run few order);
          rest = λ display. absurd (no_display d display);
          fault = fault;
        }

  -- Pieces after pieces

  -- what follows the first pieces follows all
  pub follows_before : (s : S) (xs ys : List (Piece S)) (left : Left) → Follows keeping.codec s xs left → Follows keeping.codec s (xs ++ ys) left
  follows_before s xs ys left follows =
      record {
        rest = follows.rest ++ text_in ys;
        front = text_in-append xs ys ∙ ap (λ (l : List ℕ). l ++ text_in ys) follows.front ∙ append_assoc left.shown follows.rest (text_in ys);
        holds = subst (λ (k : ℕ). HoldAfter keeping.codec s (xs ++ ys) k left) (sym (lines_before xs ys (length left.shown) within))
            (record { both = each (HeldByBoth keeping.codec left.internal left.external) follows.holds.both; internal = each (HeldAlone keeping.codec left.internal) follows.holds.internal; external = each (HeldAlone keeping.codec left.external) follows.holds.external });
      }
    where
      within : length left.shown ≤ length (text_in xs)
      within = let fits = ap length follows.front in omega (arith, fits, length-append left.shown follows.rest)

      k : ℕ
      k = lines_reached (lines_in xs) (length left.shown)

      few : k ≤ length xs
      few = omega (arith, few_reached (lines_in xs) (length left.shown), length-map xs (λ (piece : Piece S). piece.line))

      each : (held : S → Type 0) → IsEither (state_after s (take k xs)) (state_after s (take (k + 1) xs)) held
          → IsEither (state_after s (take k (xs ++ ys))) (state_after s (take (k + 1) (xs ++ ys))) held
      each held is = either_before s xs ys k held few is

  -- and what follows the pieces behind them, once their text was shown
  pub follows_after : (s : S) (xs ys : List (Piece S)) (left : Left) → AreFull xs → Follows keeping.codec (state_after s xs) ys left → Follows keeping.codec s (xs ++ ys) (record left { shown = text_in xs ++ left.shown })
  follows_after s xs ys left full follows =
      record {
        rest = follows.rest;
        front = text_in-append xs ys ∙ ap (λ (l : List ℕ). text_in xs ++ l) follows.front ∙ sym (append_assoc (text_in xs) left.shown follows.rest);
        holds = subst (λ (n : ℕ). HoldAfter keeping.codec s (xs ++ ys) n (record left { shown = text_in xs ++ left.shown })) (sym (lines_behind xs ys left.shown full))
            (record { both = each (HeldByBoth keeping.codec left.internal left.external) follows.holds.both; internal = each (HeldAlone keeping.codec left.internal) follows.holds.internal; external = each (HeldAlone keeping.codec left.external) follows.holds.external });
      }
    where
      k : ℕ
      k = lines_reached (lines_in ys) (length left.shown)

      each : (held : S → Type 0) → IsEither (state_after (state_after s xs) (take k ys)) (state_after (state_after s xs) (take (k + 1) ys)) held
          → IsEither (state_after s (take (length xs + k) (xs ++ ys))) (state_after s (take (length xs + k + 1) (xs ++ ys))) held
      each held is = either_after s xs ys k held is

  -- lines behind the pieces that tell no state
  pub follows_quiet : (s : S) (xs : List (Piece S)) (lines : List (List ℕ)) (left : Left) → Follows keeping.codec s (xs ++ quiet lines) left
      → HoldAfter keeping.codec s xs (lines_reached (lines_in xs) (length left.shown)) left
  follows_quiet s xs lines left follows =
      let n = length left.shown in
      let k = lines_reached (lines_in (xs ++ quiet lines)) n in
      let none : k + 0 ≡ k = omega arith in
      let still_none : lines_reached (lines_in xs) n + 0 ≡ lines_reached (lines_in xs) n = omega arith in
      let this : state_after s (take k (xs ++ quiet lines)) ≡ state_after s (take (lines_reached (lines_in xs) n) xs) =
      ap (λ (i : ℕ). state_after s (take i (xs ++ quiet lines))) (sym none) ∙ reached_quiet s xs lines n 0 ∙ ap (λ (i : ℕ). state_after s (take i xs)) still_none in
      subst (λ (u : S). HoldEither keeping.codec u (state_after s (take (lines_reached (lines_in xs) n + 1) xs)) left) this
      (subst (λ (u : S). HoldEither keeping.codec (state_after s (take k (xs ++ quiet lines))) u left) (reached_quiet s xs lines n 1) follows.holds)

  plays_before : (s : S) (xs ys : List (Piece S)) (start : Option Flashes) (ops : List Op) → Plays keeping.codec s xs start ops → Plays keeping.codec s (xs ++ ys) start ops
  plays_before s xs ys start ops plays =
      record {
        slots = plays.slots;
        stops = λ flashes told done stop left is.
            let holds = plays.stops flashes told done stop left is in
            (follows_before s xs ys left holds.0, holds.1);
      }

  -- the first pieces were put out, and the operations behind play those behind them
  plays-append : (s : S) (xs ys : List (Piece S)) (a b : Told) (first second : List Op) → AreFull xs → Plays keeping.codec s xs a.flashes first → shows_in first ≡ shows (lines_in xs) → Does first a b
      → Plays keeping.codec (state_after s xs) ys b.flashes second → Plays keeping.codec s (xs ++ ys) a.flashes (first ++ second)
  plays-append s xs ys a b first second full plays shown does later =
      record {
        slots = every_append (IsOfSession keeping.codec.size) first second plays.slots later.slots;
        stops = λ start told.
            let mid = after first start in
            let text : shown_by first ≡ text_in xs = text_of_lines first (lines_in xs) shown in
            let kept = frames_at_end keeping.codec.size start start first (λ done stop left is. (plays.stops start told done stop left is).1) in
            stops-append start first second (Leaves s (xs ++ ys) start)
            (λ done stop left is.
            let holds = plays.stops start told done stop left is in
            (follows_before s xs ys left holds.0, holds.1))
            (λ done stop left is.
            let holds = later.stops mid (told_after first a b start does told) done stop left is in
            (subst (λ (l : List ℕ). Follows keeping.codec s (xs ++ ys) (record left { shown = l ++ left.shown })) (sym text) (follows_after s xs ys left full holds.0), frames_text keeping.codec.size start left (shown_by first ++ left.shown) (frames_trans keeping.codec.size start mid left kept holds.1)));
      }

  shows_of_pieces : (xs ys : List (Piece S)) → shows (lines_in (xs ++ ys)) ≡ shows (lines_in xs) ++ shows (lines_in ys)
  shows_of_pieces xs ys = ap shows (lines_in-append xs ys) ∙ shows_of-append (lines_in xs) (lines_in ys)

  pub put-append : (s : S) (xs ys : List (Piece S)) (a b c : Told) → AreFull xs → HasPut keeping s xs a b → HasPut keeping (state_after s xs) ys b c → HasPut keeping s (xs ++ ys) a c
  put-append s xs ys a b c full first second =
      record {
        ops = first.ops ++ second.ops;
        does = does-append first.ops second.ops a b c first.does second.does;
        plays = plays-append s xs ys a b first.ops second.ops full first.plays first.shown first.does second.plays;
        shown =
            shows_in-append first.ops second.ops ∙ ap (λ (l : List Op). l ++ shows_in second.ops) first.shown
            ∙ ap (λ (l : List Op). shows (lines_in xs) ++ l) second.shown ∙ sym (shows_of_pieces xs ys);
        order = order-append a s xs ys first.ops second.ops first.order
            (order_told a b (still_tells first.ops a b first.does) (state_after s xs) ys second.ops second.order);
        rest = subst (λ (u : S). ForSome c.flashes (keeping.AreAtRest u)) (sym (state_after-append s xs ys)) second.rest;
        fine = faultless_trans a b c first.fine second.fine;
      }

  commit_before : (xs ys : List (Piece S)) (ops : List Op) → IsInCommit xs ops → IsInCommit (xs ++ ys) ops
  commit_before xs ys ops (before, piece, behind, split, some, shown) =
      (before, piece, behind ++ ys, ap (λ (l : List (Piece S)). l ++ ys) split ∙ append_assoc before (piece ∷ behind) ys, some, shown)

  commit_after : (xs ys : List (Piece S)) (ops : List Op) → IsInCommit ys ops → IsInCommit (xs ++ ys) (shows (lines_in xs) ++ ops)
  commit_after xs ys ops (before, piece, behind, split, some, shown) = (
    xs ++ before,
    piece,
    behind,
    ap (λ (l : List (Piece S)). xs ++ l) split ∙ sym (append_assoc xs before (piece ∷ behind)),
    some,
    ap (λ (l : List Op). shows (lines_in xs) ++ l) shown ∙ sym (shows_of_pieces xs before),
  )

  cut_at_before : (p : Port) (xs ys : List (Piece S)) (ops : List Op) → IsCutAt p xs ops → IsCutAt p (xs ++ ys) ops
  cut_at_before port.Internal xs ys ops cut = commit_before xs ys ops cut
  cut_at_before port.External xs ys ops cut = commit_before xs ys ops cut
  cut_at_before port.Display xs ys ops cut =
      subst (λ (l : List (List ℕ)). IsCutShort l ops) (sym (lines_in-append xs ys)) (cut_longer (lines_in xs) (lines_in ys) ops cut)

  cut_at_after : (p : Port) (xs ys : List (Piece S)) (ops : List Op) → IsCutAt p ys ops → IsCutAt p (xs ++ ys) (shows (lines_in xs) ++ ops)
  cut_at_after port.Internal xs ys ops cut = commit_after xs ys ops cut
  cut_at_after port.External xs ys ops cut = commit_after xs ys ops cut
  cut_at_after port.Display xs ys ops cut =
      subst (λ (l : List (List ℕ)). IsCutShort l (shows (lines_in xs) ++ ops)) (sym (lines_in-append xs ys)) (cut_later (lines_in xs) (lines_in ys) ops cut)

  -- a stop in the first pieces
  pub stopped_before : (s : S) (xs ys : List (Piece S)) (p : Port) (a b : Told) → HasStopped keeping s xs p a b → HasStopped keeping s (xs ++ ys) p a b
  stopped_before s xs ys p a b stopped =
      record {
        ops = stopped.ops;
        does = stopped.does;
        plays = plays_before s xs ys a.flashes stopped.ops stopped.plays;
        cut = cut_at_before p xs ys (shows_in stopped.ops) stopped.cut;
        order = order_before a p s xs ys stopped.ops stopped.order;
        rest = λ display. let kept = stopped.rest display in (kept.0, contained_before s kept.0 xs ys kept.1, kept.2);
        fault = stopped.fault;
      }

  -- a stop in the pieces behind them
  pub stopped_after : (s : S) (xs ys : List (Piece S)) (p : Port) (a b c : Told) → AreFull xs → HasPut keeping s xs a b → HasStopped keeping (state_after s xs) ys p b c → HasStopped keeping s (xs ++ ys) p a c
  stopped_after s xs ys p a b c full first stopped =
      let shown : shows_in (first.ops ++ stopped.ops) ≡ shows (lines_in xs) ++ shows_in stopped.ops =
      shows_in-append first.ops stopped.ops ∙ ap (λ (l : List Op). l ++ shows_in stopped.ops) first.shown in
      record {
        ops = first.ops ++ stopped.ops;
        does = does-append first.ops stopped.ops a b c first.does stopped.does;
        plays = plays-append s xs ys a b first.ops stopped.ops full first.plays first.shown first.does stopped.plays;
        cut = subst (IsCutAt p (xs ++ ys)) (sym shown) (cut_at_after p xs ys (shows_in stopped.ops) stopped.cut);
        order = order_after a p s xs ys first.ops stopped.ops first.order
            (order_to_told a b (still_tells first.ops a b first.does) p (state_after s xs) ys stopped.ops stopped.order);
        rest = λ display. let kept = stopped.rest display in (kept.0, contained_after s kept.0 xs ys kept.1, kept.2);
        fault = ends_later p a b c first.fine stopped.fault;
      }

  -- pieces behind others, by what all pieces come to
  pub put_to : (s : S) (front piece all : List (Piece S)) (a b c : Told) → all ≡ front ++ piece → AreFull front → HasPut keeping s front a b → HasPut keeping (state_after s front) piece b c → HasPut keeping s all a c
  put_to s front piece all a b c e full first second =
      subst (λ (pieces : List (Piece S)). HasPut keeping s pieces a c) (sym e) (put-append s front piece a b c full first second)

  -- a stop in the middle of all pieces
  pub stopped_within : (s : S) (front piece rest all : List (Piece S)) (p : Port) (a b c : Told) → all ≡ (front ++ piece) ++ rest → AreFull front → HasPut keeping s front a b → HasStopped keeping (state_after s front) piece p b c → HasStopped keeping s all p a c
  stopped_within s front piece rest all p a b c e full first second =
      subst (λ (pieces : List (Piece S)). HasStopped keeping s pieces p a c) (sym e) (stopped_before s (front ++ piece) rest p a c (stopped_after s front piece p a b c full first second))

  -- A whole call: a recovery, opening lines that tell no state, and pieces behind them

  -- what survives the first pieces survives all
  pub survives_more : (s : S) (xs ys : List (Piece S)) (start : Flashes) (left : Left) → Survives keeping.codec s xs start left → Survives keeping.codec s (xs ++ ys) start left
  survives_more s xs ys start left (before, behind, kept) =
      (before, λ begun. follows_before s xs ys left (behind begun), kept)

  pub safe_more : (s : S) (xs ys : List (Piece S)) (a b : Told) → IsSafe keeping.codec s xs a b → IsSafe keeping.codec s (xs ++ ys) a b
  safe_more s xs ys a b (ops, does, (rest, is, stops)) =
      (ops, does, (rest, is, λ start told done stop left leaves. survives_more s xs ys start left (stops start told done stop left leaves)))

  -- what was played
  pub put_plays : (s : S) (pieces : List (Piece S)) (a b : Told) → HasPut keeping s pieces a b → Runs (Plays keeping.codec s pieces a.flashes) a b
  put_plays s pieces a b put = (put.ops, put.does, put.plays)

  pub stopped_plays : (s : S) (pieces : List (Piece S)) (p : Port) (a b : Told) → HasStopped keeping s pieces p a b → Runs (Plays keeping.codec s pieces a.flashes) a b
  stopped_plays s pieces p a b stopped = (stopped.ops, stopped.does, stopped.plays)

  module _ (s : S) (line : List ℕ) (lines : List (List ℕ)) where
    abbrev opening : List (Piece S)
    opening = quiet (line ∷ lines)

    -- while the flashes are recovered
    while_recovered : (a : Told) (xs : List Op) (pieces : List (Piece S)) → KeepsHeld keeping.codec s a xs → (start : Flashes) → a.flashes ≡ Some start → AtEachStop (after both_synced start) xs (Survives keeping.codec s pieces start)
    while_recovered a xs pieces recovers start told =
        stops_both (after both_synced start) xs (λ left. HeldByBoth keeping.codec left.internal left.external s × KeepFrames keeping.codec.size start left) (λ left. left.shown ≡ []) (Survives keeping.codec s pieces start)
        (recovers.stops start told) (stops_silent (λ d k. IsOfTwin keeping.codec.size k) (after both_synced start) xs recovers.within)
        (λ left holds silent. (λ none. holds.0, λ begun. absurd (omega (arith, ap length silent)), holds.1))

    -- what the opening lines leave
    opening_holds : (left : Left) → Follows keeping.codec s opening left → HeldByBoth keeping.codec left.internal left.external s
    opening_holds left follows = go follows.holds.both
      where
        k : ℕ
        k = lines_reached (lines_in opening) (length left.shown)

        go : IsEither (state_after s (take k opening)) (state_after s (take (k + 1) opening)) (HeldByBoth keeping.codec left.internal left.external)
            → HeldByBoth keeping.codec left.internal left.external s
        go (inl is) = subst (HeldByBoth keeping.codec left.internal left.external) (state_of-quiet s (line ∷ lines) k) is
        go (inr is) = subst (HeldByBoth keeping.codec left.internal left.external) (state_of-quiet s (line ∷ lines) (k + 1)) is

    -- while they are shown, behind whatever kept the frames
    while_opened : (b : Told) (ops : List Op) (start mid : Flashes) → Plays keeping.codec s opening b.flashes ops → b.flashes ≡ Some mid
        → ((d : Dev) → KeepsFrame keeping.codec.size (flash_of d start).content (flash_of d mid).content) → AtEachStop mid ops (Survives keeping.codec s opening start)
    while_opened b ops start mid plays told kept done stop left is =
        let holds = plays.stops mid told done stop left is in
        (λ none. opening_holds left holds.0, λ begun. holds.0, frames_trans keeping.codec.size start mid left kept holds.1)

    -- and while the pieces behind them are put out
    while_played : (left : Left) (pieces : List (Piece S)) (text : List ℕ) → AreFull opening → text ≡ text_in opening → Follows keeping.codec s pieces left → (start : Flashes) → KeepFrames keeping.codec.size start left
        → Survives keeping.codec s (opening ++ pieces) start (record left { shown = text ++ left.shown })
    while_played left pieces text full same follows start keeps =
        let now = subst (λ (u : S). Follows keeping.codec u pieces left) (sym (state_after-quiet s (line ∷ lines))) follows in
        let some : 0 < length line = full.0 in (
          λ none. absurd (omega (arith, some, ap length same, ap length none, length-append line (text_in (quiet {S = S} lines)), length-append text left.shown)),
          λ begun. subst (λ (l : List ℕ). Follows keeping.codec s (opening ++ pieces) (record left { shown = l ++ left.shown })) (sym same) (follows_after s opening pieces left full now),
          frames_text keeping.codec.size start left (text ++ left.shown) keeps,
        )

    -- The stops of a recovery and of the opening lines.
    pub opening_stops : (a b : Told) (xs ys : List Op) → KeepsHeld keeping.codec s a xs → Does (both_synced ++ xs) a b → Plays keeping.codec s opening b.flashes ys
        → (start : Flashes) → a.flashes ≡ Some start → AtEachStop (after both_synced start) (xs ++ ys) (Survives keeping.codec s opening start)
    opening_stops a b xs ys recovers does plays start told =
        let first = while_recovered a xs opening recovers start told in
        let kept = frames_at_end keeping.codec.size start (after both_synced start) xs (λ done stop left is. (first done stop left is).2) in
        stops-append_silent (after both_synced start) xs ys (Survives keeping.codec s opening start) (in_shows (λ d k. IsOfTwin keeping.codec.size k) xs recovers.within) first
        (while_opened b ys start (after xs (after both_synced start)) plays (told_after (both_synced ++ xs) a b start does told) kept)

    -- And of the pieces behind them.
    pub whole_stops : (a b c : Told) (xs ys ops : List Op) (pieces : List (Piece S)) → AreFull opening → KeepsHeld keeping.codec s a xs → Does (both_synced ++ xs) a b
        → Plays keeping.codec s opening b.flashes ys → shows_in ys ≡ shows (lines_in opening) → Does ys b c → Plays keeping.codec s pieces c.flashes ops
        → (start : Flashes) → a.flashes ≡ Some start → AtEachStop (after both_synced start) (xs ++ (ys ++ ops)) (Survives keeping.codec s (opening ++ pieces) start)
    whole_stops a b c xs ys ops pieces full recovers does plays shown opened later start told =
        let Whole = Survives keeping.codec s (opening ++ pieces) start in
        let mid = after xs (after both_synced start) in
        let mid_told = told_after (both_synced ++ xs) a b start does told in
        let first = while_recovered a xs (opening ++ pieces) recovers start told in
        let kept = frames_at_end keeping.codec.size start (after both_synced start) xs (λ done stop left is. (first done stop left is).2) in
        let second = while_opened b ys start mid plays mid_told kept in
        let still = frames_at_end keeping.codec.size start mid ys (λ done stop left is. (second done stop left is).2) in
        stops-append_silent (after both_synced start) xs (ys ++ ops) Whole (in_shows (λ d k. IsOfTwin keeping.codec.size k) xs recovers.within) first
        (stops-append mid ys ops Whole (λ done stop left is. survives_more s opening pieces start left (second done stop left is)) (λ done stop left is.
        let holds = later.stops (after ys mid) (told_after ys b c mid opened mid_told) done stop left is in
        while_played left pieces (shown_by ys) full (text_of_lines ys (lines_in opening) shown) holds.0 start (frames_trans keeping.codec.size start (after ys mid) left still holds.1)))

    -- A recovery, and the opening lines, all of them or up to a fault.
    pub opening_call : (a b c : Told) → Runs (λ ops. (rest : List Op) × (ops ≡ both_synced ++ rest) × KeepsHeld keeping.codec s a rest) a b → Runs (Plays keeping.codec s opening b.flashes) b c
        → IsSafe keeping.codec s opening a c
    opening_call a b c (all, does, (xs, same, recovers)) (ys, showed, plays) = (
      all ++ ys,
      does-append all ys a b c does showed,
      (
        xs ++ ys,
        ap (λ (l : List Op). l ++ ys) same,
        opening_stops a b xs ys recovers (subst (λ (l : List Op). Does l a b) same does) plays,
      ),
    )

    -- A recovery, the opening lines, and the pieces behind them, all of them or up to a fault.
    pub whole_call : (a b c e : Told) (pieces : List (Piece S)) → AreFull opening → Runs (λ ops. (rest : List Op) × (ops ≡ both_synced ++ rest) × KeepsHeld keeping.codec s a rest) a b
        → HasPut keeping s opening b c → Runs (Plays keeping.codec s pieces c.flashes) c e
        → IsSafe keeping.codec s (opening ++ pieces) a e
    whole_call a b c e pieces full (all, does, (xs, same, recovers)) put (ops, played, plays) = (
      all ++ (put.ops ++ ops),
      does-append all (put.ops ++ ops) a b e does (does-append put.ops ops b c e put.does played),
      (
        xs ++ (put.ops ++ ops),
        ap (λ (l : List Op). l ++ (put.ops ++ ops)) same,
        whole_stops a b c xs put.ops ops pieces full recovers (subst (λ (l : List Op). Does l a b) same does) put.plays put.shown put.does plays,
      ),
    )
