-- What a power cut leaves of a call of vota keeps its votes
use Rattle.std.proofs.Common.{◌≡◌, ◌⊎◌, inl, inr, ℕ, ◌+◌, ◌<◌, Some, List, [], ◌∷◌, ◌++◌, length, slice_get, take, refl, sym, ap, subst, ◌∙◌, arith}
use Rattle.std.proofs.lemmas.List.{length-take-le}
use Rattle.urna_outside.specs.Flash.{Flashes, Op, after}
use Rattle.urna_outside.specs.Stop.{AtEachStop, Left}
use Rattle.urna_outside.specs.Told.{Told}
use Rattle.urna_outside.specs.Traced.{IsTraced}
use Rattle.election_tables.specs.Roll.{RollData}
use Rattle.election_tables.specs.TablesData.{TablesData}
use Rattle.election_tables.specs.declared.tables.sections.Section.{Section}
use Rattle.key_script.specs.declared.keys.Event.{Event}
use Rattle.vote_kinds.specs.Ballot.{ballot_lines}
use Rattle.image_codec.specs.State.{State}
use Rattle.image_codec.proofs.Growing.{also_none}
use Rattle.flash_store.specs.Syncs.{both_synced}
use Rattle.state_store.specs.Held.{KeepFrames, HeldAlone, HeldByBoth, poll}
use Rattle.state_store.specs.Calls.{AreFound}
use Rattle.flash_store.specs.Held.{IsEither, bodies_of_both}
use Rattle.state_store.specs.Played.{Follows, IsSafe, Survives}
use Rattle.flash_store.specs.Pieces.{commits_in, commits_reached, lines_in, lines_reached, state_after, text_in}
use Rattle.state_store.specs.Pieces.{Piece}
use Rattle.state_store.specs.declared.load.Load.{Load}
use Rattle.flash_store.proofs.Counting.{numbered, one_more}
use Rattle.flash_store.proofs.Holding.{hold_encoding}
use Rattle.flash_store.proofs.Syncing.{behind_is}
use Rattle.station.specs.Cast.{ballots_of, fims_reached}
use Rattle.station.specs.Output.{Output}
use Rattle.station.specs.Run.{IsRun, ends as no_event}
use Rattle.station.specs.Setting.{setting_of}
use Rattle.station.proofs.Casting.{pieces_commit, run_counts, run_shown}
use Rattle.station.proofs.Fims.{AreShown, fims_none}
use Rattle.station.proofs.Prefixes.{after_prefix}
use Rattle.call_laws.specs.Headline.{HoldsPrefix, IsOrNext, KeepsVotes, session_of}
use Rattle.image_codec.specs.Layout.{body_size}

-- ---- what is held

-- as many marks as the roll has voters
pub found_roll : (t : TablesData) (r : RollData) (section : Section) (s : State) (flashes : Flashes) → AreFound t r section s flashes → length s.came ≡ length r.titles
found_roll t r section s flashes found =
    (hold_encoding (poll t (length r.titles)) (bodies_of_both body_size flashes.internal.content flashes.external.content) s found.held).1.state.roll

module _ (t : TablesData) (r : RollData) (s last : State) (es : List Event) (out : List Output) (run : IsRun (setting_of t r.titles) s es last out) (roll : length s.came ≡ length r.titles) where
  abbrev pieces : List Piece
  pieces = session_of t s out

  -- the state of number k is the one after a prefix, and so it has the ballots of that prefix
  holds_at : (c f : ℕ) (held : State → Type 0) → AreShown (ballot_lines t) s (ballots_of run) (commits_in pieces) c f → (u : State) → held u
      → (k : ℕ) → IsOrNext c k → slice_get (s ∷ commits_in pieces) k ≡ Some u → HoldsPrefix t r s es out (ballots_of run) c f held
  holds_at c f held shown u is k which same =
      let got = shown k u which same in
      let after = after_prefix (setting_of t r.titles) run k u (subst (λ (l : List State). slice_get (s ∷ l) k ≡ Some u) (pieces_commit t out) same) in
      let has = run_counts t r.titles roll after.run in
      let few : length (take got.0 (ballots_of run)) ≡ got.0 = length-take-le got.0 (ballots_of run) got.2 in
      let many : length (ballots_of after.run) ≡ got.0 = omega (arith, has.number, got.3.number, few) in
      record {
        state = u;
        is = is;
        number = k;
        after = after;
        told = which;
        shown = subst (IsOrNext f) (sym many) got.1;
        has = has;
      }

  holds : (k f : ℕ) (held : State → Type 0) → AreShown (ballot_lines t) s (ballots_of run) (commits_in pieces) (length (commits_in (take k pieces))) f
      → IsEither (state_after s (take k pieces)) (state_after s (take (k + 1) pieces)) held
      → HoldsPrefix t r s es out (ballots_of run) (length (commits_in (take k pieces))) f held
  holds k f held shown (inl is) =
      holds_at (length (commits_in (take k pieces))) f held shown (state_after s (take k pieces)) is (length (commits_in (take k pieces))) (inl refl) (numbered s pieces k)
  holds k f held shown (inr is) =
      holds_at (length (commits_in (take k pieces))) f held shown (state_after s (take (k + 1) pieces)) is (length (commits_in (take (k + 1) pieces))) (one_more pieces k) (numbered s pieces (k + 1))

  -- before any line is begun it is that after no press
  holds_first : (c f : ℕ) (held : State → Type 0) → c ≡ 0 → f ≡ 0 → held s → HoldsPrefix t r s es out (ballots_of run) c f held
  holds_first c f held first none is =
      record {
        state = s;
        is = is;
        number = 0;
        after = record { prefix = []; more = es; events = refl; put = []; later = out; texts = refl; run = no_event; committed = refl; others = ballots_of run; cast = refl };
        told = inl (sym first);
        shown = inl (sym none);
        has = also_none (ballot_lines t) s;
      }

-- nothing is told before the first byte
pub commits_none : (pieces : List Piece) → commits_reached pieces 0 ≡ 0
commits_none [] = refl
commits_none (piece ∷ more) = refl

-- ---- what is left

-- a text has no byte, or some
pub text_cases : (bytes : List ℕ) → (bytes ≡ []) ⊎ (0 < length bytes)
text_cases [] = inl refl
text_cases (byte ∷ bytes) = inr (omega arith)

module _ (t : TablesData) (r : RollData) (s last : State) (es : List Event) (out : List Output) (run : IsRun (setting_of t r.titles) s es last out) (roll : length s.came ≡ length r.titles)
    (start : Flashes) (left : Left) where
  abbrev Kept : Type 0
  Kept = KeepsVotes t r s start es out (ballots_of run) left

  abbrev n : ℕ
  n = length left.shown

  abbrev c : ℕ
  c = commits_reached (session_of t s out) n

  abbrev f : ℕ
  f = fims_reached (lines_in (session_of t s out)) n

  -- before the first byte
  pub kept_silent : left.shown ≡ [] → HeldByBoth t (length r.titles) left.internal left.external s → KeepFrames start left → Kept
  kept_silent none held frames =
      record {
        rest = text_in (session_of t s out);
        front = ap (λ (l : List ℕ). l ++ text_in (session_of t s out)) (sym none);
        before = λ shown. held;
        both = holds_first t r s last es out run roll c f (HeldByBoth t (length r.titles) left.internal left.external)
            (ap (λ (l : List ℕ). commits_reached (session_of t s out) (length l)) none ∙ commits_none (session_of t s out))
            (ap (λ (l : List ℕ). fims_reached (lines_in (session_of t s out)) (length l)) none ∙ fims_none (lines_in (session_of t s out))) held;
        internal = λ some. absurd (omega (arith, ap length none, some));
        external = λ some. absurd (omega (arith, ap length none, some));
        frames = frames;
      }

  -- behind it, in a session
  kept_shown : 0 < n → Follows t (length r.titles) s (session_of t s out) left → KeepFrames start left → Kept
  kept_shown some follows frames =
      let k = lines_reached (lines_in (session_of t s out)) n in
      let shown = run_shown t r.titles roll run k in
      record {
        rest = follows.rest;
        front = follows.front;
        before = λ none. absurd (omega (arith, ap length none, some));
        both = holds t r s last es out run roll k f (HeldByBoth t (length r.titles) left.internal left.external) shown follows.holds.both;
        internal = λ _. holds t r s last es out run roll k f (HeldAlone t (length r.titles) left.internal) shown follows.holds.internal;
        external = λ _. holds t r s last es out run roll k f (HeldAlone t (length r.titles) left.external) shown follows.holds.external;
        frames = frames;
      }

  pub session_kept : (load : Load) → load.section.voters ≡ length r.titles → Survives t load s (session_of t s out) start left → Kept
  session_kept load voters survives = elim (text_cases left.shown) [
    | inl none ↦ kept_silent none (subst (λ (k : ℕ). HeldByBoth t k left.internal left.external s) voters (survives.0 none)) survives.2
    | inr some ↦ kept_shown some (subst (λ (k : ℕ). Follows t k s (session_of t s out) left) voters (survives.1 some)) survives.2
  ]

-- ---- what was done

module _ (m n : Told) (start : Flashes) (rest : List Op) (traced : IsTraced m n start (both_synced ++ rest)) where
  -- what holds of a safe call holds at the stops of the trail
  pub safe_stops : (t : TablesData) (load : Load) (s : State) (pieces : List Piece) → IsSafe t load s pieces m n
      → AtEachStop (after both_synced start) rest (Survives t load s pieces start)
  safe_stops t load s pieces safe =
      subst (λ (l : List Op). AtEachStop (after both_synced start) l (Survives t load s pieces start)) (behind_is m n start rest traced safe.0 safe.2.0 safe.1 safe.2.1) (safe.2.2 start traced.flashes)
