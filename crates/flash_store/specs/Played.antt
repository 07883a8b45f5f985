-- Putting pieces out over two flashes: each state is committed, and then its line is shown
use Rattle.std.specs.Prelude.{◌≡◌, ◌⊎◌, ℕ, ◌+◌, ◌<◌, ◌≤◌, List, [], ◌∷◌, ◌++◌, Option, None, Result, Ok, Err, length, take, unwrap_or, IsSome, Contains}
use Rattle.std.specs.List.{AllByRecursion}
use Rattle.std.specs.Option.{ForSome, option_to_list}
use Rattle.urna_outside.specs.Confined.{count_syncs}
use Rattle.urna_outside.specs.Faults.{EndsAt, IsFaultless}
use Rattle.urna_outside.specs.Flash.{Op, Put, Sync, Show, Flashes, after}
use Rattle.urna_outside.specs.ShownLines.{IsCutShort, shows}
use Rattle.urna_outside.specs.Stop.{AtEachStop, Left}
use Rattle.urna_outside.specs.Told.{Told, Does, IsTornShow, Runs}
use Rattle.urna_outside.specs.declared.device.Port.{Port}
use Rattle.urna_outside.specs.declared.device.Port.TheVariants as port
use Rattle.gate_slot.specs.Front.{IsFrontOfSome}
use Rattle.gate_slot.specs.Page.{put_bytes}
use Rattle.twin_image.specs.Twin.{IsOfTwin}
use Rattle.flash_store.specs.Held.{Codec, HeldByBoth, HoldEither, KeepFrames}
use Rattle.flash_store.specs.Pieces.{Piece, commits_in, lines_in, lines_reached, state_after, text_in}
use Rattle.flash_store.specs.Syncs.{both_synced}

-- the shows among some operations, in order
abbrev pub shows_in : List Op → List Op
shows_in [] = []
shows_in (Put d at bytes ∷ ops) = shows_in ops
shows_in (Sync d ∷ ops) = shows_in ops
shows_in (Show bytes ∷ ops) = Show bytes ∷ shows_in ops

-- a write of the gates and bodies of slots of this size alone, a sync or a show
abbrev pub IsOfSession : ℕ → Op → Type 0
IsOfSession size (Put d at bytes) = (k : ℕ) → at ≤ k → k < at + length bytes → IsOfTwin size k
IsOfSession size (Sync d) = Unit {0}
IsOfSession size (Show bytes) = Unit {0}

-- ---- what a power cut leaves

module _ {S : Type 0} (codec : Codec S) where
  -- both flashes, and each alone, hold the state after so many of the pieces, or after one piece more
  abbrev pub HoldAfter : S → List (Piece S) → ℕ → Left → Type 0
  HoldAfter s pieces k left = HoldEither codec (state_after s (take k pieces)) (state_after s (take (k + 1) pieces)) left

  -- What a power cut leaves while the pieces are put out from a state. The shown text is a front of the whole. Both flashes, and each alone,
  -- hold the state after the pieces into whose lines it reaches, or after one piece more.
  pub record Follows (s : S) (pieces : List (Piece S)) (left : Left) : Type 0 where
    pub rest : List ℕ
    pub front : text_in pieces ≡ left.shown ++ rest
    pub holds : HoldAfter s pieces (lines_reached (lines_in pieces) (length left.shown)) left

  -- what holds of the operations while the pieces are put out, whole or up to a fault
  pub record Plays (s : S) (pieces : List (Piece S)) (start : Option Flashes) (ops : List Op) : Type 0 where
    pub slots : AllByRecursion (IsOfSession codec.size) ops
    pub stops : ForSome start (λ flashes. AtEachStop flashes ops (λ left. Follows s pieces left × KeepFrames codec.size flashes left))

  -- What a power cut leaves of a call that puts the pieces out from the state that it found: before the first byte both flashes
  -- together hold that state, and from it on they follow the text. The frames stay.
  abbrev pub Survives : S → List (Piece S) → Flashes → Left → Type 0
  Survives s pieces start left =
      (left.shown ≡ [] → HeldByBoth codec left.internal left.external s)
      × (0 < length left.shown → Follows s pieces left)
      × KeepFrames codec.size start left

  -- A call synced both flashes, and at each stop behind that it leaves so much, wherever the power went.
  abbrev pub IsSafe : S → List (Piece S) → Told → Told → Type 0
  IsSafe s pieces old new =
      Runs (λ ops. (rest : List Op) × (ops ≡ both_synced ++ rest)
      × ForSome old.flashes (λ start. AtEachStop (after both_synced start) rest (Survives s pieces start))) old new

-- ---- in which order, at what cost, and what is there at the end

-- How states are kept on two flashes: when flashes are at rest with a state, all that a commit of one state over another does, and how many
-- bytes it puts at most.
pub record Keeping (S : Type 0) : Type 1 where
  pub codec : Codec S
  pub AreAtRest : S → Flashes → Type 0
  pub IsCommit : S → S → List Op → Type 0
  pub commit_bytes : S → S → ℕ

-- how many bytes the commits of these states put at most, each over the one before it
abbrev pub bytes_along : {S : Type 0} → (S → S → ℕ) → S → List S → ℕ
bytes_along commit_bytes s [] = 0
bytes_along commit_bytes s (u ∷ states) = commit_bytes s u + bytes_along commit_bytes u states

module _ {S : Type 0} (keeping : Keeping S) where
  -- What a piece does before its line, over this state: the commit of the state that it tells, with at most 12 syncs and, where the trail
  -- is told, no more bytes than that state costs over the other, and where the flashes are told too, in its order; where it tells none,
  -- nothing.
  pub record IsBeforeLine (told : Told) (s : S) (piece : Piece S) (ops : List Op) : Type 0 where
    pub silent : shows_in ops ≡ []
    pub syncs : count_syncs ops ≤ 12
    pub bytes : IsSome told.trail → put_bytes ops ≤ bytes_along keeping.commit_bytes s (option_to_list piece.commit)
    pub order : IsSome told.trail → IsSome told.flashes → ForSome piece.commit (λ u. keeping.IsCommit s u ops)
    pub none : piece.commit ≡ None → ops ≡ []

  -- What a piece that tells a state does of its commit where a flash failed in it: no more than the whole, and a front of it.
  pub record IsCutCommit (told : Told) (s : S) (piece : Piece S) (ops : List Op) : Type 0 where
    pub some : IsSome piece.commit
    pub silent : shows_in ops ≡ []
    pub syncs : count_syncs ops ≤ 12
    pub bytes : IsSome told.trail → put_bytes ops ≤ bytes_along keeping.commit_bytes s (option_to_list piece.commit)
    pub order : IsSome told.trail → IsSome told.flashes → ForSome piece.commit (λ u. IsFrontOfSome (keeping.IsCommit s u) ops)

  -- the commit of a piece was done, and the display failed in its line
  pub record IsCutLine (told : Told) (s : S) (piece : Piece S) (ops : List Op) : Type 0 where
    pub commit : List Op
    pub torn : List Op
    pub before : IsBeforeLine told s piece commit
    pub line : IsTornShow piece.line torn
    pub in_row : ops ≡ commit ++ torn

  -- what a piece does in which this port fails
  abbrev pub IsCutPiece : Told → Port → S → Piece S → List Op → Type 0
  IsCutPiece told port.Display s piece ops = IsCutLine told s piece ops
  IsCutPiece told port.Internal s piece ops = IsCutCommit told s piece ops
  IsCutPiece told port.External s piece ops = IsCutCommit told s piece ops

  -- each line is one show, just behind the commit of its piece over the state before it
  abbrev pub AreInOrder : Told → S → List (Piece S) → List Op → Type 0
  AreInOrder told s [] ops = ops ≡ []
  AreInOrder told s (piece ∷ pieces) ops =
      (commit : List Op) × (rest : List Op) × IsBeforeLine told s piece commit × (ops ≡ commit ++ Show piece.line ∷ rest)
      × AreInOrder told (unwrap_or piece.commit s) pieces rest

  -- the same up to a fault of this port in one of the pieces
  abbrev pub AreInOrderTo : Told → Port → S → List (Piece S) → List Op → Type 0
  AreInOrderTo told at s [] ops = ⊥
  AreInOrderTo told at s (piece ∷ pieces) ops =
      IsCutPiece told at s piece ops
      ⊎ ((commit : List Op) × (rest : List Op) × IsBeforeLine told s piece commit × (ops ≡ commit ++ Show piece.line ∷ rest)
      × AreInOrderTo told at (unwrap_or piece.commit s) pieces rest)

  -- All pieces were put out in order, and no call failed. Both flashes are at rest with the state after them.
  pub record HasPut (s : S) (pieces : List (Piece S)) (old new : Told) : Type 0 where
    pub ops : List Op
    pub does : Does ops old new
    pub plays : Plays keeping.codec s pieces old.flashes ops
    pub shown : shows_in ops ≡ shows (lines_in pieces)
    pub order : AreInOrder old s pieces ops
    pub rest : ForSome new.flashes (keeping.AreAtRest (state_after s pieces))
    pub fine : IsFaultless old new

-- the call was cut off in the commit before a line
abbrev pub IsInCommit : {S : Type 0} → List (Piece S) → List Op → Type 0
IsInCommit {S} pieces shown =
    (before : List (Piece S)) × (piece : Piece S) × (behind : List (Piece S)) × (pieces ≡ before ++ piece ∷ behind) × IsSome piece.commit
    × (shown ≡ shows (lines_in before))

-- Where the call was cut off, by the port that failed: the display in one of the lines, or a flash in the commit before a line.
abbrev pub IsCutAt : {S : Type 0} → Port → List (Piece S) → List Op → Type 0
IsCutAt port.Display pieces shown = IsCutShort (lines_in pieces) shown
IsCutAt port.Internal pieces shown = IsInCommit pieces shown
IsCutAt port.External pieces shown = IsInCommit pieces shown

module _ {S : Type 0} (keeping : Keeping S) where
  -- A port failed while the pieces were put out in order, and no call of the machine was made after it, as far as calls are told. Where it
  -- was the display, both flashes are at rest with one of the states.
  pub record HasStopped (s : S) (pieces : List (Piece S)) (at : Port) (old new : Told) : Type 0 where
    pub ops : List Op
    pub does : Does ops old new
    pub plays : Plays keeping.codec s pieces old.flashes ops
    pub cut : IsCutAt at pieces (shows_in ops)
    pub order : AreInOrderTo keeping old at s pieces ops
    pub rest : at ≡ port.Display → (u : S) × Contains (s ∷ commits_in pieces) u × ForSome new.flashes (keeping.AreAtRest u)
    pub fault : EndsAt at old new

  -- A call puts these pieces out: all of them where it is Ok, and up to a fault of the port that it answers where it isn't.
  abbrev pub Puts : {T E : Type 0} → (E → Port) → Result T E → S → List (Piece S) → Told → Told → Type 0
  Puts port_in (Ok x) s pieces old new = HasPut keeping s pieces old new
  Puts port_in (Err e) s pieces old new = HasStopped s pieces (port_in e) old new
