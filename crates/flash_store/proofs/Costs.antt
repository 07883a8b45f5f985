-- What pieces in order cost
use Rattle.std.proofs.Common.{◌≡◌, ◌⊎◌, ◌≤◌, ◌*◌, ◌+◌, ℕ, inl, inr, List, [], ◌∷◌, ◌++◌, length, Option, Some, None, IsSome, unwrap_or, refl, sym, ap, ◌∙◌, arith}
use Rattle.std.proofs.lemmas.List.{append-nil}
use Rattle.std.specs.Option.{option_to_list}
use Rattle.urna_outside.specs.Confined.{count_syncs}
use Rattle.urna_outside.specs.Flash.{Op, Show}
use Rattle.urna_outside.specs.Told.{IsTornShow, Told}
use Rattle.urna_outside.specs.declared.device.Port.{Port}
use Rattle.urna_outside.specs.declared.device.Port.TheVariants as port
use Rattle.urna_outside.proofs.Runs.{syncs-append}
use Rattle.gate_slot.specs.Page.{put_bytes}
use Rattle.gate_slot.proofs.Paging.{bytes-append}
use Rattle.flash_store.specs.Played.{AreInOrder, AreInOrderTo, IsCutCommit, IsCutPiece, Keeping, bytes_along, shows_in}
use Rattle.flash_store.specs.Pieces.{Piece, commits_in}

module _ {S : Type 0} (keeping : Keeping S) where
  -- at most so many syncs for so many states, and nothing but shows where there is none
  abbrev Cost : List S → List Op → Type 0
  Cost states ops = (count_syncs ops ≤ 12 * length states) × (states ≡ [] → ops ≡ shows_in ops)

  -- the cost of a piece's commit, and of what is behind it
  piece_cost : (o : Option S) (states : List S) (commit rest : List Op) → count_syncs commit ≤ 12 → (o ≡ None → commit ≡ []) → Cost states rest
      → Cost (option_to_list o ++ states) (commit ++ rest)
  piece_cost None states commit rest few none cost =
      let nothing : commit ≡ [] = none refl in
      let syncs : count_syncs commit ≡ 0 = ap count_syncs nothing in (
        omega (arith, cost.0, syncs-append commit rest),
        λ e. ap (λ (c : List Op). c ++ rest) nothing ∙ cost.1 e ∙ sym (ap (λ (c : List Op). shows_in (c ++ rest)) nothing),
      )
  piece_cost (Some s) states commit rest few none cost = (omega (arith, cost.0, few, syncs-append commit rest), λ e. absurd (cc))

  torn_cost : (line : List ℕ) (ops : List Op) → IsTornShow line ops → (count_syncs ops ≡ 0) × (ops ≡ shows_in ops) × (put_bytes ops ≡ 0)
  torn_cost line ops (inl nothing) = (ap count_syncs nothing, nothing ∙ sym (ap shows_in nothing), ap put_bytes nothing)
  torn_cost line ops (inr part) = let is : ops ≡ Show part.0 ∷ [] = part.4 in (ap count_syncs is, is ∙ sym (ap shows_in is), ap put_bytes is)

  -- what states cost behind others
  along-append : (o : Option S) (s : S) (states : List S) → bytes_along keeping.commit_bytes s (option_to_list o ++ states) ≡ bytes_along keeping.commit_bytes s (option_to_list o) + bytes_along keeping.commit_bytes (unwrap_or o s) states
  along-append None s states = omega arith
  along-append (Some u) s states = omega arith

  module _ (told : Told) where
    in_order_cost : (s : S) (pieces : List (Piece S)) (ops : List Op) → AreInOrder keeping told s pieces ops → Cost (commits_in pieces) ops
    in_order_cost s [] ops nothing = (let none = ap count_syncs nothing in omega arith, λ e. nothing ∙ sym (ap shows_in nothing))
    in_order_cost s (piece ∷ pieces) ops (commit, rest, of, is, more) =
        let later = in_order_cost (unwrap_or piece.commit s) pieces rest more in
        let cost = piece_cost piece.commit (commits_in pieces) commit (Show piece.line ∷ rest) of.syncs of.none (later.0, λ e. ap (λ (r : List Op). Show piece.line ∷ r) (later.1 e)) in
        (let same = ap count_syncs is in omega (arith, cost.0), λ e. is ∙ cost.1 e ∙ sym (ap shows_in is))

    -- a piece in which a flash failed
    cut_commit_cost : (s : S) (piece : Piece S) (pieces : List (Piece S)) (ops : List Op) → IsCutCommit keeping told s piece ops → Cost (commits_in (piece ∷ pieces)) ops
    cut_commit_cost s piece pieces ops cut = go piece.commit cut.some
      where
        go : (o : Option S) → IsSome o → Cost (option_to_list o ++ commits_in pieces) ops
        go None some = absurd (cc)
        go (Some u) some = (omega (arith, cut.syncs), λ e. absurd (cc))

    cut_cost : (at : Port) (s : S) (piece : Piece S) (pieces : List (Piece S)) (ops : List Op) → IsCutPiece keeping told at s piece ops → Cost (commits_in (piece ∷ pieces)) ops
    cut_cost port.Internal s piece pieces ops cut = cut_commit_cost s piece pieces ops cut
    cut_cost port.External s piece pieces ops cut = cut_commit_cost s piece pieces ops cut
    cut_cost port.Display s piece pieces ops cut =
        let line = torn_cost piece.line cut.torn cut.line in
        let cost = piece_cost piece.commit (commits_in pieces) cut.commit cut.torn cut.before.syncs cut.before.none (omega (arith, line.0), λ e. line.1) in
        (let same = ap count_syncs cut.in_row in omega (arith, cost.0), λ e. cut.in_row ∙ cost.1 e ∙ sym (ap shows_in cut.in_row))

    in_order_to_cost : (at : Port) (s : S) (pieces : List (Piece S)) (ops : List Op) → AreInOrderTo keeping told at s pieces ops → Cost (commits_in pieces) ops
    in_order_to_cost at s [] ops none = absurd none
    in_order_to_cost at s (piece ∷ pieces) ops (inl cut) = cut_cost at s piece pieces ops cut
    in_order_to_cost at s (piece ∷ pieces) ops (inr (commit, rest, of, is, more)) =
        let later = in_order_to_cost at (unwrap_or piece.commit s) pieces rest more in
        let cost = piece_cost piece.commit (commits_in pieces) commit (Show piece.line ∷ rest) of.syncs of.none (later.0, λ e. ap (λ (r : List Op). Show piece.line ∷ r) (later.1 e)) in
        (let same = ap count_syncs is in omega (arith, cost.0), λ e. is ∙ cost.1 e ∙ sym (ap shows_in is))

    -- the bytes of a piece's commit, and of what is behind it
    piece_bytes : (s : S) (piece : Piece S) (pieces : List (Piece S)) (commit rest ops : List Op) → ops ≡ commit ++ rest
        → put_bytes commit ≤ bytes_along keeping.commit_bytes s (option_to_list piece.commit) → put_bytes rest ≤ bytes_along keeping.commit_bytes (unwrap_or piece.commit s) (commits_in pieces)
        → put_bytes ops ≤ bytes_along keeping.commit_bytes s (commits_in (piece ∷ pieces))
    piece_bytes s piece pieces commit rest ops is few later =
        let same = ap put_bytes is in
        omega (arith, same, few, later, bytes-append commit rest, along-append piece.commit s (commits_in pieces))

    in_order_bytes : (s : S) (pieces : List (Piece S)) (ops : List Op) → IsSome told.trail → AreInOrder keeping told s pieces ops → put_bytes ops ≤ bytes_along keeping.commit_bytes s (commits_in pieces)
    in_order_bytes s [] ops traced nothing = let none = ap put_bytes nothing in omega (arith, none)
    in_order_bytes s (piece ∷ pieces) ops traced (commit, rest, of, is, more) =
        piece_bytes s piece pieces commit (Show piece.line ∷ rest) ops is (of.bytes traced) (in_order_bytes (unwrap_or piece.commit s) pieces rest traced more)

    cut_bytes : (at : Port) (s : S) (piece : Piece S) (pieces : List (Piece S)) (ops : List Op) → IsSome told.trail → IsCutPiece keeping told at s piece ops → put_bytes ops ≤ bytes_along keeping.commit_bytes s (commits_in (piece ∷ pieces))
    cut_bytes port.Internal s piece pieces ops traced cut = piece_bytes s piece pieces ops [] ops (sym (append-nil ops)) (cut.bytes traced) (omega arith)
    cut_bytes port.External s piece pieces ops traced cut = piece_bytes s piece pieces ops [] ops (sym (append-nil ops)) (cut.bytes traced) (omega arith)
    cut_bytes port.Display s piece pieces ops traced cut =
        piece_bytes s piece pieces cut.commit cut.torn ops cut.in_row (cut.before.bytes traced) (let line = torn_cost piece.line cut.torn cut.line in omega (arith, line.2))

    in_order_to_bytes : (at : Port) (s : S) (pieces : List (Piece S)) (ops : List Op) → IsSome told.trail → AreInOrderTo keeping told at s pieces ops → put_bytes ops ≤ bytes_along keeping.commit_bytes s (commits_in pieces)
    in_order_to_bytes at s [] ops traced none = absurd none
    in_order_to_bytes at s (piece ∷ pieces) ops traced (inl cut) = cut_bytes at s piece pieces ops traced cut
    in_order_to_bytes at s (piece ∷ pieces) ops traced (inr (commit, rest, of, is, more)) =
        piece_bytes s piece pieces commit (Show piece.line ∷ rest) ops is (of.bytes traced) (in_order_to_bytes at (unwrap_or piece.commit s) pieces rest traced more)

  pub costs_are_bounded : (told : Told) (at : Port) (s : S) (pieces : List (Piece S)) (ops : List Op)
      → AreInOrder keeping told s pieces ops ⊎ AreInOrderTo keeping told at s pieces ops
      → (count_syncs ops ≤ 12 * length (commits_in pieces)) × (IsSome told.trail → put_bytes ops ≤ bytes_along keeping.commit_bytes s (commits_in pieces))
      × (commits_in pieces ≡ [] → ops ≡ shows_in ops)
  costs_are_bounded told at s pieces ops (inl all) =
      let cost = in_order_cost told s pieces ops all in (cost.0, λ traced. in_order_bytes told s pieces ops traced all, cost.1)
  costs_are_bounded told at s pieces ops (inr cut) =
      let cost = in_order_to_cost told at s pieces ops cut in (cost.0, λ traced. in_order_to_bytes told at s pieces ops traced cut, cost.1)
