-- The pieces of a text at a separator.
use Rattle.std.proofs.Common.{◌≡◌, ℕ, List, [], ◌∷◌, ◌++◌, ◌+◌, ◌<◌, ◌≤◌, length, take, drop, Bool, Some, None, ap, ◌∙◌, arith}
use Rattle.std.specs.Prelude.{◌==◌, position, nat_lt}
use Rattle.std.specs.List.{AllByRecursion, join_with_byte, slice_split, position_or_len}
use Rattle.std.proofs.lemmas.Bool.{ltb-true, ltb-false}
use Rattle.std.proofs.lemmas.Grind.{common_steps}
use Rattle.std.proofs.lemmas.List.Splits.{slice_split_at, slice_split_first, slice_split_none}
use Rattle.std.proofs.lemmas.List.Sums.{fails_before_first}
use Rattle.urna_base.proofs.Cases.{guard_none}
use Rattle.urna_base.proofs.DigitLaws.{some_from_test}
use Rattle.urna_base.proofs.Lacking.{Lacks, each_other}
use Rattle.urna_base.proofs.WordLaws.{same_byte}

-- the pieces of a text at the first separator, and behind it
pub split_first : (is : ℕ → Bool) (text : List ℕ) (end : ℕ) → position is text ≡ Some end
    → slice_split is text ≡ take end text ∷ slice_split is (drop (end + 1) text)
split_first is text end h =
    let both = some_from_test (nat_lt (position_or_len is text) (length text)) (position_or_len is text) end h in
    let within : position_or_len is text < length text = ltb-true _ _ both.0 in
    rw (← both.1) (slice_split_first is text 0 within)

-- a text with no separator is one piece
pub no_split : (is : ℕ → Bool) (text : List ℕ) → position is text ≡ None → slice_split is text ≡ text ∷ []
no_split is text h =
    let past = guard_none (nat_lt (position_or_len is text) (length text)) (position_or_len is text) h in
    let far : length text ≤ position_or_len is text = ltb-false _ _ past in
    slice_split_none is text (λ k e m. let near = fails_before_first is text k e (grind (arith, common_steps)) in grind (arith, common_steps))

-- a text without a byte is a piece, with that byte behind it and alone
pub piece_first : (b : ℕ) (text rest : List ℕ) → Lacks b text → slice_split (λ c. c == b) (text ++ b ∷ rest) ≡ text ∷ slice_split (λ c. c == b) rest
piece_first b text rest h = slice_split_at (λ c. c == b) text b rest (each_other b text h) (same_byte b)

pub piece_last : (b : ℕ) (text : List ℕ) → Lacks b text → slice_split (λ c. c == b) text ≡ text ∷ []
piece_last b text h = slice_split_none (λ c. c == b) text (each_other b text h)

-- texts without a byte, joined by it, are the pieces
pub pieces_joined : (b : ℕ) (text : List ℕ) (texts : List (List ℕ)) → AllByRecursion (Lacks b) (text ∷ texts)
    → slice_split (λ c. c == b) (join_with_byte b (text ∷ texts)) ≡ text ∷ texts
pieces_joined b text [] h = piece_last b text h.0
pieces_joined b text (next ∷ texts) h =
    piece_first b text (join_with_byte b (next ∷ texts)) h.0 ∙ ap (λ (pieces : List (List ℕ)). text ∷ pieces) (pieces_joined b next texts h.1)
