-- How many pieces a text has.
use Rattle.std.proofs.Common.{◌≢◌, ℕ, List, [], ◌+◌, ◌≤◌, length, ap, arith}
use Rattle.std.specs.Prelude.{◌==◌}
use Rattle.std.proofs.lemmas.List.Splits.{length-slice_split}
use Rattle.std.proofs.lemmas.List.Sums.{count_by-le-length}
use Rattle.urna_base.specs.Words.{pieces}

pub few_pieces : (text : List ℕ) → length (pieces text) ≤ length text + 1
few_pieces text = let e = length-slice_split (λ b. b == 32) text in omega (arith, count_by-le-length (λ b. b == 32) text)

-- there is always a piece, if an empty one
pub some_piece : (text : List ℕ) → pieces text ≢ []
some_piece text h = let e = length-slice_split (λ b. b == 32) text in let none = ap (λ (l : List (List ℕ)). length l) h in absurd (omega arith)
