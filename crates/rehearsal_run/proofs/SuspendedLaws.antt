-- One place more among those of the voters.
use Rattle.std.proofs.Common.{◌≡◌, ◌+◌, ℕ, Bool, true, false, List, [], ◌∷◌, ◌++◌, cond, ap, sym, ◌∙◌, arith}
use Rattle.std.specs.Prelude.{count_by}
use Rattle.std.specs.List.{range_with_len}
use Rattle.std.proofs.lemmas.List.Sums.{sum_by-append}
use Rattle.rehearsal.specs.Typing.{is_suspended}
use Rattle.rehearsal.proofs.Ranges.{range_more}
use Rattle.rehearsal_run.specs.Lines.{suspended_among}

count_behind : (p : ℕ → Bool) (places : List ℕ) (k : ℕ) → count_by p (places ++ k ∷ []) ≡ count_by p places + cond (p k) 1 0
count_behind p places k = sum_by-append (λ (j : ℕ). cond (p j) 1 0) places (k ∷ []) ∙ omega arith

pub suspended_more : (k : ℕ) → suspended_among (k + 1) ≡ suspended_among k + cond (is_suspended k) 1 0
suspended_more k = ap (λ (places : List ℕ). count_by is_suspended places) (range_more 0 k k (omega arith)) ∙ count_behind is_suspended (range_with_len 0 k) k

-- a count so far, behind a place of one who is suspended, and behind another one
pub counted : (k count : ℕ) → count ≡ suspended_among k → is_suspended k ≡ true → count + 1 ≡ suspended_among (k + 1)
counted k count so_far test =
    ap (λ (m : ℕ). m + 1) so_far ∙ ap (λ (b : Bool). suspended_among k + cond b 1 0) (sym test) ∙ sym (suspended_more k)

zero_more : (m : ℕ) → m ≡ m + 0
zero_more m = omega arith

pub passed : (k count : ℕ) → count ≡ suspended_among k → is_suspended k ≡ false → count ≡ suspended_among (k + 1)
passed k count so_far test =
    so_far ∙ zero_more (suspended_among k) ∙ ap (λ (b : Bool). suspended_among k + cond b 1 0) (sym test) ∙ sym (suspended_more k)
