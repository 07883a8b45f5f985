-- How many reports were refused, one verdict after the other
use Rattle.std.proofs.Common.{◌≡◌, ◌≤◌, ◌+◌, ℕ, Bool, true, false, not, List, [], ◌∷◌, ◌++◌, if◌then◌else◌, inl, inr, sym, ap, ◌∙◌, arith}
use Rattle.std.proofs.lemmas.Bool.{cases_Bool}
use Rattle.std.proofs.lemmas.List.Sums.{sum_by_push}
use Rattle.section_intake.specs.Accepted.{is_accepted}
use Rattle.section_intake.specs.declared.verdict.Verdict.{Verdict}
use Rattle.report_lines.specs.Verdicts.{refused_count}

-- one, where the verdict refuses
abbrev pub refused_one : Verdict → ℕ
refused_one v = if not (is_accepted v) then 1 else 0

pub refused_at_most : (v : Verdict) → refused_one v ≤ 1
refused_at_most v = elim (cases_Bool (is_accepted v)) [ inl accepts ↦ rw accepts (omega arith) | inr refuses ↦ rw refuses (omega arith) ]

pub refused_then : (vs : List Verdict) (v : Verdict) → refused_count (vs ++ v ∷ []) ≡ refused_count vs + refused_one v
refused_then vs v = sum_by_push (λ (w : Verdict). if not (is_accepted w) then 1 else 0) vs v

-- a count that was raised where a verdict refuses, and left where it accepts
pub counted_one : (v : Verdict) (b : Bool) (r n : ℕ) → b ≡ is_accepted v → not b ≡ true → n ≡ r + 1 → n ≡ r + refused_one v
counted_one v b r n same refuses is = is ∙ ap (λ (x : Bool). r + (if x then 1 else 0)) (sym refuses ∙ ap not same)

pub counted_none : (v : Verdict) (b : Bool) (r n : ℕ) → b ≡ is_accepted v → not b ≡ false → n ≡ r → n ≡ r + refused_one v
counted_none v b r n same accepts is =
    let none : r ≡ r + 0 = omega arith in
    is ∙ (none ∙ ap (λ (x : Bool). r + (if x then 1 else 0)) (sym accepts ∙ ap not same))
