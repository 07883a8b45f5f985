-- The votes of a report are added choice by choice
use Rattle.std.proofs.Common.{◌≡◌, inl, inr, ℕ, ◌+◌, ◌*◌, ◌<◌, List, length, slice_get, Some, sym, ap, subst, ◌∙◌, arith}
use Rattle.std.proofs.lemmas.Bool.{cases_lt}
use Rattle.urna_outside.specs.Confined.{IsInRange}
use Rattle.poll_report.specs.declared.report.Report.{Report}
use Rattle.vote_kinds.specs.declared.choice.Choice.{Choice}
use Rattle.intake_ledger.specs.Body.{sum_in, sum_offset}
use Rattle.intake_ledger.specs.Entry.{HasAdded, KeepsBytes}
use Rattle.intake_ledger.specs.Layout.{body_size, most_sums, sum_size, sums_offset}
use Rattle.intake_ledger.specs.Ledger.{votes_in}
use Rattle.intake_ledger.proofs.Keeping.{keeps_more, keeps_trans, kept_sum}

one_some : {A : Type 0} {x y : A} → Some x ≡ Some y → x ≡ y
one_some e = cc

module _ (choices : List (ℕ × Choice)) (r : Report) (many : ℕ) (old now : List ℕ) (long : length old ≡ body_size) (few : many < most_sums) (before : HasAdded choices r many old now) where
  -- the next sum is as it was
  pub sum_next : sum_in now many ≡ sum_in old many
  sum_next = kept_sum (IsInRange sums_offset (sum_size * many)) old now before.kept many (omega (arith, long)) (λ k ge lt there. absurd (omega (arith, there.1)))

  -- one choice more
  pub added_more : (x : ℕ × Choice) (new : List ℕ) → slice_get choices many ≡ Some x → sum_in new many ≡ sum_in now many + votes_in x r
      → KeepsBytes (IsInRange (sum_offset many) sum_size) now new → HasAdded choices r (many + 1) old new
  added_more x new at sum kept =
      record {
        sums = λ place y lt there. elim (cases_lt place many) [
          | inl earlier ↦
              kept_sum (IsInRange (sum_offset many) sum_size) now new kept place (omega (arith, before.kept.size, long)) (λ k ge below in_range. absurd (omega (arith, in_range.0)))
              ∙ before.sums place y earlier there
          | inr last ↦
              let here : many ≡ place = omega arith in
              let same : x ≡ y = one_some (sym at ∙ ap (slice_get choices) here ∙ there) in
              subst (λ (k : ℕ). sum_in new k ≡ sum_in old k + votes_in y r) here
              (sum ∙ ap (λ (n : ℕ). n + votes_in x r) sum_next ∙ ap (λ (z : ℕ × Choice). sum_in old many + votes_in z r) same)
        ];
        kept = keeps_trans (IsInRange sums_offset (sum_size * (many + 1))) old now new
            (keeps_more (IsInRange sums_offset (sum_size * many)) (IsInRange sums_offset (sum_size * (many + 1))) old now (λ k there. (there.0, omega (arith, there.1))) before.kept)
            (keeps_more (IsInRange (sum_offset many) sum_size) (IsInRange sums_offset (sum_size * (many + 1))) now new (λ k there. (omega (arith, there.0), omega (arith, there.1))) kept);
      }
