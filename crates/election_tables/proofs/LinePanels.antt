-- The lines of the ballot, panel by panel
use Rattle.std.proofs.Common.{◌≡◌, ℕ, zero, suc, ◌+◌, ◌*◌, ◌-◌, ◌<◌, ◌≤◌, true, false, cond, List, [], ◌++◌, length, replicate, slice_get, Some, nat_eq, inl, inr, refl, sym, ap, subst, ◌∙◌, arith}
use Rattle.std.specs.List.{count_by, flat_map, range_with_len}
use Rattle.std.proofs.lemmas.Bool.{cases_lt}
use Rattle.std.proofs.lemmas.Bool.Decides.{nat_tests}
use Rattle.std.proofs.lemmas.List.{length-append, length-replicate}
use Rattle.std.proofs.lemmas.List.Folds.{sum_by-replicate}
use Rattle.std.proofs.lemmas.List.Sums.{sum_by-append}
use Rattle.election_tables.specs.TablesData.{TablesData, line_panels, places_at}

-- the lines of n panels, of which the first has this number, and each panel so many
abbrev pub lines_over : (ℕ → ℕ) → ℕ → ℕ → List ℕ
lines_over f first n = flat_map (λ panel. replicate (f panel) panel) (range_with_len first n)

pub lines_are : (t : TablesData) → line_panels t ≡ lines_over (places_at t) 0 (length t.panels)
unfolding line_panels
lines_are t = refl

-- How many there are

pub length-lines_more : (f : ℕ → ℕ) (first n : ℕ) → length (lines_over f first (suc n)) ≡ length (lines_over f first n) + f (first + n)
length-lines_more f first zero =
    let same : f first ≡ f (first + 0) = ap f (omega arith) in
    omega (arith, same, length-append (replicate (f first) first) [], length-replicate (f first) first)
length-lines_more f first (suc n) =
    let more = length-lines_more f (first + 1) n in
    let last : f (first + 1 + n) ≡ f (first + suc n) = ap f (omega arith) in
    omega (
      arith,
      more,
      last,
      length-append (replicate (f first) first) (lines_over f (first + 1) (suc n)),
      length-append (replicate (f first) first) (lines_over f (first + 1) n),
    )

-- Which panel a line is of

get_same : (m panel : ℕ) (rest : List ℕ) (k : ℕ) → k < m → slice_get (replicate m panel ++ rest) k ≡ Some panel
get_same zero panel rest k lt = absurd (omega arith)
get_same (suc m) panel rest zero lt = refl
get_same (suc m) panel rest (suc k) lt = get_same m panel rest k (omega arith)

get_behind : (m panel : ℕ) (rest : List ℕ) (k : ℕ) → m ≤ k → slice_get (replicate m panel ++ rest) k ≡ slice_get rest (k - m)
get_behind zero panel rest k le = ap (slice_get rest) (omega arith)
get_behind (suc m) panel rest zero le = absurd (omega arith)
get_behind (suc m) panel rest (suc k) le = get_behind m panel rest k (omega arith) ∙ ap (slice_get rest) (omega arith)

pub within_lines : (f : ℕ → ℕ) (first n k panel : ℕ) → slice_get (lines_over f first n) k ≡ Some panel → (first ≤ panel) × (panel < first + n)
within_lines f first zero k panel at = absurd (cc)
within_lines f first (suc n) k panel at = elim (cases_lt k (f first)) [
  | inl lt ↦
      let whole : Some first ≡ Some panel = sym (get_same (f first) first (lines_over f (first + 1) n) k lt) ∙ at in
      let same : first ≡ panel = cc in
      (omega (arith, same), omega (arith, same))
  | inr le ↦
      let more = within_lines f (first + 1) n (k - f first) panel (sym (get_behind (f first) first (lines_over f (first + 1) n) k le) ∙ at) in
      (omega (arith, more.0), omega (arith, more.1))
]

-- the lines of a panel stand behind those of the panels before it, one after the other
pub line_from : (f : ℕ → ℕ) (first n k panel : ℕ) → slice_get (lines_over f first n) k ≡ Some panel
    → (length (lines_over f first (panel - first)) ≤ k) × (k < length (lines_over f first (panel - first)) + f panel)
line_from f first zero k panel at = absurd (cc)
line_from f first (suc n) k panel at = elim (cases_lt k (f first)) [
  | inl lt ↦
      let whole : Some first ≡ Some panel = sym (get_same (f first) first (lines_over f (first + 1) n) k lt) ∙ at in
      let same : first ≡ panel = cc in
      let zeroth : panel - first ≡ 0 = omega (arith, same) in
      let none : length (lines_over f first (panel - first)) ≡ 0 = ap (λ (m : ℕ). length (lines_over f first m)) zeroth in
      let value : f first ≡ f panel = ap f same in
      (omega (arith, none), omega (arith, none, value, lt))
  | inr le ↦
      let behind = sym (get_behind (f first) first (lines_over f (first + 1) n) k le) ∙ at in
      let rest = line_from f (first + 1) n (k - f first) panel behind in
      let from = (within_lines f (first + 1) n (k - f first) panel behind).0 in
      let next : panel - first ≡ suc (panel - (first + 1)) = omega (arith, from) in
      let more = ap (λ (m : ℕ). length (lines_over f first m)) next in
      let parts = length-append (replicate (f first) first) (lines_over f (first + 1) (panel - (first + 1))) in
      let own = length-replicate (f first) first in
      (omega (arith, more, parts, own, rest.0, le), omega (arith, more, parts, own, rest.1, le))
]

-- each line is of a panel of the tables
pub line_within : (t : TablesData) (line panel : ℕ) → slice_get (line_panels t) line ≡ Some panel → panel < length t.panels
line_within t line panel at =
    let found = within_lines (places_at t) 0 (length t.panels) line panel (ap (λ (lines : List ℕ). slice_get lines line) (sym (lines_are t)) ∙ at) in
    omega (arith, found.1)

-- Counting down the lines: so many are left from a panel on.

pub record IsAt (f : ℕ → ℕ) (n line panel left : ℕ) : Type 0 where
  pub known : panel ≤ n
  pub within : left < length (lines_over f panel (n - panel))
  pub same : slice_get (lines_over f panel (n - panel)) left ≡ slice_get (lines_over f 0 n) line

pub at_start : (f : ℕ → ℕ) (n line : ℕ) → line < length (lines_over f 0 n) → IsAt f n line 0 line
at_start f n line lt =
    let whole : n - 0 ≡ n = omega arith in
    record {
      known = omega arith;
      within = subst (λ (k : ℕ). line < length (lines_over f 0 k)) (sym whole) lt;
      same = ap (λ (k : ℕ). slice_get (lines_over f 0 k) line) whole;
    }

-- the panel is one of the n
pub at_panel : (f : ℕ → ℕ) (n line panel left : ℕ) → IsAt f n line panel left → panel < n
at_panel f n line panel left at = elim (cases_lt panel n) [
  | inl lt ↦ lt
  | inr le ↦
      let none : n - panel ≡ 0 = omega arith in
      let past : left < length (lines_over f panel 0) = subst (λ (k : ℕ). left < length (lines_over f panel k)) none at.within in
      absurd (omega (arith, past))
]

from_panel : (f : ℕ → ℕ) (n panel : ℕ) → panel < n → lines_over f panel (n - panel) ≡ replicate (f panel) panel ++ lines_over f (panel + 1) (n - (panel + 1))
from_panel f n panel lt = let more : n - panel ≡ suc (n - (panel + 1)) = omega arith in ap (lines_over f panel) more

pub at_next : (f : ℕ → ℕ) (n line panel left : ℕ) → IsAt f n line panel left → f panel ≤ left → IsAt f n line (panel + 1) (left - f panel)
at_next f n line panel left at le =
    let lt = at_panel f n line panel left at in
    let rest : List ℕ = lines_over f (panel + 1) (n - (panel + 1)) in
    let parts = from_panel f n panel lt in
    let many : left < length (replicate (f panel) panel ++ rest) = subst (λ (lines : List ℕ). left < length lines) parts at.within in
    record {
      known = omega (arith, lt);
      within = omega (arith, many, length-append (replicate (f panel) panel) rest, length-replicate (f panel) panel);
      same = sym (get_behind (f panel) panel rest left le) ∙ (ap (λ (lines : List ℕ). slice_get lines left) (sym parts) ∙ at.same);
    }

pub at_line : (f : ℕ → ℕ) (n line panel left : ℕ) → IsAt f n line panel left → left < f panel → slice_get (lines_over f 0 n) line ≡ Some panel
at_line f n line panel left at lt =
    let parts = from_panel f n panel (at_panel f n line panel left at) in
    sym at.same ∙ (ap (λ (lines : List ℕ). slice_get lines left) parts ∙ get_same (f panel) panel (lines_over f (panel + 1) (n - (panel + 1))) left lt)

-- How many lines a panel has

count_part : (m panel k : ℕ) (rest : List ℕ) → count_by (nat_eq k) (replicate m panel ++ rest) ≡ m * cond (nat_eq k panel) 1 0 + count_by (nat_eq k) rest
count_part m panel k rest =
    sum_by-append (λ x. cond (nat_eq k x) 1 0) (replicate m panel) rest
    ∙ ap (λ (c : ℕ). c + count_by (nat_eq k) rest) (sum_by-replicate (λ x. cond (nat_eq k x) 1 0) m panel)

count_none : (f : ℕ → ℕ) (first n k : ℕ) → k < first → count_by (nat_eq k) (lines_over f first n) ≡ 0
count_none f first zero k lt = refl
count_none f first (suc n) k lt =
    let differ : nat_eq k first ≡ false = grind (arith, nat_tests, lt) in
    let no_more = count_none f (first + 1) n k (omega arith) in
    count_part (f first) first k (lines_over f (first + 1) n) ∙ rw differ (omega (arith, no_more))

pub count_lines : (f : ℕ → ℕ) (first n k : ℕ) → first ≤ k → k < first + n → count_by (nat_eq k) (lines_over f first n) ≡ f k
count_lines f first zero k le lt = absurd (omega arith)
count_lines f first (suc n) k le lt = elim (cases_lt first k) [
  | inl past ↦
      let differ : nat_eq k first ≡ false = grind (arith, nat_tests, past) in
      let more = count_lines f (first + 1) n k (omega arith) (omega arith) in
      count_part (f first) first k (lines_over f (first + 1) n) ∙ rw differ (omega (arith, more))
  | inr here ↦
      let is : k ≡ first = omega arith in
      let same : nat_eq k first ≡ true = grind (arith, nat_tests, is) in
      let no_more = count_none f (first + 1) n k (omega arith) in
      let value : f k ≡ f first = ap f is in
      count_part (f first) first k (lines_over f (first + 1) n) ∙ rw same (omega (arith, no_more, value))
]

-- a panel has a line for each vote that a voter has in it
pub count_of_panel : (t : TablesData) (panel : ℕ) → panel < length t.panels → count_by (nat_eq panel) (line_panels t) ≡ places_at t panel
count_of_panel t panel lt = ap (count_by (nat_eq panel)) (lines_are t) ∙ count_lines (places_at t) 0 (length t.panels) panel (omega arith) (omega arith)
