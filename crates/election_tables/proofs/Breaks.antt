-- The first broken rule of a list in two parts.
use Rattle.std.proofs.Common.{◌≡◌, ℕ, suc, ◌+◌, ◌-◌, ◌<◌, ◌≤◌, slice_get, Bool, true, false, List, [], ◌∷◌, ◌++◌, length, Option, Some, None, refl, arith, ap, sym, ◌∙◌, inl, inr}
use Rattle.std.specs.List.{AllByRecursion}
use Rattle.std.proofs.lemmas.Bool.{cases_lt}
use Rattle.election_tables.specs.Rules.{first_broken, shape_rules, typed_rules, rules, broken_rule}
use Rattle.election_tables.specs.Entries.{document_of}
use Rattle.election_tables.specs.DocumentData.{DocumentData}
use Rattle.election_tables.specs.Laws.{IsFirstBroken, RuleHolds}
use Rattle.toml.specs.Data.{Members}

pub broken_front : (n : ℕ) (xs ys : List Bool) (k : ℕ) → first_broken n xs ≡ Some k → first_broken n (xs ++ ys) ≡ Some k
broken_front n [] ys k e = cc
broken_front n (true ∷ xs) ys k e = broken_front (n + 1) xs ys k e
broken_front n (false ∷ xs) ys k e = e

pub broken_back : (n : ℕ) (xs ys : List Bool) (m : ℕ) → first_broken n xs ≡ None → m ≡ n + length xs → first_broken n (xs ++ ys) ≡ first_broken m ys
broken_back n [] ys m e h = let same : n ≡ m = omega arith in ap (λ k. first_broken k ys) same
broken_back n (true ∷ xs) ys m e h = broken_back (n + 1) xs ys m e (omega arith)
broken_back n (false ∷ xs) ys m e h = cc

pub all_hold : (n : ℕ) (rs : List Bool) → first_broken n rs ≡ None → AllByRecursion (λ r. r ≡ true) rs
all_hold n [] e = tt
all_hold n (true ∷ rs) e = (refl, all_hold (n + 1) rs e)
all_hold n (false ∷ rs) e = cc

-- a document that breaks one of rules 1 to 3, and one that breaks none of them
pub broken_by_shape : (ms : Members) (k : ℕ) → first_broken 1 (shape_rules ms) ≡ Some k → broken_rule ms ≡ Some k
unfolding broken_rule rules
broken_by_shape ms k e = broken_front 1 (shape_rules ms) (typed_rules (document_of ms)) k e

pub broken_by_entries : (ms : Members) (d : DocumentData) (r : Option ℕ) → first_broken 1 (shape_rules ms) ≡ None → d ≡ document_of ms
    → first_broken 4 (typed_rules d) ≡ r → broken_rule ms ≡ r
unfolding broken_rule rules shape_rules
broken_by_entries ms d r e same first =
    broken_back 1 (shape_rules ms) (typed_rules (document_of ms)) 4 e refl ∙ ap (λ x. first_broken 4 (typed_rules x)) (sym same) ∙ first

-- ---- the first of some tests that fails

-- it is one of them, it fails, and each before it holds
record FailsFirst (n k : ℕ) (rs : List Bool) : Type 0 where
  low : n ≤ k
  high : k < n + length rs
  fails : slice_get rs (k - n) ≡ Some false
  before : (j : ℕ) → n ≤ j → j < k → slice_get rs (j - n) ≡ Some true

one_more : (r : Bool) (rs : List Bool) (n j : ℕ) → n + 1 ≤ j → slice_get (r ∷ rs) (j - n) ≡ slice_get rs (j - (n + 1))
one_more r rs n j h = ap (slice_get (r ∷ rs)) (let same : j - n ≡ suc (j - (n + 1)) = omega arith in same)

at_front : (r : Bool) (rs : List Bool) (n j : ℕ) → j ≡ n → slice_get (r ∷ rs) (j - n) ≡ Some r
at_front r rs n j h = ap (slice_get (r ∷ rs)) (let same : j - n ≡ 0 = omega arith in same)

fails_first : (n k : ℕ) (rs : List Bool) → first_broken n rs ≡ Some k → FailsFirst n k rs
fails_first n k [] e = cc
fails_first n k (true ∷ rs) e =
    let rest = fails_first (n + 1) k rs e in
    let low = rest.low in
    let high = rest.high in
    record {
      low = omega arith;
      high = omega arith;
      fails = one_more true rs n k low ∙ rest.fails;
      before = (λ j h below. elim (cases_lt n j) [
        | inl above ↦ one_more true rs n j (omega arith) ∙ rest.before j (omega arith) below
        | inr first ↦ at_front true rs n j (omega arith)
      ]);
    }
fails_first n k (false ∷ rs) e =
    let same : k ≡ n = cc in
    record { low = omega arith; high = omega arith; fails = at_front false rs n k same; before = (λ j h below. absurd (omega arith)) }

first_fails : (n k : ℕ) (rs : List Bool) → FailsFirst n k rs → first_broken n rs ≡ Some k
first_fails n k [] f = absurd (let low = f.low in let high = f.high in omega arith)
first_fails n k (true ∷ rs) f =
    let low = f.low in
    let high = f.high in
    elim (cases_lt n k) [
      | inl above ↦ first_fails (n + 1) k rs (record {
        low = omega arith;
        high = omega arith;
        fails = sym (one_more true rs n k (omega arith)) ∙ f.fails;
        before = (λ j h below. sym (one_more true rs n j h) ∙ f.before j (omega arith) below);
      })
      | inr first ↦ absurd (let here : Some true ≡ Some false = sym (at_front true rs n k (omega arith)) ∙ f.fails in cc)
    ]
first_fails n k (false ∷ rs) f =
    let low = f.low in
    elim (cases_lt n k) [
      | inl above ↦ absurd (let here : Some false ≡ Some true = sym (at_front false rs n n refl) ∙ f.before n (omega arith) above in cc)
      | inr first ↦ ap Some (omega arith)
    ]

none_fails : (n j : ℕ) (rs : List Bool) → first_broken n rs ≡ None → n ≤ j → j < n + length rs → slice_get rs (j - n) ≡ Some true
none_fails n j [] e h below = absurd (omega arith)
none_fails n j (true ∷ rs) e h below = elim (cases_lt n j) [
  | inl above ↦ one_more true rs n j (omega arith) ∙ none_fails (n + 1) j rs e (omega arith) (omega arith)
  | inr first ↦ at_front true rs n j (omega arith)
]
none_fails n j (false ∷ rs) e h below = cc

all_pass : (n : ℕ) (rs : List Bool) → ((j : ℕ) → n ≤ j → j < n + length rs → slice_get rs (j - n) ≡ Some true) → first_broken n rs ≡ None
all_pass n [] all = refl
all_pass n (true ∷ rs) all = all_pass (n + 1) rs (λ j h below. sym (one_more true rs n j h) ∙ all j (omega arith) (omega arith))
all_pass n (false ∷ rs) all = absurd (let here : Some false ≡ Some true = sym (at_front false rs n n refl) ∙ all n (omega arith) (omega arith) in cc)

-- ---- the rules

seventeen : (ms : Members) → length (rules ms) ≡ 17
unfolding rules shape_rules typed_rules
seventeen ms = refl

pub broken_is_first : (ms : Members) (k : ℕ) → broken_rule ms ≡ Some k → IsFirstBroken k ms
unfolding broken_rule
broken_is_first ms k e =
    let f = fails_first 1 k (rules ms) e in
    let low = f.low in
    let high = f.high in
    let size = seventeen ms in
    record { number = (low, omega arith); fails = f.fails; before = f.before }

pub first_is_broken : (ms : Members) (k : ℕ) → IsFirstBroken k ms → broken_rule ms ≡ Some k
unfolding broken_rule
first_is_broken ms k f =
    let low = f.number.0 in
    let high = f.number.1 in
    let size = seventeen ms in
    first_fails 1 k (rules ms) (record { low = low; high = omega arith; fails = f.fails; before = f.before })

pub kept_is_all : (ms : Members) → broken_rule ms ≡ None → (k : ℕ) → 1 ≤ k → k ≤ 17 → RuleHolds k ms
unfolding broken_rule
kept_is_all ms e k low high = let size = seventeen ms in none_fails 1 k (rules ms) e low (omega arith)

pub all_is_kept : (ms : Members) → ((k : ℕ) → 1 ≤ k → k ≤ 17 → RuleHolds k ms) → broken_rule ms ≡ None
unfolding broken_rule
all_is_kept ms all = let size = seventeen ms in all_pass 1 (rules ms) (λ j low below. all j low (omega arith))
