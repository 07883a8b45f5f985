-- A text cut at a byte
use Rattle.std.proofs.Common.{◌≡◌, ℕ, suc, ◌+◌, ◌<◌, ◌≤◌, Bool, true, false, cond, List, [], ◌∷◌, ◌++◌, length, take, drop, Option, Some, None, option_map, refl, ap, ◌∙◌, append_assoc, arith}
use Rattle.std.specs.Prelude.{◌==◌, position, nat_lt}
use Rattle.std.specs.List.{list_all, position_or_len}
use Rattle.std.proofs.lemmas.Bool.{ltb-true, ltb-false}
use Rattle.std.proofs.lemmas.Bool.Decides.{nat_tests}
use Rattle.urna_base.specs.Words.{cut_at}
use Rattle.urna_base.proofs.Cases.{guard_none, map_some}
use Rattle.urna_base.proofs.DigitLaws.{both_from_and, some_from_test}
use Rattle.urna_base.proofs.Lacking.{Lacks, is_other, other_byte}
use Rattle.urna_base.proofs.WordLaws.{same_byte}

pub is_byte : (b c : ℕ) → (c == b) ≡ true → c ≡ b
is_byte b c h = grind (arith, nat_tests)

-- a text with the byte behind a front that has none is cut there
pub cut_behind : (b : ℕ) (t rest : List ℕ) → Lacks b t → cut_at b (t ++ b ∷ rest) ≡ Some (t, rest)
unfolding cut_at
cut_behind b [] rest h = rw (same_byte b) refl
cut_behind b (c ∷ t) rest h =
    let both = both_from_and (is_other b c) (list_all (is_other b) t) h in
    rw (other_byte b c both.0, cut_behind b t rest both.1) refl

-- and a text that is cut is its two parts
pub cut_parts : (b : ℕ) (text : List ℕ) (x : List ℕ × List ℕ) → cut_at b text ≡ Some x → text ≡ x.0 ++ b ∷ x.1
unfolding cut_at
cut_parts b [] x h = absurd (cc)
cut_parts b (c ∷ text) x h = go (c == b) refl h (cut_parts b text)
  where
    go : (p : Bool) → (c == b) ≡ p → cond p (Some ([], text)) (option_map (λ y. (c ∷ y.0, y.1)) (cut_at b text)) ≡ Some x
        → ((y : List ℕ × List ℕ) → cut_at b text ≡ Some y → text ≡ y.0 ++ b ∷ y.1) → c ∷ text ≡ x.0 ++ b ∷ x.1
    go true e g behind = let one = is_byte b c e in let pair : ([], text) ≡ x = cc in rw (← pair) (ap (λ (d : ℕ). d ∷ text) one)
    go false e g behind =
        let inner = map_some (λ (y : List ℕ × List ℕ). (c ∷ y.0, y.1)) (cut_at b text) x g in
        let rest = behind inner.0 inner.1 in
        rw (← inner.2) (ap (λ (l : List ℕ). c ∷ l) rest)

-- where the first such byte stands
abbrev place_of : ℕ → List ℕ → ℕ
place_of b text = position_or_len (λ c. c == b) text

cut_within : (b : ℕ) (text : List ℕ) → place_of b text < length text → cut_at b text ≡ Some (take (place_of b text) text, drop (place_of b text + 1) text)
unfolding cut_at
cut_within b [] h = absurd (omega arith)
cut_within b (c ∷ text) h = go (c == b) refl h (cut_within b text)
  where
    go : (p : Bool) → (c == b) ≡ p → place_of b (c ∷ text) < length (c ∷ text)
        → (place_of b text < length text → cut_at b text ≡ Some (take (place_of b text) text, drop (place_of b text + 1) text))
        → cut_at b (c ∷ text) ≡ Some (take (place_of b (c ∷ text)) (c ∷ text), drop (place_of b (c ∷ text) + 1) (c ∷ text))
    go true e g behind = rw e refl
    go false e g behind =
        let g' : 1 + place_of b text < suc (length text) = rw e at g in
        let rest = behind (omega arith) in
        let next : 1 + place_of b text ≡ suc (place_of b text) = omega arith in
        let after : suc (place_of b text) + 1 ≡ suc (place_of b text + 1) = omega arith in
        rw (e, rest, next, after) refl

cut_past : (b : ℕ) (text : List ℕ) → length text ≤ place_of b text → cut_at b text ≡ None
unfolding cut_at
cut_past b [] h = refl
cut_past b (c ∷ text) h = go (c == b) refl h (cut_past b text)
  where
    go : (p : Bool) → (c == b) ≡ p → length (c ∷ text) ≤ place_of b (c ∷ text) → (length text ≤ place_of b text → cut_at b text ≡ None)
        → cut_at b (c ∷ text) ≡ None
    go true e g behind = let g' : suc (length text) ≤ 0 = rw e at g in absurd (omega arith)
    go false e g behind =
        let g' : suc (length text) ≤ 1 + place_of b text = rw e at g in
        rw (e, behind (omega arith)) refl

pub cut_at_place : (b : ℕ) (text : List ℕ) (end : ℕ) → position (λ c. c == b) text ≡ Some end → cut_at b text ≡ Some (take end text, drop (end + 1) text)
cut_at_place b text end h =
    let both = some_from_test (nat_lt (place_of b text) (length text)) (place_of b text) end h in
    rw (← both.1) (cut_within b text (ltb-true _ _ both.0))

pub cut_nowhere : (b : ℕ) (text : List ℕ) → position (λ c. c == b) text ≡ None → cut_at b text ≡ None
cut_nowhere b text h =
    let past = guard_none (nat_lt (place_of b text) (length text)) (place_of b text) h in
    cut_past b text (ltb-false _ _ past)

-- what stands in front of the first such byte has none
pub cut_front : (b : ℕ) (text : List ℕ) (x : List ℕ × List ℕ) → cut_at b text ≡ Some x → Lacks b x.0
unfolding cut_at
cut_front b [] x h = absurd (cc)
cut_front b (c ∷ text) x h = go (c == b) refl h (cut_front b text)
  where
    go : (p : Bool) → (c == b) ≡ p → cond {A = Option (List ℕ × List ℕ)} p (Some ([], text)) (option_map (λ (y : List ℕ × List ℕ). (c ∷ y.0, y.1)) (cut_at b text)) ≡ Some x
        → ((y : List ℕ × List ℕ) → cut_at b text ≡ Some y → Lacks b y.0) → Lacks b x.0
    go true e g behind = let pair : ([], text) ≡ x = cc in rw (← pair) refl
    go false e g behind =
        let inner = map_some (λ (y : List ℕ × List ℕ). (c ∷ y.0, y.1)) (cut_at b text) x g in
        rw (← inner.2, e, behind inner.0 inner.1) refl

-- what stands behind a text stands behind what is cut off
pub cut_more : (b : ℕ) (text : List ℕ) (x : List ℕ × List ℕ) (more : List ℕ) → cut_at b text ≡ Some x → cut_at b (text ++ more) ≡ Some (x.0, x.1 ++ more)
cut_more b text x more h =
    ap (λ (l : List ℕ). cut_at b (l ++ more)) (cut_parts b text x h)
    ∙ (ap (λ (l : List ℕ). cut_at b l) (append_assoc x.0 (b ∷ x.1) more) ∙ cut_behind b x.0 (x.1 ++ more) (cut_front b text x h))
