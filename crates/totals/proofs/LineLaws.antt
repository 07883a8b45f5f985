-- Lines behind others, and how long the lines of the totals are
use Rattle.std.proofs.Common.{◌≡◌, ◌+◌, ◌<◌, ◌≤◌, ◌^◌, ℕ, zero, suc, List, [], ◌∷◌, ◌++◌, length, take, slice_get, Some, Result, Ok, Err, OnOk, sym, ap, ◌∙◌, add-one, append_assoc, arith}
use Rattle.std.specs.Fmt.{decimal}
use Rattle.std.proofs.Common.{length-append}
use Rattle.std.proofs.lemmas.Fmt.{length-decimal-le}
use Rattle.election_tables.specs.TablesData.{TablesData}
use Rattle.seat_remainders.specs.declared.outcome.Award.{Award}
use Rattle.totals.specs.Lines.{award_line, award_lines}

-- one line more behind lines, by what it comes to
pub pushed : {X : Type 0} (now before fn told more : List X) (line : X) → now ≡ before ++ line ∷ [] → before ≡ fn ++ told → more ≡ told ++ line ∷ []
    → now ≡ fn ++ more
pushed now before fn told more line push so_far is =
    push ∙ (ap (λ ls. ls ++ line ∷ []) so_far ∙ (append_assoc fn told (line ∷ []) ∙ ap (λ ls. fn ++ ls) (sym is)))

-- one line behind lines, by what it tells
pub line_behind : {X : Type 0} (now before : List X) (line told : X) → now ≡ before ++ line ∷ [] → line ≡ told → now ≡ before ++ told ∷ []
line_behind now before line told push is = push ∙ ap (λ x. before ++ x ∷ []) is

-- lines behind lines
pub behind : {X : Type 0} (now before fn told own : List X) → now ≡ before ++ own → before ≡ fn ++ told → now ≡ fn ++ (told ++ own)
behind now before fn told own more so_far = more ∙ (ap (λ ls. ls ++ own) so_far ∙ append_assoc fn told own)

awards_then : (t : TablesData) (first : ℕ) (ws : List Award) (i : ℕ) (w : Award) → slice_get ws i ≡ Some w
    → award_lines t first (take (suc i) ws) ≡ award_lines t first (take i ws) ++ award_line t (first + i) w ∷ []
awards_then t first [] i w at = absurd (cc)
awards_then t first (v ∷ ws) zero w at =
    let same : v ≡ w = cc in
    ap (λ (x : Award). award_line t first x ∷ []) same ∙ ap (λ (k : ℕ). award_line t k w ∷ []) (omega arith)
awards_then t first (v ∷ ws) (suc i) w at =
    ap (λ (ls : List (List ℕ)). award_line t first v ∷ ls) (awards_then t (first + 1) ws i w at)
    ∙ ap (λ (k : ℕ). award_line t first v ∷ (award_lines t (first + 1) (take i ws) ++ award_line t k w ∷ [])) (omega arith)

-- one round more
pub awards_more : (t : TablesData) (ws : List Award) (i round : ℕ) (w : Award) → slice_get ws i ≡ Some w → round ≡ i + 1
    → award_lines t 1 (take (i + 1) ws) ≡ award_lines t 1 (take i ws) ++ award_line t round w ∷ []
awards_more t ws i round w at is =
    ap (λ (k : ℕ). award_lines t 1 (take k ws)) (add-one i)
    ∙ (awards_then t 1 ws i w at ∙ ap (λ (k : ℕ). award_lines t 1 (take i ws) ++ award_line t k w ∷ []) (omega (arith, is)))

-- a number below 10^11 has at most 11 digits
pub length-decimal-le_11 : (v : ℕ) → v < 10 ^ 11 → length (decimal v) ≤ 11
length-decimal-le_11 v h = length-decimal-le 11 v (omega arith) h (omega arith)

pub ruleset small_lengths = (length-append, length-decimal-le_11)

-- and one below 10^3 at most 3
pub length-decimal-le_3 : (v : ℕ) → v < 10 ^ 3 → length (decimal v) ≤ 3
length-decimal-le_3 v h = length-decimal-le 3 v (omega arith) h (omega arith)

pub ruleset code_lengths = (length-append, length-decimal-le_3)

-- a line, three lists of lines and another line
pub five_behind : {X : Type 0} (fn a b d e f : List X) (first last : X) (xs ys zs : List X) → a ≡ fn ++ first ∷ [] → b ≡ a ++ xs → d ≡ b ++ ys → e ≡ d ++ zs
    → f ≡ e ++ last ∷ [] → f ≡ fn ++ (first ∷ (xs ++ (ys ++ (zs ++ last ∷ []))))
five_behind {X} fn a b d e f first last xs ys zs p q r s w =
    let two : b ≡ fn ++ (first ∷ xs) = behind b a fn (first ∷ []) xs q p in
    let three : d ≡ fn ++ (first ∷ (xs ++ ys)) = behind d b fn (first ∷ xs) ys r two in
    let four : e ≡ fn ++ (first ∷ ((xs ++ ys) ++ zs)) = behind e d fn (first ∷ (xs ++ ys)) zs s three in
    behind f e fn (first ∷ ((xs ++ ys) ++ zs)) (last ∷ []) w four
    ∙ ap (λ (l : List X). fn ++ (first ∷ l))
    (append_assoc (xs ++ ys) zs (last ∷ []) ∙ append_assoc xs ys (zs ++ last ∷ []))

-- what follows where a call is Ok
pub on_ok : {T E P Q : Type 0} (r : Result T E) → (P → Q) → OnOk r P → OnOk r Q
on_ok (Ok x) f h = f h
on_ok (Err e) f h = tt
