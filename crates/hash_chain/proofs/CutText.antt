-- A text is cut at its last space that leaves a part within its size.
use Rattle.std.proofs.Common.{◌≡◌, ◌≢◌, ℕ, zero, suc, ◌+◌, ◌-◌, ◌<◌, ◌≤◌, Bool, true, false, List, [], ◌∷◌, ◌++◌, length, take, drop, get_or, refl, sym, ap, ◌∙◌, subst, arith}
use Rattle.std.specs.Prelude.{◌==◌, if◌then◌else◌}
use Rattle.std.specs.List.{flat_map, slice_split, onto_first}
use Rattle.std.proofs.lemmas.Bool.Decides.{nat_tests}
use Rattle.std.proofs.lemmas.List.{append-nil, take-append-drop}
use Rattle.std.proofs.Math.Seq.{get_or-append_seam}
use Rattle.urna_base.specs.Words.{pieces, joined}
use Rattle.hash_chain.proofs.CutLaws.{Small, full_behind, one_cut, takes}
use Rattle.hash_chain.proofs.PieceLaws.{at_place, joined_pieces, some_piece}
use Rattle.hash_chain.specs.Cut.{IsFull, cut, cut_after, part_size}
use Rattle.hash_chain.specs.Fault.{AreFields}

onto_append : (x : ℕ) (ps qs : List (List ℕ)) → 0 < length ps → onto_first x (ps ++ qs) ≡ onto_first x ps ++ qs
onto_append x [] qs l = absurd (omega arith)
onto_append x (p ∷ ps) qs l = refl

-- the pieces in front of a space and behind it
pieces_append : (a b : List ℕ) → pieces (a ++ 32 ∷ b) ≡ pieces a ++ pieces b
pieces_append [] b = refl
pieces_append (x ∷ a) b = by_test (x == 32) (pieces_append a b)
  where
    by_test : (t : Bool) → pieces (a ++ 32 ∷ b) ≡ pieces a ++ pieces b
        → (if t then [] ∷ pieces (a ++ 32 ∷ b) else onto_first x (pieces (a ++ 32 ∷ b))) ≡ (if t then [] ∷ pieces a else onto_first x (pieces a)) ++ pieces b
    by_test true e = ap (λ (l : List (List ℕ)). [] ∷ l) e
    by_test false e = ap (λ (l : List (List ℕ)). onto_first x l) e ∙ onto_append x (pieces a) (pieces b) (some_piece (λ b. b == 32) a)

-- the first of the pieces of a text, and the others
first_of : (text : List ℕ) → (f : List ℕ) × (fs : List (List ℕ)) × (pieces text ≡ f ∷ fs)
first_of text = of_list (pieces text) (some_piece (λ b. b == 32) text)
  where
    of_list : (x : List (List ℕ)) → 0 < length x → (f : List ℕ) × (fs : List (List ℕ)) × (x ≡ f ∷ fs)
    of_list [] l = absurd (omega arith)
    of_list (f ∷ fs) l = (f, fs, refl)

-- a text within the size of a part is one part
pub whole_part : (text : List ℕ) → length text ≤ part_size → cut (pieces text) ≡ pieces text ∷ []
unfolding cut
whole_part text fits =
    let first = first_of text in
    let same : joined (first.0 ∷ first.1) ≡ text = ap (λ (l : List (List ℕ)). joined l) (sym first.2) ∙ joined_pieces text in
    let size = ap (λ (l : List ℕ). length l) same in
    let one = takes first.0 [] first.1 [] (omega arith) tt in
    let more = ap (λ (l : List (List ℕ)). cut_after (first.0 ∷ []) l) (append-nil first.1) in
    ap (λ (l : List (List ℕ)). cut l) first.2 ∙ (sym more ∙ (one ∙ ap (λ (l : List (List ℕ)). l ∷ []) (sym first.2)))

small_right : (a b : List (List ℕ)) → Small (a ++ b) → Small b
small_right [] b h = h
small_right (f ∷ a) b h = small_right a b h.1

-- the fields behind a space
pub fields_behind : (a b : List ℕ) → AreFields (pieces (a ++ 32 ∷ b)) → AreFields (pieces b)
fields_behind a b h =
    let P : List (List ℕ) → Type 0 = λ l. Small l in
    (some_piece (λ x. x == 32) b, small_right (pieces a) (pieces b) (subst P (pieces_append a b) h.1))

-- where no space stands among the first bytes, the first piece has as many
first_long : (b : List ℕ) (n : ℕ) → n ≤ length b → ((k : ℕ) → k < n → get_or b k 0 ≢ 32) → (f : List ℕ) (fs : List (List ℕ)) → pieces b ≡ f ∷ fs → n ≤ length f
first_long b zero few none f fs e = omega arith
first_long [] (suc n) few none f fs e = absurd (omega arith)
first_long (x ∷ b) (suc n) few none f fs e =
    let other = none 0 (omega arith) in
    let test : (x == 32) ≡ false = grind (arith, nat_tests) in
    let rest = first_of b in
    let same : (x ∷ rest.0) ∷ rest.1 ≡ f ∷ fs = ap (λ (l : List (List ℕ)). onto_first x l) (sym rest.2) ∙ (rw (test, slice_split) at e) in
    let front : x ∷ rest.0 ≡ f = cc in
    let size = ap (λ (l : List ℕ). length l) front in
    let more = first_long b n (omega arith) (λ k h. none (suc k) (omega arith)) rest.0 rest.1 rest.2 in
    omega arith

behind_full : (a b : List ℕ) → length a ≤ part_size → AreFields (pieces b) → (f : List ℕ) (fs : List (List ℕ)) → pieces b ≡ f ∷ fs → part_size < length a + 1 + length f → IsFull (pieces a) (cut (pieces b))
unfolding cut
behind_full a b fits fields f fs e over =
    let first = first_of a in
    let same : joined (first.0 ∷ first.1) ≡ a = ap (λ (l : List (List ℕ)). joined l) (sym first.2) ∙ joined_pieces a in
    let size = ap (λ (l : List ℕ). length l) same in
    let P : List (List ℕ) → Type 0 = λ l. IsFull l (cut (pieces b)) in
    let Q : List (List ℕ) → Type 0 = λ l. IsFull (first.0 ∷ first.1) (cut l) in
    let R : List (List ℕ) → Type 0 = λ l. AreFields l in
    let rest = (one_cut (f ∷ fs) (subst R e fields)).0 in
    subst P (sym first.2) (subst Q (sym e) (full_behind first.1 first.0 f fs (omega arith) rest.full))

-- a part that is full, and the parts behind it
pub cut_at : (a b : List ℕ) → AreFields (pieces (a ++ 32 ∷ b)) → length a ≤ part_size → ((k : ℕ) → k < part_size - length a → get_or b k 0 ≢ 32) → part_size - length a ≤ length b
    → cut (pieces (a ++ 32 ∷ b)) ≡ pieces a ∷ cut (pieces b)
unfolding cut
cut_at a b fields fits none long =
    let right = fields_behind a b fields in
    let next = first_of b in
    let enough = first_long b (part_size - length a) long none next.0 next.1 next.2 in
    let full = behind_full a b fits right next.0 next.1 next.2 (omega arith) in
    let first = first_of a in
    let same : joined (first.0 ∷ first.1) ≡ a = ap (λ (l : List (List ℕ)). joined l) (sym first.2) ∙ joined_pieces a in
    let size = ap (λ (l : List ℕ). length l) same in
    let P : List (List ℕ) → Type 0 = λ l. IsFull l (cut (pieces b)) in
    let all : flat_map (λ p. p) (cut (pieces b)) ≡ pieces b = (one_cut (pieces b) right).0.all in
    let one = takes first.0 [] first.1 (cut (pieces b)) (omega arith) (subst P first.2 full) in
    ap (λ (l : List (List ℕ)). cut l) (pieces_append a b ∙ ap (λ (l : List (List ℕ)). l ++ pieces b) first.2)
    ∙ (ap (λ (l : List (List ℕ)). cut_after (first.0 ∷ []) (first.1 ++ l)) (sym all)
    ∙ (one ∙ (ap (λ (l : List (List ℕ)). l ∷ cut (flat_map (λ p. p) (cut (pieces b)))) (sym first.2)
    ∙ ap (λ (l : List (List ℕ)). pieces a ∷ cut l) all)))

-- ---- the same, by the place of the space

split_there : (text : List ℕ) (end : ℕ) → end < length text → get_or text end 0 ≡ 32 → text ≡ take end text ++ 32 ∷ drop (end + 1) text
split_there text end within space =
    sym (take-append-drop end text) ∙ ap (λ (l : List ℕ). take end text ++ l) (at_place text end within ∙ ap (λ (x : ℕ). x ∷ drop (end + 1) text) space)

get_behind : (t : List ℕ) (n k : ℕ) → get_or (drop n t) k 0 ≡ get_or t (n + k) 0
get_behind t zero k = let same : 0 + k ≡ k = omega arith in rw same refl
get_behind [] (suc n) k = refl
get_behind (x ∷ t) (suc n) k = let next : suc n + k ≡ suc (n + k) = omega arith in rw next (get_behind t n k)

length_take : (t : List ℕ) (n : ℕ) → n ≤ length t → length (take n t) ≡ n
length_take t zero h = refl
length_take [] (suc n) h = absurd (omega arith)
length_take (x ∷ t) (suc n) h = let rest = length_take t n (omega arith) in omega arith

length_behind : (t : List ℕ) (n : ℕ) → n ≤ length t → length (drop n t) + n ≡ length t
length_behind t zero h = omega arith
length_behind [] (suc n) h = absurd (omega arith)
length_behind (x ∷ t) (suc n) h = let rest = length_behind t n (omega arith) in omega arith

-- the last space of a text that leaves a part within its size
abbrev pub IsLastSpace : List ℕ → ℕ → Type 0
IsLastSpace text end = (end ≤ part_size) × (get_or text end 0 ≡ 32) × ((k : ℕ) → end < k → k ≤ part_size → get_or text k 0 ≢ 32)

pub part_there : (text : List ℕ) (end : ℕ) → AreFields (pieces text) → part_size < length text → IsLastSpace text end
    → (cut (pieces text) ≡ pieces (take end text) ∷ cut (pieces (drop (end + 1) text))) × AreFields (pieces (drop (end + 1) text))
part_there text end fields long last =
    let within : end < length text = let low = last.0 in omega arith in
    let there = split_there text end within last.1 in
    let P : List ℕ → Type 0 = λ t. AreFields (pieces t) in
    let of_both = subst P there fields in
    let front = length_take text end (omega arith) in
    let behind = length_behind text (end + 1) (omega arith) in
    let none : (k : ℕ) → k < part_size - length (take end text) → get_or (drop (end + 1) text) k 0 ≢ 32 =
    λ k h e. last.2 (end + 1 + k) (omega arith) (omega arith) (sym (get_behind text (end + 1) k) ∙ e) in (
      ap (λ (t : List ℕ). cut (pieces t)) there ∙ cut_at (take end text) (drop (end + 1) text) of_both (let low = last.0 in omega arith) none (omega arith),
      fields_behind (take end text) (drop (end + 1) text) of_both,
    )

-- a text of more bytes than a part has a space among the first
pub has_space : (text : List ℕ) → AreFields (pieces text) → part_size < length text → (k : ℕ) × (k ≤ part_size) × (get_or text k 0 ≡ 32)
has_space text fields long = of_pieces (pieces text) refl
  where
    of_pieces : (ps : List (List ℕ)) → pieces text ≡ ps → (k : ℕ) × (k ≤ part_size) × (get_or text k 0 ≡ 32)
    of_pieces [] e = let some = some_piece (λ b. b == 32) text in let none = ap (λ (l : List (List ℕ)). length l) e in absurd (omega arith)
    of_pieces (f ∷ []) e =
        let P : List (List ℕ) → Type 0 = λ l. Small l in
        let fits = (subst P e fields.1).0.1 in
        let same = ap (λ (l : List ℕ). length l) (sym (joined_pieces text) ∙ ap (λ (l : List (List ℕ)). joined l) e) in
        absurd (omega arith)
    of_pieces (f ∷ g ∷ fs) e =
        let P : List (List ℕ) → Type 0 = λ l. Small l in
        let fits = (subst P e fields.1).0.1 in
        let same : text ≡ f ++ 32 ∷ joined (g ∷ fs) = sym (joined_pieces text) ∙ ap (λ (l : List (List ℕ)). joined l) e in
        (length f, fits, ap (λ (l : List ℕ). get_or l (length f) 0) same ∙ get_or-append_seam f 32 (joined (g ∷ fs)) 0)
