-- The pieces of a text, at a separator and behind it.
use Rattle.std.proofs.Common.{◌≡◌, ◌≢◌, ℕ, zero, suc, List, [], ◌∷◌, ◌++◌, ◌+◌, ◌<◌, ◌≤◌, length, take, drop, get_or, Bool, true, false, not, Some, None, refl, sym, ap, ◌∙◌, arith, lit<}
use Rattle.std.specs.Prelude.{◌==◌, ◌&&◌, position, nat_lt, codes, is_none}
use Rattle.std.specs.List.{slice_split, position_or_len, onto_first, list_all}
use Rattle.std.proofs.lemmas.Bool.{ltb-true, ltb-false}
use Rattle.std.proofs.lemmas.Bool.Decides.{nat_tests}
use Rattle.std.proofs.lemmas.List.{take-append-drop}
use Rattle.std.proofs.lemmas.List.Splits.{slice_split-cons_no, length-slice_split, join_with_byte-slice_split}
use Rattle.std.proofs.lemmas.List.Sums.{fails_before_first, passes_at_first}
use Rattle.urna_base.specs.Words.{after_word, pieces, joined}
use Rattle.urna_base.proofs.DigitLaws.{both_from_and, some_from_test}
use Rattle.urna_base.proofs.Cases.{guard_none}
use Rattle.urna_base.proofs.Lacking.{Lacks, is_other, seen_lack}
use Rattle.urna_base.proofs.PieceLaws.{piece_first, piece_last}
use Rattle.hash_chain.specs.Lines.{is_field}
use Rattle.hash_chain.specs.Reading.{is_printed}

-- there is always a piece, if an empty one
pub some_piece : (is : ℕ → Bool) (text : List ℕ) → 0 < length (slice_split is text)
some_piece is text = omega (arith, length-slice_split is text)

-- the pieces between spaces, joined by spaces, are the text
pub joined_pieces : (text : List ℕ) → joined (pieces text) ≡ text
joined_pieces text = join_with_byte-slice_split 32 text

-- ---- words at the front of a text

abbrev isnt : ℕ → Bool
isnt b = not (is_printed b)

-- each byte in front of the first that isn't printed is
printed_to : (t : List ℕ) (end : ℕ) → ((k : ℕ) → k < end → isnt (get_or t k 0) ≡ false) → list_all is_printed (take end t) ≡ true
printed_to t zero h = refl
printed_to [] (suc n) h = refl
printed_to (x ∷ t) (suc n) h =
    let here : isnt x ≡ false = h 0 (omega arith) in
    rw (printed_of (is_printed x) here, printed_to t n (λ k l. h (suc k) (omega arith))) refl
  where
    printed_of : (b : Bool) → not b ≡ false → b ≡ true
    printed_of true e = refl
    printed_of false e = absurd (cc)

pub word_to_first : (text : List ℕ) (end : ℕ) → position isnt text ≡ Some end → list_all is_printed (take end text) ≡ true
word_to_first text end h =
    let both = some_from_test (nat_lt (position_or_len isnt text) (length text)) (position_or_len isnt text) end h in
    printed_to text end (λ k l. let near : k < position_or_len isnt text = rw both.1 l in fails_before_first isnt text k 0 near)

pub other_at_first : (text : List ℕ) (end : ℕ) → position isnt text ≡ Some end → is_printed (get_or text end 0) ≡ false
other_at_first text end h =
    let both = some_from_test (nat_lt (position_or_len isnt text) (length text)) (position_or_len isnt text) end h in
    let within : position_or_len isnt text < length text = ltb-true _ _ both.0 in
    let passes : isnt (get_or text (position_or_len isnt text) 0) ≡ true = passes_at_first isnt text 0 within in
    let here : isnt (get_or text end 0) ≡ true = rw both.1 at passes in
    unprinted_of (is_printed (get_or text end 0)) here
  where
    unprinted_of : (b : Bool) → not b ≡ true → b ≡ false
    unprinted_of false e = refl
    unprinted_of true e = absurd (cc)

pub word_to_end : (text : List ℕ) → position isnt text ≡ None → list_all is_printed (take (length text) text) ≡ true
word_to_end text h =
    let past = guard_none (nat_lt (position_or_len isnt text) (length text)) (position_or_len isnt text) h in
    let far : length text ≤ position_or_len isnt text = ltb-false _ _ past in
    printed_to text (length text) (λ k l. fails_before_first isnt text k 0 (omega arith))

take_all : (t : List ℕ) → take (length t) t ≡ t
take_all [] = refl
take_all (x ∷ t) = ap (λ (l : List ℕ). x ∷ l) (take_all t)

pub at_place : (t : List ℕ) (end : ℕ) → end < length t → drop end t ≡ get_or t end 0 ∷ drop (end + 1) t
at_place [] end h = absurd (omega arith)
at_place (x ∷ t) zero h = refl
at_place (x ∷ t) (suc n) h = let next : suc n + 1 ≡ suc (n + 1) = omega arith in rw next (at_place t n (omega arith))

-- printed bytes to the end are one piece
pub whole_word : (text : List ℕ) (end : ℕ) → end ≡ length text → list_all is_printed (take end text) ≡ true → (pieces text ≡ text ∷ []) × (list_all is_printed text ≡ true)
whole_word text end e h =
    let all : list_all is_printed text ≡ true = ap (λ (t : List ℕ). list_all is_printed t) (sym (ap (λ (n : ℕ). take n text) e ∙ take_all text)) ∙ h in
    (piece_last 32 text (seen_lack 32 text (lit< tt) all), all)

-- printed bytes to a space are the first piece
pub word_cut : (text : List ℕ) (end : ℕ) → end < length text → get_or text end 0 ≡ 32 → list_all is_printed (take end text) ≡ true → pieces text ≡ take end text ∷ pieces (drop (end + 1) text)
word_cut text end within space h =
    let cut_here : text ≡ take end text ++ 32 ∷ drop (end + 1) text =
    sym (take-append-drop end text) ∙ ap (λ (l : List ℕ). take end text ++ l) (at_place text end within ∙ ap (λ (x : ℕ). x ∷ drop (end + 1) text) space) in
    ap (λ (t : List ℕ). pieces t) cut_here ∙ piece_first 32 (take end text) (drop (end + 1) text) (seen_lack 32 (take end text) (lit< tt) h)

-- the first piece goes on behind bytes that are no spaces
goes_on : (w t : List ℕ) → Lacks 32 w → (p : List ℕ) × (ps : List (List ℕ)) × (pieces (w ++ t) ≡ (w ++ p) ∷ ps) × (pieces t ≡ p ∷ ps)
goes_on [] t h = some_first (pieces t) (some_piece (λ b. b == 32) t)
  where
    some_first : (x : List (List ℕ)) → 0 < length x → (p : List ℕ) × (ps : List (List ℕ)) × (x ≡ p ∷ ps) × (x ≡ p ∷ ps)
    some_first [] l = absurd (omega arith)
    some_first (p ∷ ps) l = (p, ps, refl, refl)
goes_on (x ∷ w) t h =
    let both = both_from_and (is_other 32 x) (list_all (is_other 32) w) h in
    let test : is_other 32 x ≡ true = both.0 in
    let no : (x == 32) ≡ false = grind (arith, nat_tests) in
    let rest = goes_on w t both.1 in
    (rest.0, rest.1, slice_split-cons_no (λ b. b == 32) x (w ++ t) no ∙ ap (λ (l : List (List ℕ)). onto_first x l) rest.2, rest.3)

not_all : (w p : List ℕ) (c : ℕ) → is_printed c ≡ false → list_all is_printed (w ++ c ∷ p) ≡ false
not_all [] p c h = rw h refl
not_all (x ∷ w) p c h = by_test (is_printed x) (list_all is_printed (w ++ c ∷ p)) (not_all w p c h)
  where
    by_test : (b rest : Bool) → rest ≡ false → (b && rest) ≡ false
    by_test true rest e = e
    by_test false rest e = refl

no_word : (t : List ℕ) → list_all is_printed t ≡ false → is_field t ≡ false
no_word t h = by_test (nat_lt 0 (length t))
  where
    by_test : (b : Bool) → ((b && list_all is_printed t) && is_none (after_word (codes "HASH:") t)) ≡ false
    by_test true = rw h refl
    by_test false = refl

-- a byte that is neither printed nor a space makes a piece that is no field
pub word_broken : (text : List ℕ) (end : ℕ) → end < length text → get_or text end 0 ≢ 32 → is_printed (get_or text end 0) ≡ false → list_all is_printed (take end text) ≡ true → list_all is_field (pieces text) ≡ false
word_broken text end within space bad h =
    let c : ℕ = get_or text end 0 in
    let cut_here : text ≡ take end text ++ c ∷ drop (end + 1) text = sym (take-append-drop end text) ∙ ap (λ (l : List ℕ). take end text ++ l) (at_place text end within) in
    let first = goes_on (take end text) (c ∷ drop (end + 1) text) (seen_lack 32 (take end text) (lit< tt) h) in
    let no : is_other 32 c ≡ true = grind (arith, nat_tests) in
    let one : Lacks 32 (c ∷ []) = rw no refl in
    let second = goes_on (c ∷ []) (drop (end + 1) text) one in
    let same : first.0 ∷ first.1 ≡ (c ∷ second.0) ∷ second.1 = sym first.3 ∙ second.2 in
    let front : first.0 ≡ c ∷ second.0 = cc in
    let none = no_word (take end text ++ c ∷ second.0) (not_all (take end text) second.0 c bad) in
    ap (λ (t : List ℕ). list_all is_field (pieces t)) cut_here
    ∙ (ap (λ (l : List (List ℕ)). list_all is_field l) first.2
    ∙ (ap (λ (p : List ℕ). is_field (take end text ++ p) && list_all is_field first.1) front
    ∙ rw none refl))
