-- A text is its pieces, and numbers are pieces of their own.
use Rattle.std.proofs.Common.{◌≡◌, ℕ, ◌^◌, ◌<◌, true, false, ◌==◌, List, [], ◌∷◌, ◌++◌, length, Bool, cond, Option, None, Some, inl, refl, sym, ap, ◌∙◌, append_assoc, length-append, arith}
use Rattle.std.specs.Prelude.{option_map}
use Rattle.std.specs.Fmt.{decimal}
use Rattle.std.specs.List.{AllByRecursion, slice_split, join_with_byte}
use Rattle.std.proofs.lemmas.List.Splits.{join_with_byte-slice_split, length-slice_split}
use Rattle.urna_base.specs.Words.{cut_at, pieces}
use Rattle.urna_base.proofs.CutLaws.{cut_front, cut_parts}
use Rattle.urna_base.proofs.Lacking.{Lacks, decimal_lacks}
use Rattle.urna_base.proofs.PieceLaws.{piece_first, piece_last}
use Rattle.seat_certificate.specs.Reading.{lines_in, with_feeds}
use Rattle.urna_base.specs.Lines.{lines_text}

-- ---- words

pub number_first : (n : ℕ) (rest : List ℕ) → n < 10 ^ 18 → pieces (decimal n ++ 32 ∷ rest) ≡ decimal n ∷ pieces rest
number_first n rest lt = piece_first 32 (decimal n) rest (decimal_lacks 32 n (inl (omega arith)) lt)

pub number_last : (n : ℕ) → n < 10 ^ 18 → pieces (decimal n) ≡ decimal n ∷ []
number_last n lt = piece_last 32 (decimal n) (decimal_lacks 32 n (inl (omega arith)) lt)

-- a text is its words with spaces between them
pub words_join : (text : List ℕ) (ws : List (List ℕ)) → pieces text ≡ ws → text ≡ join_with_byte 32 ws
words_join text ws e = sym (join_with_byte-slice_split 32 text) ∙ ap (join_with_byte 32) e

pub parts_there : (c : ℕ) (text : List ℕ) → 0 < length (slice_split (λ b. b == c) text)
parts_there c text = omega (arith, length-slice_split (λ b. b == c) text)

-- ---- as the code cuts a text

-- what can't be cut has no such byte
pub uncut_lacks : (c : ℕ) (text : List ℕ) → cut_at c text ≡ None → Lacks c text
unfolding cut_at
uncut_lacks c [] h = refl
uncut_lacks c (b ∷ text) h = go (b == c) refl h (uncut_lacks c text)
  where
    front : List ℕ × List ℕ → List ℕ × List ℕ
    front x = (b ∷ x.0, x.1)

    rest_none : (o : Option (List ℕ × List ℕ)) → option_map front o ≡ None → o ≡ None
    rest_none None e = refl
    rest_none (Some x) e = absurd (cc)

    go : (p : Bool) → (b == c) ≡ p → cond {A = Option (List ℕ × List ℕ)} p (Some ([], text)) (option_map front (cut_at c text)) ≡ None → (cut_at c text ≡ None → Lacks c text) → Lacks c (b ∷ text)
    go true e g behind = absurd (cc)
    go false e g behind = rw (e, behind (rest_none (cut_at c text) g)) refl

-- ---- lines

with_feeds-cons : (w : List ℕ) (ws : List (List ℕ)) → 0 < length ws → with_feeds (w ∷ ws) ≡ (w ∷ (with_feeds ws).0, (with_feeds ws).1)
with_feeds-cons w [] some = absurd (omega arith)
with_feeds-cons w (v ∷ ws) some = refl

feeds_join : (w : List ℕ) (ws : List (List ℕ)) → lines_text (with_feeds (w ∷ ws)).0 ++ (with_feeds (w ∷ ws)).1 ≡ join_with_byte 10 (w ∷ ws)
feeds_join w [] = refl
feeds_join w (v ∷ ws) =
    let line = with_feeds (v ∷ ws) in
    append_assoc (w ++ 10 ∷ []) (lines_text line.0) line.1 ∙ append_assoc w (10 ∷ []) (lines_text line.0 ++ line.1) ∙ ap (λ (t : List ℕ). w ++ 10 ∷ t) (feeds_join v ws)

joined : (ws : List (List ℕ)) → 0 < length ws → lines_text (with_feeds ws).0 ++ (with_feeds ws).1 ≡ join_with_byte 10 ws
joined [] some = absurd (omega arith)
joined (w ∷ ws) some = feeds_join w ws

-- a text is its lines and what stands behind the last line feed
pub lines_back : (bytes : List ℕ) → lines_text (lines_in bytes).0 ++ (lines_in bytes).1 ≡ bytes
unfolding lines_in
lines_back bytes = joined (slice_split (λ b. b == 10) bytes) (parts_there 10 bytes) ∙ join_with_byte-slice_split 10 bytes

-- lines without a line feed are the lines of their text
pub line_first : (line rest : List ℕ) → Lacks 10 line → lines_in (line ++ 10 ∷ rest) ≡ (line ∷ (lines_in rest).0, (lines_in rest).1)
unfolding lines_in
line_first line rest h =
    ap with_feeds (piece_first 10 line rest h) ∙ with_feeds-cons line (slice_split (λ b. b == 10) rest) (parts_there 10 rest)

pub lines_of_text : (lines : List (List ℕ)) (rest : List ℕ) → AllByRecursion (Lacks 10) lines → lines_in (lines_text lines ++ rest) ≡ (lines ++ (lines_in rest).0, (lines_in rest).1)
lines_of_text [] rest h = refl
lines_of_text (line ∷ lines) rest h =
    ap lines_in (append_assoc (line ++ 10 ∷ []) (lines_text lines) rest ∙ append_assoc line (10 ∷ []) (lines_text lines ++ rest))
    ∙ line_first line (lines_text lines ++ rest) h.0
    ∙ ap (λ (x : List (List ℕ) × List ℕ). (line ∷ x.0, x.1)) (lines_of_text lines rest h.1)

pub line_cut : (text line rest : List ℕ) → cut_at 10 text ≡ Some (line, rest) → lines_in text ≡ (line ∷ (lines_in rest).0, (lines_in rest).1)
line_cut text line rest h = ap lines_in (cut_parts 10 text (line, rest) h) ∙ line_first line rest (cut_front 10 text (line, rest) h)

pub line_uncut : (text : List ℕ) → cut_at 10 text ≡ None → (lines_in text).0 ≡ []
unfolding lines_in
line_uncut text h = ap (λ (ws : List (List ℕ)). (with_feeds ws).0) (piece_last 10 text (uncut_lacks 10 text h))

pub line_shorter : (text line rest : List ℕ) → cut_at 10 text ≡ Some (line, rest) → length rest < length text
line_shorter text line rest h =
    let parts = ap (λ (l : List ℕ). length l) (cut_parts 10 text (line, rest) h) in
    let len = length-append line (10 ∷ rest) in
    omega (arith, parts, len)
