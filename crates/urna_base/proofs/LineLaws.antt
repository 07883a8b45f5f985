-- Laws of the lines of a text.
use Rattle.std.proofs.Common.{◌≡◌, Bool, true, false, ltb, List, [], ◌∷◌, ◌++◌, ℕ, suc, ◌+◌, ◌<◌, ◌≤◌, length, take, drop, refl, sym, ap, ◌∙◌, append_assoc, append-nil, Some, None, arith}
use Rattle.std.specs.Prelude.{◌==◌, ◌≢◌, position}
use Rattle.std.proofs.lemmas.List.Concat.{flat_map-append}
use Rattle.std.proofs.lemmas.Option.{cond_some}
use Rattle.std.proofs.lemmas.Bool.{ltb-true, ltb-false}
use Rattle.std.specs.List.{list_all, position_or_len}
use Rattle.urna_base.specs.Lines.{lines_of, lines_text, before_first_line}
use Rattle.urna_base.proofs.Cases.{guard_none}
use Rattle.urna_base.proofs.DigitLaws.{both_from_and}
use Rattle.urna_base.proofs.Lacking.{Lacks, is_other, other_byte}

-- a text of one line with no line feed
pub lines_of-last : (c : ℕ) (line : List ℕ) → Lacks 10 (c ∷ line) → lines_of (c ∷ line) ≡ (c ∷ line) ∷ []
unfolding lines_of
lines_of-last c [] e =
    let both = both_from_and (is_other 10 c) true e in
    rw (other_byte 10 c both.0) refl
lines_of-last c (d ∷ line) e =
    let both = both_from_and (is_other 10 c) (list_all (is_other 10) (d ∷ line)) e in
    rw (other_byte 10 c both.0, lines_of-last d line both.1) refl

-- where the first line feed stands, or the length
abbrev feed_place : List ℕ → ℕ
feed_place text = position_or_len (λ c. c == 10) text

-- a byte in front of a text that is cut at p
cut_behind : (c p : ℕ) (text : List ℕ) → lines_of text ≡ take p text ∷ lines_of (drop (p + 1) text) → before_first_line c (lines_of text) ≡ take (1 + p) (c ∷ text) ∷ lines_of (drop (1 + p + 1) (c ∷ text))
cut_behind c p text e =
    let next : 1 + p ≡ suc p = omega arith in
    let after : suc p + 1 ≡ suc (p + 1) = omega arith in
    rw (e, next, after) refl

cut_first : (b : Bool) (c : ℕ) (text : List ℕ) → (c == 10) ≡ b → feed_place (c ∷ text) < length (c ∷ text) → (feed_place text < length text → lines_of text ≡ take (feed_place text) text ∷ lines_of (drop (feed_place text + 1) text)) → lines_of (c ∷ text) ≡ take (feed_place (c ∷ text)) (c ∷ text) ∷ lines_of (drop (feed_place (c ∷ text) + 1) (c ∷ text))
unfolding lines_of
cut_first true c text e within others = rw e refl
cut_first false c text e within others =
    let within' : 1 + feed_place text < suc (length text) = rw e at within in
    rw e (cut_behind c (feed_place text) text (others (omega arith)))

-- a text that has a line feed is cut there
cut_at_feed : (text : List ℕ) → feed_place text < length text → lines_of text ≡ take (feed_place text) text ∷ lines_of (drop (feed_place text + 1) text)
cut_at_feed [] within = absurd (omega arith)
cut_at_feed (c ∷ text) within = cut_first (c == 10) c text refl within (cut_at_feed text)

-- no line feed stands in a text that has its place past the end
no_feeds : (text : List ℕ) → length text ≤ feed_place text → Lacks 10 text
no_feeds [] past = refl
no_feeds (c ∷ text) past = no_first (c == 10) c text refl past (no_feeds text)
  where
    no_first : (b : Bool) (c : ℕ) (text : List ℕ) → (c == 10) ≡ b → length (c ∷ text) ≤ feed_place (c ∷ text) → (length text ≤ feed_place text → Lacks 10 text) → Lacks 10 (c ∷ text)
    no_first true c text e past others = let past' : suc (length text) ≤ 0 = rw e at past in absurd (omega arith)
    no_first false c text e past others =
        let past' : suc (length text) ≤ 1 + feed_place text = rw e at past in
        rw e (others (omega arith))

-- a text is cut at its first line feed
pub lines_of-position : (text : List ℕ) (place : ℕ) → position (λ c. c == 10) text ≡ Some place → lines_of text ≡ take place text ∷ lines_of (drop (place + 1) text)
lines_of-position text place e =
    let found = cond_some _ (feed_place text) place e in
    rw (← found.1) (cut_at_feed text (ltb-true _ _ found.0))

-- and is one line where it has none
pub lines_of-unplaced : (text : List ℕ) → text ≢ [] → position (λ c. c == 10) text ≡ None → lines_of text ≡ text ∷ []
lines_of-unplaced [] some e = absurd (some refl)
lines_of-unplaced (c ∷ text) some e =
    let never : ltb (feed_place (c ∷ text)) (length (c ∷ text)) ≡ false = guard_none _ (feed_place (c ∷ text)) e in
    lines_of-last c text (no_feeds (c ∷ text) (ltb-false _ _ never))

-- a line put behind a text
pub line_put : (o p q w : List ℕ) → p ≡ o ++ w → q ≡ p ++ 10 ∷ [] → q ≡ o ++ lines_text (w ∷ [])
line_put o p q w is fed =
    fed ∙ ap (λ (t : List ℕ). t ++ 10 ∷ []) is ∙ append_assoc o w (10 ∷ []) ∙ ap (λ (t : List ℕ). o ++ t) (sym (append-nil (w ++ 10 ∷ [])))

-- the text of lines behind others
pub lines_text-append : (xs ys : List (List ℕ)) → lines_text (xs ++ ys) ≡ lines_text xs ++ lines_text ys
lines_text-append xs ys = flat_map-append (λ line. line ++ 10 ∷ []) xs ys
