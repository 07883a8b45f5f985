-- Where the lines of a text begin.
use Rattle.std.proofs.Common.{◌≡◌, ℕ, zero, suc, ◌+◌, ◌<◌, ◌≤◌, Bool, true, false, List, [], ◌∷◌, length, drop, refl, subst, ◌∙◌, ap, arith}
use Rattle.std.specs.Prelude.{◌==◌, nat_lt, if◌then◌else◌, slice_index, slice_index_or}
use Rattle.std.proofs.lemmas.List.{drop-drop, drop_more, drop_all}
use Rattle.std.proofs.lemmas.Bool.Decides.{nat_tests}
use Rattle.urna_base.specs.Lines.{before_first_line, lines_of}
use Rattle.key_script.specs.Starts.{starts_of}

-- the bytes of lines, each with a line feed
abbrev pub size_of : List (List ℕ) → ℕ
size_of [] = 0
size_of (line ∷ lines) = length line + 1 + size_of lines

-- the last line feed may be lacking
pub size_of-lines : (text : List ℕ) → size_of (lines_of text) ≤ length text + 1
unfolding lines_of
size_of-lines [] = omega arith
size_of-lines (c ∷ text) = go (c == 10) (lines_of text) (size_of-lines text)
  where
    go : (b : Bool) (lines : List (List ℕ)) → size_of lines ≤ length text + 1 → size_of (if b then [] ∷ lines else before_first_line c lines) ≤ suc (length text) + 1
    go true lines few = omega arith
    go false [] few = omega arith
    go false (line ∷ lines) few = omega arith

pub length-starts_of : (place : ℕ) (lines : List (List ℕ)) → length (starts_of place lines) ≡ length lines
length-starts_of place [] = refl
length-starts_of place (line ∷ lines) = ap suc (length-starts_of (place + (length line + 1)) lines)

same_cons : (x y : List ℕ) (xs ys : List (List ℕ)) → x ∷ xs ≡ y ∷ ys → (x ≡ y) × (xs ≡ ys)
same_cons x y xs ys e = (ap (λ lines. slice_index_or lines 0 []) e, ap (λ lines. drop 1 lines) e)

-- a text with no line is empty
none_of : (text : List ℕ) → lines_of text ≡ [] → text ≡ []
unfolding lines_of
none_of [] e = refl
none_of (c ∷ text) e = go (c == 10) (lines_of text) e
  where
    go : (b : Bool) (all : List (List ℕ)) → (if b then [] ∷ all else before_first_line c all) ≡ [] → (c ∷ text) ≡ []
    go true all e = absurd (cc)
    go false [] e = absurd (cc)
    go false (line ∷ lines) e = absurd (cc)

-- the lines behind the first one
lines_of-behind : (text line : List ℕ) (lines : List (List ℕ)) → lines_of text ≡ line ∷ lines → lines_of (drop (length line + 1) text) ≡ lines
unfolding lines_of
lines_of-behind [] line lines e = absurd (cc)
lines_of-behind (c ∷ text) line lines e = go (c == 10) (lines_of text) refl e (lines_of-behind text)
  where
    go : (b : Bool) (all : List (List ℕ)) → lines_of text ≡ all → (if b then [] ∷ all else before_first_line c all) ≡ line ∷ lines → ((l : List ℕ) (ls : List (List ℕ)) → lines_of text ≡ l ∷ ls → lines_of (drop (length l + 1) text) ≡ ls) → lines_of (drop (length line + 1) (c ∷ text)) ≡ lines
    go true all is e others =
        let same = same_cons [] line all lines e in
        subst (λ (l : List ℕ). lines_of (drop (length l + 1) (c ∷ text)) ≡ lines) same.0 (is ∙ same.1)
    go false [] is e others =
        let same = same_cons (c ∷ []) line [] lines e in
        subst (λ (l : List ℕ). lines_of (drop (length l + 1) (c ∷ text)) ≡ lines) same.0 (rw (none_of text is) same.1)
    go false (l ∷ ls) is e others =
        let same = same_cons (c ∷ l) line ls lines e in
        let more : length (c ∷ l) + 1 ≡ suc (length l + 1) = omega arith in
        let behind : lines_of (drop (length (c ∷ l) + 1) (c ∷ text)) ≡ ls = rw more (others l ls is) in
        subst (λ (l : List ℕ). lines_of (drop (length l + 1) (c ∷ text)) ≡ lines) same.0 (behind ∙ same.1)

-- where the i-th line begins, as many bytes behind the first
record StartAt (text : List ℕ) (place i : ℕ) : Type 0 where
  behind : ℕ
  is : slice_index (starts_of place (lines_of text)) i ≡ place + behind
  rest : lines_of (drop behind text) ≡ drop i (lines_of text)

start_at : (text : List ℕ) (place i : ℕ) → i < length (lines_of text) → StartAt text place i
start_at text place i within = go i text place (lines_of text) refl within
  where
    go : (i : ℕ) (text : List ℕ) (place : ℕ) (lines : List (List ℕ)) → lines_of text ≡ lines → i < length lines → StartAt text place i
    go i text place [] e within = absurd (omega arith)
    go zero text place (line ∷ lines) e within = record { behind = 0; is = rw e (omega arith); rest = refl }
    go (suc i) text place (line ∷ lines) e within =
        let behind = lines_of-behind text line lines e in
        let next = go i (drop (length line + 1) text) (place + (length line + 1)) lines behind (omega arith) in
        let starts : slice_index (starts_of (place + (length line + 1)) lines) i ≡ place + (length line + 1) + next.behind = rw behind at next.is in
        let rest : lines_of (drop next.behind (drop (length line + 1) text)) ≡ drop i lines = rw behind at next.rest in
        record {
          behind = length line + 1 + next.behind;
          is = rw e (starts ∙ omega arith);
          rest = rw (e, ← drop-drop next.behind (length line + 1) text) rest;
        }

-- the line at a place of the list, in the text from where it begins
pub record LineAt (text : List ℕ) (i start : ℕ) : Type 0 where
  pub within : start < length text
  pub line : slice_index_or (lines_of (drop start text)) 0 [] ≡ slice_index_or (lines_of text) i []

pub line_at : (text : List ℕ) (i : ℕ) → i < length (lines_of text) → LineAt text i (slice_index (starts_of 0 (lines_of text)) i)
unfolding lines_of
line_at text i within =
    let at = start_at text 0 i within in
    let start : slice_index (starts_of 0 (lines_of text)) i ≡ at.behind = at.is ∙ omega arith in
    let split = at.rest ∙ drop_more (lines_of text) i [] within in
    rw start (record { within = inside at.behind split; line = ap (λ lines. slice_index_or lines 0 []) split })
  where
    inside : (start : ℕ) {line : List ℕ} {lines : List (List ℕ)} → lines_of (drop start text) ≡ line ∷ lines → start < length text
    inside start {line} {lines} split = not_past (nat_lt start (length text)) refl
      where
        not_past : (b : Bool) → nat_lt start (length text) ≡ b → start < length text
        not_past true e = grind (arith, nat_tests)
        not_past false e =
            let past : length text ≤ start = grind (arith, nat_tests) in
            let none : [] ≡ line ∷ lines = rw (drop_all start text past) at split in
            absurd (cc)
