-- A line is taken apart: its two numbers, its version, and its fields and hash.
use Rattle.std.proofs.Common.{◌≡◌, ℕ, List, [], ◌∷◌, ◌++◌, ◌+◌, ◌-◌, ◌<◌, ◌≤◌, length, take, drop, Bool, true, false, Option, Some, None, refl, sym, ap, ◌∙◌, subst, inl, inr, arith, lit<, length-append}
use Rattle.std.specs.Prelude.{codes, ◌==◌, ◌&&◌, nat_lt, position}
use Rattle.std.specs.List.{slice_split, list_all, AllByRecursion, join_with_byte}
use Rattle.std.specs.Option.{option_and_then, option_map}
use Rattle.std.proofs.lemmas.Bool.Decides.{nat_tests}
use Rattle.std.proofs.Math.Seq.{drop-append_seam}
use Rattle.std.proofs.lemmas.List.Splits.{join_with_byte-slice_split}
use Rattle.urna_base.specs.Digits.{decimal_value}
use Rattle.urna_base.specs.Words.{after_word, pieces, joined}
use Rattle.urna_base.proofs.DecimalLaws.{decimal_value-some}
use Rattle.urna_base.proofs.DigitLaws.{both_from_and}
use Rattle.urna_base.proofs.Lacking.{Lacks, digits_lack}
use Rattle.urna_base.proofs.WordLaws.{after_word-append}
use Rattle.urna_base.proofs.Cases.{and_then_some, guard_some, option_cases}
use Rattle.urna_base.proofs.PieceLaws.{no_split, piece_last, pieces_joined, split_first}
use Rattle.hash_chain.proofs.LineLaws.{fields_lack, joined_more, read_fields, word_lacks}
use Rattle.hash_chain.proofs.LinesBack.{fields_back, line_back}
use Rattle.hash_chain.proofs.PieceLaws.{joined_pieces, some_piece}
use Rattle.hash_chain.proofs.FileLaws.{is_word_of}
use Rattle.hash_chain.proofs.Sizes.{hash_length}
use Rattle.hash_chain.specs.Chain.{Link, hashed_text}
use Rattle.hash_chain.specs.Hash.{is_hash}
use Rattle.hash_chain.specs.Lines.{fields_and_hash, is_field, is_word, link_in, link_of_pieces, only, two_numbers}
use Rattle.hash_chain.specs.Reading.{link_by, made, numbers_in, tail_of, version_in}

-- ---- two numbers

abbrev pub both_numbers : Option ℕ → Option ℕ → Option (ℕ × ℕ)
both_numbers a b = option_and_then (λ x. option_map (λ y. (x, y)) b) a

pub first_none : (a b : Option ℕ) → a ≡ None → both_numbers a b ≡ None
first_none a b e = rw e refl

pub second_none : (a b : Option ℕ) → b ≡ None → both_numbers a b ≡ None
second_none None b e = refl
second_none (Some x) b e = rw e refl

two_behind : (a b : List ℕ) → two_numbers (a ∷ slice_split (λ x. x == 58) b) ≡ both_numbers (decimal_value a) (decimal_value b)
two_behind a b = elim (option_cases (decimal_value b)) [
  | inr v ↦
      let digits = (decimal_value-some b v.0 v.1).0.all in
      let one = piece_last 58 b (digits_lack 58 b (inr (lit< tt)) digits) in
      ap (λ (l : List (List ℕ)). two_numbers (a ∷ l)) one
  | inl none ↦ of_pieces (slice_split (λ x. x == 58) b) (join_with_byte-slice_split 58 b) none
]
  where
    no_second : (o : Option ℕ) → both_numbers o None ≡ None
    no_second None = refl
    no_second (Some x) = refl

    of_pieces : (ps : List (List ℕ)) → join_with_byte 58 ps ≡ b → decimal_value b ≡ None → two_numbers (a ∷ ps) ≡ both_numbers (decimal_value a) (decimal_value b)
    of_pieces [] e h = rw h (sym (no_second (decimal_value a)))
    of_pieces (p ∷ []) e h = ap (λ (t : List ℕ). both_numbers (decimal_value a) (decimal_value t)) e
    of_pieces (p ∷ q ∷ ps) e h = rw h (sym (no_second (decimal_value a)))

pub two_at : (text : List ℕ) (colon : ℕ) → position (λ x. x == 58) text ≡ Some colon → two_numbers (slice_split (λ x. x == 58) text) ≡ both_numbers (decimal_value (take colon text)) (decimal_value (drop (colon + 1) text))
two_at text colon e = ap (λ (l : List (List ℕ)). two_numbers l) (split_first (λ x. x == 58) text colon e) ∙ two_behind (take colon text) (drop (colon + 1) text)

pub no_two : (text : List ℕ) → position (λ x. x == 58) text ≡ None → two_numbers (slice_split (λ x. x == 58) text) ≡ None
no_two text e = ap (λ (l : List (List ℕ)). two_numbers l) (no_split (λ x. x == 58) text e)

-- ---- the fields and the hash

all_fields : (fs : List (List ℕ)) → list_all is_field fs ≡ true → AllByRecursion (λ f. is_field f ≡ true) fs
all_fields [] h = tt
all_fields (f ∷ fs) h = let both = both_from_and (is_field f) (list_all is_field fs) h in (both.0, all_fields fs both.1)

fields_all : (fs : List (List ℕ)) → AllByRecursion (λ f. is_field f ≡ true) fs → list_all is_field fs ≡ true
fields_all [] h = refl
fields_all (f ∷ fs) h = rw (h.0, fields_all fs h.1) refl

pub tail_read : (f h : List ℕ) → list_all is_field (pieces f) ≡ true → is_hash h ≡ true → tail_of (f ++ (codes " HASH:" ++ h)) ≡ Some (pieces f, h)
unfolding tail_of
tail_read f h fine hash = of_pieces (pieces f) refl
  where
    of_pieces : (ps : List (List ℕ)) → pieces f ≡ ps → option_and_then (λ x. only (nat_lt 0 (length x.0)) x) (fields_and_hash (pieces (f ++ (codes " HASH:" ++ h)))) ≡ Some (pieces f, h)
    of_pieces [] e = let some = some_piece (λ b. b == 32) f in let none = ap (λ (l : List (List ℕ)). length l) e in absurd (omega arith)
    of_pieces (p ∷ ps) e =
        let w : List ℕ = codes "HASH:" ++ h in
        let P : List (List ℕ) → Type 0 = λ l. list_all is_field l ≡ true in
        let are = all_fields (p ∷ ps) (subst P e fine) in
        let text : f ++ 32 ∷ w ≡ joined ((p ∷ ps) ++ w ∷ []) =
        ap (λ (t : List ℕ). t ++ 32 ∷ w) (sym (joined_pieces f) ∙ ap (λ (l : List (List ℕ)). joined l) e) ∙ sym (joined_more p ps w) in
        let split : pieces (f ++ 32 ∷ w) ≡ (p ∷ ps) ++ w ∷ [] = ap (λ (t : List ℕ). pieces t) text ∙ pieces_joined 32 p (ps ++ w ∷ []) (fields_lack (p ∷ ps) h are hash) in
        let some : nat_lt 0 (length (p ∷ ps)) ≡ true = grind (arith, nat_tests) in
        rw (split, read_fields (p ∷ ps) h are hash, some) (ap (λ (l : List (List ℕ)). Some (l, h)) (sym e))

words_of : (fs : List (List ℕ)) → AllByRecursion (λ f. is_field f ≡ true) fs → AllByRecursion (Lacks 32) fs
words_of [] h = tt
words_of (f ∷ fs) h = (word_lacks 32 f (lit< tt) (is_word_of f h.0), words_of fs h.1)

pieces_of_fields : (f : List ℕ) (fs : List (List ℕ)) → AllByRecursion (λ g. is_field g ≡ true) (f ∷ fs) → pieces (joined (f ∷ fs)) ≡ f ∷ fs
pieces_of_fields f fs h = pieces_joined 32 f fs (words_of (f ∷ fs) h)

pub record TailBack (rest : List ℕ) (x : List (List ℕ) × List ℕ) : Type 0 where
  pub fields : List ℕ
  pub whole : rest ≡ fields ++ (codes " HASH:" ++ x.1)
  pub fine : list_all is_field (pieces fields) ≡ true
  pub hash : is_hash x.1 ≡ true

pub tail_back : (rest : List ℕ) (x : List (List ℕ) × List ℕ) → tail_of rest ≡ Some x → TailBack rest x
unfolding tail_of
tail_back rest x e =
    let found = and_then_some (fields_and_hash (pieces rest)) (λ y. only (nat_lt 0 (length y.0)) y) x e in
    let test = guard_some (nat_lt 0 (length found.0.0)) (Some found.0) x found.2 in
    let known = test.1 in
    let same : found.0 ≡ x = cc in
    let P : List (List ℕ) × List ℕ → Type 0 = λ y. (fields_and_hash (pieces rest) ≡ Some y) × (nat_lt 0 (length y.0) ≡ true) in
    let of_x = subst P same (found.1, test.0) in
    by_fields x.0 refl of_x.0 of_x.1
  where
    by_fields : (fs : List (List ℕ)) → x.0 ≡ fs → fields_and_hash (pieces rest) ≡ Some x → nat_lt 0 (length x.0) ≡ true → TailBack rest x
    by_fields [] e found some = let none = ap (λ (l : List (List ℕ)). nat_lt 0 (length l)) e in absurd (cc)
    by_fields (f ∷ fs) e found some =
        let back = fields_back (pieces rest) x found in
        let w : List ℕ = codes "HASH:" ++ x.1 in
        let whole : rest ≡ joined (f ∷ fs) ++ 32 ∷ w = sym (joined_pieces rest) ∙ (ap (λ (l : List (List ℕ)). joined l) (back.0 ∙ ap (λ (l : List (List ℕ)). l ++ w ∷ []) e) ∙ joined_more f fs w) in
        let P : List (List ℕ) → Type 0 = λ l. AllByRecursion (λ f. is_field f ≡ true) l in
        let are = subst P e back.1 in
        let split = pieces_of_fields f fs are in
        record { fields = joined (f ∷ fs); whole = whole; fine = ap (λ (l : List (List ℕ)). list_all is_field l) split ∙ fields_all (f ∷ fs) are; hash = back.2 }

take_front : (a b : List ℕ) → take (length a) (a ++ b) ≡ a
take_front [] b = refl
take_front (x ∷ a) b = ap (λ (l : List ℕ). x ∷ l) (take_front a b)

tail_length : (rest : List ℕ) (x : List (List ℕ) × List ℕ) → (b : TailBack rest x) → length rest ≡ length b.fields + 134
tail_length rest x b =
    let size = hash_length x.1 b.hash in
    let both = length-append b.fields (codes " HASH:" ++ x.1) in
    let same = ap (λ (l : List ℕ). length l) b.whole in
    omega arith

pub tail_short : (rest : List ℕ) → length rest < 134 → tail_of rest ≡ None
tail_short rest short = elim (option_cases (tail_of rest)) [
  | inl none ↦ none
  | inr x ↦ let size = tail_length rest x.0 (tail_back rest x.0 x.1) in absurd (omega arith)
]

pub tail_none : (rest fields tail : List ℕ) → rest ≡ fields ++ tail → length fields + 134 ≡ length rest
    → ((h : List ℕ) → after_word (codes " HASH:") tail ≡ Some h → list_all is_field (pieces fields) ≡ true → is_hash h ≡ true → ⊥) → tail_of rest ≡ None
tail_none rest fields tail whole size never = elim (option_cases (tail_of rest)) [
  | inl none ↦ none
  | inr x ↦
      let back = tail_back rest x.0 x.1 in
      let long = tail_length rest x.0 back in
      let n : length fields ≡ length back.fields = omega arith in
      let front : fields ≡ back.fields = sym (take_front fields tail) ∙ (ap (λ (k : ℕ). take k (fields ++ tail)) n ∙ (ap (λ (t : List ℕ). take (length back.fields) t) (sym whole ∙ back.whole) ∙ take_front back.fields (codes " HASH:" ++ x.0.1))) in
      let behind : tail ≡ codes " HASH:" ++ x.0.1 = sym (drop-append_seam fields tail) ∙ (ap (λ (k : ℕ). drop k (fields ++ tail)) n ∙ (ap (λ (t : List ℕ). drop (length back.fields) t) (sym whole ∙ back.whole) ∙ drop-append_seam back.fields (codes " HASH:" ++ x.0.1))) in
      let word = ap (λ (t : List ℕ). after_word (codes " HASH:") t) behind ∙ after_word-append (codes " HASH:") x.0.1 in
      let fine = ap (λ (t : List ℕ). list_all is_field (pieces t)) front ∙ back.fine in
      absurd (never x.0.1 word fine back.hash)
]

-- ---- a whole line

both_tests : (n : ℕ × ℕ) (w : List ℕ) (y : List (List ℕ) × List ℕ) (a b : Bool) → only (a && b) (made n w y) ≡ link_by (Some n) (only a w) (only b y)
both_tests n w y true true = refl
both_tests n w y true false = refl
both_tests n w y false b = refl

no_tail : (n : ℕ × ℕ) (v : Option (List ℕ)) → None ≡ link_by (Some n) v None
no_tail n None = refl
no_tail n (Some w) = refl

by_three : (n : Option (ℕ × ℕ)) (v : Option (List ℕ)) (o : Option (List (List ℕ) × List ℕ))
    → option_and_then (λ m. option_and_then (λ w. option_and_then (λ x. only (is_word w && nat_lt 0 (length x.0)) (made m w x)) o) v) n
    ≡ link_by n (option_and_then (λ w. only (is_word w) w) v) (option_and_then (λ x. only (nat_lt 0 (length x.0)) x) o)
by_three None v o = refl
by_three (Some n) None o = refl
by_three (Some n) (Some w) None = no_tail n (only (is_word w) w)
by_three (Some n) (Some w) (Some y) = both_tests n w y (is_word w) (nat_lt 0 (length y.0))

pub line_of_three : (row q v tail : List ℕ) (rest : List (List ℕ)) → pieces row ≡ q ∷ rest → rest ≡ v ∷ pieces tail → link_in row ≡ link_by (numbers_in q) (version_in v) (tail_of tail)
unfolding link_in tail_of
line_of_three row q v tail rest e g =
    ap (λ (l : List (List ℕ)). link_of_pieces l) (e ∙ ap (λ (l : List (List ℕ)). q ∷ l) g)
    ∙ by_three (numbers_in q) (after_word (codes "VRQR:") v) (fields_and_hash (pieces tail))

pub no_line_one : (row q : List ℕ) → pieces row ≡ q ∷ [] → link_in row ≡ None
unfolding link_in
no_line_one row q e = ap (λ (l : List (List ℕ)). link_of_pieces l) e

pub no_line_two : (row q v : List ℕ) (rest : List (List ℕ)) → pieces row ≡ q ∷ rest → rest ≡ v ∷ [] → link_in row ≡ None
unfolding link_in
no_line_two row q v rest e g = ap (λ (l : List (List ℕ)). link_of_pieces l) (e ∙ ap (λ (l : List (List ℕ)). q ∷ l) g) ∙ by_first (numbers_in q)
  where
    by_first : (n : Option (ℕ × ℕ)) → option_and_then (λ m. option_and_then (λ w. option_and_then (λ x. only (is_word w && nat_lt 0 (length x.0)) (made m w x)) None) (after_word (codes "VRQR:") v)) n ≡ None
    by_first None = refl
    by_first (Some n) = by_version (after_word (codes "VRQR:") v)
      where
        by_version : (o : Option (List ℕ)) → option_and_then (λ w. option_and_then (λ x. only (is_word w && nat_lt 0 (length x.0)) (made n w x)) None) o ≡ None
        by_version None = refl
        by_version (Some w) = refl

-- ---- the text that is hashed

pub line_long : (row : List ℕ) (l : Link) → link_in row ≡ Some l → (134 ≤ length row) × (take (length row - 134) row ≡ hashed_text l)
line_long row l e =
    let back = line_back row l e in
    let size = hash_length l.hash back.0.hash in
    let both = length-append (hashed_text l) (codes " HASH:" ++ l.hash) in
    let same = ap (λ (t : List ℕ). length t) back.1 in
    let less : length row - 134 ≡ length (hashed_text l) = omega arith in
    (omega arith, ap (λ (n : ℕ). take n row) less ∙ (ap (λ (t : List ℕ). take (length (hashed_text l)) t) back.1 ∙ take_front (hashed_text l) (codes " HASH:" ++ l.hash)))

-- ---- the three things that a line says make it

pub line_made : (row q v tail : List ℕ) (n : ℕ × ℕ) (w : List ℕ) (y : List (List ℕ) × List ℕ) → link_in row ≡ link_by (numbers_in q) (version_in v) (tail_of tail)
    → Some n ≡ numbers_in q → Some w ≡ version_in v → tail_of tail ≡ Some y → link_in row ≡ Some (made n w y)
line_made row q v tail n w y e numbers version tail_is =
    e ∙ (ap (λ (o : Option (ℕ × ℕ)). link_by o (version_in v) (tail_of tail)) (sym numbers)
    ∙ (ap (λ (o : Option (List ℕ)). link_by (Some n) o (tail_of tail)) (sym version) ∙ ap (λ (o : Option (List (List ℕ) × List ℕ)). link_by (Some n) (Some w) o) tail_is))
