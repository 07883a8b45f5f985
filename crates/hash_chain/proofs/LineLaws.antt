-- A line of the form is read as what it says.
use Rattle.std.proofs.Common.{◌≡◌, ℕ, ◌<◌, ◌^◌, Bool, true, List, [], ◌∷◌, ◌++◌, length, Some, refl, sym, ap, ◌∙◌, subst, inl, inr, arith, lit<, append_assoc}
use Rattle.std.specs.Prelude.{codes, nat_lt, ◌==◌, ◌||◌, is_none}
use Rattle.std.specs.List.{slice_split, list_all, AllByRecursion}
use Rattle.std.specs.Fmt.{decimal}
use Rattle.std.proofs.lemmas.Bool.Decides.{nat_tests}
use Rattle.urna_base.specs.Digits.{is_digit}
use Rattle.urna_base.specs.Moment.{is_between}
use Rattle.urna_base.proofs.DecimalLaws.{decimal_value-decimal}
use Rattle.urna_base.proofs.DigitLaws.{both_from_and}
use Rattle.urna_base.proofs.Lacking.{Lacks, decimal_lacks, is_other, lacks-append, seen_lack}
use Rattle.urna_base.proofs.PieceLaws.{piece_first, piece_last, pieces_joined}
use Rattle.hash_chain.specs.Chain.{Link, link_text}
use Rattle.hash_chain.specs.Lines.{IsLink, is_word, is_field, two_numbers, fields_and_hash, link_of_pieces, link_in}
use Rattle.hash_chain.specs.Hash.{is_hash}
use Rattle.urna_base.specs.Words.{after_word, pieces, joined}

-- ---- bytes that are no separators

-- each element that passes one test passes another
all_weaker : (p q : ℕ → Bool) → ((x : ℕ) → p x ≡ true → q x ≡ true) → (t : List ℕ) → list_all p t ≡ true → list_all q t ≡ true
all_weaker p q weaker [] h = refl
all_weaker p q weaker (x ∷ t) h = let both = both_from_and (p x) (list_all p t) h in rw (weaker x both.0, all_weaker p q weaker t both.1) refl

pub word_lacks : (c : ℕ) (t : List ℕ) → c < 33 → is_word t ≡ true → Lacks c t
word_lacks c t low h = seen_lack c t low (both_from_and (nat_lt 0 (length t)) (list_all (is_between 33 126) t) h).1

hex_other : (c : ℕ) → c < 33 → (x : ℕ) → (is_digit x || is_between 65 70 x) ≡ true → is_other c x ≡ true
hex_other c low x h = grind (arith, nat_tests)

pub hash_lacks : (c : ℕ) (t : List ℕ) → c < 33 → is_hash t ≡ true → Lacks c t
hash_lacks c t low h = all_weaker (λ x. is_digit x || is_between 65 70 x) (is_other c) (hex_other c low) t (both_from_and (length t == 128) (list_all (λ x. is_digit x || is_between 65 70 x) t) h).1

-- ---- the fields and the hash of a line

pub joined_more : (f : List ℕ) (fs : List (List ℕ)) (w : List ℕ) → joined ((f ∷ fs) ++ w ∷ []) ≡ joined (f ∷ fs) ++ 32 ∷ w
joined_more f [] w = refl
joined_more f (g ∷ fs) w = ap (λ (l : List ℕ). f ++ 32 ∷ l) (joined_more g fs w) ∙ sym (append_assoc f (32 ∷ joined (g ∷ fs)) (32 ∷ w))

pub fields_lack : (fs : List (List ℕ)) (h : List ℕ) → AllByRecursion (λ f. is_field f ≡ true) fs → is_hash h ≡ true → AllByRecursion (Lacks 32) (fs ++ (codes "HASH:" ++ h) ∷ [])
fields_lack [] h fine hash = (hash_lacks 32 h (lit< tt) hash, tt)
fields_lack (f ∷ fs) h fine hash = (word_lacks 32 f (lit< tt) (both_from_and (is_word f) (is_none (after_word (codes "HASH:") f)) fine.0).0, fields_lack fs h fine.1 hash)

pub read_fields : (fs : List (List ℕ)) (h : List ℕ) → AllByRecursion (λ f. is_field f ≡ true) fs → is_hash h ≡ true → fields_and_hash (fs ++ (codes "HASH:" ++ h) ∷ []) ≡ Some (fs, h)
read_fields [] h fine hash = rw hash refl
read_fields (f ∷ []) h fine hash = rw (fine.0, hash) refl
read_fields (f ∷ g ∷ fs) h fine hash = rw (fine.0, read_fields (g ∷ fs) h fine.1 hash) refl

-- ---- a whole line

abbrev pub numbers_text : ℕ → ℕ → List ℕ
numbers_text a b = codes "QRBU:" ++ (decimal a ++ 58 ∷ decimal b)

abbrev pub version_text : List ℕ → List ℕ
version_text v = codes "VRQR:" ++ v

shape : (q a b w v j h : List ℕ)
    → (q ++ (a ++ 58 ∷ (b ++ (32 ∷ (w ++ (v ++ 32 ∷ j)))))) ++ (32 ∷ h) ≡ (q ++ (a ++ 58 ∷ b)) ++ (32 ∷ ((w ++ v) ++ (32 ∷ (j ++ 32 ∷ h))))
shape q a b w v j h = simp append_assoc

pub regroup : (l : Link) (f : List ℕ) (fs : List (List ℕ)) → l.fields ≡ f ∷ fs
    → link_text l ≡ numbers_text l.number l.parts ++ (32 ∷ (version_text l.version ++ (32 ∷ joined ((f ∷ fs) ++ (codes "HASH:" ++ l.hash) ∷ []))))
regroup l f fs e =
    let last = joined_more f fs (codes "HASH:" ++ l.hash) in
    let same = ap (λ (x : List (List ℕ)). joined x) e in
    shape (codes "QRBU:") (decimal l.number) (decimal l.parts) (codes "VRQR:") l.version (joined l.fields) (codes "HASH:" ++ l.hash)
    ∙ (ap (λ (x : List ℕ). numbers_text l.number l.parts ++ (32 ∷ (version_text l.version ++ (32 ∷ (x ++ 32 ∷ (codes "HASH:" ++ l.hash)))))) same
    ∙ ap (λ (x : List ℕ). numbers_text l.number l.parts ++ (32 ∷ (version_text l.version ++ (32 ∷ x)))) (sym last))

numbers_lack : (a b : ℕ) → a < 10 ^ 18 → b < 10 ^ 18 → Lacks 32 (numbers_text a b)
numbers_lack a b sa sb =
    lacks-append 32 (decimal a) (58 ∷ decimal b) (decimal_lacks 32 a (inl (lit< tt)) sa) (decimal_lacks 32 b (inl (lit< tt)) sb)

two_read : (a b : ℕ) → a < 10 ^ 18 → b < 10 ^ 18 → two_numbers (slice_split (λ x. x == 58) (decimal a ++ 58 ∷ decimal b)) ≡ Some (a, b)
two_read a b sa sb =
    rw (piece_first 58 (decimal a) (decimal b) (decimal_lacks 58 a (inr (lit< tt)) sa), piece_last 58 (decimal b) (decimal_lacks 58 b (inr (lit< tt)) sb), decimal_value-decimal a sa, decimal_value-decimal b sb) refl

some_fields : (f : List ℕ) (fs : List (List ℕ)) → nat_lt 0 (length (f ∷ fs)) ≡ true
some_fields f fs = grind (arith, nat_tests)

below_test : (a b : ℕ) → nat_lt a b ≡ true → a < b
below_test a b h = grind (arith, nat_tests)

pub lines_are_read : (l : Link) → IsLink l → link_in (link_text l) ≡ Some l
unfolding link_in
lines_are_read l h = go l.fields refl
  where
    go : (fs : List (List ℕ)) → l.fields ≡ fs → link_of_pieces (pieces (link_text l)) ≡ Some l
    go [] e = let some = h.some in let none = ap (λ (x : List (List ℕ)). nat_lt 0 (length x)) e in absurd (cc)
    go (f ∷ fs) e =
        let sa : l.number < 10 ^ 18 = below_test l.number (10 ^ 18) h.number in
        let sb : l.parts < 10 ^ 18 = below_test l.parts (10 ^ 18) h.parts in
        let P : List (List ℕ) → Type 0 = λ x. AllByRecursion (λ t. is_field t ≡ true) x in
        let fine : AllByRecursion (λ t. is_field t ≡ true) (f ∷ fs) = subst P e h.fields in
        let words : List (List ℕ) = (f ∷ fs) ++ (codes "HASH:" ++ l.hash) ∷ [] in
        let first = piece_first 32 (numbers_text l.number l.parts) (version_text l.version ++ 32 ∷ joined words) (numbers_lack l.number l.parts sa sb) in
        let second = piece_first 32 (version_text l.version) (joined words) (word_lacks 32 l.version (lit< tt) h.version) in
        let third = pieces_joined 32 f (fs ++ (codes "HASH:" ++ l.hash) ∷ []) (fields_lack (f ∷ fs) l.hash fine h.hash) in
        let all : pieces (link_text l) ≡ numbers_text l.number l.parts ∷ version_text l.version ∷ words =
        ap (λ (x : List ℕ). pieces x) (regroup l f fs e) ∙ (first ∙ ap (λ (x : List (List ℕ)). numbers_text l.number l.parts ∷ x) (second ∙ ap (λ (x : List (List ℕ)). version_text l.version ∷ x) third)) in
        let record_same : record { number = l.number; parts = l.parts; version = l.version; fields = f ∷ fs; hash = l.hash } ≡ l =
        ap (λ (x : List (List ℕ)). record { number = l.number; parts = l.parts; version = l.version; fields = x; hash = l.hash }) (sym e) in
        ap (λ (x : List (List ℕ)). link_of_pieces x) all
        ∙ (rw (two_read l.number l.parts sa sb, read_fields (f ∷ fs) l.hash fine h.hash, h.version, some_fields f fs) refl ∙ ap (λ (x : Link). Some x) record_same)
