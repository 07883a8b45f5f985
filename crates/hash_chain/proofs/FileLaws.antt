-- What is made of a field text is read again.
use Rattle.std.proofs.Common.{◌≡◌, ℕ, ◌+◌, ◌<◌, ◌≤◌, ◌^◌, true, false, List, [], ◌∷◌, ◌++◌, length, map, Option, Some, None, refl, sym, ap, ◌∙◌, subst, ◌⊎◌, inl, inr, arith, lit<}
use Rattle.std.specs.Prelude.{codes, nat_lt, ◌==◌, Ok, is_none}
use Rattle.std.specs.List.{slice_split, AllByRecursion, flat_map}
use Rattle.std.specs.Str.{bytes_eq}
use Rattle.std.specs.Fmt.{decimal}
use Rattle.std.proofs.lemmas.List.Splits.{length-slice_split, join_with_byte-slice_split}
use Rattle.std.proofs.lemmas.Slice.Eq.{bytes_eq-Decides}
use Rattle.std.proofs.lemmas.Bool.Decides.{nat_tests}
use Rattle.urna_base.proofs.DigitLaws.{both_from_and}
use Rattle.urna_base.proofs.Lacking.{Lacks, decimal_lacks, lacks-append}
use Rattle.urna_base.proofs.PieceLaws.{piece_first}
use Rattle.urna_base.proofs.WordLaws.{same_byte}
use Rattle.hash_chain.specs.Chain.{Link, hashed_text, link_text, link_of, links_from, links_text, parts_text}
use Rattle.hash_chain.specs.Cut.{part_size, IsFull, AreFull, cut}
use Rattle.hash_chain.specs.Lines.{IsLink, is_word, is_field, link_in, feeds_in}
use Rattle.hash_chain.specs.Hash.{hash_text}
use Rattle.hash_chain.specs.Fault.{failing_link, hash_before, fits_before, AreFields}
use Rattle.hash_chain.proofs.Reading.{read_from, lines_read, text_of_lines}
use Rattle.urna_base.specs.Words.{after_word, pieces, joined}
use Rattle.hash_chain.proofs.HashLaws.{hashes}
use Rattle.hash_chain.proofs.CutLaws.{one_cut, rest_full}
use Rattle.hash_chain.proofs.LineLaws.{word_lacks, hash_lacks, lines_are_read}

abbrev pub Few : List (List ℕ) → Type 0
Few fs = AllByRecursion (λ f. is_field f ≡ true) fs

-- the fields of each part are fields, and there are some
abbrev Parts : List (List (List ℕ)) → Type 0
Parts parts = AllByRecursion (λ part. (nat_lt 0 (length part) ≡ true) × Few part) parts

-- ---- no line feed stands in a line

pub is_word_of : (f : List ℕ) → is_field f ≡ true → is_word f ≡ true
is_word_of f h = (both_from_and (is_word f) (is_none (after_word (codes "HASH:") f)) h).0

joined_lacks : (fs : List (List ℕ)) → Few fs → Lacks 10 (joined fs)
joined_lacks [] h = refl
joined_lacks (f ∷ []) h = word_lacks 10 f (lit< tt) (is_word_of f h.0)
joined_lacks (f ∷ g ∷ fs) h = lacks-append 10 f (32 ∷ joined (g ∷ fs)) (word_lacks 10 f (lit< tt) (is_word_of f h.0)) (joined_lacks (g ∷ fs) h.1)

line_lacks : (l : Link) → IsLink l → l.number < 10 ^ 18 → l.parts < 10 ^ 18 → Lacks 10 (link_text l)
line_lacks l h sa sb =
    lacks-append 10 (hashed_text l) (codes " HASH:" ++ l.hash)
    (lacks-append 10 (decimal l.number) (58 ∷ (decimal l.parts ++ (codes " VRQR:" ++ (l.version ++ 32 ∷ joined l.fields)))) (decimal_lacks 10 l.number (inl (lit< tt)) sa)
    (lacks-append 10 (decimal l.parts) (codes " VRQR:" ++ (l.version ++ 32 ∷ joined l.fields)) (decimal_lacks 10 l.parts (inl (lit< tt)) sb)
    (lacks-append 10 l.version (32 ∷ joined l.fields) (word_lacks 10 l.version (lit< tt) h.version) (joined_lacks l.fields h.fields))))
    (hash_lacks 10 l.hash (lit< tt) h.hash)

-- ---- a file is split into its lines

abbrev Lines : List Link → Type 0
Lines ls = AllByRecursion (λ l. IsLink l × (l.number < 10 ^ 18) × (l.parts < 10 ^ 18)) ls

split_file : (ls : List Link) → Lines ls → slice_split (λ b. b == 10) (links_text ls) ≡ map link_text ls ++ [] ∷ []
split_file [] h = refl
split_file (l ∷ ls) h = piece_first 10 (link_text l) (links_text ls) (line_lacks l h.0.0 h.0.1 h.0.2) ∙ ap (λ (x : List (List ℕ)). link_text l ∷ x) (split_file ls h.1)

pub length_lines : (ls : List Link) → length (map link_text ls ++ [] ∷ []) ≡ length ls + 1
length_lines [] = refl
length_lines (l ∷ ls) = let rest = length_lines ls in omega arith

feeds_of : (ls : List Link) → Lines ls → feeds_in (links_text ls) ≡ length ls
feeds_of ls h =
    let pieces_count = length-slice_split (λ (b : ℕ). b == 10) (links_text ls) in
    let parts_count = ap (λ (x : List (List ℕ)). length x) (split_file ls h) ∙ length_lines ls in
    omega arith

length_from : (n i : ℕ) (before : List ℕ) (parts : List (List (List ℕ))) → length (links_from n i before parts) ≡ length parts
length_from n i before [] = refl
length_from n i before (p ∷ parts) = let rest = length_from n (i + 1) (link_of n i before p).hash parts in omega arith

are_lines : (n i : ℕ) (before : List ℕ) (parts : List (List (List ℕ))) → Parts parts → n < 10 ^ 18 → i + length parts ≤ n + 1
    → Lines (links_from n i before parts)
are_lines n i before [] h few room = tt
are_lines n i before (p ∷ parts) h few room =
    let small : i < 10 ^ 18 = omega arith in
    let test_i : nat_lt i (10 ^ 18) ≡ true = grind (arith, nat_tests) in
    let test_n : nat_lt n (10 ^ 18) ≡ true = grind (arith, nat_tests) in (
      (record { number = test_i; parts = test_n; version = refl; some = h.0.0; fields = h.0.1; hash = hashes _ }, small, few),
      are_lines n (i + 1) (link_of n i before p).hash parts h.1 few (omega arith),
    )

-- ---- each line passes the five tests

same_bytes : (t : List ℕ) → bytes_eq t t ≡ true
same_bytes t = (bytes_eq-Decides t t).1 refl

no_fault : (n i : ℕ) (before : Option Link) (p : List (List ℕ)) → length (joined p) ≤ part_size → fits_before before p ≡ false
    → failing_link n i before (link_of n i (hash_before before) p) ≡ None
unfolding failing_link
no_fault n i before p within full =
    let long : nat_lt part_size (length (joined p)) ≡ false = grind (arith, nat_tests) in
    rw (same_byte i, same_byte n, same_bytes (hash_text (hash_before before ++ hashed_text (link_of n i (hash_before before) p))), long, full) refl

-- a line behind a part that is full
behind : (l : Link) (part : List (List ℕ)) (p : List (List ℕ)) (parts : List (List (List ℕ))) → l.fields ≡ part → IsFull part (p ∷ parts) → fits_before (Some l) p ≡ false
behind l part [] parts e h = absurd h
behind l part (f ∷ fs) parts e h = let over = h.0 in let same = ap (λ (x : List (List ℕ)). length (joined x)) e in grind (arith, nat_tests)

full_of : (p : List (List ℕ)) (parts : List (List (List ℕ))) → AreFull (p ∷ parts) → IsFull p parts
full_of [] parts h = absurd h
full_of (f ∷ fs) parts h = h

-- the first part does not fit into the one before
abbrev FirstFits : Option Link → List (List (List ℕ)) → Type 0
FirstFits before [] = Unit {0}
FirstFits before (p ∷ parts) = fits_before before p ≡ false

pub read_step : (n i : ℕ) (before : Option Link) (bytes next : List ℕ) (rest : List (List ℕ)) (l : Link) (ls : List Link)
    → link_in bytes ≡ Some l → failing_link n i before l ≡ None → read_from n (i + 1) (Some l) (next ∷ rest) ≡ Ok ls → read_from n i before (bytes ∷ next ∷ rest) ≡ Ok (l ∷ ls)
unfolding read_from
read_step n i before bytes next rest l ls h g k = rw (h, g, read_from) (rw k refl)

read_end : (n i : ℕ) (before : Option Link) → nat_lt 1 i ≡ true → read_from n i before ([] ∷ []) ≡ Ok []
unfolding read_from
read_end n i before test = rw test refl

read_lines : (n i : ℕ) (before : Option Link) (parts : List (List (List ℕ))) → (1 < i) ⊎ (0 < length parts) → AllByRecursion (λ p. length (joined p) ≤ part_size) parts → AreFull parts
    → Lines (links_from n i (hash_before before) parts) → FirstFits before parts
    → 0 < i → read_from n i before (map link_text (links_from n i (hash_before before) parts) ++ [] ∷ []) ≡ Ok (links_from n i (hash_before before) parts)
read_lines n i before [] later within full are first some =
    let test : nat_lt 1 i ≡ true = elim later [ inl l ↦ grind (arith, nat_tests) | inr l ↦ absurd (omega arith) ] in read_end n i before test
read_lines n i before (p ∷ []) later within full are first some =
    let line : Link = link_of n i (hash_before before) p in
    let test : nat_lt 1 (i + 1) ≡ true = grind (arith, nat_tests) in
    read_step n i before (link_text line) [] [] line [] (lines_are_read line are.0.0) (no_fault n i before p within.0 first) (read_end n (i + 1) (Some line) test)
read_lines n i before (p ∷ q ∷ parts) later within full are first some =
    let line : Link = link_of n i (hash_before before) p in
    let here = full_of p (q ∷ parts) full in
    let rest = read_lines n (i + 1) (Some line) (q ∷ parts) (inr (omega arith)) within.1 (rest_full p (q ∷ parts) here) are.1 (behind line p q parts refl here) (omega arith) in
    read_step n i before (link_text line) _ _ line _ (lines_are_read line are.0.0) (no_fault n i before p within.0 first) rest

-- ---- the fields come back

fields_from : (n i : ℕ) (before : List ℕ) (parts : List (List (List ℕ))) → flat_map (λ l. l.fields) (links_from n i before parts) ≡ flat_map (λ p. p) parts
fields_from n i before [] = refl
fields_from n i before (p ∷ parts) = ap (λ (x : List (List ℕ)). p ++ x) (fields_from n (i + 1) (link_of n i before p).hash parts)

-- the parts of fields are parts of fields
few_left : (a b : List (List ℕ)) → Few (a ++ b) → Few a × Few b
few_left [] b h = (tt, h)
few_left (f ∷ a) b h = let rest = few_left a b h.1 in ((h.0, rest.0), rest.1)

parts_of_fields : (parts : List (List (List ℕ))) → Few (flat_map (λ p. p) parts) → AreFull parts → Parts parts
parts_of_fields [] h full = tt
parts_of_fields ([] ∷ parts) h full = absurd full
parts_of_fields ((f ∷ fs) ∷ parts) h full =
    let both = few_left (f ∷ fs) (flat_map (λ p. p) parts) h in
    let some : nat_lt 0 (length (f ∷ fs)) ≡ true = grind (arith, nat_tests) in
    ((some, both.0), parts_of_fields parts both.1 (rest_full (f ∷ fs) parts full))

few_of : (fs : List (List ℕ)) → AllByRecursion (λ f. (is_field f ≡ true) × (length f ≤ part_size)) fs → Few fs
few_of [] h = tt
few_of (f ∷ fs) h = (h.0.0, few_of fs h.1)

no_first : (parts : List (List (List ℕ))) → FirstFits None parts
no_first [] = tt
no_first (p ∷ parts) = refl

some_parts : (parts : List (List (List ℕ))) (fs : List (List ℕ)) → flat_map (λ p. p) parts ≡ fs → 0 < length fs → 0 < length parts
some_parts [] fs e some = let none = ap (λ (x : List (List ℕ)). length x) e in absurd (omega arith)
some_parts (p ∷ parts) fs e some = omega arith

-- the lines of a file that was made
made_lines : (fs : List (List ℕ)) → AreFields fs → length (cut fs) < 10 ^ 18
    → lines_read (links_text (links_from (length (cut fs)) 1 [] (cut fs))) ≡ Ok (links_from (length (cut fs)) 1 [] (cut fs))
unfolding lines_read
made_lines fs fields few =
    let c = (one_cut fs fields).0 in
    let P : List (List ℕ) → Type 0 = λ x. Few x in
    let parts = parts_of_fields (cut fs) (subst P (sym c.all) (few_of fs fields.1)) c.full in
    let n : ℕ = length (cut fs) in
    let are = are_lines n 1 [] (cut fs) parts few (omega arith) in
    let feeds : feeds_in (links_text (links_from (length (cut fs)) 1 [] (cut fs))) ≡ n = feeds_of (links_from (length (cut fs)) 1 [] (cut fs)) are ∙ length_from n 1 [] (cut fs) in
    let split = split_file (links_from (length (cut fs)) 1 [] (cut fs)) are in
    ap (λ (k : ℕ). read_from k 1 None (slice_split (λ b. b == 10) (links_text (links_from (length (cut fs)) 1 [] (cut fs))))) feeds
    ∙ (ap (λ (x : List (List ℕ)). read_from n 1 None x) split
    ∙ read_lines n 1 None (cut fs) (inr (some_parts (cut fs) fs c.all fields.0)) c.within c.full are (no_first (cut fs)) (lit< tt))

-- the file of a text is read as the lines that it has, and these say the text
pub rereads : (text : List ℕ) → AreFields (pieces text) → length (cut (pieces text)) < 10 ^ 18
    → (ls : List Link) × (lines_read (parts_text text) ≡ Ok ls) × (text_of_lines ls ≡ text)
unfolding parts_text
rereads text fields few =
    let ls : List Link = links_from (length (cut (pieces text))) 1 [] (cut (pieces text)) in
    let c = (one_cut (pieces text) fields).0 in
    let joined_text : joined (flat_map (λ l. l.fields) ls) ≡ text =
    ap (λ (x : List (List ℕ)). joined x) (fields_from (length (cut (pieces text))) 1 [] (cut (pieces text)) ∙ c.all) ∙ join_with_byte-slice_split 32 text in
    (ls, made_lines (pieces text) fields few, joined_text)
