-- A file that is read was made so.
use Rattle.std.proofs.Common.{◌≡◌, ℕ, ◌+◌, ◌<◌, ◌≤◌, Bool, true, false, List, [], ◌∷◌, ◌++◌, length, map, Option, Some, None, refl, sym, ap, ◌∙◌, subst, ◌⊎◌, inl, inr, arith, lit<, length-append}
use Rattle.std.specs.Prelude.{nat_lt, nat_le, ◌==◌, ◌&&◌, if◌then◌else◌, Ok, Err}
use Rattle.std.specs.List.{slice_split, AllByRecursion, flat_map, join_with_byte}
use Rattle.std.proofs.lemmas.List.Splits.{join_with_byte-slice_split, length-slice_split}
use Rattle.std.proofs.lemmas.Bool.Decides.{nat_tests}
use Rattle.std.proofs.lemmas.Bool.{ltb-true}
use Rattle.urna_base.proofs.DigitLaws.{both_from_and}
use Rattle.urna_base.proofs.Cases.{option_cases, result_cases}
use Rattle.urna_base.proofs.Lacking.{Lacks}
use Rattle.urna_base.proofs.PieceLaws.{pieces_joined}
use Rattle.urna_base.specs.Words.{pieces, joined}
use Rattle.urna_base.proofs.Every.{every_append}
use Rattle.hash_chain.specs.Chain.{Link, link_text, link_of, links_from, links_text, parts_text}
use Rattle.hash_chain.specs.Cut.{part_size, IsFull, AreFull, IsCut, cut}
use Rattle.hash_chain.specs.declared.fault.PartFault.TheVariants.{Form}
use Rattle.hash_chain.specs.Lines.{IsLink, is_field, link_in, feeds_in}
use Rattle.hash_chain.specs.Fault.{failing_link, hash_before, fits_before, AreFields}
use Rattle.hash_chain.proofs.Reading.{read_from, lines_read, text_of_lines}
use Rattle.hash_chain.specs.Laws.{LinksAreSpelled}
use Rattle.hash_chain.specs.declared.fault.PartFault.{PartFault}
use Rattle.hash_chain.proofs.CutLaws.{one_cut}
use Rattle.hash_chain.proofs.LineLaws.{word_lacks, lines_are_read}
use Rattle.hash_chain.proofs.FileLaws.{length_lines, Few, is_word_of, read_step}
use Rattle.hash_chain.proofs.LinesBack.{line_back, Fine, fine}

abbrev fields_in : List Link → List (List (List ℕ))
fields_in ls = map (λ l. l.fields) ls

-- each line behind the one before it has no fault
abbrev pub Chain : ℕ → ℕ → Option Link → List Link → Type 0
Chain n i before [] = Unit {0}
Chain n i before (l ∷ ls) = IsLink l × Fine n i before l × Chain n (i + 1) (Some l) ls

pub record Back (n i : ℕ) (before : Option Link) (ps : List (List ℕ)) (ls : List Link) : Type 0 where
  pub same : ps ≡ map link_text ls ++ [] ∷ []
  pub chain : Chain n i before ls
  pub some : (1 < i) ⊎ (0 < length ls)

pub empty : (t : List ℕ) → (length t == 0) ≡ true → t ≡ []
empty [] h = refl
empty (x ∷ t) h = let none : length (x ∷ t) ≡ 0 = grind (arith, nat_tests) in absurd (omega arith)

pub not_empty : (t : List ℕ) → (length t == 0) ≡ false → t ≡ [] → ⊥
not_empty [] h e = absurd (cc)
not_empty (x ∷ t) h e = absurd (cc)

above : (k : ℕ) → nat_lt 1 k ≡ true → 1 < k
above k h = grind (arith, nat_tests)

last_ok : (i : ℕ) (last : List ℕ) (ls : List Link) → (if length last == 0 && nat_lt 1 i then Ok [] else Err (Form i)) ≡ Ok ls → (last ≡ []) × (1 < i) × (ls ≡ [])
last_ok i last ls e = by_test (length last == 0 && nat_lt 1 i) refl e
  where
    by_test : (b : Bool) → (length last == 0 && nat_lt 1 i) ≡ b → (if b then Ok [] else Err (Form i)) ≡ Ok ls → (last ≡ []) × (1 < i) × (ls ≡ [])
    by_test true h g =
        let both = both_from_and (length last == 0) (nat_lt 1 i) h in
        (empty last both.0, above i both.1, cc)
    by_test false h g = absurd (cc)

pub read_none : (n i : ℕ) (before : Option Link) (bytes next : List ℕ) (rest : List (List ℕ)) → link_in bytes ≡ None → read_from n i before (bytes ∷ next ∷ rest) ≡ Err (Form i)
unfolding read_from
read_none n i before bytes next rest h = rw (h, read_from) refl

pub read_bad : (n i : ℕ) (before : Option Link) (bytes next : List ℕ) (rest : List (List ℕ)) (l : Link) (f : PartFault) → link_in bytes ≡ Some l → failing_link n i before l ≡ Some f
    → read_from n i before (bytes ∷ next ∷ rest) ≡ Err f
unfolding read_from
read_bad n i before bytes next rest l f h g = rw (h, g, read_from) refl

pub read_later : (n i : ℕ) (before : Option Link) (bytes next : List ℕ) (rest : List (List ℕ)) (l : Link) (f : PartFault) → link_in bytes ≡ Some l → failing_link n i before l ≡ None
    → read_from n (i + 1) (Some l) (next ∷ rest) ≡ Err f → read_from n i before (bytes ∷ next ∷ rest) ≡ Err f
unfolding read_from
read_later n i before bytes next rest l f h g k = rw (h, g, read_from) (rw k refl)

pub read_back : (n i : ℕ) (before : Option Link) (ps : List (List ℕ)) (ls : List Link) → 0 < length ps → 0 < i → read_from n i before ps ≡ Ok ls → Back n i before ps ls
unfolding read_from
read_back n i before [] ls some later e = absurd (omega arith)
read_back n i before (last ∷ []) ls some later e =
    let end = last_ok i last ls e in
    let P : List Link → Type 0 = λ x. Back n i before (last ∷ []) x in
    subst P (sym end.2) (record { same = ap (λ (t : List ℕ). t ∷ []) end.0; chain = tt; some = inl end.1 })
read_back n i before (bytes ∷ next ∷ rest) ls some later e =
    elim (option_cases (link_in bytes)) [
      | inl none ↦ let bad : Err (Form i) ≡ Ok ls = sym (read_none n i before bytes next rest none) ∙ e in absurd (cc)
      | inr found ↦ elim (option_cases (failing_link n i before found.0)) [
        | inl none ↦ elim (result_cases (read_from n (i + 1) (Some found.0) (next ∷ rest))) [
          | inl ok ↦
              let all : Ok (found.0 ∷ ok.0) ≡ Ok ls = sym (read_step n i before bytes next rest found.0 ok.0 found.1 none ok.1) ∙ e in
              let same : found.0 ∷ ok.0 ≡ ls = cc in
              let line = line_back bytes found.0 found.1 in
              let b = read_back n (i + 1) (Some found.0) (next ∷ rest) ok.0 (omega arith) (omega arith) ok.1 in
              let P : List Link → Type 0 = λ x. Back n i before (bytes ∷ next ∷ rest) x in
              let more : 0 < length (found.0 ∷ ok.0) = omega arith in
              subst P same (record {
                same = ap (λ (t : List ℕ). t ∷ next ∷ rest) line.1 ∙ ap (λ (x : List (List ℕ)). link_text found.0 ∷ x) b.same;
                chain = (line.0, fine n i before found.0 none, b.chain);
                some = inr more;
              })
          | inr bad ↦ let wrong : Err bad.0 ≡ Ok ls = sym (read_later n i before bytes next rest found.0 bad.0 found.1 none bad.1) ∙ e in absurd (cc)
        ]
        | inr fault ↦ let wrong : Err fault.0 ≡ Ok ls = sym (read_bad n i before bytes next rest found.0 fault.0 found.1 fault.1) ∙ e in absurd (cc)
      ]
    ]

-- ---- what the lines of a chain are

chain_lines : (n i : ℕ) (before : Option Link) (ls : List Link) → Chain n i before ls → ls ≡ links_from n i (hash_before before) (fields_in ls)
chain_lines n i before [] h = refl
chain_lines n i before (l ∷ ls) h =
    let rest = chain_lines n (i + 1) (Some l) ls h.2 in
    let here : l ≡ link_of n i (hash_before before) l.fields = h.1.line in
    ap (λ (x : List Link). l ∷ x) rest
    ∙ ap (λ (x : Link). x ∷ links_from n (i + 1) x.hash (fields_in ls)) here

chain_within : (n i : ℕ) (before : Option Link) (ls : List Link) → Chain n i before ls → AllByRecursion (λ p. length (joined p) ≤ part_size) (fields_in ls)
chain_within n i before [] h = tt
chain_within n i before (l ∷ ls) h = (h.1.within, chain_within n (i + 1) (Some l) ls h.2)

over : (k : ℕ) → nat_le k part_size ≡ false → part_size < k
over k h = grind (arith, nat_tests)

no_fields : (l : Link) → l.fields ≡ [] → IsLink l → ⊥
no_fields l e h = let some = h.some in let none = ap (λ (x : List (List ℕ)). nat_lt 0 (length x)) e in absurd (cc)

step_full : (l m : Link) (fs : List (List ℕ)) (rest : List (List (List ℕ))) → m.fields ≡ fs → IsLink m → fits_before (Some l) m.fields ≡ false → IsFull m.fields rest → IsFull l.fields (fs ∷ rest)
step_full l m [] rest e is full behind = no_fields m e is
step_full l m (f ∷ fs) rest e is full behind =
    let here = ap (λ (x : List (List ℕ)). fits_before (Some l) x) (sym e) ∙ full in
    let P : List (List ℕ) → Type 0 = λ x. IsFull x rest in
    (over (length (joined l.fields) + 1 + length f) here, subst P e behind)

chain_behind : (n i : ℕ) (l : Link) (ls : List Link) → Chain n i (Some l) ls → IsFull l.fields (fields_in ls)
chain_behind n i l [] h = tt
chain_behind n i l (m ∷ ls) h = step_full l m m.fields (fields_in ls) refl h.0 h.1.full (chain_behind n (i + 1) m ls h.2)

first_full : (l : Link) (fs : List (List ℕ)) (rest : List (List (List ℕ))) → l.fields ≡ fs → IsLink l → IsFull l.fields rest → AreFull (fs ∷ rest)
first_full l [] rest e is behind = no_fields l e is
first_full l (f ∷ fs) rest e is behind = let P : List (List ℕ) → Type 0 = λ x. IsFull x rest in subst P e behind

chain_full : (n i : ℕ) (before : Option Link) (ls : List Link) → Chain n i before ls → AreFull (fields_in ls)
chain_full n i before [] h = tt
chain_full n i before (l ∷ ls) h = first_full l l.fields (fields_in ls) refl h.0 (chain_behind n (i + 1) l ls h.2)

-- ---- the fields of a chain

flat_fields : (ls : List Link) → flat_map (λ l. l.fields) ls ≡ flat_map (λ p. p) (fields_in ls)
flat_fields [] = refl
flat_fields (l ∷ ls) = ap (λ (x : List (List ℕ)). l.fields ++ x) (flat_fields ls)

abbrev Fits : List ℕ → Type 0
Fits f = (is_field f ≡ true) × (length f ≤ part_size)

fit_in : (fs : List (List ℕ)) → Few fs → length (joined fs) ≤ part_size → AllByRecursion Fits fs
fit_in [] h w = tt
fit_in (f ∷ []) h w = ((h.0, w), tt)
fit_in (f ∷ g ∷ fs) h w =
    let parts = length-append f (32 ∷ joined (g ∷ fs)) in
    let first : length f ≤ part_size = omega arith in
    let rest : length (joined (g ∷ fs)) ≤ part_size = omega arith in
    ((h.0, first), fit_in (g ∷ fs) h.1 rest)

chain_fields : (n i : ℕ) (before : Option Link) (ls : List Link) → Chain n i before ls
    → AllByRecursion Fits (flat_map (λ l. l.fields) ls)
chain_fields n i before [] h = tt
chain_fields n i before (l ∷ ls) h = every_append Fits l.fields (flat_map (λ m. m.fields) ls) (fit_in l.fields h.0.fields h.1.within) (chain_fields n (i + 1) (Some l) ls h.2)

words : (fs : List (List ℕ)) → AllByRecursion Fits fs → AllByRecursion (Lacks 32) fs
words [] h = tt
words (f ∷ fs) h = (word_lacks 32 f (lit< tt) (is_word_of f h.0.0), words fs h.1)

pieces_of : (fs : List (List ℕ)) → 0 < length fs → AllByRecursion Fits fs → pieces (joined fs) ≡ fs
pieces_of [] some h = absurd (omega arith)
pieces_of (f ∷ fs) some h = pieces_joined 32 f fs (words (f ∷ fs) h)

some_fields : (n i : ℕ) (before : Option Link) (ls : List Link) → Chain n i before ls → 0 < length ls → 0 < length (flat_map (λ l. l.fields) ls)
some_fields n i before [] h some = absurd (omega arith)
some_fields n i before (l ∷ ls) h some =
    let both = length-append l.fields (flat_map (λ m. m.fields) ls) in
    let here : nat_lt 0 (length l.fields) ≡ true = h.0.some in
    let first = ltb-true 0 (length l.fields) here in
    omega arith

file_joined : (ls : List Link) → join_with_byte 10 (map link_text ls ++ [] ∷ []) ≡ links_text ls
file_joined [] = refl
file_joined (l ∷ []) = refl
file_joined (l ∷ m ∷ ls) = ap (λ (x : List ℕ). link_text l ++ 10 ∷ x) (file_joined (m ∷ ls))

length_fields : (ls : List Link) → length (fields_in ls) ≡ length ls
length_fields [] = refl
length_fields (l ∷ ls) = let rest = length_fields ls in omega arith

not_later : {A : Type 0} (xs : List A) → (1 < 1) ⊎ (0 < length xs) → 0 < length xs
not_later xs (inl h) = absurd (omega arith)
not_later xs (inr h) = h

-- a file that is read is the parts of the text of its lines
pub lines_made : (bytes : List ℕ) (ls : List Link) → lines_read bytes ≡ Ok ls → AreFields (pieces (text_of_lines ls)) × (bytes ≡ parts_text (text_of_lines ls))
unfolding lines_read parts_text
lines_made bytes ls e =
    let n : ℕ = feeds_in bytes in
    let split_length = length-slice_split (λ (b : ℕ). b == 10) bytes in
    let back = read_back n 1 None (slice_split (λ b. b == 10) bytes) ls (omega arith) (lit< tt) e in
    let some = not_later ls back.some in
    let feeds : n ≡ length (fields_in ls) = let a = ap (λ (x : List (List ℕ)). length x) back.same ∙ length_lines ls in let b = length_fields ls in omega arith in
    let fs : List (List ℕ) = flat_map (λ l. l.fields) ls in
    let fit = chain_fields n 1 None ls back.chain in
    let split : pieces (text_of_lines ls) ≡ fs = pieces_of fs (some_fields n 1 None ls back.chain some) fit in
    let P : List (List ℕ) → Type 0 = λ x. AreFields x in
    let are : AreFields (pieces (text_of_lines ls)) = subst P (sym split) (some_fields n 1 None ls back.chain some, fit) in
    let is : IsCut fs (fields_in ls) = record { all = sym (flat_fields ls); within = chain_within n 1 None ls back.chain; full = chain_full n 1 None ls back.chain } in
    let parts : fields_in ls ≡ cut (pieces (text_of_lines ls)) = (one_cut fs (some_fields n 1 None ls back.chain some, fit)).1 (fields_in ls) is ∙ ap (λ (x : List (List ℕ)). cut x) (sym split) in
    let made : ls ≡ links_from (length (fields_in ls)) 1 [] (fields_in ls) = chain_lines n 1 None ls back.chain ∙ ap (λ (k : ℕ). links_from k 1 [] (fields_in ls)) feeds in
    let file : bytes ≡ links_text ls = sym (join_with_byte-slice_split 10 bytes) ∙ (ap (λ (x : List (List ℕ)). join_with_byte 10 x) back.same ∙ file_joined ls) in
    (are, file ∙ (ap (λ (x : List Link). links_text x) made ∙ ap (λ (x : List (List (List ℕ))). links_text (links_from (length x) 1 [] x)) parts))

pub lines_are_spelled : LinksAreSpelled
lines_are_spelled bytes l = (λ e. line_back bytes l e, λ h. ap (λ (x : List ℕ). link_in x) h.1 ∙ lines_are_read l h.0)
