-- Two files of parts with one last hash are one file, or two different texts have one hash
use Rattle.std.proofs.Common.{◌≡◌, ◌≢◌, ◌⊎◌, inl, inr, ℕ, ◌+◌, ◌<◌, ◌==◌, true, List, [], ◌∷◌, ◌++◌, length, get_or, refl, sym, ap, subst, ◌∙◌, arith}
use Rattle.std.specs.Prelude.{codes}
use Rattle.std.specs.List.{list_all}
use Rattle.std.specs.Str.{bytes_eq}
use Rattle.std.proofs.lemmas.Bool.{and_parts, cases_Bool, cases_lt}
use Rattle.std.proofs.lemmas.Slice.Eq.{bytes_eq-Decides}
use Rattle.urna_base.specs.Words.{pieces}
use Rattle.hash_chain.specs.Chain.{Link, hashed_text, link_of, link_text, links_from, links_text, parts_text}
use Rattle.hash_chain.specs.Cut.{cut}
use Rattle.hash_chain.specs.Hash.{hash_text, is_hex}
use Rattle.hash_chain.proofs.HashLaws.{hashes}
use Rattle.intake_ledger.specs.LastHash.{IsLastHash, last_hash, lines_of_parts, lines_of_text}
use Rattle.intake_ledger.specs.Laws.{Collision}
use Rattle.intake_ledger.proofs.LastHash.{file_lines, some_part}
use Rattle.intake_ledger.proofs.LastLine.{hash_long}

-- ---- a hash and what it is of

hash_hex : (bytes : List ℕ) → list_all is_hex (hash_text bytes) ≡ true
hash_hex bytes = (and_parts (length (hash_text bytes) == 128) (list_all is_hex (hash_text bytes)) (hashes bytes)).1

-- texts of one hash are one, or they collide
one_text : (x y : List ℕ) → hash_text x ≡ hash_text y → Collision ⊎ (x ≡ y)
one_text x y same = elim (cases_Bool (bytes_eq x y)) [
  | inl equal ↦ inr ((bytes_eq-Decides x y).0 equal)
  | inr other ↦ inl (x, y, (λ is. let equal : bytes_eq x y ≡ true = (bytes_eq-Decides x y).1 is in absurd (cc)), same)
]

-- ---- two lists of bytes in a row

front_same : (a b x y : List ℕ) → length a ≡ length b → a ++ x ≡ b ++ y → (a ≡ b) × (x ≡ y)
front_same [] [] x y long same = (refl, same)
front_same [] (d ∷ b) x y long same = absurd (omega arith)
front_same (c ∷ a) [] x y long same = absurd (omega arith)
front_same (c ∷ a) (d ∷ b) x y long same =
    let first : c ≡ d = cc in
    let rest = front_same a b x y (omega arith) (cc) in
    (rw (first, rest.0) refl, rest.1)

-- ---- the texts of lines

-- the texts that are hashed of some lines
texts_of : List Link → List (List ℕ)
texts_of [] = []
texts_of (l ∷ ls) = hashed_text l ∷ texts_of ls

-- the hash of the last of these texts, each of which goes on from the hash before
last_from : List ℕ → List (List ℕ) → List ℕ
last_from before [] = before
last_from before (x ∷ xs) = last_from (hash_text (before ++ x)) xs

-- the file of these texts
file_from : List ℕ → List (List ℕ) → List ℕ
file_from before [] = []
file_from before (x ∷ xs) = (x ++ (codes " HASH:" ++ hash_text (before ++ x))) ++ (10 ∷ file_from (hash_text (before ++ x)) xs)

abbrev texts : ℕ → ℕ → List ℕ → List (List (List ℕ)) → List (List ℕ)
texts n i before parts = texts_of (links_from n i before parts)

file_of : (n i : ℕ) (before : List ℕ) (parts : List (List (List ℕ))) → links_text (links_from n i before parts) ≡ file_from before (texts n i before parts)
unfolding texts_of file_from
file_of n i before [] = refl
file_of n i before (part ∷ parts) =
    let l : Link = link_of n i before part in
    ap (λ (rest : List ℕ). link_text l ++ (10 ∷ rest)) (file_of n (i + 1) l.hash parts)

last_of_lines : (n i : ℕ) (before : List ℕ) (part : List (List ℕ)) (parts : List (List (List ℕ))) → last_hash (links_from n i before (part ∷ parts)) ≡ last_from before (texts n i before (part ∷ parts))
unfolding texts_of last_from
last_of_lines n i before part [] = refl
last_of_lines n i before part (next ∷ parts) = last_of_lines n (i + 1) (link_of n i before part).hash next parts

-- each text begins with a Q (81)
abbrev BeginsWithQ : List ℕ → Type 0
BeginsWithQ x = get_or x 0 0 ≡ 81

AllBegin : List (List ℕ) → Type 0
AllBegin [] = Unit {0}
AllBegin (x ∷ xs) = BeginsWithQ x × AllBegin xs

begin_so : (n i : ℕ) (before : List ℕ) (parts : List (List (List ℕ))) → AllBegin (texts n i before parts)
unfolding texts_of AllBegin
begin_so n i before [] = tt
begin_so n i before (part ∷ parts) = (refl, begin_so n (i + 1) (link_of n i before part).hash parts)

-- ---- as many texts

-- those of one last hash collide, or the first goes on from the same, and all others are the same
module _ where
  same_last : (before other x y : List ℕ) (xs ys : List (List ℕ)) → length xs ≡ length ys → last_from before (x ∷ xs) ≡ last_from other (y ∷ ys)
      → Collision ⊎ ((before ++ x ≡ other ++ y) × (xs ≡ ys))
  unfolding last_from
  same_last before other x y [] [] long same = elim (one_text (before ++ x) (other ++ y) same) [
    | inl collide ↦ inl collide
    | inr is ↦ inr (is, refl)
  ]
  same_last before other x y [] (z ∷ ys) long same = absurd (omega arith)
  same_last before other x y (w ∷ xs) [] long same = absurd (omega arith)
  same_last before other x y (w ∷ xs) (z ∷ ys) long same = elim (same_last (hash_text (before ++ x)) (hash_text (other ++ y)) w z xs ys (omega arith) same) [
    | inl collide ↦ inl collide
    | inr rest ↦
        let split = front_same (hash_text (before ++ x)) (hash_text (other ++ y)) w z (hash_long (before ++ x) ∙ sym (hash_long (other ++ y))) rest.0 in
        elim (one_text (before ++ x) (other ++ y) split.0) [
          | inl collide ↦ inl collide
          | inr is ↦ inr (is, rw (split.1, rest.1) refl)
        ]
  ]

-- a hash doesn't begin with a Q
hash_begins : (bytes x : List ℕ) → get_or (hash_text bytes ++ x) 0 0 ≢ 81
hash_begins bytes x = go (hash_text bytes) (hash_long bytes) (hash_hex bytes)
  where
    go : (h : List ℕ) → length h ≡ 128 → list_all is_hex h ≡ true → get_or (h ++ x) 0 0 ≢ 81
    go [] long all is = absurd (omega arith)
    go (c ∷ h) long all is =
        let hex : is_hex c ≡ true = (and_parts (is_hex c) (list_all is_hex h) all).0 in
        let at_q : is_hex 81 ≡ true = subst (λ (n : ℕ). is_hex n ≡ true) is hex in
        absurd (cc)

-- fewer texts from the start don't have the last hash of more, unless some collide
longer : (before : List ℕ) (x : List ℕ) (xs : List (List ℕ)) (y : List ℕ) (ys : List (List ℕ)) → length ys < length xs → BeginsWithQ y
    → last_from before (x ∷ xs) ≡ last_from [] (y ∷ ys) → Collision
unfolding last_from
longer before x [] y ys more begins same = absurd (omega arith)
longer before x (w ∷ xs) y ys more begins same = elim (cases_lt (length ys) (length xs)) [
  | inl still ↦ longer (hash_text (before ++ x)) w xs y ys still begins same
  | inr as_many ↦ elim (same_last (hash_text (before ++ x)) [] w y xs ys (omega arith) same) [
    | inl collide ↦ collide
    | inr is ↦ absurd (hash_begins (before ++ x) w (ap (λ (l : List ℕ). get_or l 0 0) is.0 ∙ begins))
  ]
]

one_list : (x : List ℕ) (xs : List (List ℕ)) (y : List ℕ) (ys : List (List ℕ)) → BeginsWithQ x → BeginsWithQ y → last_from [] (x ∷ xs) ≡ last_from [] (y ∷ ys)
    → Collision ⊎ (x ∷ xs ≡ y ∷ ys)
one_list x xs y ys x_begins y_begins same = elim (cases_lt (length ys) (length xs)) [
  | inl more ↦ inl (longer [] x xs y ys more y_begins same)
  | inr most ↦ elim (cases_lt (length xs) (length ys)) [
    | inl fewer ↦ inl (longer [] y ys x xs fewer x_begins (sym same))
    | inr least ↦ elim (same_last [] [] x y xs ys (omega arith) same) [
      | inl collide ↦ inl collide
      | inr is ↦ inr (rw (is.0, is.1) refl)
    ]
  ]
]

-- lines with one last hash are the same, or texts collide
one_file : (n m : ℕ) (part other : List (List ℕ)) (parts others : List (List (List ℕ))) → last_hash (links_from n 1 [] (part ∷ parts)) ≡ last_hash (links_from m 1 [] (other ∷ others))
    → Collision ⊎ (links_text (links_from n 1 [] (part ∷ parts)) ≡ links_text (links_from m 1 [] (other ∷ others)))
unfolding texts_of AllBegin
one_file n m part other parts others same =
    let hashed = sym (last_of_lines n 1 [] part parts) ∙ same ∙ last_of_lines m 1 [] other others in
    elim (one_list (hashed_text (link_of n 1 [] part)) (texts n (1 + 1) (link_of n 1 [] part).hash parts) (hashed_text (link_of m 1 [] other)) (texts m (1 + 1) (link_of m 1 [] other).hash others)
    (begin_so n 1 [] (part ∷ parts)).0 (begin_so m 1 [] (other ∷ others)).0 hashed) [
      | inl collide ↦ inl collide
      | inr is ↦ inr (file_of n 1 [] (part ∷ parts) ∙ ap (file_from []) is ∙ sym (file_of m 1 [] (other ∷ others)))
    ]

-- ---- files

by_part : (file text : List ℕ) (part : List (List ℕ)) (parts : List (List (List ℕ))) → cut (pieces text) ≡ part ∷ parts → file ≡ parts_text text
    → (file ≡ links_text (lines_of_parts (part ∷ parts))) × (last_hash (lines_of_text text) ≡ last_hash (lines_of_parts (part ∷ parts)))
by_part file text part parts is same = (
  same ∙ file_lines text ∙ ap (λ (ps : List (List (List ℕ))). links_text (lines_of_parts ps)) is,
  ap (λ (ps : List (List (List ℕ))). last_hash (lines_of_parts ps)) is,
)

-- two files with one last hash are one, or texts collide
pub one_or_collide : (a b hash : List ℕ) → IsLastHash a hash → IsLastHash b hash → Collision ⊎ (a ≡ b)
one_or_collide a b hash is also =
    let first = some_part (pieces is.text) is.parts.fields.0 in
    let second = some_part (pieces also.text) also.parts.fields.0 in
    let mine = by_part a is.text first.0 first.1 first.2 is.parts.same in
    let theirs = by_part b also.text second.0 second.1 second.2 also.parts.same in
    elim (one_file (length (first.0 ∷ first.1)) (length (second.0 ∷ second.1)) first.0 second.0 first.1 second.1 (sym mine.1 ∙ sym is.written ∙ also.written ∙ theirs.1)) [
      | inl collide ↦ inl collide
      | inr same ↦ inr (mine.0 ∙ same ∙ sym theirs.0)
    ]
