-- The end of the file of a text: the hash of its last line, and a line feed
use Rattle.std.proofs.Common.{◌≡◌, ℕ, ◌+◌, ◌-◌, ◌≤◌, ◌==◌, List, [], ◌∷◌, ◌++◌, length, take, drop, sym, ap, ◌∙◌, append_assoc, arith, length-append}
use Rattle.std.specs.Prelude.{codes}
use Rattle.std.specs.List.{list_all}
use Rattle.std.proofs.Math.Seq.{drop-append_seam, take-append_seam}
use Rattle.std.proofs.lemmas.Bool.{and_parts, eqb-true}
use Rattle.hash_chain.specs.Chain.{Link, hashed_text, link_of, link_text, links_from, links_text}
use Rattle.hash_chain.specs.Hash.{hash_text, is_hex}
use Rattle.hash_chain.proofs.HashLaws.{hashes}
use Rattle.intake_ledger.specs.LastHash.{last_hash}

-- a hash has 128 characters
pub hash_long : (bytes : List ℕ) → length (hash_text bytes) ≡ 128
hash_long bytes = eqb-true (length (hash_text bytes)) 128 (and_parts (length (hash_text bytes) == 128) (list_all is_hex (hash_text bytes)) (hashes bytes)).0

-- a text ends with a hash and a line feed
pub record EndsWith (text hash : List ℕ) : Type 0 where
  pub front : List ℕ
  pub same : text ≡ front ++ (hash ++ 10 ∷ [])
  pub long : length hash ≡ 128

-- so do lines, with the hash of the last one
pub ends_from : (n i : ℕ) (before : List ℕ) (part : List (List ℕ)) (parts : List (List (List ℕ))) → EndsWith (links_text (links_from n i before (part ∷ parts))) (last_hash (links_from n i before (part ∷ parts)))
ends_from n i before part [] =
    let l : Link = link_of n i before part in
    record {
      front = hashed_text l ++ codes " HASH:";
      same =
          append_assoc (hashed_text l) (codes " HASH:" ++ l.hash) (10 ∷ [])
          ∙ ap (λ (x : List ℕ). hashed_text l ++ x) (append_assoc (codes " HASH:") l.hash (10 ∷ []))
          ∙ sym (append_assoc (hashed_text l) (codes " HASH:") (l.hash ++ 10 ∷ []));
      long = hash_long _;
    }
ends_from n i before part (next ∷ parts) =
    let l : Link = link_of n i before part in
    let rest = ends_from n (i + 1) l.hash next parts in
    record {
      front = (link_text l ++ 10 ∷ []) ++ rest.front;
      same =
          sym (append_assoc (link_text l) (10 ∷ []) (links_text (links_from n (i + 1) l.hash (next ∷ parts))))
          ∙ ap (λ (x : List ℕ). (link_text l ++ 10 ∷ []) ++ x) rest.same
          ∙ sym (append_assoc (link_text l ++ 10 ∷ []) rest.front (last_hash (links_from n (i + 1) l.hash (next ∷ parts)) ++ 10 ∷ []));
      long = rest.long;
    }

-- what stands in front of the last byte of such a text
pub before_end : (text hash : List ℕ) → EndsWith text hash → (129 ≤ length text) × (take 128 (drop (length text - 129) text) ≡ hash)
before_end text hash ends =
    let all : length text ≡ length ends.front + 129 = omega (arith, ap length ends.same, length-append ends.front (hash ++ 10 ∷ []), length-append hash (10 ∷ []), ends.long) in
    let at : length text - 129 ≡ length ends.front = omega arith in (
      omega arith,
      ap (λ (k : ℕ). take 128 (drop k text)) at
          ∙ ap (λ (l : List ℕ). take 128 (drop (length ends.front) l)) ends.same
          ∙ ap (take 128) (drop-append_seam ends.front (hash ++ 10 ∷ []))
          ∙ sym (ap (λ (k : ℕ). take k (hash ++ 10 ∷ [])) ends.long)
          ∙ take-append_seam hash (10 ∷ []),
    )
