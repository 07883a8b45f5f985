-- How long the file of a text is.
use Rattle.std.proofs.Common.{◌≡◌, ℕ, ◌+◌, ◌*◌, ◌/◌, ◌<◌, ◌≤◌, ◌^◌, true, List, [], ◌∷◌, ◌++◌, length, ap, ◌∙◌, arith, length-append}
use Rattle.std.specs.Prelude.{codes, ◌==◌}
use Rattle.std.specs.Fmt.{decimal}
use Rattle.std.specs.List.{flat_map, list_all}
use Rattle.std.proofs.lemmas.List.Splits.{join_with_byte-slice_split}
use Rattle.std.proofs.lemmas.List.Sums.{sum_by-cons}
use Rattle.std.proofs.lemmas.Bool.Decides.{nat_tests}
use Rattle.urna_base.proofs.DecimalLaws.{decimal_value-decimal, decimal_value-some}
use Rattle.urna_base.proofs.DigitLaws.{both_from_and}
use Rattle.urna_base.specs.Words.{pieces, joined}
use Rattle.hash_chain.proofs.CutLaws.{few_parts, one_cut, part_bytes}
use Rattle.hash_chain.proofs.HashLaws.{hashes}
use Rattle.hash_chain.specs.Chain.{Link, link_text, links_from, links_text, link_of, hashed_text, parts_text}
use Rattle.hash_chain.specs.Cut.{cut}
use Rattle.hash_chain.specs.Fault.{AreFields, ArePartsOf}
use Rattle.hash_chain.specs.Hash.{is_hash, is_hex}
use Rattle.hash_chain.specs.Laws.{FewBytes}

pub hash_length : (t : List ℕ) → is_hash t ≡ true → length t ≡ 128
hash_length t h =
    let both = both_from_and (length t == 128) (list_all is_hex t) h in
    let size : (length t == 128) ≡ true = both.0 in
    grind (arith, nat_tests)

few_digits : (v : ℕ) → v < 10 ^ 18 → length (decimal v) ≤ 18
few_digits v h = (decimal_value-some (decimal v) v (decimal_value-decimal v h)).0.few

-- a line is longer than its fields by 150 bytes and the digits of its two numbers
line_length : (parts number : ℕ) (before : List ℕ) (fields : List (List ℕ))
    → length (link_text (link_of parts number before fields)) + 1 ≡ 150 + length (decimal number) + length (decimal parts) + length (joined fields)
line_length parts number before fields =
    let l : Link = link_of parts number before fields in
    let hash = hash_length l.hash (hashes _) in
    let a = length-append (hashed_text l) (codes " HASH:" ++ l.hash) in
    let b = length-append (decimal number) (58 ∷ (decimal parts ++ (codes " VRQR:" ++ (l.version ++ 32 ∷ joined fields)))) in
    let c = length-append (decimal parts) (codes " VRQR:" ++ (l.version ++ 32 ∷ joined fields)) in
    omega arith

pub many_bytes : (parts number : ℕ) (before : List ℕ) (ps : List (List (List ℕ))) → 128 * length ps ≤ length (links_text (links_from parts number before ps))
many_bytes parts number before [] = omega arith
many_bytes parts number before (p ∷ ps) =
    let l : Link = link_of parts number before p in
    let here = line_length parts number before p in
    let rest = many_bytes parts (number + 1) l.hash ps in
    let both = length-append (link_text l) (10 ∷ links_text (links_from parts (number + 1) l.hash ps)) in
    omega arith

few_bytes_of : (parts number : ℕ) (before : List ℕ) (ps : List (List (List ℕ))) → parts < 10 ^ 18 → number + length ps ≤ parts + 1
    → length (links_text (links_from parts number before ps)) ≤ part_bytes ps + 186 * length ps
few_bytes_of parts number before [] few room = omega arith
few_bytes_of parts number before (p ∷ ps) few room =
    let l : Link = link_of parts number before p in
    let here = line_length parts number before p in
    let rest = few_bytes_of parts (number + 1) l.hash ps few (omega arith) in
    let both = length-append (link_text l) (10 ∷ links_text (links_from parts (number + 1) l.hash ps)) in
    let first = few_digits number (omega arith) in
    let second = few_digits parts few in
    let sum = sum_by-cons (λ (q : List (List ℕ)). length (joined q)) p ps in
    omega arith

-- parts are no longer than their text
joined_parts : (a b : List (List ℕ)) → length (joined a) + length (joined b) ≤ length (joined (a ++ b))
joined_parts [] b = omega arith
joined_parts (f ∷ []) [] = omega arith
joined_parts (f ∷ []) (g ∷ b) = let both = length-append f (32 ∷ joined (g ∷ b)) in omega arith
joined_parts (f ∷ g ∷ a) b =
    let rest = joined_parts (g ∷ a) b in
    let left = length-append f (32 ∷ joined (g ∷ a)) in
    let right = length-append f (32 ∷ joined ((g ∷ a) ++ b)) in
    omega arith

within_text : (ps : List (List (List ℕ))) → part_bytes ps ≤ length (joined (flat_map (λ p. p) ps))
within_text [] = omega arith
within_text (p ∷ ps) =
    let rest = within_text ps in
    let here = joined_parts p (flat_map (λ q. q) ps) in
    let sum = sum_by-cons (λ (q : List (List ℕ)). length (joined q)) p ps in
    omega arith

pub few_parts_in : (text : List ℕ) → AreFields (pieces text) → 500 * length (cut (pieces text)) ≤ length text + 500
few_parts_in text fields =
    let c = (one_cut (pieces text) fields).0 in
    let few = few_parts (cut (pieces text)) c.full in
    let whole : joined (flat_map (λ p. p) (cut (pieces text))) ≡ text = ap (λ (x : List (List ℕ)). joined x) c.all ∙ join_with_byte-slice_split 32 text in
    let same = ap (λ (x : List ℕ). length x) whole in
    let within = within_text (cut (pieces text)) in
    omega arith

pub few_bytes : FewBytes
unfolding parts_text
few_bytes text fields short =
    let c = (one_cut (pieces text) fields).0 in
    let parts : ℕ = length (cut (pieces text)) in
    let few = few_parts_in text fields in
    let whole : joined (flat_map (λ p. p) (cut (pieces text))) ≡ text = ap (λ (x : List (List ℕ)). joined x) c.all ∙ join_with_byte-slice_split 32 text in
    let same = ap (λ (x : List ℕ). length x) whole in
    let within = within_text (cut (pieces text)) in
    let file = few_bytes_of parts 1 [] (cut (pieces text)) (omega arith) (omega arith) in
    let count : parts ≤ length text / 500 + 1 = omega arith in
    omega arith

-- ---- a text is no longer than its file

joined_over : (a b : List (List ℕ)) → length (joined (a ++ b)) ≤ length (joined a) + 1 + length (joined b)
joined_over [] b = omega arith
joined_over (f ∷ []) [] = omega arith
joined_over (f ∷ []) (g ∷ b) = let both = length-append f (32 ∷ joined (g ∷ b)) in omega arith
joined_over (f ∷ g ∷ a) b =
    let rest = joined_over (g ∷ a) b in
    let left = length-append f (32 ∷ joined (g ∷ a)) in
    let right = length-append f (32 ∷ joined ((g ∷ a) ++ b)) in
    omega arith

text_within : (ps : List (List (List ℕ))) → length (joined (flat_map (λ p. p) ps)) ≤ part_bytes ps + length ps
text_within [] = omega arith
text_within (p ∷ ps) =
    let rest = text_within ps in
    let here = joined_over p (flat_map (λ q. q) ps) in
    let sum = sum_by-cons (λ (q : List (List ℕ)). length (joined q)) p ps in
    omega arith

parts_within : (parts number : ℕ) (before : List ℕ) (ps : List (List (List ℕ))) → part_bytes ps + length ps ≤ length (links_text (links_from parts number before ps))
parts_within parts number before [] = omega arith
parts_within parts number before (p ∷ ps) =
    let l : Link = link_of parts number before p in
    let here = line_length parts number before p in
    let rest = parts_within parts (number + 1) l.hash ps in
    let both = length-append (link_text l) (10 ∷ links_text (links_from parts (number + 1) l.hash ps)) in
    let sum = sum_by-cons (λ (q : List (List ℕ)). length (joined q)) p ps in
    omega arith

pub text_within_file : (bytes text : List ℕ) → ArePartsOf bytes text → length text ≤ length bytes
unfolding parts_text
text_within_file bytes text h =
    let c = (one_cut (pieces text) h.fields).0 in
    let whole : joined (flat_map (λ p. p) (cut (pieces text))) ≡ text = ap (λ (x : List (List ℕ)). joined x) c.all ∙ join_with_byte-slice_split 32 text in
    let same = ap (λ (x : List ℕ). length x) whole in
    let within = text_within (cut (pieces text)) in
    let file = parts_within (length (cut (pieces text))) 1 [] (cut (pieces text)) in
    let bytes_same = ap (λ (x : List ℕ). length x) h.same in
    omega arith
