-- The last hash of a file: where it stands, and its bytes
use Rattle.std.proofs.Common.{◌≡◌, ℕ, zero, suc, ◌+◌, ◌*◌, ◌<◌, Bool, true, false, cond, nat_le, Result, Ok, Err, List, [], ◌∷◌, ◌++◌, length, refl, sym, ap, subst, ◌∙◌, arith}
use Rattle.std.specs.Prelude.{MatchResult}
use Rattle.std.specs.List.{AllByRecursion}
use Rattle.hex.specs.declared.error.FromHexError.{FromHexError}
use Rattle.hex.specs.Hex.{IsBytes, decode_sized, encode_upper, upper_digits}
use Rattle.hex.proofs.HexLemmas.{decode_of-encode_upper, decode_sized-twice, length-encode_with}
use Rattle.sha2.specs.Sha512.{sha512}
use Rattle.sha2.proofs.Facts512.{length-sha512}
use Rattle.urna_base.specs.Words.{pieces, joined}
use Rattle.hash_chain.specs.Chain.{Link, chain_version, hashed_text, link_of, links_from, links_text, parts_text}
use Rattle.hash_chain.specs.Cut.{cut, cut_after, part_size}
use Rattle.hash_chain.specs.Fault.{ArePartsOf}
use Rattle.hash_chain.specs.Hash.{hash_text}
use Rattle.intake_ledger.specs.LastHash.{IsLastHash, last_hash, lines_of_parts, lines_of_text}
use Rattle.intake_ledger.specs.Ledger.{IsHash}
use Rattle.intake_ledger.proofs.Digests.{sha_bytes}
use Rattle.intake_ledger.proofs.LastLine.{EndsWith, ends_from}

-- ---- fields are cut into some parts

-- there is a first part
abbrev pub IsSome : List (List (List ℕ)) → Type 0
IsSome parts = (part : List (List ℕ)) × (rest : List (List (List ℕ))) × (parts ≡ part ∷ rest)

begin_or_go_on : (fits : Bool) (begun : List (List ℕ)) (rest on : List (List (List ℕ))) → IsSome on → IsSome (cond fits on (begun ∷ rest))
begin_or_go_on true begun rest on some = some
begin_or_go_on false begun rest on some = (begun, rest, refl)

some_behind : (begun : List (List ℕ)) (fields : List (List ℕ)) → IsSome (cut_after begun fields)
some_behind begun [] = (begun, [], refl)
some_behind begun (f ∷ fields) =
    begin_or_go_on (nat_le (length (joined begun) + 1 + length f) part_size) begun (cut_after (f ∷ []) fields) (cut_after (begun ++ f ∷ []) fields) (some_behind (begun ++ f ∷ []) fields)

pub some_part : (fields : List (List ℕ)) → 0 < length fields → IsSome (cut fields)
unfolding cut
some_part [] some = absurd (omega arith)
some_part (f ∷ fields) some = some_behind (f ∷ []) fields

-- ---- the last hash of a file

pub file_lines : (text : List ℕ) → parts_text text ≡ links_text (lines_of_text text)
unfolding parts_text
file_lines text = refl

-- it stands at the end of the file
pub ends_so : (file text : List ℕ) → ArePartsOf file text → EndsWith file (last_hash (lines_of_text text))
ends_so file text is =
    let some = some_part (pieces text) is.fields.0 in
    subst (λ (f : List ℕ). EndsWith f (last_hash (lines_of_text text))) (sym (is.same ∙ file_lines text))
    (subst (λ (parts : List (List (List ℕ))). EndsWith (links_text (lines_of_parts parts)) (last_hash (lines_of_parts parts))) (sym some.2)
    (ends_from (length (some.0 ∷ some.1)) 1 [] some.0 some.1))

last_is : (n i : ℕ) (before : List ℕ) (part : List (List ℕ)) (parts : List (List (List ℕ))) → (x : List ℕ) × (last_hash (links_from n i before (part ∷ parts)) ≡ hash_text x)
last_is n i before part [] = (before ++ hashed_text (let bare : Link = record { number = i; parts = n; version = chain_version; fields = part; hash = [] } in bare), refl)
last_is n i before part (next ∷ parts) = last_is n (i + 1) (link_of n i before part).hash next parts

-- and is the hash of a text, as it is written
pub written_hash : (text : List ℕ) → 0 < length (pieces text) → (x : List ℕ) × (last_hash (lines_of_text text) ≡ hash_text x)
written_hash text some =
    let first = some_part (pieces text) some in
    let hash = last_is (length (first.0 ∷ first.1)) 1 [] first.0 first.1 in
    (hash.0, ap (λ (parts : List (List (List ℕ))). last_hash (lines_of_parts parts)) first.2 ∙ hash.1)

-- ---- its bytes

pub sha_is_hash : (m : List ℕ) → IsHash (sha512 m)
sha_is_hash m = (length-sha512 m, sha_bytes m)

pub are_bytes : (xs : List ℕ) → AllByRecursion (λ b. b < 256) xs → IsBytes xs
are_bytes [] all i = omega arith
are_bytes (x ∷ xs) all zero = all.0
are_bytes (x ∷ xs) all (suc i) = are_bytes xs all.1 i

-- a hash is read as it is written
read_hash : (m : List ℕ) → decode_sized (hash_text m) 64 ≡ Ok (sha512 m)
unfolding hash_text
read_hash m =
    decode_sized-twice (encode_upper (sha512 m)) 64 (length-encode_with upper_digits (sha512 m) ∙ ap (λ (n : ℕ). 2 * n) (length-sha512 m))
    ∙ decode_of-encode_upper (sha512 m) (are_bytes (sha512 m) (sha_bytes m))

pub hash_written : (m : List ℕ) → encode_upper (sha512 m) ≡ hash_text m
unfolding hash_text
hash_written m = refl

-- the bytes that decoding leaves
decoded_out : (found : Result (List ℕ) FromHexError) (done : Result (Unit {0}) FromHexError) (out bytes : List ℕ) → found ≡ Ok bytes
    → MatchResult found (λ b. (done ≡ Ok tt) × (out ≡ b)) (λ e. done ≡ Err e) → (done ≡ Ok tt) × (out ≡ bytes)
decoded_out found done out bytes is match =
    subst (λ (r : Result (List ℕ) FromHexError). MatchResult r (λ b. (done ≡ Ok tt) × (out ≡ b)) (λ e. done ≡ Err e)) is match

-- where the last hash of a file is decoded, these are its bytes
pub hash_decoded : (file text written : List ℕ) (done : Result (Unit {0}) FromHexError) (out : List ℕ) → ArePartsOf file text → written ≡ last_hash (lines_of_text text)
    → MatchResult (decode_sized written 64) (λ b. (done ≡ Ok tt) × (out ≡ b)) (λ e. done ≡ Err e) → (done ≡ Ok tt) × IsLastHash file out
hash_decoded file text written done out parts is match =
    let hash = written_hash text parts.fields.0 in
    let read : decode_sized written 64 ≡ Ok (sha512 hash.0) = ap (λ (x : List ℕ). decode_sized x 64) (is ∙ hash.1) ∙ read_hash hash.0 in
    let left = decoded_out (decode_sized written 64) done out (sha512 hash.0) read match in (
      left.0,
      record {
        text = text;
        parts = parts;
        bytes = rw left.1 (sha_is_hash hash.0);
        written = ap encode_upper left.1 ∙ hash_written hash.0 ∙ sym hash.1;
      },
    )
