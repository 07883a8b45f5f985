-- A hash is 128 upper-case hexadecimal characters.
use Rattle.std.proofs.Common.{◌≡◌, ℕ, zero, suc, ◌*◌, ◌<◌, ◌/◌, ◌%◌, true, List, [], ◌∷◌, ◌++◌, length, refl, ap, ◌∙◌, arith, length-append}
use Rattle.std.specs.Prelude.{slice_index}
use Rattle.std.specs.List.{list_all, AllByRecursion}
use Rattle.std.specs.Int.{w64, to_be_bytes}
use Rattle.sha2.specs.Sha512.{sha512, digest_bytes, final_hash, initial_hash_512}
use Rattle.hex.specs.Hex.{encode_with, upper_digits}
use Rattle.hex.proofs.HexLemmas.{length-encode_with}
use Rattle.hash_chain.specs.Laws.{HashesAreHashes}
use Rattle.hash_chain.specs.Hash.{hash_text, is_hex}

abbrev Bytes : List ℕ → Type 0
Bytes bs = AllByRecursion (λ b. b < 256) bs

hex_at : (i : ℕ) → i < 16 → is_hex (slice_index upper_digits i) ≡ true
hex_at zero h = refl
hex_at (suc zero) h = refl
hex_at (suc (suc zero)) h = refl
hex_at (suc (suc (suc zero))) h = refl
hex_at (suc (suc (suc (suc zero)))) h = refl
hex_at (suc (suc (suc (suc (suc zero))))) h = refl
hex_at (suc (suc (suc (suc (suc (suc zero)))))) h = refl
hex_at (suc (suc (suc (suc (suc (suc (suc zero))))))) h = refl
hex_at (suc (suc (suc (suc (suc (suc (suc (suc zero)))))))) h = refl
hex_at (suc (suc (suc (suc (suc (suc (suc (suc (suc zero))))))))) h = refl
hex_at (suc (suc (suc (suc (suc (suc (suc (suc (suc (suc zero)))))))))) h = refl
hex_at (suc (suc (suc (suc (suc (suc (suc (suc (suc (suc (suc zero))))))))))) h = refl
hex_at (suc (suc (suc (suc (suc (suc (suc (suc (suc (suc (suc (suc zero)))))))))))) h = refl
hex_at (suc (suc (suc (suc (suc (suc (suc (suc (suc (suc (suc (suc (suc zero))))))))))))) h = refl
hex_at (suc (suc (suc (suc (suc (suc (suc (suc (suc (suc (suc (suc (suc (suc zero)))))))))))))) h = refl
hex_at (suc (suc (suc (suc (suc (suc (suc (suc (suc (suc (suc (suc (suc (suc (suc zero))))))))))))))) h = refl
hex_at (suc (suc (suc (suc (suc (suc (suc (suc (suc (suc (suc (suc (suc (suc (suc (suc n)))))))))))))))) h = absurd (omega arith)

all_hex : (bs : List ℕ) → Bytes bs → list_all is_hex (encode_with upper_digits bs) ≡ true
unfolding encode_with
all_hex [] h = refl
all_hex (b ∷ bs) h =
    let below : b < 256 = h.0 in
    let high : b / 16 < 16 = omega arith in
    let low : b % 16 < 16 = omega arith in
    rw (hex_at (b / 16) high, hex_at (b % 16) low, all_hex bs h.1) refl

bytes_append : (a b : List ℕ) → Bytes a → Bytes b → Bytes (a ++ b)
bytes_append [] b h g = g
bytes_append (x ∷ a) b h g = (h.0, bytes_append a b h.1 g)

byte_small : (n : ℕ) → n % 256 < 256
byte_small n = omega arith

word_bytes : (n : ℕ) → Bytes (to_be_bytes w64 n) × (length (to_be_bytes w64 n) ≡ 8)
word_bytes n = let small = byte_small in ((small _, (small _, (small _, (small _, (small _, (small _, (small _, (small _, tt)))))))), refl)

digest_fits : (h : List ℕ) (n : ℕ) → Bytes (digest_bytes h n) × (length (digest_bytes h n) ≡ 8 * n)
unfolding digest_bytes
digest_fits h zero = (tt, refl)
digest_fits h (suc n) =
    let before = digest_fits h n in
    let word = word_bytes (slice_index h n) in
    let both = length-append (digest_bytes h n) (to_be_bytes w64 (slice_index h n)) in
    (bytes_append (digest_bytes h n) (to_be_bytes w64 (slice_index h n)) before.0 word.0, omega arith)

pub hashes : HashesAreHashes
unfolding sha512 hash_text
hashes m =
    let digest = digest_fits (final_hash initial_hash_512 m) 8 in
    let long : length (encode_with upper_digits (digest_bytes (final_hash initial_hash_512 m) 8)) ≡ 128 = length-encode_with upper_digits (digest_bytes (final_hash initial_hash_512 m) 8) ∙ ap (λ (n : ℕ). 2 * n) digest.1 in
    rw (long, all_hex (digest_bytes (final_hash initial_hash_512 m) 8) digest.0) refl
