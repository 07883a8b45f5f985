-- The bytes of a SHA-512
use Rattle.std.proofs.Common.{ℕ, zero, suc, ◌%◌, ◌<◌, List, [], ◌++◌, append-nil, append_assoc, arith, subst, sym}
use Rattle.std.specs.Prelude.{slice_index}
use Rattle.std.specs.Int.{w64, to_be_bytes}
use Rattle.std.specs.List.{AllByRecursion}
use Rattle.sha2.specs.Sha512.{sha512, digest_bytes, final_hash, initial_hash_512}

abbrev Bytes : List ℕ → Type 0
Bytes bytes = AllByRecursion (λ b. b < 256) bytes

-- the bytes of a word, and others behind it
word_first : (n : ℕ) (bytes : List ℕ) → Bytes bytes → Bytes (to_be_bytes w64 n ++ bytes)
word_first n bytes rest = let small : (m : ℕ) → m % 256 < 256 = λ m. omega arith in (small _, (small _, (small _, (small _, (small _, (small _, (small _, (small _, rest))))))))

digest_first : (h : List ℕ) (n : ℕ) (bytes : List ℕ) → Bytes bytes → Bytes (digest_bytes h n ++ bytes)
unfolding digest_bytes
digest_first h zero bytes rest = rest
digest_first h (suc n) bytes rest =
    subst Bytes (sym (append_assoc (digest_bytes h n) (to_be_bytes w64 (slice_index h n)) bytes))
    (digest_first h n (to_be_bytes w64 (slice_index h n) ++ bytes) (word_first (slice_index h n) bytes rest))

pub sha_bytes : (m : List ℕ) → AllByRecursion (λ b. b < 256) (sha512 m)
unfolding sha512
sha_bytes m = let h = final_hash initial_hash_512 m in subst Bytes (append-nil (digest_bytes h 8)) (digest_first h 8 [] tt)
