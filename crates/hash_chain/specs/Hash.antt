-- The hash of a part, as it is written.
use Rattle.std.specs.Prelude.{ℕ, Bool, ◌==◌, ◌&&◌, ◌||◌, List, length}
use Rattle.std.specs.List.{list_all}
use Rattle.urna_base.specs.Digits.{is_digit}
use Rattle.urna_base.specs.Moment.{is_between}
use Rattle.sha2.specs.Sha512.{sha512}
use Rattle.hex.specs.Hex.{encode_upper}

-- the SHA-512 of some bytes (FIPS 180-4), in 128 upper-case hexadecimal characters
unfoldable pub hash_text : List ℕ → List ℕ
hash_text bytes = encode_upper (sha512 bytes)

-- 0 to 9, or A (65) to F (70)
abbrev pub is_hex : ℕ → Bool
is_hex c = is_digit c || is_between 65 70 c

-- how many characters a hash has
abbrev pub hash_size : ℕ
hash_size = 128

-- 128 upper-case hexadecimal characters
abbrev pub is_hash : List ℕ → Bool
is_hash bytes = length bytes == hash_size && list_all is_hex bytes
