-- Numbers and zeros among bytes
use Rattle.std.specs.Prelude.{ℕ, zero, suc, Bool, ◌==◌, List, [], ◌∷◌, take, drop}
use Rattle.std.specs.Int.{w32, w64, from_be_bytes}
use Rattle.std.specs.List.{list_all}
use Rattle.image_codec.specs.Layout.{counter_size}

-- the numbers that four and eight bytes from a place on write
abbrev pub number4_at : List ℕ → ℕ → ℕ
number4_at bytes at = from_be_bytes w32 (take 4 (drop at bytes))

abbrev pub number8_at : List ℕ → ℕ → ℕ
number8_at bytes at = from_be_bytes w64 (take 8 (drop at bytes))

-- so many counters, from the front on
unfoldable pub counters_in : ℕ → List ℕ → List ℕ
counters_in zero bytes = []
counters_in (suc n) bytes = number4_at bytes 0 ∷ counters_in n (drop counter_size bytes)

-- all bytes are zero
abbrev pub are_zero : List ℕ → Bool
are_zero bytes = list_all (λ b. b == 0) bytes
