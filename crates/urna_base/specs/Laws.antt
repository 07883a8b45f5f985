-- What is printed reads back, and what is read prints back.
use Rattle.std.specs.Prelude.{◌≡◌, ℕ, ◌^◌, ◌<◌, List, length, Some, All}
use Rattle.std.specs.Fmt.{decimal}
use Rattle.std.specs.Int.{w32, w64, to_be_bytes, from_be_bytes}
use Rattle.urna_base.specs.Digits.{digits_value, decimal_value, padded}

-- a number that n digits can hold reads back from its n digits
abbrev pub PaddedReadsBack : Type 0
PaddedReadsBack = (n value : ℕ) → value < 10 ^ n → digits_value n (padded n value) ≡ Some value

-- what n digits write is below 10 ^ n, and its n digits are those that were read
abbrev pub DigitsPrintBack : Type 0
DigitsPrintBack =
    (n : ℕ) (bytes : List ℕ) (value : ℕ) → digits_value n bytes ≡ Some value
    → (value < 10 ^ n) × (padded n value ≡ bytes)

-- a number below 10 ^ 18 reads back from its shortest digits
abbrev pub DecimalReadsBack : Type 0
DecimalReadsBack = (value : ℕ) → value < 10 ^ 18 → decimal_value (decimal value) ≡ Some value

-- a decimal that was read is below 10 ^ 18, and is the shortest text of its value
abbrev pub DecimalPrintsBack : Type 0
DecimalPrintsBack =
    (bytes : List ℕ) (value : ℕ) → decimal_value bytes ≡ Some value → (value < 10 ^ 18) × (decimal value ≡ bytes)

-- a number of 32 or 64 bits reads back from its bytes
abbrev pub Be32ReadsBack : Type 0
Be32ReadsBack = (value : ℕ) → value < 2 ^ 32 → from_be_bytes w32 (to_be_bytes w32 value) ≡ value

abbrev pub Be64ReadsBack : Type 0
Be64ReadsBack = (value : ℕ) → value < 2 ^ 64 → from_be_bytes w64 (to_be_bytes w64 value) ≡ value

-- four or eight bytes are those of the number that they write
abbrev pub Be32PrintsBack : Type 0
Be32PrintsBack =
    (bytes : List ℕ) → length bytes ≡ 4 → All (λ b. b < 256) bytes → to_be_bytes w32 (from_be_bytes w32 bytes) ≡ bytes

abbrev pub Be64PrintsBack : Type 0
Be64PrintsBack =
    (bytes : List ℕ) → length bytes ≡ 8 → All (λ b. b < 256) bytes → to_be_bytes w64 (from_be_bytes w64 bytes) ≡ bytes
