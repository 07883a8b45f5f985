-- The bytes of the turnout: a bit for each place
use Rattle.std.proofs.Common.{◌≡◌, ℕ, zero, suc, ◌+◌, ◌-◌, ◌*◌, ◌/◌, ◌%◌, ◌^◌, ◌<◌, ◌≤◌, Bool, true, false, not, cond, ◌==◌, List, [], ◌∷◌, ◌++◌, length, get_or, map, slice_set, inl, inr, refl, sym, ap, ◌∙◌, arith}
use Rattle.std.specs.Int.{bit_at}
use Rattle.std.specs.List.{list_all, range_with_len}
use Rattle.std.proofs.lemmas.Bool.{cases_eq, cases_lt, and_from, and_parts, not-true}
use Rattle.std.proofs.lemmas.Bool.Decides.{nat_tests}
use Rattle.std.proofs.lemmas.List.{get_or_past, get_or-set_other, get_or-set_same, length-append}
use Rattle.std.proofs.lemmas.List.FromFn.{fill_by_all, get_or-map-range_with_len, length-map-range_with_len, map-range_with_len_more}
use Rattle.std.proofs.Math.Nat.{pow-suc}
use Rattle.std.proofs.Math.Pow.{pow_mono}
use Rattle.std.proofs.lemmas.Nat.Bits.{bit_at_cat_low, bit_at_cat_high, same_from_bits_below}
use Rattle.std.proofs.lemmas.Option.{unwrap_or-slice_get}
use Rattle.election_tables.specs.Limits.{most_voters}
use Rattle.turnout.specs.Turnout.{has_come}
use Rattle.image_codec.specs.Encoding.{eight_places, number_of_bits, turnout_bytes}
use Rattle.image_codec.specs.DecodedHead.{is_marked, marks_in, has_no_more}
use Rattle.image_codec.proofs.ReadParts.{length-marks_in}
use Rattle.image_codec.proofs.WholeBody.{AreBytes}

-- The number that bits write

one_if : Bool → ℕ
one_if bit = cond bit 1 0

first_bit : (bit : Bool) (n rest : ℕ) → cond bit (2 ^ n) 0 + rest ≡ one_if bit * 2 ^ n + rest
unfolding one_if
first_bit true n rest = omega arith
first_bit false n rest = omega arith

number_small : (bits : List Bool) → number_of_bits bits < 2 ^ length bits
number_small [] = omega arith
number_small (true ∷ bits) = let small = number_small bits in omega (arith, pow-suc 2 (length bits))
number_small (false ∷ bits) = let small = number_small bits in omega (arith, pow-suc 2 (length bits))

one_bit : (bit : Bool) → (bit_at (one_if bit) 0 == 1) ≡ bit
unfolding one_if
one_bit true = refl
one_bit false = refl

-- one bit more behind the others
number_doubled : (bit : Bool) (n rest more last : ℕ) → more ≡ 2 * rest + last → cond bit (2 ^ suc n) 0 + more ≡ 2 * (cond bit (2 ^ n) 0 + rest) + last
number_doubled true n rest more last e = omega (arith, pow-suc 2 n)
number_doubled false n rest more last e = omega arith

number_push : (bits : List Bool) (last : Bool) → number_of_bits (bits ++ last ∷ []) ≡ 2 * number_of_bits bits + one_if last
unfolding one_if
number_push [] true = refl
number_push [] false = refl
number_push (bit ∷ bits) last =
    let long : length (bits ++ last ∷ []) ≡ suc (length bits) = omega (arith, length-append bits (last ∷ [])) in
    ap (λ (n : ℕ). cond bit (2 ^ n) 0 + number_of_bits (bits ++ last ∷ [])) long
    ∙ number_doubled bit (length bits) (number_of_bits bits) (number_of_bits (bits ++ last ∷ [])) (one_if last) (number_push bits last)

-- each bit, the last of which has the value 1
bit_of : (bits : List Bool) (i : ℕ) → i < length bits → (bit_at (number_of_bits bits) i == 1) ≡ get_or bits (length bits - 1 - i) false
bit_of [] i lt = absurd (omega arith)
bit_of (bit ∷ bits) i lt =
    let n : ℕ = length bits in
    let parts : number_of_bits (bit ∷ bits) ≡ one_if bit * 2 ^ n + number_of_bits bits = first_bit bit n (number_of_bits bits) in
    elim (cases_lt i n) [
      | inl low ↦
          let place : suc n - 1 - i ≡ suc (n - 1 - i) = omega arith in
          ap (λ (k : ℕ). bit_at k i == 1) parts ∙ ap (λ (k : ℕ). k == 1) (bit_at_cat_low (one_if bit) n (number_of_bits bits) i low)
          ∙ bit_of bits i low ∙ sym (ap (λ (k : ℕ). get_or (bit ∷ bits) k false) place)
      | inr high ↦
          let last : i - n ≡ 0 = omega arith in
          let place : suc n - 1 - i ≡ 0 = omega arith in
          ap (λ (k : ℕ). bit_at k i == 1) parts ∙ ap (λ (k : ℕ). k == 1) (bit_at_cat_high (one_if bit) n (number_of_bits bits) i (number_small bits) high)
          ∙ ap (λ (k : ℕ). bit_at (one_if bit) k == 1) last ∙ one_bit bit ∙ sym (ap (λ (k : ℕ). get_or (bit ∷ bits) k false) place)
    ]

-- The marks of eight places

pub eight_small : (came : List Bool) (p : ℕ) → eight_places came p < 256
unfolding eight_places
eight_small came p = number_small (map (has_come came) (range_with_len p 8))

-- the marks of so many places, which are fewer than eight, and with those of one place more
pub marks_small : (came : List Bool) (p n : ℕ) → n < 8 → number_of_bits (map (has_come came) (range_with_len p n)) < 128
marks_small came p n few =
    let small = number_small (map (has_come came) (range_with_len p n)) in
    let most : 2 ^ n ≤ 128 = pow_mono {i = n} {j = 7} (omega arith) in
    let long = ap (λ (k : ℕ). 2 ^ k) (length-map-range_with_len (has_come came) p n) in
    omega arith

pub marks_eight : (came : List Bool) (p : ℕ) → number_of_bits (map (has_come came) (range_with_len p 8)) ≡ eight_places came p
unfolding eight_places
marks_eight came p = refl

pub marks_push : (came : List Bool) (p n place : ℕ) → p + n ≡ place
    → number_of_bits (map (has_come came) (range_with_len p (n + 1))) ≡ 2 * number_of_bits (map (has_come came) (range_with_len p n)) + cond (has_come came place) 1 0
unfolding one_if
marks_push came p n place e =
    ap number_of_bits (map-range_with_len_more (has_come came) p n place e) ∙ number_push (map (has_come came) (range_with_len p n)) (has_come came place)

-- the bit of a place
eight_bits : (came : List Bool) (p i : ℕ) → i < 8 → (bit_at (eight_places came p) i == 1) ≡ has_come came (p + (7 - i))
unfolding eight_places
eight_bits came p i lt = bit_of (map (has_come came) (range_with_len p 8)) i lt ∙ get_or-map-range_with_len (has_come came) p 8 (7 - i) (p + (7 - i)) false (omega arith) (omega arith)

-- The marks of all places

-- byte by byte
pub marks_put : (came : List Bool) (bytes : List ℕ) (k v : ℕ) → k < length bytes → v ≡ eight_places came (8 * k)
    → ((i : ℕ) → i < k → get_or bytes i 0 ≡ eight_places came (8 * i)) → (i : ℕ) → i < k + 1 → get_or (slice_set bytes k v) i 0 ≡ eight_places came (8 * i)
marks_put came bytes k v lt is before i within = elim (cases_eq i k) [
  | inl same ↦ ap (λ (j : ℕ). get_or (slice_set bytes k v) j 0) same ∙ get_or-set_same bytes k v 0 lt ∙ is ∙ ap (λ (j : ℕ). eight_places came (8 * j)) (sym same)
  | inr other ↦ get_or-set_other bytes k i v 0 other ∙ before i (omega arith)
]

pub marks_all : (came : List Bool) (bytes : List ℕ) → length bytes ≡ 75 → ((i : ℕ) → i < 75 → get_or bytes i 0 ≡ eight_places came (8 * i)) → bytes ≡ turnout_bytes came
unfolding turnout_bytes
marks_all came bytes whole each = fill_by_all (λ k. eight_places came (8 * k)) bytes 75 0 whole each

read_eight : (came : List Bool) (k : ℕ) → k < 75 → get_or (turnout_bytes came) k 0 ≡ eight_places came (8 * k)
unfolding turnout_bytes
read_eight came k lt = get_or-map-range_with_len (λ i. eight_places came (8 * i)) 0 75 k k 0 lt (omega arith)

-- a place is marked in the bytes where its voter came
pub marked_back : (came : List Bool) (place : ℕ) → place < 600 → is_marked (turnout_bytes came) place ≡ has_come came place
marked_back came place lt =
    let whole : 8 * (place / 8) + (7 - (7 - place % 8)) ≡ place = omega arith in
    ap (λ (n : ℕ). bit_at n (7 - place % 8) == 1) (read_eight came (place / 8) (omega arith))
    ∙ eight_bits came (8 * (place / 8)) (7 - place % 8) (omega arith) ∙ ap (has_come came) whole

pub come_at : (came : List Bool) (place : ℕ) → has_come came place ≡ get_or came place false
come_at came place = unwrap_or-slice_get came place false

-- what was written of the marks reads back
pub marks_back : (came : List Bool) → length came ≤ most_voters → marks_in (length came) (turnout_bytes came) ≡ came
unfolding marks_in
marks_back came few = sym (fill_by_all (is_marked (turnout_bytes came)) came (length came) false refl
    (λ k lt. sym (marked_back came k (omega arith) ∙ come_at came k)))

pass_from : (p : ℕ → Bool) (a n : ℕ) → ((k : ℕ) → a ≤ k → k < a + n → p k ≡ true) → list_all p (range_with_len a n) ≡ true
pass_from p a zero each = refl
pass_from p a (suc n) each = and_from (p a) (list_all p (range_with_len (a + 1) n)) (each a (omega arith) (omega arith))
    (pass_from p (a + 1) n (λ k ge lt. each k (omega arith) (omega arith)))

each_passes : (p : ℕ → Bool) (a n : ℕ) → list_all p (range_with_len a n) ≡ true → (k : ℕ) → a ≤ k → k < a + n → p k ≡ true
each_passes p a zero all k ge lt = absurd (omega arith)
each_passes p a (suc n) all k ge lt =
    let parts = and_parts (p a) (list_all p (range_with_len (a + 1) n)) all in
    elim (cases_lt a k) [
      | inl above ↦ each_passes p (a + 1) n parts.1 k (omega arith) (omega arith)
      | inr below ↦ let same : a ≡ k = omega arith in sym (ap p same) ∙ parts.0
    ]

pub no_more_back : (came : List Bool) → length came ≤ most_voters → has_no_more (length came) (turnout_bytes came) ≡ true
unfolding has_no_more
no_more_back came few = pass_from (λ place. not (is_marked (turnout_bytes came) place)) (length came) (600 - length came)
    (λ k ge lt. ap not (marked_back came k (omega arith) ∙ come_at came k ∙ get_or_past came k false ge))

same_bit : (m n : ℕ) → m < 2 → n < 2 → (m == 1) ≡ (n == 1) → m ≡ n
same_bit m n lm ln e = grind (arith, nat_tests)

-- bytes in which just the places of those who came are marked
pub bytes_of_marks : (came : List Bool) (field : List ℕ) → length field ≡ 75 → AreBytes field → ((place : ℕ) → place < 600 → is_marked field place ≡ has_come came place)
    → field ≡ turnout_bytes came
unfolding turnout_bytes
bytes_of_marks came field whole are marked =
    fill_by_all (λ k. eight_places came (8 * k)) field 75 0 whole (λ k lt.
    same_from_bits_below 8 (get_or field k 0) (eight_places came (8 * k)) (are k) (eight_small came (8 * k)) (λ i small.
    let place : ℕ = 8 * k + (7 - i) in
    let byte : place / 8 ≡ k = omega arith in
    let bit : 7 - place % 8 ≡ i = omega arith in
    let here : is_marked field place ≡ (bit_at (get_or field k 0) i == 1) =
    ap (λ (n : ℕ). bit_at (get_or field n 0) (7 - place % 8) == 1) byte ∙ ap (λ (n : ℕ). bit_at (get_or field k 0) n == 1) bit in
    same_bit (bit_at (get_or field k 0) i) (bit_at (eight_places came (8 * k)) i) (omega arith) (omega arith)
    (sym here ∙ marked place (omega arith) ∙ sym (eight_bits came (8 * k) i small))))

-- a place of the bytes that were read came where it is marked
read_mark : (voters : ℕ) (field : List ℕ) (place : ℕ) → place < 600 → has_no_more voters field ≡ true → is_marked field place ≡ has_come (marks_in voters field) place
unfolding marks_in has_no_more
read_mark voters field place lt none =
    elim (cases_lt place voters) [
      | inl here ↦ sym (come_at (map (is_marked field) (range_with_len 0 voters)) place ∙ get_or-map-range_with_len (is_marked field) 0 voters place place false here (omega arith))
      | inr past ↦
          let unmarked : not (is_marked field place) ≡ true = each_passes (λ q. not (is_marked field q)) voters (600 - voters) none place past (omega arith) in
          let absent : get_or (marks_in voters field) place false ≡ false = get_or_past (marks_in voters field) place false (omega (arith, length-marks_in voters field)) in
          not-true (is_marked field place) unmarked ∙ sym (come_at (marks_in voters field) place ∙ absent)
    ]

-- bytes whose bits past the roll are 0 are those of their marks
pub turnout_back : (voters : ℕ) (field : List ℕ) → length field ≡ 75 → AreBytes field → has_no_more voters field ≡ true → turnout_bytes (marks_in voters field) ≡ field
turnout_back voters field whole are none = sym (bytes_of_marks (marks_in voters field) field whole are (λ place lt. read_mark voters field place lt none))
