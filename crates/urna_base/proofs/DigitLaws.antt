-- Laws of digits: their value, and a number printed with n of them.
use Rattle.std.proofs.Common.{◌≡◌, ℕ, zero, suc, ◌+◌, ◌-◌, ◌*◌, ◌/◌, ◌%◌, ◌^◌, ◌<◌, ◌≤◌, Bool, true, false, ◌&&◌, List, [], ◌∷◌, ◌++◌, length, take, drop, get_or, set, refl, ap, sym, ◌∙◌, arith, add-one, append_assoc, length-append, Some, None}
use Rattle.std.specs.Prelude.{if◌then◌else◌}
use Rattle.std.specs.List.{list_all}
use Rattle.std.proofs.lemmas.List.{drop-set, take_more}
use Rattle.std.proofs.lemmas.Nat.{same_from_place, mul-add-lt}
use Rattle.std.proofs.lemmas.Bool.Decides.{nat_tests}
use Rattle.std.proofs.Math.Nat.{pow-suc, pow-le-pow_right}
use Rattle.urna_base.specs.Digits.{is_digit, value_of_digits, digits_value, padded}

-- a value that is there exactly where a test holds
pub some_from_test : (b : Bool) (x v : ℕ) → (if b then Some x else None) ≡ Some v → (b ≡ true) × (x ≡ v)
some_from_test true x v e = (refl, cc)
some_from_test false x v e = absurd (cc)

-- both tests hold
pub both_from_and : (a b : Bool) → (a && b) ≡ true → (a ≡ true) × (b ≡ true)
both_from_and true b e = (refl, e)
both_from_and false b e = absurd (cc)

pub list_all-push : (p : ℕ → Bool) (xs : List ℕ) (x : ℕ) → list_all p xs ≡ true → p x ≡ true → list_all p (xs ++ x ∷ []) ≡ true
list_all-push p [] x all here = rw here refl
list_all-push p (y ∷ xs) x all here =
    let both = both_from_and (p y) (list_all p xs) all in
    rw (both.0) (list_all-push p xs x both.1 here)

pub is_digit-true : (c : ℕ) → is_digit c ≡ true → (48 ≤ c) × (c ≤ 57)
is_digit-true c e = grind (arith, nat_tests)

pub is_digit-from : (c : ℕ) → 48 ≤ c → c ≤ 57 → is_digit c ≡ true
is_digit-from c low high = grind (arith, nat_tests)

-- one more digit at the end counts the rest ten times
pub value_of_digits-push : (cs : List ℕ) (c : ℕ) → value_of_digits (cs ++ c ∷ []) ≡ value_of_digits cs * 10 + (c - 48)
value_of_digits-push [] c = omega arith
value_of_digits-push (d ∷ cs) c =
    let len : length (cs ++ c ∷ []) ≡ suc (length cs) = omega (arith, length-append cs (c ∷ [])) in
    let power : 10 ^ length (cs ++ c ∷ []) ≡ 10 ^ length cs * 10 = ap (λ n. 10 ^ n) len ∙ pow-suc 10 (length cs) in
    rw (value_of_digits-push cs c, power) (grind arith)

-- digits write a number below ten to their number
pub value_of_digits-below : (cs : List ℕ) → list_all is_digit cs ≡ true → value_of_digits cs < 10 ^ length cs
value_of_digits-below [] all = omega arith
value_of_digits-below (c ∷ cs) all =
    let both = both_from_and (is_digit c) (list_all is_digit cs) all in
    let digit : (48 ≤ c) × (c ≤ 57) = is_digit-true c both.0 in
    let low : c - 48 < 10 = omega arith in
    rw (pow-suc 10 (length cs)) (mul-add-lt (c - 48) (10 ^ length cs) (value_of_digits cs) 10 low (value_of_digits-below cs both.1))

-- digits of one length that write one number are the same
pub same_digits : (xs ys : List ℕ) → list_all is_digit xs ≡ true → list_all is_digit ys ≡ true → length xs ≡ length ys → value_of_digits xs ≡ value_of_digits ys → xs ≡ ys
same_digits [] [] p q len e = refl
same_digits [] (y ∷ ys) p q len e = absurd (omega arith)
same_digits (x ∷ xs) [] p q len e = absurd (omega arith)
same_digits (x ∷ xs) (y ∷ ys) p q len e =
    let left = both_from_and (is_digit x) (list_all is_digit xs) p in
    let right = both_from_and (is_digit y) (list_all is_digit ys) q in
    let one_length : length xs ≡ length ys = omega arith in
    let below : value_of_digits xs < 10 ^ length xs = value_of_digits-below xs left.1 in
    let below' : value_of_digits ys < 10 ^ length xs = rw one_length (value_of_digits-below ys right.1) in
    let same : (x - 48) * 10 ^ length xs + value_of_digits xs ≡ (y - 48) * 10 ^ length xs + value_of_digits ys =
    e ∙ ap (λ n. (y - 48) * 10 ^ n + value_of_digits ys) (sym one_length) in
    let parts : (x - 48 ≡ y - 48) × (value_of_digits xs ≡ value_of_digits ys) =
    same_from_place (x - 48) (value_of_digits xs) (y - 48) (value_of_digits ys) (10 ^ length xs) below below' same in
    let digit : (48 ≤ x) × (x ≤ 57) = is_digit-true x left.0 in
    let digit' : (48 ≤ y) × (y ≤ 57) = is_digit-true y right.0 in
    let first : x ≡ y = omega arith in
    let others : xs ≡ ys = same_digits xs ys left.1 right.1 one_length parts.1 in
    cc

-- a number printed with n digits has n bytes
pub length-padded : (n v : ℕ) → length (padded n v) ≡ n
unfolding padded
length-padded zero v = refl
length-padded (suc n) v = omega (arith, length-append (padded n (v / 10)) ((48 + v % 10) ∷ []), length-padded n (v / 10))

pub all_digits-padded : (n v : ℕ) → list_all is_digit (padded n v) ≡ true
unfolding padded
all_digits-padded zero v = refl
all_digits-padded (suc n) v =
    list_all-push is_digit (padded n (v / 10)) (48 + v % 10) (all_digits-padded n (v / 10)) (is_digit-from (48 + v % 10) (omega arith) (omega arith))

pub value_of_digits-padded : (n v : ℕ) → v < 10 ^ n → value_of_digits (padded n v) ≡ v
unfolding padded
value_of_digits-padded zero v h = omega arith
value_of_digits-padded (suc n) v h =
    let power : 10 ^ suc n ≡ 10 ^ n * 10 = pow-suc 10 n in
    let front : v / 10 < 10 ^ n = omega arith in
    rw (value_of_digits-push (padded n (v / 10)) (48 + v % 10), value_of_digits-padded n (v / 10) front) (omega arith)

-- what `padded` prints reads back
pub digits_value-padded : (n v : ℕ) → v < 10 ^ n → digits_value n (padded n v) ≡ Some v
unfolding digits_value
digits_value-padded n v h =
    rw (length-padded n v, all_digits-padded n v, value_of_digits-padded n v h) (grind (arith, nat_tests))

-- what `digits_value` reads: n digits, of that value
pub digits_value-some : (n : ℕ) (bytes : List ℕ) (v : ℕ) → digits_value n bytes ≡ Some v → (length bytes ≡ n) × (list_all is_digit bytes ≡ true) × (value_of_digits bytes ≡ v)
unfolding digits_value
digits_value-some n bytes v e =
    let test = some_from_test _ (value_of_digits bytes) v e in
    let both = both_from_and _ (list_all is_digit bytes) test.0 in
    (grind (arith, nat_tests), both.1, test.1)

pub digits_value-below : (n : ℕ) (bytes : List ℕ) (v : ℕ) → digits_value n bytes ≡ Some v → v < 10 ^ n
digits_value-below n bytes v e =
    let parts = digits_value-some n bytes v e in
    rw (← parts.0, ← parts.2) (value_of_digits-below bytes parts.1)

-- what is read prints back
pub padded-digits_value : (n : ℕ) (bytes : List ℕ) (v : ℕ) → digits_value n bytes ≡ Some v → padded n v ≡ bytes
padded-digits_value n bytes v e =
    let parts = digits_value-some n bytes v e in
    let below = digits_value-below n bytes v e in
    same_digits (padded n v) bytes (all_digits-padded n v) parts.1 (length-padded n v ∙ sym parts.0) (value_of_digits-padded n v below ∙ sym parts.2)

-- one digit more stands before those that are written
pub padded-set : (k v : ℕ) (into : List ℕ) → 0 < k → k ≤ length into → padded (k - 1) (v / 10) ++ drop (k - 1) (set into (k - 1) (48 + v % 10)) ≡ padded k v ++ drop k into
unfolding padded
padded-set zero v into some within = absurd (omega arith)
padded-set (suc k) v into some within =
    let less : suc k - 1 ≡ k = omega arith in
    let inside : k < length into = omega arith in
    rw (less, drop-set into k (48 + v % 10) inside, add-one, append_assoc) refl

-- one more digit of at most 18
value_fits : (v d i : ℕ) → v < 10 ^ i → d < 10 → i < 18 → (v * 10 + d < 10 ^ (i + 1)) × (v * 10 + d < 2 ^ 64)
value_fits v d i below digit few =
    let power : 10 ^ (i + 1) ≡ 10 ^ i * 10 = rw add-one (pow-suc 10 i) in
    let most : 10 ^ (i + 1) ≤ 10 ^ 18 = pow-le-pow_right {n = 10} (omega arith) {i = i + 1} {j = 18} (omega arith) in
    let more : v * 10 + d < 10 ^ (i + 1) = omega arith in
    (more, omega arith)

-- the bytes before i are digits, and v is their value
pub record ReadsDigits (bytes : List ℕ) (i v : ℕ) : Type 0 where
  pub all_digits : list_all is_digit (take i bytes) ≡ true
  pub value : v ≡ value_of_digits (take i bytes)
  pub fits : v < 10 ^ i

-- and with the digit at i
pub ReadsDigits-more : (bytes : List ℕ) (i v : ℕ) → ReadsDigits bytes i v → is_digit (get_or bytes i 0) ≡ true → i < length bytes → i < 18 → ReadsDigits bytes (i + 1) (v * 10 + (get_or bytes i 0 - 48))
ReadsDigits-more bytes i v reads digit within few =
    let range : (48 ≤ get_or bytes i 0) × (get_or bytes i 0 ≤ 57) = is_digit-true (get_or bytes i 0) digit in
    record {
      all_digits = rw (take_more bytes i 0 within) (list_all-push is_digit (take i bytes) (get_or bytes i 0) reads.all_digits digit);
      value = rw (take_more bytes i 0 within, value_of_digits-push (take i bytes) (get_or bytes i 0), reads.value) refl;
      fits = (value_fits v (get_or bytes i 0 - 48) i reads.fits (omega arith) few).0;
    }

-- 18 digits and one product more fit 64 bits
pub ReadsDigits-fits : (bytes : List ℕ) (i v : ℕ) → ReadsDigits bytes i v → is_digit (get_or bytes i 0) ≡ true → i < 18 → v * 10 + (get_or bytes i 0 - 48) < 2 ^ 64
ReadsDigits-fits bytes i v reads digit few =
    let range : (48 ≤ get_or bytes i 0) × (get_or bytes i 0 ≤ 57) = is_digit-true (get_or bytes i 0) digit in
    (value_fits v (get_or bytes i 0 - 48) i reads.fits (omega arith) few).1
