-- A text without a byte
use Rattle.std.proofs.Common.{◌≡◌, ◌⊎◌, inl, inr, ℕ, zero, suc, ◌+◌, ◌/◌, ◌%◌, ◌^◌, ◌<◌, Bool, true, false, not, List, [], ◌∷◌, ◌++◌, All, refl, ◌∙◌, arith, lit<}
use Rattle.std.specs.Prelude.{◌==◌}
use Rattle.std.specs.Fmt.{decimal}
use Rattle.std.specs.List.{list_all}
use Rattle.std.proofs.lemmas.Bool.Decides.{nat_tests}
use Rattle.std.proofs.lemmas.List.Elements.{All-nil, All-cons}
use Rattle.std.proofs.lemmas.List.Folds.{list_all-append}
use Rattle.urna_base.specs.Digits.{is_digit, padded}
use Rattle.urna_base.specs.Moment.{is_between}
use Rattle.urna_base.proofs.DecimalLaws.{all_digits}
use Rattle.urna_base.proofs.DigitLaws.{both_from_and, list_all-push}

-- a byte is another one
abbrev pub is_other : ℕ → ℕ → Bool
is_other b c = not (c == b)

pub other_byte : (b c : ℕ) → is_other b c ≡ true → (c == b) ≡ false
other_byte b c h = grind (arith, nat_tests)

-- each byte of a text is another one
abbrev pub Lacks : ℕ → List ℕ → Type 0
Lacks b text = list_all (is_other b) text ≡ true

pub each_other : (b : ℕ) (text : List ℕ) → Lacks b text → All (λ c. (c == b) ≡ false) text
each_other b [] h = All-nil (λ c. (c == b) ≡ false)
each_other b (c ∷ text) h =
    let both = both_from_and (is_other b c) (list_all (is_other b) text) h in
    All-cons (λ x. (x == b) ≡ false) c text (other_byte b c both.0) (each_other b text both.1)

pub lacks-append : (b : ℕ) (x y : List ℕ) → Lacks b x → Lacks b y → Lacks b (x ++ y)
lacks-append b x y h g = list_all-append (is_other b) x y ∙ rw (h, g) refl

other_digit : (b c : ℕ) → (b < 48) ⊎ (57 < b) → is_digit c ≡ true → is_other b c ≡ true
other_digit b c (inl out) h = grind (arith, nat_tests)
other_digit b c (inr out) h = grind (arith, nat_tests)

pub digits_lack : (b : ℕ) (text : List ℕ) → (b < 48) ⊎ (57 < b) → list_all is_digit text ≡ true → Lacks b text
digits_lack b [] out h = refl
digits_lack b (c ∷ text) out h =
    let both = both_from_and (is_digit c) (list_all is_digit text) h in
    rw (other_digit b c out both.0, digits_lack b text out both.1) refl

-- the digits of a number have no other byte
pub decimal_lacks : (b n : ℕ) → (b < 48) ⊎ (57 < b) → n < 10 ^ 18 → Lacks b (decimal n)
decimal_lacks b n out few = digits_lack b (decimal n) out (all_digits n few)

pub decimal_in_line : (n : ℕ) → n < 10 ^ 18 → Lacks 10 (decimal n)
decimal_in_line n few = decimal_lacks 10 n (inl (lit< tt)) few

-- and no padded number has a line feed
pub padded_in_line : (k n : ℕ) → Lacks 10 (padded k n)
unfolding padded
padded_in_line zero n = refl
padded_in_line (suc k) n = list_all-push (is_other 10) (padded k (n / 10)) (48 + n % 10) (padded_in_line k (n / 10)) (grind (arith, nat_tests))

other_seen : (b c : ℕ) → b < 33 → is_between 33 126 c ≡ true → is_other b c ≡ true
other_seen b c low h = grind (arith, nat_tests)

-- a text of seen bytes lacks each byte below them
pub seen_lack : (b : ℕ) (text : List ℕ) → b < 33 → list_all (is_between 33 126) text ≡ true → Lacks b text
seen_lack b [] low h = refl
seen_lack b (c ∷ text) low h =
    let both = both_from_and (is_between 33 126 c) (list_all (is_between 33 126) text) h in
    rw (other_seen b c low both.0, seen_lack b text low both.1) refl
