-- Words of a line, in both directions.
use Rattle.std.proofs.Common.{◌≡◌, ℕ, ◌^◌, ◌≤◌, ◌<◌, true, List, [], ◌∷◌, Option, None, Some, refl, ap, ◌∙◌, arith}
use Rattle.std.specs.Fmt.{decimal}
use Rattle.std.specs.Prelude.{option_map}
use Rattle.std.specs.Str.{bytes_eq}
use Rattle.std.proofs.lemmas.Bool.Decides.{nat_tests}
use Rattle.std.proofs.lemmas.Slice.Eq.{bytes_eq-Decides}
use Rattle.urna_base.specs.Digits.{decimal_within}
use Rattle.urna_base.specs.Moment.{is_between}
use Rattle.urna_base.proofs.Cases.{guard_some, map_some}
use Rattle.urna_base.proofs.DecimalLaws.{within_read, within_written}
use Rattle.seat_certificate.specs.Reading.{◌>>=◌, at_end, keyed}

-- ---- options

pub bind_some : {A B : Type 0} (o : Option A) (f : A → Option B) (y : B) → (o >>= f) ≡ Some y → (x : A) × (o ≡ Some x) × (f x ≡ Some y)
bind_some None f y h = absurd (cc)
bind_some (Some x) f y h = (x, refl, h)

pub end_some : {A : Type 0} (x y : A) (ws : List (List ℕ)) → at_end x ws ≡ Some y → (ws ≡ []) × (x ≡ y)
end_some x y [] h = (refl, cc)
end_some x y (w ∷ ws) h = absurd (cc)

-- ---- numbers

between_to : (low high n : ℕ) → is_between low high n ≡ true → (low ≤ n) × (n ≤ high)
between_to low high n h = (grind (arith, nat_tests), grind (arith, nat_tests))

pub number_written : (low high n : ℕ) → low ≤ n → n ≤ high → n < 10 ^ 18 → decimal_within low high (decimal n) ≡ Some n
number_written low high n h g lt =
    let within : is_between low high n ≡ true = grind (arith, nat_tests) in
    within_written low high n within lt

-- what was read within bounds
pub record IsNumber (low high n : ℕ) (w : List ℕ) : Type 0 where
  pub word : w ≡ decimal n
  pub least : low ≤ n
  pub most : n ≤ high
  pub few : n < 10 ^ 18

pub number_read : (low high n : ℕ) (w : List ℕ) → decimal_within low high w ≡ Some n → IsNumber low high n w
number_read low high n w h =
    let read = within_read low high n w h in
    let bounds = between_to low high n read.within in
    record { word = read.printed; least = bounds.0; most = bounds.1; few = read.few }

-- ---- a keyword and its number

pub same_line : (line word : List ℕ) → bytes_eq line word ≡ true → line ≡ word
same_line line word h = (bytes_eq-Decides line word).0 h

pub keyed_written : (word : List ℕ) (low high n : ℕ) (ws : List (List ℕ)) → low ≤ n → n ≤ high → n < 10 ^ 18 → keyed word low high (word ∷ decimal n ∷ ws) ≡ Some (n, ws)
unfolding keyed
keyed_written word low high n ws h g lt =
    let same : bytes_eq word word ≡ true = (bytes_eq-Decides word word).1 refl in
    rw (same, number_written low high n h g lt) refl

pub record IsKeyed (word : List ℕ) (low high : ℕ) (ws : List (List ℕ)) (x : ℕ × List (List ℕ)) : Type 0 where
  pub words : ws ≡ word ∷ decimal x.0 ∷ x.1
  pub least : low ≤ x.0
  pub most : x.0 ≤ high
  pub few : x.0 < 10 ^ 18

pub keyed_read : (word : List ℕ) (low high : ℕ) (ws : List (List ℕ)) (x : ℕ × List (List ℕ)) → keyed word low high ws ≡ Some x → IsKeyed word low high ws x
unfolding keyed
keyed_read word low high [] x h = absurd (cc)
keyed_read word low high (w ∷ []) x h = absurd (cc)
keyed_read word low high (w ∷ v ∷ ws) x h =
    let test = guard_some (bytes_eq w word) (option_map (λ n. (n, ws)) (decimal_within low high v)) x h in
    let found = map_some (λ n. (n, ws)) (decimal_within low high v) x test.1 in
    let read = number_read low high found.0 v found.1 in
    let first : found.0 ≡ x.0 = ap (λ (y : ℕ × List (List ℕ)). y.0) found.2 in
    let rest : ws ≡ x.1 = ap (λ (y : ℕ × List (List ℕ)). y.1) found.2 in
    record {
      words = ap (λ (u : List ℕ). u ∷ v ∷ ws) (same_line w word test.0) ∙ ap (λ (u : List ℕ). word ∷ u ∷ ws) (read.word ∙ ap decimal first) ∙ ap (λ (l : List (List ℕ)). word ∷ decimal x.0 ∷ l) rest;
      least = omega (arith, read.least, first);
      most = omega (arith, read.most, first);
      few = omega (arith, read.few, first);
    }
