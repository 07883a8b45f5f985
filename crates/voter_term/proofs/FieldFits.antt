-- A field keeps to its digits
use Rattle.std.proofs.Common.{◌≡◌, ℕ, ◌+◌, ◌*◌, ◌^◌, ◌<◌, ◌≤◌, Bool, true, false, cond, nat_lt, refl, ap, ◌∙◌, add-one, arith}
use Rattle.std.proofs.Math.Nat.{pow-suc}
use Rattle.std.proofs.lemmas.Bool.{ltb-true}
use Rattle.key_script.specs.declared.keys.Key.{Key}
use Rattle.key_script.specs.declared.keys.Key.TheVariants as key
use Rattle.key_script.specs.Event.{IsKey}
use Rattle.vote_kinds.specs.declared.choice.Field.{Field}
use Rattle.vote_kinds.specs.declared.choice.Field.TheVariants as field
use Rattle.vote_kinds.specs.Ballot.{IsField}
use Rattle.voter_term.specs.Panel.{next_field}

one_digit : (d : ℕ) → d ≤ 9 → d < 10 ^ 1
one_digit d h = let e : 10 ^ 1 ≡ 10 = refl in omega arith

more_digits : (count value d : ℕ) → value < 10 ^ count → d ≤ 9 → 10 * value + d < 10 ^ (count + 1)
more_digits count value d h k =
    let power : 10 ^ (count + 1) ≡ 10 ^ count * 10 = ap (λ (n : ℕ). 10 ^ n) (add-one count) ∙ pow-suc 10 count in
    omega arith

digit_fits : (digits count value d : ℕ) (b : Bool) → nat_lt count digits ≡ b → d ≤ 9 → IsField digits (field.Digits count value)
    → IsField digits (cond b (field.Digits (count + 1) (10 * value + d)) (field.Digits count value))
digit_fits digits count value d true less k is = let below = ltb-true count digits less in (omega arith, omega arith, more_digits count value d is.2 k)
digit_fits digits count value d false less k is = is

pub next_field-fits : (digits : ℕ) (f : Field) (k : Key) → 1 ≤ digits → IsKey k → IsField digits f → IsField digits (next_field digits f k)
next_field-fits digits f key.Correct some k is = tt
next_field-fits digits f key.Confirm some k is = is
next_field-fits digits field.Empty key.Blank some k is = tt
next_field-fits digits field.Blank key.Blank some k is = tt
next_field-fits digits (field.Digits count value) key.Blank some k is = is
next_field-fits digits field.Empty (key.Digit d) some k is = (omega arith, some, one_digit d k)
next_field-fits digits field.Blank (key.Digit d) some k is = tt
next_field-fits digits (field.Digits count value) (key.Digit d) some k is = digit_fits digits count value d (nat_lt count digits) refl k is
