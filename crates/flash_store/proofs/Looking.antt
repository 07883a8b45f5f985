-- Calls that only read, and the byte that a read of one gives.
use Rattle.std.proofs.Common.{◌≡◌, ◌↔◌, ℕ, ◌+◌, Bool, true, false, IsTrue, List, Option, Some, None, [], get_or, refl, ap, ◌∙◌, arith}
use Rattle.std.specs.Option.{option_map, ForSome}
use Rattle.urna_outside.specs.Flash.{Flashes, after, part}
use Rattle.urna_outside.specs.Told.{Told, Does}
use Rattle.urna_outside.proofs.Doing.{does-append}
use Rattle.urna_outside.proofs.Places.{get_or-part}

same_flashes : (o : Option Flashes) → option_map (after []) o ≡ o
same_flashes None = refl
same_flashes (Some fs) = refl

-- after it the flashes are as before
pub looked : (a b : Told) (P : Flashes → Type 0) → Does [] a b → ForSome b.flashes P → ForSome a.flashes P
looked a b P does holds fs told = holds fs (does.flashes ∙ same_flashes a.flashes ∙ told)

-- two of them are one
pub looked_twice : (a b c : Told) → Does [] a b → Does [] b c → Does [] a c
looked_twice a b c first second = does-append [] [] a b c first second

-- a test that came out false denies all that implies what it tests
pub unlike : {P Q : Type 0} (test : Bool) → test ≡ false → (IsTrue test ↔ Q) → (P → Q) → (IsTrue false ↔ P)
unlike true is decides then = absurd (cc)
unlike false is decides then = ((λ (w : IsTrue false). absurd (cc)), λ p. decides.1 (then p))

-- a test that came out true says what it tests
pub alike : {Q : Type 0} (test : Bool) → test ≡ true → (IsTrue test ↔ Q) → Q
alike true is decides = decides.0 refl
alike false is decides = absurd (cc)

-- the byte that a read of one gives
pub only_byte : (bytes c : List ℕ) (at : ℕ) → bytes ≡ part c at 1 → get_or bytes 0 0 ≡ get_or c at 0
only_byte bytes c at is =
    let same : at + 0 ≡ at = omega arith in
    ap (λ (l : List ℕ). get_or l 0 0) is ∙ get_or-part c at 1 0 (omega arith) ∙ ap (λ (k : ℕ). get_or c k 0) same
