-- The first bad line depends on the lines up to it alone.
use Rattle.std.proofs.Common.{◌≡◌, ℕ, zero, suc, ◌+◌, ◌≤◌, ◌<◌, List, [], ◌∷◌, length, take, get_or, drop, Option, None, Some, refl, sym, ap, ◌∙◌, subst, arith}
use Rattle.std.specs.Prelude.{Err}
use Rattle.seat_certificate.specs.Reading.{State, goes, step}
use Rattle.seat_certificate.proofs.Machine.{goes-cons, goes-nil}
use Rattle.seat_certificate.proofs.Reached.{fault_at_end}

from_behind : (k : ℕ) (st : State) (line : List ℕ) (lines : List (List ℕ)) (tail : List ℕ) (e : ℕ) → goes k st (line ∷ lines) tail ≡ Err e → (o : Option State) → step st line ≡ o
    → ((more : State) → goes (k + 1) more lines tail ≡ Err e → k + 1 ≤ e) → k ≤ e
from_behind k st line lines tail e h None is later = let f = sym (goes-cons k st line lines tail None is) ∙ h in let same : k ≡ e = cc in omega arith
from_behind k st line lines tail e h (Some more) is later = let le = later more (sym (goes-cons k st line lines tail (Some more) is) ∙ h) in omega arith

-- the number of a bad line isn't below that of the first line
pub fault_from : (k : ℕ) (st : State) (lines : List (List ℕ)) (tail : List ℕ) (e : ℕ) → goes k st lines tail ≡ Err e → k ≤ e
fault_from k st [] tail e h = let same = fault_at_end k e st tail (sym (goes-nil k st tail) ∙ h) in omega arith
fault_from k st (line ∷ lines) tail e h = from_behind k st line lines tail e h (step st line) refl (λ more g. fault_from (k + 1) more lines tail e g)

front_behind : (k : ℕ) (st : State) (line : List ℕ) (lines others : List (List ℕ)) (tail tail' : List ℕ) (n e : ℕ) → goes k st (line ∷ lines) tail ≡ Err e → e ≡ k + n → (o : Option State) → step st line ≡ o
    → ((more : State) (m : ℕ) → n ≡ suc m → goes (k + 1) more lines tail ≡ Err e → goes (k + 1) more others tail' ≡ Err e) → goes k st (line ∷ others) tail' ≡ Err e
front_behind k st line lines others tail tail' n e h eq None is later = goes-cons k st line others tail' None is ∙ sym (goes-cons k st line lines tail None is) ∙ h
front_behind k st line lines others tail tail' zero e h eq (Some more) is later =
    let le = fault_from (k + 1) more lines tail e (sym (goes-cons k st line lines tail (Some more) is) ∙ h) in absurd (omega arith)
front_behind k st line lines others tail tail' (suc m) e h eq (Some more) is later =
    goes-cons k st line others tail' (Some more) is ∙ later more m refl (sym (goes-cons k st line lines tail (Some more) is) ∙ h)

-- lines that are the same up to the first bad one have it
pub front_bad : (k : ℕ) (st : State) (lines others : List (List ℕ)) (tail tail' : List ℕ) (n e : ℕ) → goes k st lines tail ≡ Err e → e ≡ k + n → n < length lines → take (suc n) lines ≡ take (suc n) others → goes k st others tail' ≡ Err e
front_bad k st [] others tail tail' n e h eq lt same = absurd (omega arith)
front_bad k st (line ∷ lines) [] tail tail' n e h eq lt same = let len = ap (λ (l : List (List ℕ)). length l) same in absurd (omega arith)
front_bad k st (line ∷ lines) (other ∷ others) tail tail' n e h eq lt same =
    let first : line ≡ other = ap (λ (l : List (List ℕ)). get_or l 0 line) same in
    let rest : take n lines ≡ take n others = ap (λ (l : List (List ℕ)). drop 1 l) same in
    subst (λ (l : List ℕ). goes k st (l ∷ others) tail' ≡ Err e) first
    (front_behind k st line lines others tail tail' n e h eq (step st line) refl
    (λ more m is g. front_bad (k + 1) more lines others tail tail' m e g (omega arith) (omega arith) (subst (λ (j : ℕ). take j lines ≡ take j others) is rest)))
