-- Reading line by line: what was read is what the text spells, and the first bad line is the first that may not stand there.
use Rattle.std.proofs.Common.{◌≡◌, ℕ, ◌+◌, List, [], ◌∷◌, Option, None, Some, refl, sym, ap, ◌∙◌}
use Rattle.std.specs.Prelude.{Result, Ok, Err}
use Rattle.seat_certificate.specs.declared.certificate.Certificate.{Certificate}
use Rattle.seat_certificate.specs.Reading.{State, ended, goes, step}

abbrev pub Answer : Type 0
Answer = Result (ℕ × Certificate) ℕ

abbrev pub behind : ℕ → Option State → List (List ℕ) → List ℕ → Answer
behind k None lines tail = Err k
behind k (Some st) lines tail = goes (k + 1) st lines tail

pub goes-cons : (k : ℕ) (st : State) (line : List ℕ) (lines : List (List ℕ)) (tail : List ℕ) (o : Option State) → step st line ≡ o → goes k st (line ∷ lines) tail ≡ behind k o lines tail
unfolding goes
goes-cons k st line lines tail None e = rw (e, goes) refl
goes-cons k st line lines tail (Some more) e = rw (e, goes) refl

-- what was read, or this where nothing was
abbrev pub read_or : ℕ × Certificate → Answer → ℕ × Certificate
read_or x (Ok y) = y
read_or x (Err k) = x

pub same_read : (x y : ℕ × Certificate) (r : Answer) → r ≡ Ok x → r ≡ Ok y → x ≡ y
same_read x y r p q = ap (λ (s : Answer). read_or x s) (sym p ∙ q)

pub goes-nil : (k : ℕ) (st : State) (tail : List ℕ) → goes k st [] tail ≡ ended k st tail
unfolding goes
goes-nil k st tail = refl
