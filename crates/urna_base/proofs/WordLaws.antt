-- A text begins with a word, or it doesn't
use Rattle.std.proofs.Common.{◌≡◌, ◌≢◌, ℕ, Bool, true, false, List, [], ◌∷◌, ◌++◌, refl, sym, arith, Some, None, Option, MatchOption, Bor}
use Rattle.std.specs.Prelude.{◌==◌, if◌then◌else◌}
use Rattle.std.specs.Option.{option_copied}
use Rattle.std.proofs.lemmas.Bool.Decides.{nat_tests}
use Rattle.urna_base.specs.Words.{after_word}

pub same_byte : (c : ℕ) → (c == c) ≡ true
same_byte c = grind (arith, nat_tests)

-- a text that begins with a word
pub after_word-append : (word rest : List ℕ) → after_word word (word ++ rest) ≡ Some rest
after_word-append [] rest = refl
after_word-append (w ∷ word) rest = rw (same_byte w) (after_word-append word rest)

pub after_word-some : (word text rest : List ℕ) → after_word word text ≡ Some rest → text ≡ word ++ rest
after_word-some [] text rest e = cc
after_word-some (w ∷ word) [] rest e = absurd (cc)
after_word-some (w ∷ word) (c ∷ text) rest e = go (c == w) refl e (after_word-some word text rest)
  where
    go : (b : Bool) → (c == w) ≡ b → (if b then after_word word text else None) ≡ Some rest → (after_word word text ≡ Some rest → text ≡ word ++ rest) → c ∷ text ≡ w ∷ (word ++ rest)
    go true same e others =
        let one : c ≡ w = grind (arith, nat_tests) in
        let behind : text ≡ word ++ rest = others e in
        cc
    go false same e others = absurd (cc)

-- a text that doesn't
pub after_word-none : (word text : List ℕ) → ((rest : List ℕ) → text ≢ word ++ rest) → after_word word text ≡ None
after_word-none word text never = go (after_word word text) refl
  where
    go : (o : Option (List ℕ)) → after_word word text ≡ o → o ≡ None
    go None e = refl
    go (Some rest) e = absurd (never rest (after_word-some word text rest e))

-- what `strip_prefix` gives
pub after_word-stripped : (word text : List ℕ) (r : Option (Bor (List ℕ))) → MatchOption r ((rest : List ℕ) → text ≢ word ++ rest) (λ x. text ≡ word ++ x.now) → option_copied r ≡ after_word word text
after_word-stripped word text None never = sym (after_word-none word text never)
after_word-stripped word text (Some x) e = rw e (sym (after_word-append word x.now))
