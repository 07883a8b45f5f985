-- The field after a word with one more key
use Rattle.std.proofs.Common.{◌≡◌, ℕ, zero, suc, zero-add, ◌+◌, ◌-◌, ◌*◌, ◌<◌, ◌≤◌, Bool, true, false, not, cond, List, [], ◌∷◌, ◌++◌, length, take, reverse, filter, refl, sym, ap, ◌∙◌, ltb, inl, inr, arith}
use Rattle.std.specs.List.{after_last, prefix_len, suffix_len}
use Rattle.std.proofs.lemmas.List.{take-append-le, take_all, length-append, drop-append-le, append-nil, drop_all, length-take-le, reverse-append, length-reverse}
use Rattle.std.proofs.lemmas.List.Elements.{filter-append}
use Rattle.std.proofs.lemmas.List.Sums.{fold-append, prefix_len-le-length}
use Rattle.std.proofs.lemmas.Bool.{ltb-true, ltb-false, false_from_ne_true, cases_Bool}
use Rattle.key_script.specs.declared.keys.Key.{Key}
use Rattle.key_script.specs.declared.keys.Key.TheVariants as key
use Rattle.vote_kinds.specs.declared.choice.Field.TheVariants as field
use Rattle.key_script.specs.Event.{is_correct}
use Rattle.voter_term.specs.Field.{is_typed, digits_of, field_of_digits, field_of, field_after}
use Rattle.voter_term.specs.Panel.{next_field}

test_is_false : (m n : ℕ) → m ≡ n → ltb m n ≡ false
test_is_false m n e = false_from_ne_true (ltb m n) (λ t. omega (arith, ltb-true m n t))

suffix_len-more : {A : Type 0} (q : A → Bool) (w : List A) (k : A) → suffix_len q (w ++ k ∷ []) ≡ cond (q k) (1 + suffix_len q w) 0
suffix_len-more q w k = ap (prefix_len q) (reverse-append w (k ∷ []))

-- after the last element that passes, with one more at the end
after_last_passes : {A : Type 0} (p : A → Bool) (w : List A) (k : A) → p k ≡ true → after_last p (w ++ k ∷ []) ≡ []
after_last_passes p w k h =
    let e = suffix_len-more (λ x. not (p x)) w k in
    rw (e, h) (drop_all (length (w ++ k ∷ []) - 0) (w ++ k ∷ []) (omega arith))

after_last_more : {A : Type 0} (p : A → Bool) (w : List A) (k : A) → p k ≡ false → after_last p (w ++ k ∷ []) ≡ after_last p w ++ k ∷ []
after_last_more p w k h =
    let e = suffix_len-more (λ x. not (p x)) w k in
    let within : suffix_len (λ x. not (p x)) w ≤ length w = omega (arith, prefix_len-le-length (λ x. not (p x)) (reverse w), length-reverse w) in
    let n : length (w ++ k ∷ []) - (1 + suffix_len (λ x. not (p x)) w) ≡ length w - suffix_len (λ x. not (p x)) w = omega (arith, length-append w (k ∷ [])) in
    rw (e, h, n) (drop-append-le _ w (k ∷ []) (omega arith))

digits_of-append : (u v : List Key) → digits_of (u ++ v) ≡ digits_of u ++ digits_of v
digits_of-append [] v = refl
digits_of-append (key.Digit d ∷ u) v = ap (λ ds. d ∷ ds) (digits_of-append u v)
digits_of-append (key.Blank ∷ u) v = digits_of-append u v
digits_of-append (key.Correct ∷ u) v = digits_of-append u v
digits_of-append (key.Confirm ∷ u) v = digits_of-append u v

full : (n d : ℕ) (xs : List ℕ) → 0 < n → length xs ≡ n → next_field n (field_of_digits xs) (key.Digit d) ≡ field_of_digits xs
full n d [] h e = absurd (omega arith)
full n d (x ∷ xs) h e = rw (test_is_false (length (x ∷ xs)) n e) refl

longer : (n d e : ℕ) (ds : List ℕ) → ltb (length (e ∷ ds)) n ≡ true → field_of_digits ((e ∷ ds) ++ d ∷ []) ≡ next_field n (field_of_digits (e ∷ ds)) (key.Digit d)
longer n d e ds t =
    rw t (rw (length-append ds (d ∷ []), fold-append (λ value d'. 10 * value + d') (10 * 0 + e) ds (d ∷ [])) (let p : suc (length ds + 1) ≡ suc (length ds) + 1 = omega arith in rw p refl))

-- one more digit
digits_more : (n d : ℕ) (e : ℕ) (ds : List ℕ) → 0 < n → field_of_digits (take n ((e ∷ ds) ++ d ∷ [])) ≡ next_field n (field_of_digits (take n (e ∷ ds))) (key.Digit d)
digits_more n d e ds h =
    elim (cases_Bool (ltb (length (e ∷ ds)) n)) [
      | inl t ↦
          let less = ltb-true _ _ t in
          ap field_of_digits (take_all n ((e ∷ ds) ++ d ∷ []) (omega (arith, length-append (e ∷ ds) (d ∷ []))))
          ∙ (longer n d e ds t ∙ ap (λ xs. next_field n (field_of_digits xs) (key.Digit d)) (sym (take_all n (e ∷ ds) (omega arith))))
      | inr f ↦
          let enough = ltb-false _ _ f in
          ap field_of_digits (take-append-le n (e ∷ ds) (d ∷ []) enough)
          ∙ sym (full n d (take n (e ∷ ds)) h (length-take-le n (e ∷ ds) enough))
    ]

-- Keys among which there is no CORRIGE and no CONFIRMA

abbrev AreTyped : List Key → Type 0
AreTyped [] = Unit {0}
AreTyped (key.Digit d ∷ u) = AreTyped u
AreTyped (key.Blank ∷ u) = AreTyped u
AreTyped (key.Correct ∷ u) = ⊥
AreTyped (key.Confirm ∷ u) = ⊥

are_typed : (w : List Key) → AreTyped (filter is_typed w)
are_typed [] = tt
are_typed (key.Digit d ∷ w) = are_typed w
are_typed (key.Blank ∷ w) = are_typed w
are_typed (key.Correct ∷ w) = are_typed w
are_typed (key.Confirm ∷ w) = are_typed w

typed_digit : (n d : ℕ) (u : List Key) → 0 < n → AreTyped u → field_of n (u ++ key.Digit d ∷ []) ≡ next_field n (field_of n u) (key.Digit d)
typed_digit n d [] h t = ap field_of_digits (take_all n (d ∷ []) (omega arith)) ∙ ap (field.Digits 1) (zero-add d)
typed_digit n d (key.Blank ∷ u) h t = refl
typed_digit n d (key.Digit e ∷ u) h t = ap (λ ds. field_of_digits (take n (e ∷ ds))) (digits_of-append u (key.Digit d ∷ [])) ∙ digits_more n d e (digits_of u) h
typed_digit n d (key.Correct ∷ u) h t = absurd t
typed_digit n d (key.Confirm ∷ u) h t = absurd t

stays : (n e : ℕ) (ds : List ℕ) → 0 < n → next_field n (field_of_digits (take n (e ∷ ds))) key.Blank ≡ field_of_digits (take n (e ∷ ds))
stays zero e ds h = absurd (omega arith)
stays (suc n) e ds h = refl

typed_blank : (n : ℕ) (u : List Key) → 0 < n → AreTyped u → field_of n (u ++ key.Blank ∷ []) ≡ next_field n (field_of n u) key.Blank
typed_blank n [] h t = refl
typed_blank n (key.Blank ∷ u) h t = refl
typed_blank n (key.Digit e ∷ u) h t = ap (λ ds. field_of_digits (take n (e ∷ ds))) (digits_of-append u (key.Blank ∷ []) ∙ append-nil (digits_of u)) ∙ sym (stays n e (digits_of u) h)
typed_blank n (key.Correct ∷ u) h t = absurd t
typed_blank n (key.Confirm ∷ u) h t = absurd t

-- The keypad's table is what one more key does to the field after a word.
pub field_after-more : (n : ℕ) (w : List Key) (k : Key) → 0 < n → field_after n (w ++ k ∷ []) ≡ next_field n (field_after n w) k
field_after-more n w (key.Digit d) h = rw (after_last_more is_correct w (key.Digit d) refl, filter-append) (typed_digit n d (filter is_typed (after_last is_correct w)) h (are_typed (after_last is_correct w)))
field_after-more n w key.Blank h = rw (after_last_more is_correct w key.Blank refl, filter-append) (typed_blank n (filter is_typed (after_last is_correct w)) h (are_typed (after_last is_correct w)))
field_after-more n w key.Correct h = rw (after_last_passes is_correct w key.Correct refl) refl
field_after-more n w key.Confirm h = rw (after_last_more is_correct w key.Confirm refl, filter-append) (ap (field_of n) (append-nil (filter is_typed (after_last is_correct w))))
