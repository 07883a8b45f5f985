-- The lines of a text
use Rattle.std.proofs.Common.{◌≡◌, ℕ, suc, ◌<◌, Bool, true, false, cond, List, [], ◌∷◌, ◌++◌, length, Option, Some, None, option_map, refl, sym, ap, ◌∙◌, subst, inl, inr, arith}
use Rattle.std.specs.Prelude.{◌==◌}
use Rattle.std.specs.List.{concat}
use Rattle.std.proofs.lemmas.Bool.Decides.{nat_tests}
use Rattle.urna_base.specs.Lines.{before_first_line}
use Rattle.urna_base.proofs.Cases.{guard_some, map_some, option_cases}
use Rattle.urna_base.specs.Words.{cut_at}
use Rattle.urna_base.proofs.CutLaws.{cut_behind, cut_front, cut_parts, is_byte}
use Rattle.urna_base.proofs.Lacking.{Lacks}
use Rattle.vote_record.specs.RecordText.{line_end}
use Rattle.record_audit.specs.Fault.{rows_of}
use Rattle.record_audit.specs.Reading.{line_in}

-- ---- the lines of a text

-- a text is its lines
joined_first : (c : ℕ) (rows : List (List ℕ)) → concat (before_first_line c rows) ≡ c ∷ concat rows
joined_first c [] = refl
joined_first c (row ∷ rows) = refl

pub joined_rows : (text : List ℕ) → concat (rows_of text) ≡ text
unfolding rows_of
joined_rows [] = refl
joined_rows (c ∷ text) = go (c == 10) refl (joined_rows text)
  where
    go : (p : Bool) → (c == 10) ≡ p → concat (rows_of text) ≡ text → concat (cond p (line_end ∷ rows_of text) (before_first_line c (rows_of text))) ≡ c ∷ text
    go true e behind = let one = is_byte 10 c e in rw one (ap (λ (l : List ℕ). 10 ∷ l) behind)
    go false e behind = joined_first c (rows_of text) ∙ ap (λ (l : List ℕ). c ∷ l) behind

-- a text that is cut at a line feed, and one that isn't
pub rows_cut : (text : List ℕ) (x : List ℕ × List ℕ) → cut_at 10 text ≡ Some x → rows_of text ≡ (x.0 ++ line_end) ∷ rows_of x.1
unfolding rows_of cut_at
rows_cut [] x h = absurd (cc)
rows_cut (c ∷ text) x h = go (c == 10) refl h (rows_cut text)
  where
    go : (p : Bool) → (c == 10) ≡ p → cond p (Some ([], text)) (option_map (λ y. (c ∷ y.0, y.1)) (cut_at 10 text)) ≡ Some x
        → ((y : List ℕ × List ℕ) → cut_at 10 text ≡ Some y → rows_of text ≡ (y.0 ++ line_end) ∷ rows_of y.1)
        → cond p (line_end ∷ rows_of text) (before_first_line c (rows_of text)) ≡ (x.0 ++ line_end) ∷ rows_of x.1
    go true e g behind = let pair : ([], text) ≡ x = cc in rw (← pair) refl
    go false e g behind =
        let inner = map_some (λ (y : List ℕ × List ℕ). (c ∷ y.0, y.1)) (cut_at 10 text) x g in
        rw (← inner.2, behind inner.0 inner.1) refl

no_some : {A B : Type 0} (f : A → B) (o : Option A) → option_map f o ≡ None → o ≡ None
no_some f None h = refl
no_some f (Some x) h = absurd (cc)

pub rows_uncut : (c : ℕ) (text : List ℕ) → cut_at 10 (c ∷ text) ≡ None → rows_of (c ∷ text) ≡ (c ∷ text) ∷ []
unfolding rows_of cut_at
rows_uncut c [] h = go (c == 10) h
  where
    go : (p : Bool) → cond {A = Option (List ℕ × List ℕ)} p (Some ([], [])) None ≡ None → cond p (line_end ∷ []) (before_first_line c []) ≡ (c ∷ []) ∷ []
    go true g = absurd (cc)
    go false g = refl
rows_uncut c (d ∷ text) h = go (c == 10) h (rows_uncut d text)
  where
    go : (p : Bool) → cond {A = Option (List ℕ × List ℕ)} p (Some ([], d ∷ text)) (option_map (λ (y : List ℕ × List ℕ). (c ∷ y.0, y.1)) (cut_at 10 (d ∷ text))) ≡ None
        → (cut_at 10 (d ∷ text) ≡ None → rows_of (d ∷ text) ≡ (d ∷ text) ∷ [])
        → cond p (line_end ∷ rows_of (d ∷ text)) (before_first_line c (rows_of (d ∷ text))) ≡ (c ∷ d ∷ text) ∷ []
    go true g behind = absurd (cc)
    go false g behind =
        let rest = behind (no_some (λ (y : List ℕ × List ℕ). (c ∷ y.0, y.1)) (cut_at 10 (d ∷ text)) g) in
        ap (λ (l : List (List ℕ)). before_first_line c l) rest

-- ---- one line

pub line_written : (line : List ℕ) → Lacks 10 line → line_in (line ++ line_end) ≡ Some line
unfolding line_in
line_written line h = rw (cut_behind 10 line [] h) refl

pub line_read : (row line : List ℕ) → line_in row ≡ Some line → row ≡ line ++ line_end
unfolding line_in
line_read row line h = elim (option_cases (cut_at 10 row)) [
  | inl none ↦ let no : None ≡ Some line = rw none at h in absurd (cc)
  | inr some ↦ go some.0 some.1 (rw some.1 at h)
]
  where
    empty : (l : List ℕ) → (length l == 0) ≡ true → l ≡ []
    empty [] e = refl
    empty (c ∷ l) e = let no : suc (length l) ≡ 0 = grind (arith, nat_tests) in absurd (omega arith)

    go : (x : List ℕ × List ℕ) → cut_at 10 row ≡ Some x → cond (length x.1 == 0) (Some x.0) None ≡ Some line → row ≡ line ++ line_end
    go x cut g =
        let both = guard_some (length x.1 == 0) (Some x.0) line g in
        let front : x.0 ≡ line = cc in
        let none = empty x.1 both.0 in
        cut_parts 10 row x cut ∙ (ap (λ (l : List ℕ). x.0 ++ 10 ∷ l) none ∙ ap (λ (l : List ℕ). l ++ 10 ∷ []) front)

pub line_unread : (row : List ℕ) → cut_at 10 row ≡ None → line_in row ≡ None
unfolding line_in
line_unread row h = rw h refl

-- ---- what is cut off

pub cut_line : (text : List ℕ) (x : List ℕ × List ℕ) → cut_at 10 text ≡ Some x → line_in (x.0 ++ line_end) ≡ Some x.0
cut_line text x h = line_written x.0 (cut_front 10 text x h)

length_parts : (a : List ℕ) (b : ℕ) (rest : List ℕ) → length rest < length (a ++ b ∷ rest)
length_parts [] b rest = omega arith
length_parts (c ∷ a) b rest = let more = length_parts a b rest in omega arith

pub cut_shorter : (text : List ℕ) (x : List ℕ × List ℕ) → cut_at 10 text ≡ Some x → length x.1 < length text
cut_shorter text x h = subst (λ (l : List ℕ). length x.1 < length l) (sym (cut_parts 10 text x h)) (length_parts x.0 10 x.1)
