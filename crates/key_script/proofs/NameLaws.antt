-- Laws of a list of names: its names, or its first line outside the form, line by line.
use Rattle.std.proofs.Common.{◌≡◌, ℕ, zero, suc, ◌+◌, ◌-◌, ◌<◌, Bool, true, false, ◌&&◌, List, [], ◌∷◌, length, take, refl, subst, ◌∙◌, ap, arith, Some, None, Option, IsSome, MatchOption}
use Rattle.std.specs.Prelude.{nat_le, nat_lt, not, ◌==◌, if◌then◌else◌, IsUtf8, slice_index_or}
use Rattle.std.specs.List.{list_all, position_from}
use Rattle.std.specs.Option.{option_or}
use Rattle.std.specs.Str.{is_utf8}
use Rattle.std.proofs.lemmas.Str.{IsUtf8-from_is_utf8}
use Rattle.std.proofs.lemmas.Bool.Decides.{nat_tests}
use Rattle.urna_base.specs.Lines.{lines_of}
use Rattle.urna_base.specs.Moment.{is_between}
use Rattle.urna_base.proofs.DigitLaws.{both_from_and}
use Rattle.key_script.specs.Names.{most_names, longest_file_name, is_name, are_names, names_of, is_no_name, first_bad_name}

-- the first line outside the form, where at most `most` lines are names and the first of these is line `number`
abbrev fault_within : ℕ → ℕ → List (List ℕ) → Option ℕ
fault_within most number lines =
    option_or (position_from is_no_name number (take most lines)) (if nat_lt most (length lines) then Some (number + most) else None)

le_step : (m n : ℕ) → nat_le (suc m) (suc n) ≡ nat_le m n
le_step m n = grind (arith, nat_tests)

-- behind a name the next line counts
fault_within-name : (most number : ℕ) (line : List ℕ) (lines : List (List ℕ)) → is_name line ≡ true → fault_within (suc most) number (line ∷ lines) ≡ fault_within most (number + 1) lines
fault_within-name most number line lines e =
    let same : number + suc most ≡ number + 1 + most = omega arith in
    rw (e, le_step (suc most) (length lines), same) refl

-- a line too many is at fault, and so is a line that is no name
fault_within-full : (number : ℕ) (line : List ℕ) (lines : List (List ℕ)) → fault_within zero number (line ∷ lines) ≡ Some number
fault_within-full number line lines =
    let more : nat_lt zero (suc (length lines)) ≡ true = grind (arith, nat_tests) in
    let same : number + zero ≡ number = omega arith in
    rw (more, same) refl

fault_within-bad : (most number : ℕ) (line : List ℕ) (lines : List (List ℕ)) → is_name line ≡ false → fault_within (suc most) number (line ∷ lines) ≡ Some number
fault_within-bad most number line lines e = rw e refl

fault_within-nil : (most number : ℕ) → fault_within most number [] ≡ None
fault_within-nil zero number = refl
fault_within-nil (suc most) number = let few : nat_lt (suc most) 0 ≡ false = grind (arith, nat_tests) in rw few refl

-- all lines are names, and few
abbrev are_within : ℕ → List (List ℕ) → Bool
are_within most lines = list_all is_name lines && nat_le (length lines) most

-- then none is at fault, and else one is
within_answer : (most number : ℕ) (lines : List (List ℕ)) → MatchOption (fault_within most number lines) (are_within most lines ≡ true) (λ _. are_within most lines ≡ false)
within_answer zero number [] = refl
within_answer (suc most) number [] =
    let few : nat_le 0 (suc most) ≡ true = grind (arith, nat_tests) in
    rw (fault_within-nil (suc most) number, few) refl
within_answer zero number (line ∷ lines) =
    let more : nat_le (suc (length lines)) zero ≡ false = grind (arith, nat_tests) in
    rw (fault_within-full number line lines, more) (go (list_all is_name (line ∷ lines)))
  where
    go : (b : Bool) → (b && false) ≡ false
    go true = refl
    go false = refl
within_answer (suc most) number (line ∷ lines) = go (is_name line) refl (within_answer most (number + 1) lines)
  where
    go : (b : Bool) → is_name line ≡ b → MatchOption (fault_within most (number + 1) lines) (are_within most lines ≡ true) (λ _. are_within most lines ≡ false) → MatchOption (fault_within (suc most) number (line ∷ lines)) (are_within (suc most) (line ∷ lines) ≡ true) (λ _. are_within (suc most) (line ∷ lines) ≡ false)
    go true e h =
        let few : nat_le (suc (length lines)) (suc most) ≡ nat_le (length lines) most = le_step (length lines) most in
        rw (fault_within-name most number line lines e, e, few) h
    go false e h = rw (fault_within-bad most number line lines e, e) refl

-- a text has names, or a first line outside the form
pub names_or_bad : (bytes : List ℕ) → MatchOption (first_bad_name bytes) (IsSome (names_of bytes)) (λ _. names_of bytes ≡ None)
unfolding names_of first_bad_name
names_or_bad bytes = go (fault_within most_names 1 (lines_of bytes)) (are_names (lines_of bytes)) (within_answer most_names 1 (lines_of bytes))
  where
    go : (r : Option ℕ) (b : Bool) → MatchOption r (b ≡ true) (λ _. b ≡ false) → MatchOption r (IsSome (if b then Some (lines_of bytes) else None)) (λ _. (if b then Some (lines_of bytes) else None) ≡ None)
    go None b h = rw h refl
    go (Some n) b h = rw h refl

-- where no line is at fault, the lines are names
pub are_names-unfaulted : (bytes : List ℕ) → first_bad_name bytes ≡ None → are_names (lines_of bytes) ≡ true
unfolding first_bad_name
are_names-unfaulted bytes e =
    let P : Option ℕ → Type 0 = λ r. MatchOption r (are_names (lines_of bytes) ≡ true) (λ _. are_names (lines_of bytes) ≡ false) in
    subst P e (within_answer most_names 1 (lines_of bytes))

pub names_of-lines : (bytes : List ℕ) → are_names (lines_of bytes) ≡ true → names_of bytes ≡ Some (lines_of bytes)
unfolding names_of
names_of-lines bytes e = rw e refl

-- the fault of a text, when so many of its lines were found to be names and these lines are left
abbrev pub fault_behind : ℕ → List (List ℕ) → Option ℕ
fault_behind count lines = fault_within (most_names - count) (count + 1) lines

pub fault_behind-first : (bytes : List ℕ) → fault_behind 0 (lines_of bytes) ≡ first_bad_name bytes
unfolding first_bad_name
fault_behind-first bytes = refl

pub fault_behind-nil : (count : ℕ) → fault_behind count [] ≡ None
fault_behind-nil count = fault_within-nil (most_names - count) (count + 1)

-- with room for one line more
room_for : (count : ℕ) → count < most_names → most_names - count ≡ suc (most_names - (count + 1))
room_for count room = omega arith

pub fault_behind-name : (count : ℕ) (line : List ℕ) (lines : List (List ℕ)) → count < most_names → is_name line ≡ true → fault_behind count (line ∷ lines) ≡ fault_behind (count + 1) lines
fault_behind-name count line lines room e =
    ap (λ most. fault_within most (count + 1) (line ∷ lines)) (room_for count room)
    ∙ fault_within-name (most_names - (count + 1)) (count + 1) line lines e

-- a name is a text
pub is_name-utf8 : (line : List ℕ) → is_name line ≡ true → IsUtf8 line
unfolding is_name
is_name-utf8 line e =
    let inner = both_from_and (is_between 1 longest_file_name (length line)) (list_all (λ c. not (c == 0)) line && is_utf8 line) e in
    IsUtf8-from_is_utf8 line (both_from_and (list_all (λ c. not (c == 0)) line) (is_utf8 line) inner.1).1

-- each line is a name
pub is_name-at : (lines : List (List ℕ)) (i : ℕ) → are_names lines ≡ true → i < length lines → is_name (slice_index_or lines i []) ≡ true
is_name-at lines i e within = go lines i (both_from_and (list_all is_name lines) (nat_le (length lines) most_names) e).0 within
  where
    go : (lines : List (List ℕ)) (i : ℕ) → list_all is_name lines ≡ true → i < length lines → is_name (slice_index_or lines i []) ≡ true
    go [] i e within = absurd (omega arith)
    go (line ∷ lines) zero e within = (both_from_and (is_name line) (list_all is_name lines) e).0
    go (line ∷ lines) (suc i) e within = go lines i (both_from_and (is_name line) (list_all is_name lines) e).1 (omega arith)
