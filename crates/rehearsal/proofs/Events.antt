-- The rehearsal's script is read as its events.
use Rattle.std.proofs.Common.{◌≡◌, ℕ, zero, suc, ◌+◌, ◌-◌, ◌<◌, ◌≤◌, ◌==◌, Bool, true, false, List, [], ◌∷◌, ◌++◌, map, length, Option, Some, None, refl, ap, ◌∙◌, arith, length-append}
use Rattle.std.specs.Prelude.{All, if◌then◌else◌}
use Rattle.std.specs.List.{AllByRecursion, range_with_len, flat_map, list_all}
use Rattle.std.proofs.lemmas.Bool.Decides.{nat_tests}
use Rattle.std.proofs.lemmas.List.Elements.{All-nil, All-cons, All-append}
use Rattle.std.proofs.lemmas.List.Folds.{flat_map-map}
use Rattle.std.proofs.lemmas.List.{map-append}
use Rattle.urna_base.proofs.Every.{every_append}
use Rattle.urna_base.specs.Digits.{padded, is_digit}
use Rattle.urna_base.specs.Moment.{is_moment, is_date}
use Rattle.urna_base.proofs.DigitLaws.{all_digits-padded, is_digit-true, both_from_and}
use Rattle.urna_base.proofs.Lacking.{Lacks, padded_in_line}
use Rattle.urna_base.proofs.LineLaws.{lines_text-append}
use Rattle.key_script.specs.declared.keys.Key.{Key}
use Rattle.key_script.specs.declared.keys.Key.TheVariants as key
use Rattle.key_script.specs.declared.keys.ClerkKey.TheVariants.{Abre, Titulo, Libera, Cancela, Suspende, Encerra}
use Rattle.key_script.specs.Event.{IsKey, IsClerkKey}
use Rattle.key_script.specs.Script.{all_some, events_of, events_of_line}
use Rattle.key_script.specs.Spelling.{key_byte}
use Rattle.key_script.proofs.SpellingLaws.{clerk_text-reads, keys_text-reads}
use Rattle.election_tables.specs.Limits.{most_voters}
use Rattle.rehearsal.specs.declared.typing.Typed.{Typed}
use Rattle.rehearsal.specs.declared.typing.Typed.TheVariants.{Five, Two, Blank}
use Rattle.rehearsal.specs.Script.{ScriptLine, clerk, voter, script_line_text, script_line_events, second_line, visit_with, visit_at, visits, opening_moment, closing_moment, generated_script, text_of_script, events_in_script, script_text, generated_events}
use Rattle.rehearsal.specs.Typing.{TypedPair, choice_keys, digit_keys, is_suspended, typed_at, typed_keys}
use Rattle.rehearsal.proofs.LineLaws.{lines_lack, lines_of-text}
use Rattle.rehearsal.proofs.Ranges.{flat_map_range_more}

-- ---- lines that are of the form are read back

-- a key of the clerk is valid, the voter's are, and there are some
abbrev pub IsScriptLine : ScriptLine → Type 0
IsScriptLine (clerk key) = IsClerkKey key
IsScriptLine (voter keys) = (0 < length keys) × All IsKey keys

line_reads : (line : ScriptLine) → IsScriptLine line → events_of_line (script_line_text line) ≡ Some (script_line_events line)
line_reads (clerk key) valid = clerk_text-reads key valid
line_reads (voter []) valid = absurd (omega (arith, valid.0))
line_reads (voter (key ∷ keys)) valid = keys_text-reads key keys valid.1

keys_in_line : (keys : List Key) → Lacks 10 (map key_byte keys)
keys_in_line [] = refl
keys_in_line (key.Digit d ∷ keys) = let apart : (48 + d == 10) ≡ false = grind (arith, nat_tests) in rw (apart, keys_in_line keys) refl
keys_in_line (key.Blank ∷ keys) = keys_in_line keys
keys_in_line (key.Correct ∷ keys) = keys_in_line keys
keys_in_line (key.Confirm ∷ keys) = keys_in_line keys

script_in_line : (line : ScriptLine) → Lacks 10 (script_line_text line)
script_in_line (clerk (Abre m)) = padded_in_line 14 m
script_in_line (clerk (Titulo t)) = padded_in_line 12 t
script_in_line (clerk Libera) = refl
script_in_line (clerk Cancela) = refl
script_in_line (clerk Suspende) = refl
script_in_line (clerk (Encerra m)) = padded_in_line 14 m
script_in_line (voter keys) = keys_in_line keys

all_read : (lines : List ScriptLine) → AllByRecursion IsScriptLine lines
    → all_some (map events_of_line (map script_line_text lines)) ≡ Some (map script_line_events lines)
all_read [] valid = refl
all_read (line ∷ lines) valid = rw (line_reads line valid.0, all_read lines valid.1) refl

lines_read : (lines : List ScriptLine) → AllByRecursion IsScriptLine lines → events_of (text_of_script lines) ≡ Some (events_in_script lines)
unfolding events_of
lines_read lines valid = rw (lines_of-text (map script_line_text lines) (lines_lack script_line_text lines script_in_line), all_read lines valid, flat_map-map (λ events. events) script_line_events lines) refl

-- ---- what is typed

digits_are_keys : (bytes : List ℕ) → list_all is_digit bytes ≡ true → All IsKey (map (λ c. key.Digit (c - 48)) bytes)
digits_are_keys [] e = All-nil IsKey
digits_are_keys (c ∷ cs) e =
    let (here, more) = both_from_and (is_digit c) (list_all is_digit cs) e in
    let range : (48 ≤ c) × (c ≤ 57) = is_digit-true c here in
    All-cons IsKey (key.Digit (c - 48)) _ (omega arith) (digits_are_keys cs more)

choice_is_keys : (typed : Typed) → All IsKey (choice_keys typed)
choice_is_keys (Five number) = digits_are_keys (padded 5 number) (all_digits-padded 5 number)
choice_is_keys (Two number) = digits_are_keys (padded 2 number) (all_digits-padded 2 number)
choice_is_keys Blank = All-cons IsKey key.Blank [] tt (All-nil IsKey)

typed_is_line : (typed : Typed) → IsScriptLine (voter (typed_keys typed))
typed_is_line typed =
    (omega (arith, length-append (choice_keys typed) (key.Confirm ∷ [])), All-append IsKey (choice_keys typed) (key.Confirm ∷ []) (choice_is_keys typed) (All-cons IsKey key.Confirm [] tt (All-nil IsKey)))

bytes_of_digits : (bytes : List ℕ) → list_all is_digit bytes ≡ true → map key_byte (map (λ c. key.Digit (c - 48)) bytes) ≡ bytes
bytes_of_digits [] e = refl
bytes_of_digits (c ∷ cs) e =
    let (here, more) = both_from_and (is_digit c) (list_all is_digit cs) e in
    let range : (48 ≤ c) × (c ≤ 57) = is_digit-true c here in
    let back : 48 + (c - 48) ≡ c = omega arith in
    rw (back, bytes_of_digits cs more) refl

-- the keys of a number are written as its digits
pub digit_keys_written : (digits number : ℕ) → map key_byte (digit_keys digits number) ≡ padded digits number
digit_keys_written digits number = bytes_of_digits (padded digits number) (all_digits-padded digits number)

-- ---- the lines of the script are of the form

second_is_line : (place : ℕ) (pair : TypedPair) → IsScriptLine (second_line place pair)
second_is_line place pair = go (is_suspended place)
  where
    go : (b : Bool) → IsScriptLine (if b then clerk Suspende else voter (typed_keys pair.1))
    go true = tt
    go false = typed_is_line pair.1

visit_with_lines : (place : ℕ) (o : Option TypedPair) → place < most_voters → AllByRecursion IsScriptLine (visit_with place o)
visit_with_lines place None h = tt
visit_with_lines place (Some pair) h = (omega arith, (tt, (typed_is_line pair.0, (second_is_line place pair, tt))))

visits_are_lines : (a n : ℕ) → a + n ≤ most_voters → AllByRecursion IsScriptLine (flat_map visit_at (range_with_len a n))
visits_are_lines a zero h = tt
visits_are_lines a (suc n) h =
    every_append IsScriptLine (visit_at a) (flat_map visit_at (range_with_len (a + 1) n))
    (visit_with_lines a (typed_at a) (omega arith)) (visits_are_lines (a + 1) n (omega arith))

moments_valid : (is_moment opening_moment ≡ true) × (is_moment closing_moment ≡ true)
unfolding is_moment is_date
moments_valid = (refl, refl)

script_is_lines : (voters : ℕ) → voters ≤ most_voters → AllByRecursion IsScriptLine (generated_script voters)
script_is_lines voters few =
    let closes : AllByRecursion IsScriptLine (clerk (Encerra closing_moment) ∷ []) = (moments_valid.1, tt) in
    (moments_valid.0, every_append IsScriptLine (visits voters) _ (visits_are_lines 0 voters (omega arith)) closes)

pub script_read : (voters : ℕ) (bytes : List ℕ) → voters ≤ most_voters → bytes ≡ script_text voters → events_of bytes ≡ Some (generated_events voters)
script_read voters bytes few e = rw e (lines_read (generated_script voters) (script_is_lines voters few))

-- ---- the script line by line

pub text_of_script-append : (xs ys : List ScriptLine) → text_of_script (xs ++ ys) ≡ text_of_script xs ++ text_of_script ys
text_of_script-append xs ys = rw map-append (lines_text-append (map script_line_text xs) (map script_line_text ys))

-- one voter more
pub visits_more : (k : ℕ) → text_of_script (visits (k + 1)) ≡ text_of_script (visits k) ++ text_of_script (visit_at k)
visits_more k = rw (flat_map_range_more visit_at 0 k k (omega arith)) (text_of_script-append (visits k) (visit_at k))

abbrev pub opening_line : List ScriptLine
opening_line = clerk (Abre opening_moment) ∷ []

abbrev pub closing_line : List ScriptLine
closing_line = clerk (Encerra closing_moment) ∷ []

pub script_parts : (voters : ℕ) → script_text voters ≡ (text_of_script opening_line ++ text_of_script (visits voters)) ++ text_of_script closing_line
script_parts voters =
    text_of_script-append (opening_line ++ visits voters) closing_line
    ∙ ap (λ t. t ++ text_of_script closing_line) (text_of_script-append opening_line (visits voters))
