-- A text has no more events than bytes.
use Rattle.std.proofs.Common.{◌≡◌, ℕ, suc, ◌≤◌, Bool, true, false, List, [], ◌∷◌, ◌++◌, length, refl, ap, ◌∙◌, arith, length-append, Some, None, Option, IsSome, codes}
use Rattle.std.specs.Prelude.{◌==◌, if◌then◌else◌}
use Rattle.std.specs.List.{flat_map}
use Rattle.std.specs.Option.{option_or, option_map, option_and_then, unwrap_or}
use Rattle.std.proofs.lemmas.Option.{same_Some}
use Rattle.urna_base.specs.Lines.{before_first_line, lines_of}
use Rattle.key_script.specs.declared.keys.ClerkKey.{ClerkKey}
use Rattle.key_script.specs.declared.keys.Event.{Event}
use Rattle.key_script.specs.declared.keys.Event.TheVariants.{Clerk}
use Rattle.urna_base.specs.Words.{after_word}
use Rattle.urna_base.proofs.WordLaws.{after_word-some}
use Rattle.key_script.specs.Script.{clerk_line, events_of_keys, voter_line, events_of_line, events_of_lines, events_of}
use Rattle.key_script.proofs.LineLaws.{events_of_keys-first}
use Rattle.key_script.proofs.ScriptLaws.{events_of_lines-first, unwrap_or-some}

-- the bytes of the lines, without their line feeds
abbrev bytes_of : List (List ℕ) → List ℕ
bytes_of lines = flat_map (λ line. line) lines

bytes_of-first : (c : ℕ) (lines : List (List ℕ)) → length (bytes_of (before_first_line c lines)) ≡ suc (length (bytes_of lines))
bytes_of-first c [] = refl
bytes_of-first c (line ∷ lines) = refl

bytes_of-lines : (text : List ℕ) → length (bytes_of (lines_of text)) ≤ length text
unfolding lines_of
bytes_of-lines [] = omega arith
bytes_of-lines (c ∷ text) = go (c == 10) (bytes_of-lines text)
  where
    go : (b : Bool) → length (bytes_of (lines_of text)) ≤ length text → length (bytes_of (if b then [] ∷ lines_of text else before_first_line c (lines_of text))) ≤ suc (length text)
    go true few = omega arith
    go false few = rw (bytes_of-first c (lines_of text)) (omega arith)

-- one event a key
events_of_keys-count : (bytes : List ℕ) → IsSome (events_of_keys bytes) → length (unwrap_or (events_of_keys bytes) []) ≡ length bytes
unfolding events_of_keys
events_of_keys-count [] some = refl
events_of_keys-count (c ∷ bytes) some =
    let first = events_of_keys-first c bytes some in
    let others = events_of_keys-count bytes first.rest in
    rw first.all (ap (λ n. suc n) others)

-- no more events than bytes in a line
voter_line-count : (line : List ℕ) (events : List Event) → voter_line line ≡ Some events → length events ≤ length line
unfolding voter_line
voter_line-count line events e = go (after_word (codes "E ") line) refl e
  where
    keys : (b : Bool) (bytes : List ℕ) → line ≡ codes "E " ++ bytes → (if b then None else events_of_keys bytes) ≡ Some events → length events ≤ length line
    keys true bytes at e = absurd (cc)
    keys false bytes at e =
        let some : IsSome (events_of_keys bytes) = rw e refl in
        let count : length (unwrap_or (events_of_keys bytes) []) ≡ length bytes = events_of_keys-count bytes some in
        let same : length events ≡ length bytes = rw e at count in
        rw (at, same) (omega arith)

    go : (o : Option (List ℕ)) → after_word (codes "E ") line ≡ o → option_and_then (λ keys. if length keys == 0 then None else events_of_keys keys) o ≡ Some events → length events ≤ length line
    go None is e = absurd (cc)
    go (Some bytes) is e = keys (length bytes == 0) bytes (after_word-some (codes "E ") line bytes is) e

clerk_line-some : (line : List ℕ) (key : ClerkKey) → clerk_line line ≡ Some key → 1 ≤ length line
unfolding clerk_line
clerk_line-some [] key e = absurd (cc)
clerk_line-some (c ∷ line) key e = omega arith

events_of_line-count : (line : List ℕ) (events : List Event) → events_of_line line ≡ Some events → length events ≤ length line
unfolding events_of_line
events_of_line-count line events e = go (voter_line line) refl e
  where
    clerk : (o : Option ClerkKey) → clerk_line line ≡ o → option_map (λ key. Clerk key ∷ []) o ≡ Some events → length events ≤ length line
    clerk None is e = absurd (cc)
    clerk (Some key) is e = rw (← same_Some (Clerk key ∷ []) events e) (clerk_line-some line key is)

    go : (o : Option (List Event)) → voter_line line ≡ o → option_or o (option_map (λ key. Clerk key ∷ []) (clerk_line line)) ≡ Some events → length events ≤ length line
    go None is e = clerk (clerk_line line) refl e
    go (Some es) is e = voter_line-count line events (is ∙ e)

lines_count : (lines : List (List ℕ)) → IsSome (events_of_lines lines) → length (unwrap_or (events_of_lines lines) []) ≤ length (bytes_of lines)
lines_count [] some = omega arith
lines_count (line ∷ lines) some =
    let first = events_of_lines-first line lines some in
    let here = events_of_line-count line (unwrap_or (events_of_line line) []) (unwrap_or-some (events_of_line line) first.here) in
    let others = lines_count lines first.rest in
    rw (first.all, length-append (unwrap_or (events_of_line line) []) (unwrap_or (events_of_lines lines) []), length-append line (bytes_of lines)) (omega arith)

-- a text has no more events than bytes
pub events_of-count : (text : List ℕ) → IsSome (events_of text) → length (unwrap_or (events_of text) []) ≤ length text
unfolding events_of
events_of-count text some =
    let events = lines_count (lines_of text) some in
    let bytes = bytes_of-lines text in
    omega arith
