-- How long the rehearsal's script is.
use Rattle.std.proofs.Common.{◌≡◌, ℕ, zero, suc, ◌+◌, ◌-◌, ◌*◌, ◌^◌, ◌<◌, ◌≤◌, Bool, true, false, List, [], ◌∷◌, ◌++◌, length, Option, Some, None, ap, arith, length-append}
use Rattle.std.specs.Prelude.{if◌then◌else◌}
use Rattle.std.specs.List.{range_with_len, flat_map}
use Rattle.std.proofs.lemmas.List.{length-map}
use Rattle.urna_base.specs.Digits.{padded}
use Rattle.urna_base.proofs.DigitLaws.{length-padded}
use Rattle.key_script.specs.declared.keys.Key.TheVariants as key
use Rattle.key_script.specs.declared.keys.ClerkKey.TheVariants.{Abre, Titulo, Libera, Suspende, Encerra}
use Rattle.key_script.specs.Spelling.{clerk_text, key_byte, keys_text}
use Rattle.election_tables.specs.Limits.{most_voters}
use Rattle.rehearsal.specs.declared.typing.Typed.{Typed}
use Rattle.rehearsal.specs.declared.typing.Typed.TheVariants.{Five, Two, Blank}
use Rattle.urna_base.specs.Lines.{lines_text}
use Rattle.rehearsal.specs.Roll.{title_at}
use Rattle.rehearsal.specs.Script.{clerk, voter, script_line_text, second_line, visit_with, visit_at, visits, opening_moment, closing_moment, text_of_script, script_text}
use Rattle.rehearsal.specs.Typing.{TypedPair, choice_keys, is_suspended, typed_at, typed_keys}
use Rattle.rehearsal.proofs.Events.{opening_line, closing_line, script_parts, text_of_script-append}

choice_length : (typed : Typed) → length (choice_keys typed) ≤ 5
choice_length (Five number) = omega (arith, length-map (padded 5 number) (λ c. key.Digit (c - 48)), length-padded 5 number)
choice_length (Two number) = omega (arith, length-map (padded 2 number) (λ c. key.Digit (c - 48)), length-padded 2 number)
choice_length Blank = omega arith

typed_length : (typed : Typed) → length (keys_text (typed_keys typed)) ≤ 8
typed_length typed =
    omega (
      arith,
      length-map (typed_keys typed) key_byte,
      length-append (choice_keys typed) (key.Confirm ∷ []),
      choice_length typed,
    )

second_length : (place : ℕ) (pair : TypedPair) → length (script_line_text (second_line place pair)) ≤ 10
second_length place pair = go (is_suspended place)
  where
    go : (b : Bool) → length (script_line_text (if b then clerk Suspende else voter (typed_keys pair.1))) ≤ 10
    go true = omega arith
    go false = omega (arith, typed_length pair.1)

length-four_lines : (a b c d : List ℕ) → length (lines_text (a ∷ b ∷ c ∷ d ∷ [])) ≡ length a + length b + length c + length d + 4
length-four_lines a b c d = simp length-append (omega arith)

visit_length : (place : ℕ) (o : Option TypedPair) → length (text_of_script (visit_with place o)) ≤ 64
visit_length place None = omega arith
visit_length place (Some pair) =
    omega (
      arith,
      length-four_lines (clerk_text (Titulo (title_at place))) (clerk_text Libera) (keys_text (typed_keys pair.0)) (script_line_text (second_line place pair)),
      length-padded 12 (title_at place),
      typed_length pair.0,
      second_length place pair,
    )

visits_length : (a n : ℕ) → length (text_of_script (flat_map visit_at (range_with_len a n))) ≤ 64 * n
visits_length a zero = omega arith
visits_length a (suc n) =
    rw (text_of_script-append (visit_at a) (flat_map visit_at (range_with_len (a + 1) n)), length-append)
    (omega (arith, visit_length a (typed_at a), visits_length (a + 1) n))

length-one_line : (a : List ℕ) → length (lines_text (a ∷ [])) ≡ length a + 1
length-one_line a = simp length-append (omega arith)

pub script_short : (voters : ℕ) → voters ≤ most_voters → length (script_text voters) < 2 ^ 31
script_short voters few =
    omega (
      arith,
      ap length (script_parts voters),
      length-append (text_of_script opening_line ++ text_of_script (visits voters)) (text_of_script closing_line),
      length-append (text_of_script opening_line) (text_of_script (visits voters)),
      length-one_line (clerk_text (Abre opening_moment)),
      length-one_line (clerk_text (Encerra closing_moment)),
      length-padded 14 opening_moment,
      length-padded 14 closing_moment,
      visits_length 0 voters,
    )
