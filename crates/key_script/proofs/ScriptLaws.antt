-- Laws of a text of keys: its events line by line, and its first bad line.
use Rattle.std.proofs.Common.{◌≡◌, ℕ, ◌+◌, cond, List, [], ◌∷◌, ◌++◌, map, refl, sym, subst, Some, None, Option, IsSome, MatchOption}
use Rattle.std.specs.Prelude.{is_none, All}
use Rattle.std.specs.List.{flat_map, position_from}
use Rattle.std.specs.Option.{option_map, unwrap_or}
use Rattle.std.proofs.lemmas.List.Elements.{All-nil, All-append}
use Rattle.urna_base.specs.Lines.{lines_of}
use Rattle.key_script.specs.declared.keys.Event.{Event}
use Rattle.key_script.specs.Event.{IsEvent}
use Rattle.key_script.specs.Script.{all_some, events_of_line, events_of_lines, is_bad, events_of, first_bad}
use Rattle.key_script.proofs.LineLaws.{events_of_line-valid}

abbrev joined : List (List Event) → List Event
joined each = flat_map (λ events. events) each

-- the first line's events, and those of the other lines
pub record FirstLine (line : List ℕ) (lines : List (List ℕ)) : Type 0 where
  pub here : IsSome (events_of_line line)
  pub rest : IsSome (events_of_lines lines)
  pub all : unwrap_or (events_of_lines (line ∷ lines)) [] ≡ unwrap_or (events_of_line line) [] ++ unwrap_or (events_of_lines lines) []

pub events_of_lines-first : (line : List ℕ) (lines : List (List ℕ)) → IsSome (events_of_lines (line ∷ lines)) → FirstLine line lines
events_of_lines-first line lines some = go (events_of_line line) refl some
  where
    rest : (events : List Event) → events_of_line line ≡ Some events → (o : Option (List (List Event))) → all_some (map events_of_line lines) ≡ o → IsSome (option_map joined (option_map (λ each. events ∷ each) o)) → FirstLine line lines
    rest events is None others some = absurd (cc)
    rest events is (Some each) others some = record { here = rw is refl; rest = rw others refl; all = rw (is, others) refl }

    go : (o : Option (List Event)) → events_of_line line ≡ o → IsSome (option_map joined (all_some (o ∷ map events_of_line lines))) → FirstLine line lines
    go None is some = absurd (cc)
    go (Some events) is some = rest events is (all_some (map events_of_line lines)) refl some

-- the same of a text that is cut at its first line
pub record FirstOfText (text line others : List ℕ) : Type 0 where
  pub here : IsSome (events_of_line line)
  pub rest : IsSome (events_of others)
  pub all : unwrap_or (events_of text) [] ≡ unwrap_or (events_of_line line) [] ++ unwrap_or (events_of others) []

pub events_of-first : (text line rest : List ℕ) → lines_of text ≡ line ∷ lines_of rest → IsSome (events_of text) → FirstOfText text line rest
unfolding events_of
events_of-first text line rest e some =
    let some' : IsSome (events_of_lines (line ∷ lines_of rest)) = rw e at some in
    let first = events_of_lines-first line (lines_of rest) some' in
    record { here = first.here; rest = first.rest; all = rw e first.all }

-- no text, no events
pub events_of-nil : events_of [] ≡ Some []
unfolding events_of lines_of
events_of-nil = refl

-- the events of lines, or the number of a bad one
lines_answer : (n : ℕ) (lines : List (List ℕ)) → MatchOption (position_from is_bad n lines) (IsSome (events_of_lines lines)) (λ _. events_of_lines lines ≡ None)
lines_answer n [] = refl
lines_answer n (line ∷ lines) = go (events_of_line line) refl (lines_answer (n + 1) lines)
  where
    kept : (events : List Event) (r : Option ℕ) (o : Option (List (List Event))) → MatchOption r (IsSome (option_map joined o)) (λ _. option_map joined o ≡ None) → MatchOption r (IsSome (option_map joined (option_map (λ each. events ∷ each) o))) (λ _. option_map joined (option_map (λ each. events ∷ each) o) ≡ None)
    kept events None None h = absurd (cc)
    kept events None (Some each) h = refl
    kept events (Some k) None h = refl
    kept events (Some k) (Some each) h = absurd (cc)

    go : (o : Option (List Event)) → events_of_line line ≡ o → MatchOption (position_from is_bad (n + 1) lines) (IsSome (events_of_lines lines)) (λ _. events_of_lines lines ≡ None) → MatchOption (cond (is_none o) (Some n) (position_from is_bad (n + 1) lines)) (IsSome (option_map joined (all_some (o ∷ map events_of_line lines)))) (λ _. option_map joined (all_some (o ∷ map events_of_line lines)) ≡ None)
    go None is h = refl
    go (Some events) is h = kept events (position_from is_bad (n + 1) lines) (all_some (map events_of_line lines)) h

-- a text has events, or a first bad line
pub events_or_bad : (bytes : List ℕ) → MatchOption (first_bad bytes) (IsSome (events_of bytes)) (λ _. events_of bytes ≡ None)
unfolding events_of first_bad
events_or_bad bytes = lines_answer 1 (lines_of bytes)

-- where no line is bad there are events
pub events_of-some : (bytes : List ℕ) → first_bad bytes ≡ None → IsSome (events_of bytes)
events_of-some bytes e =
    let P : Option ℕ → Type 0 = λ r. MatchOption r (IsSome (events_of bytes)) (λ _. events_of bytes ≡ None) in
    subst P e (events_or_bad bytes)

pub unwrap_or-some : (o : Option (List Event)) → IsSome o → o ≡ Some (unwrap_or o [])
unwrap_or-some None some = absurd (cc)
unwrap_or-some (Some events) some = refl

-- the events of lines are valid
lines_valid : (lines : List (List ℕ)) → IsSome (events_of_lines lines) → All IsEvent (unwrap_or (events_of_lines lines) [])
lines_valid [] some = All-nil IsEvent
lines_valid (line ∷ lines) some =
    let first = events_of_lines-first line lines some in
    let here = events_of_line-valid line (unwrap_or (events_of_line line) []) (unwrap_or-some (events_of_line line) first.here) in
    subst (λ (es : List Event). All IsEvent es) (sym first.all) (All-append IsEvent (unwrap_or (events_of_line line) []) (unwrap_or (events_of_lines lines) []) here (lines_valid lines first.rest))

pub events_of-valid : (bytes : List ℕ) → IsSome (events_of bytes) → All IsEvent (unwrap_or (events_of bytes) [])
unfolding events_of
events_of-valid bytes some = lines_valid (lines_of bytes) some
