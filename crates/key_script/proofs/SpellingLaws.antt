-- A line has exactly the events that it spells.
use Rattle.std.proofs.Common.{◌≡◌, ℕ, suc, ◌+◌, ◌-◌, ◌≤◌, Bool, true, false, List, [], ◌∷◌, ◌++◌, length, map, refl, ap, sym, ◌∙◌, subst, arith, Some, None, Option, codes}
use Rattle.std.specs.Prelude.{◌==◌, if◌then◌else◌, All, ◌↔◌}
use Rattle.std.specs.Option.{option_or, option_map, option_and_then}
use Rattle.std.proofs.lemmas.Option.{same_Some}
use Rattle.std.proofs.lemmas.Bool.Decides.{nat_tests}
use Rattle.std.proofs.lemmas.List.Elements.{All-nil, All-cons}
use Rattle.urna_base.specs.Digits.{is_digit}
use Rattle.urna_base.proofs.DigitLaws.{is_digit-true, is_digit-from, digits_value-padded, padded-digits_value}
use Rattle.urna_base.proofs.MomentLaws.{is_moment-below}
use Rattle.key_script.specs.declared.keys.Key.{Key}
use Rattle.key_script.specs.declared.keys.Key.TheVariants.{Digit, Blank, Correct, Confirm}
use Rattle.key_script.specs.declared.keys.ClerkKey.{ClerkKey}
use Rattle.key_script.specs.declared.keys.ClerkKey.TheVariants.{Abre, Titulo, Libera, Cancela, Suspende, Encerra}
use Rattle.key_script.specs.declared.keys.Event.{Event}
use Rattle.key_script.specs.declared.keys.Event.TheVariants.{Clerk, Voter}
use Rattle.key_script.specs.Event.{IsKey, IsClerkKey}
use Rattle.urna_base.specs.Words.{after_word}
use Rattle.urna_base.proofs.WordLaws.{after_word-some}
use Rattle.key_script.specs.Script.{clerk_line, key_of_byte, voter_event, all_some, events_of_keys, voter_line, events_of_line}
use Rattle.key_script.specs.Spelling.{clerk_text, key_byte, keys_text, Spells, clerk, voter}
use Rattle.key_script.proofs.LineLaws.{moment_value-digits, clerk_line-gives, clerk_line-valid, key_of_byte-valid}

-- the line of a clerk's valid key reads as that key
pub clerk_text-reads : (key : ClerkKey) → IsClerkKey key → events_of_line (clerk_text key) ≡ Some (Clerk key ∷ [])
unfolding events_of_line voter_line clerk_line
clerk_text-reads (Abre m) valid = rw (digits_value-padded 14 m (is_moment-below m valid), valid) refl
clerk_text-reads (Titulo t) valid = rw (digits_value-padded 12 t valid) refl
clerk_text-reads Libera valid = refl
clerk_text-reads Cancela valid = refl
clerk_text-reads Suspende valid = refl
clerk_text-reads (Encerra m) valid = rw (digits_value-padded 14 m (is_moment-below m valid), valid) refl

-- the byte of a valid key reads as that key
key_byte-reads : (key : Key) → IsKey key → key_of_byte (key_byte key) ≡ Some key
key_byte-reads (Digit d) valid =
    let back : 48 + d - 48 ≡ d = omega arith in
    rw (is_digit-from (48 + d) (omega arith) (omega arith), back) refl
key_byte-reads Blank valid = refl
key_byte-reads Correct valid = refl
key_byte-reads Confirm valid = refl

keys_read : (keys : List Key) → All IsKey keys → events_of_keys (map key_byte keys) ≡ Some (map (λ k. Voter k) keys)
unfolding events_of_keys
keys_read [] valid = refl
keys_read (key ∷ keys) valid =
    let here : IsKey key = valid 0 key (omega arith) in
    let others : all_some (map voter_event (map key_byte keys)) ≡ Some (map (λ k. Voter k) keys) =
    keys_read keys (λ i d h. valid (suc i) d (omega arith))
    in
    rw (key_byte-reads key here, others) refl

-- the line of the voter's valid keys reads as those keys
pub keys_text-reads : (key : Key) (keys : List Key) → All IsKey (key ∷ keys) → events_of_line (keys_text (key ∷ keys)) ≡ Some (map (λ k. Voter k) (key ∷ keys))
unfolding events_of_line voter_line
keys_text-reads key keys valid =
    let some : (length (map key_byte (key ∷ keys)) == 0) ≡ false = grind (arith, nat_tests) in
    rw (keys_read (key ∷ keys) valid, some) refl

-- what spells events reads as them
spelled_reads : (line : List ℕ) (events : List Event) → Spells line events → events_of_line line ≡ Some events
spelled_reads _ _ (clerk key valid) = clerk_text-reads key valid
spelled_reads _ _ (voter key keys valid) = keys_text-reads key keys valid

-- a line that has a clerk's key is that key's
clerk_line-text : (line : List ℕ) (k : ClerkKey) → clerk_line line ≡ Some k → line ≡ clerk_text k
clerk_line-text line k e =
    clerk_line-gives (λ key. line ≡ clerk_text key) line k
    (λ text m at read. at ∙ ap (λ t. codes "M ABRE " ++ t) (sym (padded-digits_value 14 text m (moment_value-digits text m read))))
    (λ text t at read. at ∙ ap (λ t. codes "M TITULO " ++ t) (sym (padded-digits_value 12 text t read)))
    (λ at. at) (λ at. at) (λ at. at)
    (λ text m at read. at ∙ ap (λ t. codes "M ENCERRA " ++ t) (sym (padded-digits_value 14 text m (moment_value-digits text m read))))
    e

-- a byte that has a key is that key's
key_of_byte-byte : (c : ℕ) (k : Key) → key_of_byte c ≡ Some k → c ≡ key_byte k
key_of_byte-byte c k e = go (is_digit c) refl e
  where
    letter : (n : ℕ) (b : Bool) (key : Key) (o : Option Key) → (c == n) ≡ b → n ≡ key_byte key → (o ≡ Some k → c ≡ key_byte k) → (if b then Some key else o) ≡ Some k → c ≡ key_byte k
    letter n true key o is byte others e =
        let at : c ≡ n = grind (arith, nat_tests) in
        subst (λ (x : Key). c ≡ key_byte x) (same_Some key k e) (at ∙ byte)
    letter n false key o is byte others e = others e

    go : (b : Bool) → is_digit c ≡ b → (if b then Some (Digit (c - 48)) else (if c == 66 then Some Blank else (if c == 82 then Some Correct else (if c == 67 then Some Confirm else None)))) ≡ Some k → c ≡ key_byte k
    go true digit e =
        let range : (48 ≤ c) × (c ≤ 57) = is_digit-true c digit in
        subst (λ (key : Key). c ≡ key_byte key) (same_Some (Digit (c - 48)) k e) (omega arith)
    go false digit e =
        letter 66 (c == 66) Blank _ refl refl
        (letter 82 (c == 82) Correct _ refl refl (letter 67 (c == 67) Confirm None refl refl (λ none. absurd (cc))))
        e

-- bytes that have events are those of valid keys
pub record SpelledKeys (bytes : List ℕ) (events : List Event) : Type 0 where
  pub keys : List Key
  pub valid : All IsKey keys
  pub bytes_are : bytes ≡ map key_byte keys
  pub events_are : events ≡ map (λ k. Voter k) keys

keys_spelled : (bytes : List ℕ) (events : List Event) → events_of_keys bytes ≡ Some events → SpelledKeys bytes events
unfolding events_of_keys
keys_spelled [] events e = record { keys = []; valid = All-nil IsKey; bytes_are = refl; events_are = sym (same_Some [] events e) }
keys_spelled (c ∷ bytes) events e = go (key_of_byte c) refl e (keys_spelled bytes)
  where
    rest : (key : Key) → key_of_byte c ≡ Some key → (o : Option (List Event)) → all_some (map voter_event bytes) ≡ o → option_map (λ xs. Voter key ∷ xs) o ≡ Some events → ((es : List Event) → all_some (map voter_event bytes) ≡ Some es → SpelledKeys bytes es) → SpelledKeys (c ∷ bytes) events
    rest key is None others e behind = absurd (cc)
    rest key is (Some es) others e behind =
        let spelled = behind es others in
        let byte : c ≡ key_byte key = key_of_byte-byte c key is in
        record {
          keys = key ∷ spelled.keys;
          valid = All-cons IsKey key spelled.keys (key_of_byte-valid c key is) spelled.valid;
          bytes_are = rw (← byte, ← spelled.bytes_are) refl;
          events_are = sym (same_Some (Voter key ∷ es) events e) ∙ ap (λ xs. Voter key ∷ xs) spelled.events_are;
        }

    go : (o : Option Key) → key_of_byte c ≡ o → all_some (option_map (λ key. Voter key) o ∷ map voter_event bytes) ≡ Some events → ((es : List Event) → all_some (map voter_event bytes) ≡ Some es → SpelledKeys bytes es) → SpelledKeys (c ∷ bytes) events
    go None is e behind = absurd (cc)
    go (Some key) is e behind = rest key is (all_some (map voter_event bytes)) refl e behind

-- a line whose bytes behind `E ` are those of keys
from_keys : (line bytes : List ℕ) (events : List Event) (keys : List Key) → All IsKey keys → bytes ≡ map key_byte keys → events ≡ map (λ k. Voter k) keys → line ≡ codes "E " ++ bytes → (length bytes == 0) ≡ false → Spells line events
from_keys line bytes events [] valid bytes_are events_are at some =
    let bad : true ≡ false = rw bytes_are at some in
    absurd (cc)
from_keys line bytes events (key ∷ keys) valid bytes_are events_are at some =
    let text : line ≡ keys_text (key ∷ keys) = at ∙ ap (λ bs. codes "E " ++ bs) bytes_are in
    subst (λ (l : List ℕ). Spells l events) (sym text)
    (subst (λ (es : List Event). Spells (keys_text (key ∷ keys)) es) (sym events_are) (voter key keys valid))

voter_line-spelled : (line : List ℕ) (events : List Event) → voter_line line ≡ Some events → Spells line events
unfolding voter_line
voter_line-spelled line events e = go (after_word (codes "E ") line) refl e
  where
    some : (bytes : List ℕ) → line ≡ codes "E " ++ bytes → (b : Bool) → (length bytes == 0) ≡ b → (if b then None else events_of_keys bytes) ≡ Some events → Spells line events
    some bytes at true none e = absurd (cc)
    some bytes at false full e =
        let spelled = keys_spelled bytes events e in
        from_keys line bytes events spelled.keys spelled.valid spelled.bytes_are spelled.events_are at full

    go : (o : Option (List ℕ)) → after_word (codes "E ") line ≡ o → option_and_then (λ keys. if length keys == 0 then None else events_of_keys keys) o ≡ Some events → Spells line events
    go None is e = absurd (cc)
    go (Some bytes) is e = some bytes (after_word-some (codes "E ") line bytes is) (length bytes == 0) refl e

-- a line that has events spells them
reads_spelled : (line : List ℕ) (events : List Event) → events_of_line line ≡ Some events → Spells line events
unfolding events_of_line
reads_spelled line events e = go (voter_line line) refl e
  where
    clerks : (o : Option ClerkKey) → clerk_line line ≡ o → option_map (λ key. Clerk key ∷ []) o ≡ Some events → Spells line events
    clerks None is e = absurd (cc)
    clerks (Some key) is e =
        subst (λ (l : List ℕ). Spells l events) (sym (clerk_line-text line key is))
        (subst (λ (es : List Event). Spells (clerk_text key) es) (same_Some (Clerk key ∷ []) events e)
        (clerk key (clerk_line-valid line key is)))

    go : (o : Option (List Event)) → voter_line line ≡ o → option_or o (option_map (λ key. Clerk key ∷ []) (clerk_line line)) ≡ Some events → Spells line events
    go None is e = clerks (clerk_line line) refl e
    go (Some es) is e = voter_line-spelled line events (is ∙ e)

-- the events of a line are those that it spells
pub lines_are_spelled : (line : List ℕ) (events : List Event) → (events_of_line line ≡ Some events) ↔ Spells line events
lines_are_spelled line events = (reads_spelled line events, spelled_reads line events)
