-- Laws of one line: which events it has.
use Rattle.std.proofs.Common.{◌≡◌, ℕ, ◌-◌, ◌≤◌, Bool, true, false, ◌&&◌, List, [], ◌∷◌, ◌++◌, length, map, refl, ap, ◌∙◌, subst, arith, Some, None, Option, IsSome, MatchOption, IfSome, Bor, codes}
use Rattle.std.specs.Prelude.{◌==◌, if◌then◌else◌, is_some, All}
use Rattle.std.specs.List.{list_all}
use Rattle.std.specs.Option.{option_or, option_map, option_and_then, unwrap_or}
use Rattle.std.specs.Str.{bytes_eq}
use Rattle.std.proofs.lemmas.Option.{same_Some}
use Rattle.std.proofs.lemmas.Slice.Eq.{bytes_eq-Decides}
use Rattle.std.proofs.lemmas.List.Elements.{All-nil, All-cons}
use Rattle.urna_base.specs.Digits.{is_digit, digits_value}
use Rattle.urna_base.specs.Moment.{is_moment}
use Rattle.urna_base.proofs.DigitLaws.{is_digit-true, digits_value-below, some_from_test}
use Rattle.key_script.specs.declared.keys.Key.{Key}
use Rattle.key_script.specs.declared.keys.Key.TheVariants.{Digit, Blank, Correct, Confirm}
use Rattle.key_script.specs.declared.keys.ClerkKey.{ClerkKey}
use Rattle.key_script.specs.declared.keys.ClerkKey.TheVariants.{Abre, Titulo, Libera, Cancela, Suspende, Encerra}
use Rattle.key_script.specs.declared.keys.Event.{Event}
use Rattle.key_script.specs.declared.keys.Event.TheVariants.{Clerk, Voter}
use Rattle.key_script.specs.Event.{IsKey, IsClerkKey, IsEvent}
use Rattle.urna_base.specs.Words.{after_word}
use Rattle.urna_base.proofs.WordLaws.{after_word-some}
use Rattle.key_script.specs.Script.{all_some, moment_value, numbered, bare, clerk_line, key_of_byte, voter_event, events_of_keys, voter_line, events_of_line}

-- a moment that is read is valid
pub moment_value-valid : (text : List ℕ) (m : ℕ) → moment_value text ≡ Some m → is_moment m ≡ true
moment_value-valid text m e = go (digits_value 14 text) e
  where
    go : (o : Option ℕ) → option_and_then (λ m. if is_moment m then Some m else None) o ≡ Some m → is_moment m ≡ true
    go None e = absurd (cc)
    go (Some n) e = let kept = some_from_test (is_moment n) n m e in subst (λ (x : ℕ). is_moment x ≡ true) kept.1 kept.0

-- and is what the digits write
pub moment_value-digits : (text : List ℕ) (m : ℕ) → moment_value text ≡ Some m → digits_value 14 text ≡ Some m
moment_value-digits text m e = go (digits_value 14 text) e
  where
    go : (o : Option ℕ) → option_and_then (λ m. if is_moment m then Some m else None) o ≡ Some m → o ≡ Some m
    go None e = absurd (cc)
    go (Some n) e = let kept = some_from_test (is_moment n) n m e in ap (λ (x : ℕ). Some x) kept.1

-- what a numbered line gives, from its number
numbered-gives : (Q : ClerkKey → Type 0) (key : ℕ → ClerkKey) (word : List ℕ) (value : List ℕ → Option ℕ) (line : List ℕ) (k : ClerkKey) → ((text : List ℕ) (n : ℕ) → line ≡ word ++ text → value text ≡ Some n → Q (key n)) → numbered word value key line ≡ Some k → Q k
numbered-gives Q key word value line k make e = go (after_word word line) refl e
  where
    some : (text : List ℕ) → line ≡ word ++ text → (o : Option ℕ) → value text ≡ o → option_map key o ≡ Some k → Q k
    some text at None is e = absurd (cc)
    some text at (Some n) is e = subst Q (same_Some (key n) k e) (make text n at is)

    go : (o : Option (List ℕ)) → after_word word line ≡ o → option_map key (option_and_then value o) ≡ Some k → Q k
    go None is e = absurd (cc)
    go (Some text) is e = some text (after_word-some word line text is) (value text) refl e

-- what a line gives that is just a word
bare-gives : (Q : ClerkKey → Type 0) (word : List ℕ) (key : ClerkKey) (line : List ℕ) (k : ClerkKey) → (line ≡ word → Q key) → bare word key line ≡ Some k → Q k
bare-gives Q word key line k make e = go (bytes_eq line word) refl e
  where
    go : (b : Bool) → bytes_eq line word ≡ b → (if b then Some key else None) ≡ Some k → Q k
    go true is e = subst Q (same_Some key k e) (make ((bytes_eq-Decides line word).0 is))
    go false is e = absurd (cc)

-- the first of two, or else the second
or_gives : (Q : ClerkKey → Type 0) (k : ClerkKey) (o p : Option ClerkKey) → (o ≡ Some k → Q k) → (p ≡ Some k → Q k) → option_or o p ≡ Some k → Q k
or_gives Q k None p first second e = second e
or_gives Q k (Some x) p first second e = first e

-- what each of the six forms gives, a clerk's line gives
pub clerk_line-gives : (Q : ClerkKey → Type 0) (line : List ℕ) (k : ClerkKey) → ((text : List ℕ) (m : ℕ) → line ≡ codes "M ABRE " ++ text → moment_value text ≡ Some m → Q (Abre m)) → ((text : List ℕ) (t : ℕ) → line ≡ codes "M TITULO " ++ text → digits_value 12 text ≡ Some t → Q (Titulo t)) → (line ≡ codes "M LIBERA" → Q Libera) → (line ≡ codes "M CANCELA" → Q Cancela) → (line ≡ codes "M SUSPENDE" → Q Suspende) → ((text : List ℕ) (m : ℕ) → line ≡ codes "M ENCERRA " ++ text → moment_value text ≡ Some m → Q (Encerra m)) → clerk_line line ≡ Some k → Q k
unfolding clerk_line
clerk_line-gives Q line k abre titulo libera cancela suspende encerra e =
    or_gives Q k _ _ (numbered-gives Q (λ m. Abre m) (codes "M ABRE ") moment_value line k abre)
    (or_gives Q k _ _
    (numbered-gives Q (λ t. Titulo t) (codes "M TITULO ") (λ text. digits_value 12 text) line k titulo)
    (or_gives Q k _ _ (bare-gives Q (codes "M LIBERA") Libera line k libera)
    (or_gives Q k _ _ (bare-gives Q (codes "M CANCELA") Cancela line k cancela)
    (or_gives Q k _ _ (bare-gives Q (codes "M SUSPENDE") Suspende line k suspende)
    (or_gives Q k _ _
    (numbered-gives Q (λ m. Encerra m) (codes "M ENCERRA ") moment_value line k encerra)
    (λ none. absurd (cc)))))))
    e

-- the key of a clerk's line is valid
pub clerk_line-valid : (line : List ℕ) (k : ClerkKey) → clerk_line line ≡ Some k → IsClerkKey k
clerk_line-valid line k e =
    clerk_line-gives IsClerkKey line k (λ text m at read. moment_value-valid text m read)
    (λ text t at read. digits_value-below 12 text t read) (λ at. tt) (λ at. tt) (λ at. tt)
    (λ text m at read. moment_value-valid text m read) e

-- the key of a byte is valid
pub key_of_byte-valid : (c : ℕ) (k : Key) → key_of_byte c ≡ Some k → IsKey k
key_of_byte-valid c k e = go (is_digit c) refl e
  where
    letter : (b : Bool) (key : Key) (o : Option Key) → IsKey key → (o ≡ Some k → IsKey k) → (if b then Some key else o) ≡ Some k → IsKey k
    letter true key o valid others e = subst IsKey (same_Some key k e) valid
    letter false key o valid others e = others e

    go : (b : Bool) → is_digit c ≡ b → (if b then Some (Digit (c - 48)) else (if c == 66 then Some Blank else (if c == 82 then Some Correct else (if c == 67 then Some Confirm else None)))) ≡ Some k → IsKey k
    go true digit e =
        let range : (48 ≤ c) × (c ≤ 57) = is_digit-true c digit in
        subst IsKey (same_Some (Digit (c - 48)) k e) (omega arith)
    go false digit e =
        letter (c == 66) Blank _ tt (letter (c == 82) Correct _ tt (letter (c == 67) Confirm None tt (λ none. absurd (cc)))) e

-- the first byte's event, and those of the others
pub record FirstKey (c : ℕ) (others : List ℕ) : Type 0 where
  pub key : Key
  pub is : key_of_byte c ≡ Some key
  pub rest : IsSome (events_of_keys others)
  pub all : unwrap_or (events_of_keys (c ∷ others)) [] ≡ Voter key ∷ unwrap_or (events_of_keys others) []

pub events_of_keys-first : (c : ℕ) (others : List ℕ) → IsSome (events_of_keys (c ∷ others)) → FirstKey c others
unfolding events_of_keys
events_of_keys-first c others e = go (key_of_byte c) refl e
  where
    rest : (key : Key) → key_of_byte c ≡ Some key → (o : Option (List Event)) → all_some (map voter_event others) ≡ o → IsSome (option_map (λ xs. Voter key ∷ xs) o) → FirstKey c others
    rest key is None e some = absurd (cc)
    rest key is (Some events) e some = record { key = key; is = is; rest = rw e refl; all = rw (is, e) refl }

    go : (o : Option Key) → key_of_byte c ≡ o → IsSome (all_some (option_map (λ key. Voter key) o ∷ map voter_event others)) → FirstKey c others
    go None is some = absurd (cc)
    go (Some key) is some = rest key is (all_some (map voter_event others)) refl some

pub none_from_test : {A : Type 0} (o : Option A) → is_some o ≡ false → o ≡ None
none_from_test None e = refl
none_from_test (Some x) e = absurd (cc)

-- whether each byte spells a key
pub is_some-events_of_keys : (bytes : List ℕ) → is_some (events_of_keys bytes) ≡ list_all (λ c. is_some (key_of_byte c)) bytes
unfolding events_of_keys
is_some-events_of_keys [] = refl
is_some-events_of_keys (c ∷ bytes) = go (key_of_byte c) (is_some-events_of_keys bytes)
  where
    mapped : (e : Event) (p : Option (List Event)) → is_some (option_map (λ xs. e ∷ xs) p) ≡ is_some p
    mapped e None = refl
    mapped e (Some events) = refl

    go : (o : Option Key) → is_some (all_some (map voter_event bytes)) ≡ list_all (λ c. is_some (key_of_byte c)) bytes → is_some (all_some (option_map (λ key. Voter key) o ∷ map voter_event bytes)) ≡ (is_some o && list_all (λ c. is_some (key_of_byte c)) bytes)
    go None e = refl
    go (Some key) e = mapped (Voter key) (all_some (map voter_event bytes)) ∙ e

-- a voter's line has the events of its keys
pub events_of_line-voter : (line keys : List ℕ) → voter_line line ≡ events_of_keys keys → IsSome (events_of_keys keys) → events_of_line line ≡ events_of_keys keys
unfolding events_of_line
events_of_line-voter line keys e some = rw e (go (events_of_keys keys) some)
  where
    go : (o : Option (List Event)) → IsSome o → option_or o (option_map (λ key. Clerk key ∷ []) (clerk_line line)) ≡ o
    go None some = absurd (cc)
    go (Some events) some = refl

-- any other line has the event of its clerk's key
pub events_of_line-clerk : (line : List ℕ) → voter_line line ≡ None → events_of_line line ≡ option_map (λ key. Clerk key ∷ []) (clerk_line line)
unfolding events_of_line
events_of_line-clerk line e = rw e refl

-- the events of keys are valid
pub events_of_keys-valid : (bytes : List ℕ) (events : List Event) → events_of_keys bytes ≡ Some events → All IsEvent events
unfolding events_of_keys
events_of_keys-valid [] events e = subst (λ (es : List Event). All IsEvent es) (same_Some [] events e) (All-nil IsEvent)
events_of_keys-valid (c ∷ bytes) events e = go (key_of_byte c) refl e (events_of_keys-valid bytes)
  where
    rest : (key : Key) → IsKey key → (o : Option (List Event)) → all_some (map voter_event bytes) ≡ o → option_map (λ xs. Voter key ∷ xs) o ≡ Some events → ((es : List Event) → all_some (map voter_event bytes) ≡ Some es → All IsEvent es) → All IsEvent events
    rest key valid None is e others = absurd (cc)
    rest key valid (Some es) is e others =
        subst (λ (es : List Event). All IsEvent es) (same_Some (Voter key ∷ es) events e) (All-cons IsEvent (Voter key) es valid (others es is))

    go : (o : Option Key) → key_of_byte c ≡ o → all_some (option_map (λ key. Voter key) o ∷ map voter_event bytes) ≡ Some events → ((es : List Event) → all_some (map voter_event bytes) ≡ Some es → All IsEvent es) → All IsEvent events
    go None is e others = absurd (cc)
    go (Some key) is e others = rest key (key_of_byte-valid c key is) (all_some (map voter_event bytes)) refl e others

-- the events of a line are valid
pub events_of_line-valid : (line : List ℕ) (events : List Event) → events_of_line line ≡ Some events → All IsEvent events
unfolding events_of_line voter_line
events_of_line-valid line events e = go (voter_line line) refl e
  where
    keys : (o : Option (List ℕ)) → option_and_then (λ keys. if length keys == 0 then None else events_of_keys keys) o ≡ Some events → All IsEvent events
    keys None e = absurd (cc)
    keys (Some bytes) e = some (length bytes == 0) bytes e
      where
        some : (b : Bool) (bytes : List ℕ) → (if b then None else events_of_keys bytes) ≡ Some events → All IsEvent events
        some true bytes e = absurd (cc)
        some false bytes e = events_of_keys-valid bytes events e

    clerk : (o : Option ClerkKey) → clerk_line line ≡ o → option_map (λ key. Clerk key ∷ []) o ≡ Some events → All IsEvent events
    clerk None is e = absurd (cc)
    clerk (Some key) is e =
        subst (λ (es : List Event). All IsEvent es) (same_Some (Clerk key ∷ []) events e) (All-cons IsEvent (Clerk key) [] (clerk_line-valid line key is) (All-nil IsEvent))

    go : (o : Option (List Event)) → voter_line line ≡ o → option_or o (option_map (λ key. Clerk key ∷ []) (clerk_line line)) ≡ Some events → All IsEvent events
    go None is e = clerk (clerk_line line) refl e
    go (Some es) is e = keys (after_word (codes "E ") line) (is ∙ e)

-- a line whose keys were read is of the form
pub voter_line-form : (line : List ℕ) (r : Option (Bor (List ℕ))) → MatchOption r (voter_line line ≡ None) (λ keys. voter_line line ≡ events_of_keys keys.now) → IfSome r (λ keys. IsSome (events_of_keys keys.now)) → is_some r ≡ true → IsSome (events_of_line line)
voter_line-form line None value valid e = absurd (cc)
voter_line-form line (Some keys) value valid e = rw (events_of_line-voter line keys.now value valid) valid

-- and any other exactly where it spells a clerk's key
pub clerk_line-form : (line : List ℕ) (r : Option (Bor (List ℕ))) → MatchOption r (voter_line line ≡ None) (λ keys. voter_line line ≡ events_of_keys keys.now) → is_some r ≡ false → is_some (events_of_line line) ≡ is_some (clerk_line line)
clerk_line-form line None value e = rw (events_of_line-clerk line value) (go (clerk_line line))
  where
    go : (o : Option ClerkKey) → is_some (option_map (λ key. Clerk key ∷ []) o) ≡ is_some o
    go None = refl
    go (Some key) = refl
clerk_line-form line (Some keys) value e = absurd (cc)
