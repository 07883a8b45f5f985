-- One call of `next` on the events of a script: what is left before it, and after.
use Rattle.std.proofs.Common.{◌≡◌, ℕ, ◌<◌, List, [], ◌∷◌, ◌++◌, length, refl, ap, sym, ◌∙◌, subst, arith, Some, None, Option, IsSome}
use Rattle.std.specs.Iterator.{YieldsFirst, item_count, MakesProgress}
use Rattle.std.specs.Option.{option_map, unwrap_or}
use Rattle.urna_base.specs.Lines.{lines_of}
use Rattle.key_script.specs.declared.keys.ClerkKey.{ClerkKey}
use Rattle.key_script.specs.declared.keys.Event.{Event}
use Rattle.key_script.specs.declared.keys.Event.TheVariants.{Clerk, Voter}
use Rattle.key_script.specs.Script.{clerk_line, voter_event, events_of_keys, voter_line, events_of}
use Rattle.key_script.proofs.LineLaws.{events_of_keys-first, events_of_line-voter, events_of_line-clerk}
use Rattle.key_script.proofs.ScriptLaws.{events_of-first, events_of-nil}

-- the events of the present line's keys, and of the text after that line
abbrev pub left_of : List ℕ → List ℕ → List Event
left_of keys text = unwrap_or (events_of_keys keys) [] ++ unwrap_or (events_of text) []

-- an event is given, and the others are left
pub record Presses (given : Option Event) (before after : List Event) : Type 0 where
  pub event : Event
  pub is : given ≡ Some event
  pub left : before ≡ event ∷ after

pub Presses-yields : (given : Option Event) (before after : List Event) → Presses given before after → YieldsFirst (λ (left : List Event). left) before given after
Presses-yields given before after press =
    let P : Option Event → Type 0 = λ r. YieldsFirst (λ (left : List Event). left) before r after in
    subst P (sym press.is) press.left

pub Presses-progress : (can : List Event → Type 0) (given : Option Event) (before after : List Event) → can after → Presses given before after → MakesProgress can (item_count {A = Event} (λ (left : List Event). left)) before given after
Presses-progress can given before after ready press =
    let P : Option Event → Type 0 = λ r. MakesProgress can (item_count {A = Event} (λ (left : List Event). left)) before r after in
    let fewer : length after < length before = rw (ap length press.left) (omega arith) in
    subst P (sym press.is) (record { on = λ finite. (ready, finite, fewer); keeps = ready; rests = λ finite. tt })

pub events_of_keys-nil : events_of_keys [] ≡ Some []
unfolding events_of_keys
events_of_keys-nil = refl

-- nothing is left of no keys and no text
pub left_of-nil : (keys text : List ℕ) → length keys ≡ 0 → text ≡ [] → left_of keys text ≡ []
left_of-nil [] text none e = rw (e, events_of_keys-nil, events_of-nil) refl
left_of-nil (c ∷ keys) text none e = absurd (omega arith)

-- a key of the present line
pub record PressesKey (c : ℕ) (others : List ℕ) (before after : List Event) : Type 0 where
  pub rest : IsSome (events_of_keys others)
  pub press : Presses (voter_event c) before after

first_presses : (c : ℕ) (others text : List ℕ) → IsSome (events_of_keys (c ∷ others)) → PressesKey c others (left_of (c ∷ others) text) (left_of others text)
first_presses c others text some =
    let first = events_of_keys-first c others some in
    record {
      rest = first.rest;
      press = record { event = Voter first.key; is = rw first.is refl; left = rw first.all refl };
    }

pub key_presses : (keys : List ℕ) (c : ℕ) (others text : List ℕ) → keys ≡ c ∷ others → IsSome (events_of_keys keys) → PressesKey c others (left_of keys text) (left_of others text)
key_presses keys c others text e some =
    let P : List ℕ → Type 0 = λ bytes. PressesKey c others (left_of bytes text) (left_of others text) in
    subst P (sym e) (first_presses c others text (rw e at some))

-- the one key of a clerk's line
pub record PressesLine (line others : List ℕ) (given : Option Event) (before after : List Event) : Type 0 where
  pub rest : IsSome (events_of others)
  pub press : Presses given before after

pub clerk_presses : (keys text line others : List ℕ) → length keys ≡ 0 → lines_of text ≡ line ∷ lines_of others → IsSome (events_of text) → voter_line line ≡ None → PressesLine line others (option_map (λ key. Clerk key) (clerk_line line)) (left_of keys text) (left_of keys others)
clerk_presses (c ∷ keys) text line others none split some voter = absurd (omega arith)
clerk_presses [] text line others none split some voter =
    let first = events_of-first text line others split some in
    let one = events_of_line-clerk line voter in
    go (clerk_line line) (rw one at first.here) (first.all ∙ ap (λ o. unwrap_or o [] ++ unwrap_or (events_of others) []) one) first.rest
  where
    go : (o : Option ClerkKey) → IsSome (option_map (λ key. Clerk key ∷ []) o) → unwrap_or (events_of text) [] ≡ unwrap_or (option_map (λ key. Clerk key ∷ []) o) [] ++ unwrap_or (events_of others) [] → IsSome (events_of others) → PressesLine line others (option_map (λ key. Clerk key) o) (left_of [] text) (left_of [] others)
    go None here all rest = absurd (cc)
    go (Some key) here all rest = record { rest = rest; press = record { event = Clerk key; is = refl; left = rw (events_of_keys-nil, all) refl } }

-- the first key of a voter's line
pub voter_presses : (keys text line others bytes : List ℕ) (c : ℕ) (behind : List ℕ) → length keys ≡ 0 → lines_of text ≡ line ∷ lines_of others → IsSome (events_of text) → voter_line line ≡ events_of_keys bytes → IsSome (events_of_keys bytes) → bytes ≡ c ∷ behind → IsSome (events_of others) × PressesKey c behind (left_of keys text) (left_of behind others)
voter_presses (k ∷ keys) text line others bytes c behind none split some voter valid e = absurd (omega arith)
voter_presses [] text line others bytes c behind none split some voter valid e =
    let first = events_of-first text line others split some in
    let keys = events_of_line-voter line bytes voter valid ∙ ap events_of_keys e in
    let press = first_presses c behind others (rw e at valid) in
    let all : left_of [] text ≡ left_of (c ∷ behind) others = rw (events_of_keys-nil, first.all, keys) refl in
    (first.rest, record { rest = press.rest; press = record { event = press.press.event; is = press.press.is; left = all ∙ press.press.left } })
