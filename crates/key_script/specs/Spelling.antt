-- How events are written, a line at a time.
use Rattle.std.specs.Prelude.{◌≡◌, ℕ, ◌+◌, ◌↔◌, List, [], ◌∷◌, ◌++◌, map, codes, All, Some}
use Rattle.urna_base.specs.Digits.{padded}
use Rattle.key_script.specs.declared.keys.Key.{Key}
use Rattle.key_script.specs.declared.keys.Key.TheVariants.{Digit, Blank, Correct, Confirm}
use Rattle.key_script.specs.declared.keys.ClerkKey.{ClerkKey}
use Rattle.key_script.specs.declared.keys.ClerkKey.TheVariants.{Abre, Titulo, Libera, Cancela, Suspende, Encerra}
use Rattle.key_script.specs.declared.keys.Event.{Event}
use Rattle.key_script.specs.declared.keys.Event.TheVariants.{Clerk, Voter}
use Rattle.key_script.specs.Event.{IsKey, IsClerkKey}
use Rattle.key_script.specs.Script.{events_of_line}

-- the line of a clerk's key
abbrev pub clerk_text : ClerkKey → List ℕ
clerk_text (Abre moment) = codes "M ABRE " ++ padded 14 moment
clerk_text (Titulo title) = codes "M TITULO " ++ padded 12 title
clerk_text Libera = codes "M LIBERA"
clerk_text Cancela = codes "M CANCELA"
clerk_text Suspende = codes "M SUSPENDE"
clerk_text (Encerra moment) = codes "M ENCERRA " ++ padded 14 moment

-- the byte of a voter's key: a digit's, 'B' (66), 'R' (82) or 'C' (67)
abbrev pub key_byte : Key → ℕ
key_byte (Digit d) = 48 + d
key_byte Blank = 66
key_byte Correct = 82
key_byte Confirm = 67

-- the line of several keys of the voter
abbrev pub keys_text : List Key → List ℕ
keys_text keys = codes "E " ++ map key_byte keys

-- a line spells events: one valid key of the clerk, or at least one valid key of the voter
pub data Spells : List ℕ → List Event → Type 0 where
  clerk : (key : ClerkKey) → IsClerkKey key → Spells (clerk_text key) (Clerk key ∷ [])
  voter : (key : Key) (keys : List Key) → All IsKey (key ∷ keys) → Spells (keys_text (key ∷ keys)) (map (λ k. Voter k) (key ∷ keys))

-- the events of a line are those that it spells, and a line that spells none has none
abbrev pub LinesAreSpelled : Type 0
LinesAreSpelled = (line : List ℕ) (events : List Event) → (events_of_line line ≡ Some events) ↔ Spells line events
