-- The keys of the voter and of the clerk, and which are valid.
use Rattle.std.specs.Prelude.{◌^◌, ◌<◌, ◌≤◌, Bool, true, false, IsTrue, List, [], ◌∷◌}
use Rattle.urna_base.specs.Moment.{is_moment}
use Rattle.key_script.specs.declared.keys.Key.{Key}
use Rattle.key_script.specs.declared.keys.Key.TheVariants.{Digit, Blank, Correct, Confirm}
use Rattle.key_script.specs.declared.keys.ClerkKey.{ClerkKey}
use Rattle.key_script.specs.declared.keys.ClerkKey.TheVariants.{Abre, Titulo, Libera, Cancela, Suspende, Encerra}
use Rattle.key_script.specs.declared.keys.Event.{Event}
use Rattle.key_script.specs.declared.keys.Event.TheVariants.{Clerk, Voter}

-- a digit is at most 9
abbrev pub IsKey : Key → Type 0
IsKey (Digit d) = d ≤ 9
IsKey Blank = Unit {0}
IsKey Correct = Unit {0}
IsKey Confirm = Unit {0}

-- a moment is valid, and a title has 12 digits
abbrev pub IsClerkKey : ClerkKey → Type 0
IsClerkKey (Abre moment) = IsTrue (is_moment moment)
IsClerkKey (Titulo title) = title < 10 ^ 12
IsClerkKey Libera = Unit {0}
IsClerkKey Cancela = Unit {0}
IsClerkKey Suspende = Unit {0}
IsClerkKey (Encerra moment) = IsTrue (is_moment moment)

-- an event is valid where its key is
abbrev pub IsEvent : Event → Type 0
IsEvent (Clerk key) = IsClerkKey key
IsEvent (Voter key) = IsKey key

-- the key is CORRIGE
abbrev pub is_correct : Key → Bool
is_correct (Digit d) = false
is_correct Blank = false
is_correct Correct = true
is_correct Confirm = false

-- the key is CONFIRMA
abbrev pub is_confirm : Key → Bool
is_confirm (Digit d) = false
is_confirm Blank = false
is_confirm Correct = false
is_confirm Confirm = true

-- the voter's keys among the events, in order
abbrev pub keys_of : List Event → List Key
keys_of [] = []
keys_of (Clerk key ∷ events) = keys_of events
keys_of (Voter key ∷ events) = key ∷ keys_of events
