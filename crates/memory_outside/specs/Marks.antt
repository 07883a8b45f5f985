-- Where the marks of a device stand.
use Rattle.std.specs.Prelude.{◌≡◌, ◌⊎◌, ℕ, ◌<◌, ◌≤◌, Bool, false, List, length, get_or}

-- no mark is set before one place, and none from another one on
abbrev pub IsCleanBut : ℕ → ℕ → List Bool → Type 0
IsCleanBut first end marks = (k : ℕ) → k < length marks → (k < first) ⊎ (end ≤ k) → get_or marks k false ≡ false
