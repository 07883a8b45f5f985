-- The fault of a field text: the first field that may not stand there or is missing, or at which a sum isn't what is said.
use Rattle.std.specs.Prelude.{◌≡◌, ℕ, ◌+◌, Bool, not, ◌==◌, List, [], ◌∷◌, ◌++◌, map, take, Option, Some, None, slice_get}
use Rattle.std.specs.List.{AllByRecursion, find}
use Rattle.std.specs.Option.{option_map_or}
use Rattle.urna_base.specs.Words.{pieces}
use Rattle.qr_text.specs.Said.{Equals, ReportField, Holds, IsSaid, Test, fields, texts}
use Rattle.qr_text.specs.declared.fault.FieldFault.TheVariants as fault
use Rattle.qr_text.specs.declared.fault.FieldFault.{FieldFault}
use Rattle.qr_text.specs.declared.said.Said.{Said}

-- a test fails: what must hold doesn't, or the sum isn't what is said
abbrev pub fails : Test → Bool
fails (Holds fact) = not fact
fails (Equals sum said) = not (sum == said)

-- the first of the tests at a field that fails
abbrev pub failing : List Test → Option Test
failing tests = find fails tests

-- the fault that such a test is at field k
abbrev pub fault_at : ℕ → Test → FieldFault
fault_at k (Holds fact) = fault.Field k
fault_at k (Equals sum said) = fault.Sum k sum said

-- pieces and then their end, which stands in the place of one piece more
abbrev pub ended : List (List ℕ) → List (Option (List ℕ))
ended ps = map (λ p. Some p) ps ++ None ∷ []

-- these fields begin as the text does: the first k pieces are the same, the end counted as one
abbrev pub Begins : ℕ → List ℕ → List ReportField → Type 0
Begins k bytes fs = take k (ended (pieces bytes)) ≡ take k (ended (texts fs))

-- no test at the first k fields fails
abbrev pub Agrees : ℕ → List ReportField → Type 0
Agrees k fs = AllByRecursion (λ f. failing f.tests ≡ None) (take k fs)

-- a text says this, and rightly: its pieces are the fields of it, and no test fails
pub record Says (bytes : List ℕ) (s : Said) : Type 0 where
  pub said : IsSaid s
  pub same : pieces bytes ≡ texts (fields s)
  pub sums : AllByRecursion (λ f. failing f.tests ≡ None) (fields s)

-- The fault of a text. Its first k fields are those of something that may be said, and no test fails at them. At the next field, or
-- at the end in its place, either nothing that may be said begins so, or a test fails, of which the first counts.
pub data IsFieldFault : List ℕ → FieldFault → Type 0 where
  strange : (bytes : List ℕ) (k : ℕ) (s : Said) → IsSaid s → Begins k bytes (fields s) → Agrees k (fields s)
      → ((q : Said) → IsSaid q → Begins (k + 1) bytes (fields q) → ⊥)
      → IsFieldFault bytes (fault.Field (k + 1))
  failed : (bytes : List ℕ) (k : ℕ) (s : Said) → IsSaid s → Begins (k + 1) bytes (fields s) → Agrees k (fields s)
      → (t : Test) → failing (option_map_or (λ f. f.tests) (slice_get (fields s) k) []) ≡ Some t
      → IsFieldFault bytes (fault_at (k + 1) t)
