-- The image of a flash that a tear makes.
use Rattle.std.specs.Prelude.{ℕ, List, Bool, if◌then◌else◌, map}
use Rattle.std.specs.List.{zip}
use Rattle.urna_outside.specs.Flash.{Flash}
use Rattle.memory_outside.specs.declared.tear.Tear.{Tear}
use Rattle.memory_outside.specs.declared.tear.Tear.TheVariants.{AsPut, Byte}

-- bytes with this one in the place of each that has a mark
abbrev pub with_byte : ℕ → List ℕ → List Bool → List ℕ
with_byte b bytes marks = map (λ p. if p.1 then b else p.0) (zip bytes marks)

-- clean bytes as reads give them, and dirty ones as the tear leaves them
abbrev pub torn : Tear → Flash → List ℕ
torn AsPut flash = flash.content
torn (Byte b) flash = with_byte b flash.content flash.dirty
