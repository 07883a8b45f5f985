-- The body that a survey found.
use Rattle.std.specs.Prelude.{ℕ, List}
use Rattle.twin_image.specs.declared.found.Found.{Found}

abbrev pub found_body : {SIZE : ℕ} → Found SIZE → List ℕ
found_body found = found.body.items
