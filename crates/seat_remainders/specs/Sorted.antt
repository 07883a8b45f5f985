-- Averages as a sort leaves them, where one could stand twice
use Rattle.std.specs.Prelude.{◌≡◌, false, List, [], ◌∷◌}
use Rattle.std.specs.List.{AllByRecursion}
use Rattle.quotients.specs.Average.{AverageData, comes_before}

-- none comes before one that stands in front of it
abbrev pub NeverDescend : List AverageData → Type 0
NeverDescend [] = Unit {0}
NeverDescend (a ∷ averages) = AllByRecursion (λ b. comes_before b a ≡ false) averages × NeverDescend averages
