-- Worked rows of what marks mean
use Rattle.std.proofs.Common.{◌≡◌, true, false, [], ◌∷◌, refl}
use Rattle.turnout.specs.Turnout.{has_come, number_came}

two_of_three : number_came (true ∷ false ∷ true ∷ []) ≡ 2
two_of_three = refl

the_third_came : has_come (true ∷ false ∷ true ∷ []) 2 ≡ true
the_third_came = refl

no_fourth : has_come (true ∷ false ∷ true ∷ []) 3 ≡ false
no_fourth = refl
