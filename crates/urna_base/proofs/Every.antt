-- What is so of each element of two lists is so of both together, and of a front; and what is so of each image of a list.
use Rattle.std.proofs.Common.{ℕ, zero, suc, List, [], ◌∷◌, ◌++◌, map, take}
use Rattle.std.specs.List.{AllByRecursion}

module _ {X : Type 0} (P : X → Type 0) where
  pub every_append : (xs ys : List X) → AllByRecursion P xs → AllByRecursion P ys → AllByRecursion P (xs ++ ys)
  every_append [] ys first rest = rest
  every_append (x ∷ xs) ys first rest = (first.0, every_append xs ys first.1 rest)

  pub every_apart : (xs ys : List X) → AllByRecursion P (xs ++ ys) → AllByRecursion P xs × AllByRecursion P ys
  every_apart [] ys all = (tt, all)
  every_apart (x ∷ xs) ys all = let rest = every_apart xs ys all.1 in ((all.0, rest.0), rest.1)

  pub every_take : (n : ℕ) (xs : List X) → AllByRecursion P xs → AllByRecursion P (take n xs)
  every_take zero xs all = tt
  every_take (suc n) [] all = tt
  every_take (suc n) (x ∷ xs) all = (all.0, every_take n xs all.1)

  pub every_map : {A : Type 0} (f : A → X) (xs : List A) → ((x : A) → P (f x)) → AllByRecursion P (map f xs)
  every_map f [] all = tt
  every_map f (x ∷ xs) all = (all x, every_map f xs all)
