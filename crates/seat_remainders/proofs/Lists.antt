-- Members of lists
use Rattle.std.proofs.Common.{◌≡◌, zero, suc, ◌⊎◌, Bool, true, false, List, [], ◌∷◌, inl, inr, refl, arith}
use Rattle.std.specs.List.{AllByRecursion, Contains, list_any}
use Rattle.std.proofs.lemmas.List.Elements.{All-from_recursion, All-contains}
use Rattle.std.proofs.lemmas.List.Folds.{list_any_at, list_any_none}

pub contains_first : {X : Type 0} (x a : X) (xs : List X) → x ≡ a → Contains (x ∷ xs) a
contains_first x a xs e = (zero, omega arith, e)

pub contains_there : {X : Type 0} (y x : X) (xs : List X) → Contains xs x → Contains (y ∷ xs) x
contains_there y x xs (k, lt, e) = (suc k, omega arith, e)

pub contains_cases : {X : Type 0} (y x : X) (xs : List X) → Contains (y ∷ xs) x → (y ≡ x) ⊎ Contains xs x
contains_cases y x xs (zero, lt, e) = inl e
contains_cases y x xs (suc k, lt, e) = inr (k, omega arith, e)

pub of_member : {X : Type 0} (P : X → Type 0) (xs : List X) (x : X) → AllByRecursion P xs → Contains xs x → P x
of_member P xs x all at = All-contains P xs x (All-from_recursion P xs all) at

pub all_of_members : {X : Type 0} (P : X → Type 0) (xs : List X) → ((x : X) → Contains xs x → P x) → AllByRecursion P xs
all_of_members P [] h = tt
all_of_members P (x ∷ xs) h = (h x (contains_first x x xs refl), all_of_members P xs (λ y at. h y (contains_there x y xs at)))

-- one that passes, and none
pub any_of_member : {X : Type 0} (f : X → Bool) (xs : List X) (x : X) → Contains xs x → f x ≡ true → list_any f xs ≡ true
any_of_member f xs x (k, lt, e) h = list_any_at f xs k x lt (rw e h)

pub none_by_recursion : {X : Type 0} (f : X → Bool) (xs : List X) → AllByRecursion (λ x. f x ≡ false) xs → list_any f xs ≡ false
none_by_recursion f xs all = list_any_none f xs (All-from_recursion (λ x. f x ≡ false) xs all)
