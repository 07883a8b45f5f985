-- Members of lists that were made from others, and fronts of lists
use Rattle.std.proofs.Common.{◌≡◌, ℕ, zero, suc, ◌<◌, Bool, true, List, [], ◌∷◌, ◌++◌, length, map, take, filter, Option, Some, inl, inr, refl, sym, ap, ◌∙◌, subst, ◌+◌, arith}
use Rattle.std.specs.Prelude.{slice_get}
use Rattle.std.specs.List.{AllByRecursion, Contains}
use Rattle.std.proofs.lemmas.List.{take_more}
use Rattle.std.proofs.lemmas.List.Elements.{Contains-push_cases}
use Rattle.std.proofs.lemmas.Option.{get_or_from_slice_get, slice_get_within}
use Rattle.std.proofs.lemmas.Bool.{cases_Bool}
use Rattle.seat_remainders.proofs.Lists.{all_of_members, contains_cases, contains_first, contains_there, of_member}

pub contains_map : {X Y : Type 0} (f : X → Y) (xs : List X) (x : X) → Contains xs x → Contains (map f xs) (f x)
contains_map f [] x (k, lt, e) = absurd (omega arith)
contains_map f (y ∷ xs) x at = elim (contains_cases y x xs at) [
  | inl e ↦ contains_first (f y) (f x) (map f xs) (ap f e)
  | inr m ↦ contains_there (f y) (f x) (map f xs) (contains_map f xs x m)
]

pub map_member : {X Y : Type 0} (f : X → Y) (xs : List X) (y : Y) → Contains (map f xs) y → (x : X) × Contains xs x × (f x ≡ y)
map_member f [] y (k, lt, e) = absurd (omega arith)
map_member f (x ∷ xs) y at = elim (contains_cases (f x) y (map f xs) at) [
  | inl e ↦ (x, contains_first x x xs refl, e)
  | inr m ↦ let found = map_member f xs y m in (found.0, contains_there x found.0 xs found.1, found.2)
]

pub contains_filter : {X : Type 0} (p : X → Bool) (xs : List X) (x : X) → Contains xs x → p x ≡ true → Contains (filter p xs) x
contains_filter p [] x (k, lt, e) h = absurd (omega arith)
contains_filter p (y ∷ xs) x at h = elim (cases_Bool (p y)) [
  | inl t ↦ rw t (elim (contains_cases y x xs at) [
    | inl e ↦ contains_first y x (filter p xs) e
    | inr m ↦ contains_there y x (filter p xs) (contains_filter p xs x m h)
  ])
  | inr f ↦ rw f (elim (contains_cases y x xs at) [
    | inl e ↦ let g = ap p e in absurd (cc)
    | inr m ↦ contains_filter p xs x m h
  ])
]

pub filter_member : {X : Type 0} (p : X → Bool) (xs : List X) (x : X) → Contains (filter p xs) x → Contains xs x × (p x ≡ true)
filter_member p [] x (k, lt, e) = absurd (omega arith)
filter_member p (y ∷ xs) x at = elim (cases_Bool (p y)) [
  | inl t ↦
      let here : Contains (y ∷ filter p xs) x = rw t at at in
      elim (contains_cases y x (filter p xs) here) [
        | inl e ↦ (contains_first y x xs e, sym (ap p e) ∙ t)
        | inr m ↦ let found = filter_member p xs x m in (contains_there y x xs found.0, found.1)
      ]
  | inr f ↦
      let here : Contains (filter p xs) x = rw f at at in
      let found = filter_member p xs x here in (contains_there y x xs found.0, found.1)
]

-- the front of a list has what the list has there
pub in_front : {X : Type 0} (xs : List X) (n i : ℕ) (o : Option X) → i < n → slice_get xs i ≡ o → slice_get (take n xs) i ≡ o
in_front [] zero i o lt at = at
in_front [] (suc n) i o lt at = at
in_front (x ∷ xs) zero i o lt at = absurd (omega arith)
in_front (x ∷ xs) (suc n) zero o lt at = at
in_front (x ∷ xs) (suc n) (suc i) o lt at = in_front xs n i o (omega arith) at

pub slice_get_seam : {X : Type 0} (xs : List X) (y : X) (ys : List X) → slice_get (xs ++ y ∷ ys) (length xs) ≡ Some y
slice_get_seam [] y ys = refl
slice_get_seam (x ∷ xs) y ys = slice_get_seam xs y ys

pub slice_get_some : {X : Type 0} (xs : List X) (i : ℕ) → i < length xs → (x : X) × (slice_get xs i ≡ Some x)
slice_get_some [] i lt = absurd (omega arith)
slice_get_some (x ∷ xs) zero lt = (x, refl)
slice_get_some (x ∷ xs) (suc i) lt = slice_get_some xs i (omega arith)

pub take_more_at : {X : Type 0} (xs : List X) (i : ℕ) (x : X) → slice_get xs i ≡ Some x → take (i + 1) xs ≡ take i xs ++ x ∷ []
take_more_at xs i x at = take_more xs i x (slice_get_within xs i x at) ∙ ap (λ (y : _). take i xs ++ y ∷ []) (get_or_from_slice_get xs i x x at)

pub some_same : {X : Type 0} (x y : X) → Some x ≡ Some y → x ≡ y
some_same x y e = cc

-- one element more
pub all_push : {X : Type 0} (P : X → Type 0) (xs ys : List X) (x : X) → ys ≡ xs ++ x ∷ [] → AllByRecursion P xs → P x → AllByRecursion P ys
all_push P xs ys x is all here =
    subst (λ (l : List _). AllByRecursion P l) (sym is) (all_of_members P (xs ++ x ∷ []) (λ y at. elim (Contains-push_cases xs x y at) [ inl m ↦ of_member P xs y all m | inr e ↦ subst P e here ]))

-- one element more of a front
pub all_at : {X : Type 0} (P : X → Type 0) (xs : List X) (i : ℕ) (x : X) → slice_get xs i ≡ Some x → AllByRecursion P (take i xs) → P x → AllByRecursion P (take (i + 1) xs)
all_at P xs i x at all here = all_push P (take i xs) (take (i + 1) xs) x (take_more_at xs i x at) all here
