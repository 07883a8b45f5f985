-- Whether there is a value
use Rattle.std.proofs.Common.{◌≡◌, Bool, true, false, cond, ◌&&◌, Option, Some, None, is_some, option_map, refl}
use Rattle.std.specs.Option.{option_and_then}

pub some_map : {A B : Type 0} (f : A → B) (o : Option A) → is_some (option_map f o) ≡ is_some o
some_map f None = refl
some_map f (Some x) = refl

-- behind a test
pub some_test : {A : Type 0} (test : Bool) (o : Option A) → is_some (cond test o None) ≡ (test && is_some o)
some_test true o = refl
some_test false o = refl

pub some_where : {A : Type 0} (test : Bool) (x : A) → is_some (cond test (Some x) None) ≡ test
some_where true x = refl
some_where false x = refl

-- made of two
pub some_both : {A B C : Type 0} (f : A → B → C) (o : Option A) (q : Option B) → is_some (option_and_then (λ a. option_map (f a) q) o) ≡ (is_some o && is_some q)
some_both f None q = refl
some_both f (Some x) q = some_map (f x) q
