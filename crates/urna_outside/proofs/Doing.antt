-- What was done, one run of operations after another.
use Rattle.std.proofs.Common.{◌≡◌, ℕ, Option, Some, None, List, [], ◌∷◌, ◌++◌, refl, sym, ap, subst, ◌∙◌, append_assoc}
use Rattle.std.proofs.lemmas.List.{append-nil}
use Rattle.std.specs.Option.{option_map, ForSome}
use Rattle.urna_outside.specs.Flash.{Op, Put, Sync, Show, Flashes, after_one, after, shown_by}
use Rattle.urna_outside.specs.Told.{Told, Does, Runs}

pub after-append : (xs ys : List Op) (fs : Flashes) → after (xs ++ ys) fs ≡ after ys (after xs fs)
after-append [] ys fs = refl
after-append (x ∷ xs) ys fs = after-append xs ys (after_one x fs)

pub shown_by-append : (xs ys : List Op) → shown_by (xs ++ ys) ≡ shown_by xs ++ shown_by ys
shown_by-append [] ys = refl
shown_by-append (Put d at bytes ∷ xs) ys = shown_by-append xs ys
shown_by-append (Sync d ∷ xs) ys = shown_by-append xs ys
shown_by-append (Show bytes ∷ xs) ys = ap (λ (l : List ℕ). bytes ++ l) (shown_by-append xs ys) ∙ sym (append_assoc bytes (shown_by xs) (shown_by ys))

map_twice : {A : Type 0} (f g h : A → A) → ((x : A) → h x ≡ g (f x)) → (o : Option A) → option_map g (option_map f o) ≡ option_map h o
map_twice f g h is None = refl
map_twice f g h is (Some x) = ap (λ y. Some y) (sym (is x))

map_twice_to : {A : Type 0} (f g h : A → A) → ((x : A) → h x ≡ g (f x)) → (o p q : Option A) → p ≡ option_map f o → q ≡ option_map g p → q ≡ option_map h o
map_twice_to f g h is o p q first second = second ∙ ap (option_map g) first ∙ map_twice f g h is o

-- operations after operations
pub does-append : (xs ys : List Op) (a b c : Told) → Does xs a b → Does ys b c → Does (xs ++ ys) a c
does-append xs ys a b c first second =
    record {
      sizes = second.sizes ∙ first.sizes;
      flashes = map_twice_to (after xs) (after ys) (after (xs ++ ys)) (after-append xs ys) a.flashes b.flashes c.flashes first.flashes second.flashes;
      shown = map_twice_to (λ l. l ++ shown_by xs) (λ l. l ++ shown_by ys) (λ l. l ++ shown_by (xs ++ ys)) (λ l. ap (λ m. l ++ m) (shown_by-append xs ys) ∙ sym (append_assoc l (shown_by xs) (shown_by ys))) a.shown b.shown c.shown first.shown second.shown;
      trail = map_twice_to (λ l. l ++ xs) (λ l. l ++ ys) (λ l. l ++ (xs ++ ys)) (λ l. sym (append_assoc l xs ys)) a.trail b.trail c.trail first.trail second.trail;
    }

map_nothing : {A : Type 0} (f : A → A) → ((x : A) → f x ≡ x) → (o : Option A) → o ≡ option_map f o
map_nothing f is None = refl
map_nothing f is (Some x) = ap (λ y. Some y) (sym (is x))

-- nothing was done
pub does_nothing : (a : Told) → Does [] a a
does_nothing a =
    record {
      sizes = refl;
      flashes = map_nothing (after []) (λ fs. refl) a.flashes;
      shown = map_nothing (λ l. l ++ []) append-nil a.shown;
      trail = map_nothing (λ l. l ++ []) append-nil a.trail;
    }

-- a run after a run, where P and Q of the two lists say R of both in a row
pub runs-append : (P Q R : List Op → Type 0) (a b c : Told) → ((xs ys : List Op) → P xs → Q ys → R (xs ++ ys)) → Runs P a b → Runs Q b c → Runs R a c
runs-append P Q R a b c joined first second =
    (first.0 ++ second.0, does-append first.0 second.0 a b c first.1 second.1, joined first.0 second.0 first.2 second.2)

some_before : {A : Type 0} (f : A → A) (o : Option A) (y : A) → option_map f o ≡ Some y → (x : A) × (o ≡ Some x) × (y ≡ f x)
some_before f None y is = absurd (cc)
some_before f (Some x) y is = let same : f x ≡ y = cc in (x, refl, sym same)

-- what is told after operations
pub told_after : (ops : List Op) (a b : Told) (start : Flashes) → Does ops a b → a.flashes ≡ Some start → b.flashes ≡ Some (after ops start)
told_after ops a b start does told = does.flashes ∙ ap (option_map (after ops)) told

-- what holds after operations from whatever was told holds of what is told
pub then_told : (ops : List Op) (a b : Told) (P : Flashes → Type 0) → Does ops a b → ((start : Flashes) → a.flashes ≡ Some start → P (after ops start)) → ForSome b.flashes P
then_told ops a b P does holds fs told =
    let before = some_before (after ops) a.flashes fs (sym does.flashes ∙ told) in
    subst P (sym before.2) (holds before.0 before.1)
