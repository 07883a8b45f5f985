-- An element that is written in the place of another
use Rattle.std.proofs.Common.{◌≡◌, ℕ, ◌<◌, List, length, get_or, map, slice_set, sym, ap, ◌∙◌}
use Rattle.std.proofs.lemmas.List.{get_or-map, map-set, set-get_or}

-- where f gives of it what it gave before
pub map-set_same : {X Y : Type 0} (f : X → Y) (xs : List X) (i : ℕ) (before after : X) → i < length xs → before ≡ get_or xs i before → f before ≡ f after
    → map f (slice_set xs i after) ≡ map f xs
map-set_same f xs i before after lt read same =
    let was : get_or (map f xs) i (f after) ≡ f after = get_or-map f xs i before (f after) lt ∙ ap f (sym read) ∙ same in
    map-set f xs i after ∙ ap (λ y. slice_set (map f xs) i y) (sym was) ∙ set-get_or (map f xs) i (f after)
