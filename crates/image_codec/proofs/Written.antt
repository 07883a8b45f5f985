-- What is written one after the other: one more of it, and how long its parts are
use Rattle.std.proofs.Common.{◌≡◌, ℕ, zero, suc, ◌+◌, ◌*◌, ◌<◌, ◌≤◌, Bool, true, false, cond, List, [], ◌∷◌, ◌++◌, length, map, take, get_or, slice_get, Some, option_map, refl, sym, ap, ◌∙◌, append_assoc, arith, length-append}
use Rattle.std.specs.Int.{w32, w64, to_be_bytes}
use Rattle.std.specs.List.{flat_map}
use Rattle.std.proofs.lemmas.Grind.{flat_map-append}
use Rattle.std.proofs.lemmas.List.{append-nil, map-append, take_all, take_more, flat_map_more}
use Rattle.std.proofs.lemmas.Option.{get_or_from_slice_get, slice_get-map}
use Rattle.std.proofs.lemmas.List.FromFn.{length-map-range_with_len}
use Rattle.vote_kinds.specs.declared.choice.Choice.{Choice}
use Rattle.vote_kinds.specs.declared.choice.Choice.TheVariants as choice
use Rattle.vote_record.specs.Bag.{count_of}
use Rattle.vote_record.specs.Counters.{counts_of}
use Rattle.turnout.specs.Turnout.{number_came}
use Rattle.image_codec.specs.State.{State}
use Rattle.image_codec.specs.Encoding.{counts_bytes, eight_places, turnout_bytes, opening_in, closing_in, head_bytes}

-- one member more of those that are written so
pub written_more : {X : Type 0} (f : X → List ℕ) (before : List ℕ) (xs : List X) (i : ℕ) (d : X) → i < length xs
    → (before ++ flat_map f (take i xs)) ++ f (get_or xs i d) ≡ before ++ flat_map f (take (i + 1) xs)
written_more f before xs i d lt =
    append_assoc before (flat_map f (take i xs)) (f (get_or xs i d))
    ∙ ap (λ (t : List ℕ). before ++ t) (flat_map_more f [] (take i xs) (get_or xs i d) ∙ ap (flat_map f) (sym (take_more xs i d lt)))

-- a front of what is written so is no longer than all of it
pub written_fits : {X : Type 0} (f : X → List ℕ) (xs : List X) (i : ℕ) (d : X) → i < length xs
    → length (flat_map f (take i xs)) + length (f (get_or xs i d)) ≤ length (flat_map f xs)
written_fits f [] i d lt = absurd (omega arith)
written_fits f (x ∷ xs) zero d lt = omega (arith, length-append (f x) (flat_map f xs))
written_fits f (x ∷ xs) (suc i) d lt =
    let more = written_fits f xs i d (omega arith) in
    omega (arith, length-append (f x) (flat_map f xs), length-append (f x) (flat_map f (take i xs)))

-- one member more makes it longer by the member
pub written_longer : {X : Type 0} (f : X → List ℕ) (xs : List X) (i : ℕ) (d : X) → i < length xs
    → length (flat_map f (take (i + 1) xs)) ≡ length (flat_map f (take i xs)) + length (f (get_or xs i d))
written_longer f xs i d lt = ap length (sym (written_more f [] xs i d lt)) ∙ length-append (flat_map f (take i xs)) (f (get_or xs i d))

-- What is put behind what was put before

-- after a member more
pub put_more : {X : Type 0} (f : X → List ℕ) (start now after text : List ℕ) (xs : List X) (i : ℕ) (v : X) → slice_get xs i ≡ Some v → i < length xs
    → now ≡ start ++ flat_map f (take i xs) → after ≡ now ++ text → text ≡ f v → after ≡ start ++ flat_map f (take (i + 1) xs)
put_more {X = X} f start now after text xs i v e lt so_far put is =
    put ∙ ap (λ (t : List ℕ). now ++ t) is ∙ ap (λ (t : List ℕ). t ++ f v) so_far
    ∙ ap (λ (x : X). (start ++ flat_map f (take i xs)) ++ f x) (sym (get_or_from_slice_get xs i v v e))
    ∙ written_more f start xs i v lt

-- after the last
pub put_all : {X : Type 0} (f : X → List ℕ) (start now : List ℕ) (xs : List X) (i : ℕ) → length xs ≤ i
    → now ≡ start ++ flat_map f (take i xs) → now ≡ start ++ flat_map f xs
put_all {X = X} f start now xs i all so_far = so_far ∙ ap (λ (t : List X). start ++ flat_map f t) (take_all i xs all)

-- Counters

-- the counter of a choice stands where the choice does
pub count_there : (choices bag : List Choice) (i : ℕ) (c : Choice) → slice_get choices i ≡ Some c → slice_get (counts_of choices bag) i ≡ Some (count_of c bag)
count_there choices bag i c e = slice_get-map (λ d. count_of d bag) choices i ∙ ap (option_map (λ d. count_of d bag)) e

pub get_taken : {X : Type 0} (xs : List X) (n i : ℕ) → i < n → slice_get (take n xs) i ≡ slice_get xs i
get_taken [] zero i lt = refl
get_taken [] (suc n) i lt = refl
get_taken (x ∷ xs) zero i lt = absurd (omega arith)
get_taken (x ∷ xs) (suc n) zero lt = refl
get_taken (x ∷ xs) (suc n) (suc i) lt = get_taken xs n i (omega arith)

-- those of some choices stand before those of the ones behind them
pub counts_append : (front back bag : List Choice) → counts_bytes (front ++ back) bag ≡ counts_bytes front bag ++ counts_bytes back bag
counts_append front back bag =
    ap (flat_map (to_be_bytes w32)) (map-append (λ d. count_of d bag) front back)
    ∙ flat_map-append (to_be_bytes w32) (counts_of front bag) (counts_of back bag)

-- those of a panel stand one after the other
pub counts_in_turn : (nominal party bag : List Choice) (start : List ℕ)
    → (((start ++ counts_bytes nominal bag) ++ counts_bytes party bag) ++ to_be_bytes w32 (count_of choice.Blank bag)) ++ to_be_bytes w32 (count_of choice.Null bag)
    ≡ start ++ counts_bytes (nominal ++ (party ++ choice.Blank ∷ choice.Null ∷ [])) bag
counts_in_turn nominal party bag start =
    let first : List ℕ = counts_bytes nominal bag in
    let second : List ℕ = counts_bytes party bag in
    let blank : List ℕ = to_be_bytes w32 (count_of choice.Blank bag) in
    let null : List ℕ = to_be_bytes w32 (count_of choice.Null bag) in
    append_assoc ((start ++ first) ++ second) blank null
    ∙ append_assoc (start ++ first) second (blank ++ null)
    ∙ append_assoc start first (second ++ (blank ++ null))
    ∙ sym (ap (λ (l : List ℕ). start ++ l)
    (counts_append nominal (party ++ choice.Blank ∷ choice.Null ∷ []) bag
    ∙ ap (λ (l : List ℕ). first ++ l) (counts_append party (choice.Blank ∷ choice.Null ∷ []) bag)
    ∙ ap (λ (l : List ℕ). first ++ (second ++ (blank ++ l))) (append-nil null)))

-- the parties that may be chosen
pub parties_taken : (proportional : Bool) (numbers : List ℕ) (many : ℕ) → length numbers ≤ many
    → map (λ n. choice.Party n) (take (cond proportional many 0) numbers) ≡ cond proportional (map (λ n. choice.Party n) numbers) []
parties_taken true numbers many le = ap (map (λ n. choice.Party n)) (take_all many numbers le)
parties_taken false numbers many le = refl

-- The head

pub length-turnout_bytes : (came : List Bool) → length (turnout_bytes came) ≡ 75
unfolding turnout_bytes
length-turnout_bytes came = length-map-range_with_len (λ k. eight_places came (8 * k)) 0 75

pub length-head_bytes : (version : ℕ) (s : State) → length (head_bytes version s) ≡ 98
length-head_bytes version s =
    let marks = length-turnout_bytes s.came in
    omega (
      arith,
      length-append (to_be_bytes w64 (opening_in s.phase) ++ to_be_bytes w64 (closing_in s.phase) ++ to_be_bytes w32 (number_came s.came) ++ turnout_bytes s.came) (length s.bags ∷ []),
      length-append (to_be_bytes w64 (opening_in s.phase) ++ to_be_bytes w64 (closing_in s.phase) ++ to_be_bytes w32 (number_came s.came)) (turnout_bytes s.came),
    )
