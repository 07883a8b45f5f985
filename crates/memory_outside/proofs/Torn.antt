-- A write and a show that failed.
use Rattle.std.proofs.Common.{◌≡◌, ℕ, ◌≤◌, inl, inr, List, [], ◌∷◌, ◌++◌, Result, Ok, Err, OnErr, length, take, drop, take-append-drop, length-take, refl, sym, arith}
use Rattle.memory_outside.specs.Room.{Room, put_of, show_of, torn_length, torn_part}
use Rattle.urna_outside.specs.Told.{Told, Does, Runs, IsTornPut, IsTornShow}
use Rattle.urna_outside.specs.declared.device.Dev.{Dev}

part_torn : (dev : Dev) (at n : ℕ) (some : List ℕ) → length some ≤ n → IsTornPut dev at n (put_of dev at some)
part_torn dev at n [] within = inl refl
part_torn dev at n (byte ∷ some) within =
    inr (at, byte ∷ some, omega arith, omega arith, omega (arith, within), refl)

-- what it put lies in its range
pub runs_torn_put : {T E : Type 0} (r : Result T E) (room : Room) (dev : Dev) (at : ℕ) (bytes : List ℕ) (a b : Told) → Does (put_of dev at (torn_part room bytes)) a b
    → OnErr r (Runs (IsTornPut dev at (length bytes)) a b)
runs_torn_put (Ok x) room dev at bytes a b does = tt
runs_torn_put (Err e) room dev at bytes a b does =
    let some = torn_part room bytes in
    let short : length some ≤ length bytes = omega (arith, length-take (torn_length room (length bytes)) bytes) in
    (put_of dev at some, does, part_torn dev at (length bytes) some short)

front_torn : (some back text : List ℕ) → text ≡ some ++ back → IsTornShow text (show_of some)
front_torn [] back text split = inl refl
front_torn (byte ∷ some) back text split = inr (byte ∷ some, back, omega arith, split, refl)

-- what it showed is a front of its text
pub runs_torn_show : {T E : Type 0} (r : Result T E) (room : Room) (text : List ℕ) (a b : Told) → Does (show_of (torn_part room text)) a b → OnErr r (Runs (IsTornShow text) a b)
runs_torn_show (Ok x) room text a b does = tt
runs_torn_show (Err e) room text a b does =
    let n = torn_length room (length text) in
    (show_of (take n text), does, front_torn (take n text) (drop n text) text (sym (take-append-drop n text)))
