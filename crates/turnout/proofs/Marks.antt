-- How marks are counted
use Rattle.std.proofs.Common.{◌≡◌, ℕ, zero, suc, ◌+◌, ◌<◌, ◌≤◌, ◌≢◌, Bool, true, false, cond, List, [], ◌∷◌, length, refl, ap, ◌∙◌, arith, slice_set, replicate}
use Rattle.std.proofs.Math.ListN.{length-set}
use Rattle.std.proofs.lemmas.List.Sums.{sum_by-cons, count_by-le-length}
use Rattle.turnout.specs.Turnout.{has_come, number_came}

-- one mark more at the front
number_came-cons : (mark : Bool) (came : List Bool) → number_came (mark ∷ came) ≡ cond mark 1 0 + number_came came
number_came-cons mark came = sum_by-cons (λ m. cond m 1 0) mark came

-- no more came than there are places
pub number_came-le-length : (came : List Bool) → number_came came ≤ length came
number_came-le-length came = count_by-le-length (λ m. m) came

-- nobody came where there are no marks
pub number_came-replicate : (voters : ℕ) → number_came (replicate voters false) ≡ 0
number_came-replicate zero = refl
number_came-replicate (suc voters) =
    let none = number_came-replicate voters in
    let more = number_came-cons false (replicate voters false) in
    omega arith

-- one who had not come makes one more
pub number_came-set : (came : List Bool) (place : ℕ) → place < length came → has_come came place ≡ false
    → number_came (slice_set came place true) ≡ number_came came + 1
number_came-set [] place known absent = absurd (omega arith)
number_came-set (mark ∷ came) zero known absent =
    let before = number_came-cons mark came in
    let after = number_came-cons true came in
    let unmarked : cond {A = ℕ} mark 1 0 ≡ 0 = ap (λ (m : Bool). cond {A = ℕ} m 1 0) absent in
    omega arith
number_came-set (mark ∷ came) (suc place) known absent =
    let before = number_came-cons mark came in
    let after = number_came-cons mark (slice_set came place true) in
    let more = number_came-set came place (omega arith) absent in
    omega arith

-- a roll of which somebody has not come has more places than came
pub number_came-lt-length : (came : List Bool) (place : ℕ) → place < length came → has_come came place ≡ false → number_came came < length came
number_came-lt-length came place known absent =
    let more = number_came-set came place known absent in
    let most = number_came-le-length (slice_set came place true) in
    omega (arith, length-set came place true)

-- the set of places

pub has_come-replicate : (voters place : ℕ) → has_come (replicate voters false) place ≡ false
has_come-replicate zero place = refl
has_come-replicate (suc voters) zero = refl
has_come-replicate (suc voters) (suc place) = has_come-replicate voters place

pub has_come-set_same : (came : List Bool) (place : ℕ) → place < length came → has_come (slice_set came place true) place ≡ true
has_come-set_same [] place known = absurd (omega arith)
has_come-set_same (mark ∷ came) zero known = refl
has_come-set_same (mark ∷ came) (suc place) known = has_come-set_same came place (omega arith)

pub has_come-set_other : (came : List Bool) (place other : ℕ) → other ≢ place → has_come (slice_set came place true) other ≡ has_come came other
has_come-set_other [] place other apart = refl
has_come-set_other (mark ∷ came) zero zero apart = absurd (apart refl)
has_come-set_other (mark ∷ came) zero (suc other) apart = refl
has_come-set_other (mark ∷ came) (suc place) zero apart = refl
has_come-set_other (mark ∷ came) (suc place) (suc other) apart = has_come-set_other came place other (λ e. apart (ap suc e))

-- marks of as many places, by which the same came, are the same
pub same_came : (a b : List Bool) → length a ≡ length b → ((place : ℕ) → has_come a place ≡ has_come b place) → a ≡ b
same_came [] [] e h = refl
same_came [] (y ∷ ys) e h = absurd (omega arith)
same_came (x ∷ xs) [] e h = absurd (omega arith)
same_came (x ∷ xs) (y ∷ ys) e h =
    let first : x ≡ y = h 0 in
    let rest : xs ≡ ys = same_came xs ys (omega arith) (λ place. h (suc place)) in
    ap (λ (m : Bool). m ∷ xs) first ∙ ap (λ (m : List Bool). y ∷ m) rest
