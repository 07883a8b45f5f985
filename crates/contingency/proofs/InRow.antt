-- Runs in a row, of which one was cut off.
use Rattle.std.proofs.Common.{◌≡◌, inl, inr, Some, List, ◌++◌, refl, sym, subst}
use Rattle.std.specs.Option.{ForSome}
use Rattle.urna_outside.specs.Flash.{Flashes, Op, after}
use Rattle.urna_outside.specs.Told.{Does, Runs, Told}
use Rattle.urna_outside.proofs.Doing.{does-append, told_after}
use Rattle.gate_slot.specs.Front.{IsUpTo}
use Rattle.gate_slot.proofs.Fronts.{front_later, up_to_first}

up_to_behind : (Q R : List Op → Type 0) (xs ops : List Op) → ((ys : List Op) → Q ys → R (xs ++ ys)) → IsUpTo Q ops → IsUpTo R (xs ++ ops)
up_to_behind Q R xs ops joins (inl is) = inl (joins ops is)
up_to_behind Q R xs ops joins (inr (whole, is, front)) = inr (xs ++ whole, joins whole is, front_later xs whole ops front)

-- the first one was cut off, and other operations were to follow
pub first_cut : (P R : Flashes → List Op → Type 0) (rest : Flashes → List Op) (a b : Told) → ((start : Flashes) (xs : List Op) → P start xs → R start (xs ++ rest start))
    → ForSome a.flashes (λ start. Runs (IsUpTo (P start)) a b) → ForSome a.flashes (λ start. Runs (IsUpTo (R start)) a b)
first_cut P R rest a b joins first start told =
    let one = first start told in (
      one.0,
      one.1,
      up_to_first (P start) (λ ys. ys ≡ rest start) (R start) one.0 (rest start)
          (λ xs ys is same. subst (λ (l : List Op). R start (xs ++ l)) (sym same) (joins start xs is)) refl one.2,
    )

-- P of what is told at the start was done, and then Q of what is told there
module _ (P Q R : Flashes → List Op → Type 0) (a b c : Told) (joins : (start : Flashes) → a.flashes ≡ Some start → (xs ys : List Op) → Does xs a b → P start xs → Q (after xs start) ys → R start (xs ++ ys))
    (first : ForSome a.flashes (λ start. Runs (P start) a b)) where
  pub both_done : ForSome b.flashes (λ mid. Runs (Q mid) b c) → ForSome a.flashes (λ start. Runs (R start) a c)
  both_done second start told =
      let one = first start told in
      let two = second (after one.0 start) (told_after one.0 a b start one.1 told) in
      (one.0 ++ two.0, does-append one.0 two.0 a b c one.1 two.1, joins start told one.0 two.0 one.1 one.2 two.2)

  -- or the second one was cut off
  pub second_cut : ForSome b.flashes (λ mid. Runs (IsUpTo (Q mid)) b c) → ForSome a.flashes (λ start. Runs (IsUpTo (R start)) a c)
  second_cut second start told =
      let one = first start told in
      let mid = after one.0 start in
      let two = second mid (told_after one.0 a b start one.1 told) in (
        one.0 ++ two.0,
        does-append one.0 two.0 a b c one.1 two.1,
        up_to_behind (Q mid) (R start) one.0 two.0 (λ ys is. joins start told one.0 ys one.1 one.2 is) two.2,
      )
