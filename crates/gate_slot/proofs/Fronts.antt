-- Fronts of operations in a row.
use Rattle.std.proofs.Common.{ℕ, inl, inr, Result, Ok, Err, List, [], ◌∷◌, ◌++◌, length, OnErr, refl, sym, ap, subst, ◌∙◌, append_assoc}
use Rattle.std.proofs.lemmas.List.{append-nil}
use Rattle.urna_outside.specs.Flash.{Op, Put, Sync, Show}
use Rattle.urna_outside.specs.Told.{Told, Does, Runs, IsTornPut}
use Rattle.urna_outside.specs.declared.device.Dev.{Dev}
use Rattle.urna_outside.proofs.Doing.{does-append}
use Rattle.gate_slot.specs.Front.{IsTornOf, IsFrontOf, IsFrontOfSome, IsUpTo}

none_of : (op : Op) → IsTornOf op []
none_of (Put d at bytes) = inl refl
none_of (Sync d) = refl
none_of (Show bytes) = inl refl

-- nothing is a front of operations of which there is one
none_done : (op : Op) (ops : List Op) → IsFrontOf (op ∷ ops) []
none_done op ops =
    record { before = []; next = op; behind = ops; torn = []; split = refl; torn_is = none_of op; in_row = refl }

-- a front of the first ones
pub front_first : (xs ys ops : List Op) → IsFrontOf xs ops → IsFrontOf (xs ++ ys) ops
front_first xs ys ops front =
    record {
      before = front.before;
      next = front.next;
      behind = front.behind ++ ys;
      torn = front.torn;
      split = ap (λ (l : List Op). l ++ ys) front.split ∙ append_assoc front.before (front.next ∷ front.behind) ys;
      torn_is = front.torn_is;
      in_row = front.in_row;
    }

-- the first ones, and a front of the others
pub front_later : (xs ys ops : List Op) → IsFrontOf ys ops → IsFrontOf (xs ++ ys) (xs ++ ops)
front_later xs ys ops front =
    record {
      before = xs ++ front.before;
      next = front.next;
      behind = front.behind;
      torn = front.torn;
      split = ap (λ (l : List Op). xs ++ l) front.split ∙ sym (append_assoc xs front.before (front.next ∷ front.behind));
      torn_is = front.torn_is;
      in_row = ap (λ (l : List Op). xs ++ l) front.in_row ∙ sym (append_assoc xs front.before front.torn);
    }

pub fronts_none : (op : Op) (ops : List Op) (a b : Told) → Does [] a b → Runs (IsFrontOf (op ∷ ops)) a b
fronts_none op ops a b does = ([], does, none_done op ops)

pub fronts_first : (xs ys : List Op) (a b : Told) → Runs (IsFrontOf xs) a b → Runs (IsFrontOf (xs ++ ys)) a b
fronts_first xs ys a b run = (run.0, run.1, front_first xs ys run.0 run.2)

pub fronts_later : (xs ys : List Op) (a b c : Told) → Does xs a b → Runs (IsFrontOf ys) b c → Runs (IsFrontOf (xs ++ ys)) a c
fronts_later xs ys a b c does run =
    (xs ++ run.0, does-append xs run.0 a b c does run.1, front_later xs ys run.0 run.2)

-- a write that failed, with what was to follow it
pub fronts_torn : (d : Dev) (at : ℕ) (bytes : List ℕ) (ops : List Op) (a b : Told) → Runs (IsTornPut d at (length bytes)) a b → Runs (IsFrontOf (Put d at bytes ∷ ops)) a b
fronts_torn d at bytes ops a b run = (
  run.0,
  run.1,
  record { before = []; next = Put d at bytes; behind = ops; torn = run.0; split = refl; torn_is = run.2; in_row = refl },
)

-- operations that were done, and whose sync failed
pub fronts_unsynced : {T E : Type 0} (r : Result T E) (d : Dev) (xs : List Op) (a b c : Told) → Does xs a b → OnErr r (Does [] b c) → OnErr r (Runs (IsFrontOf (xs ++ Sync d ∷ [])) a c)
fronts_unsynced (Ok x) d xs a b c first second = tt
fronts_unsynced (Err e) d xs a b c first second =
    fronts_later xs (Sync d ∷ []) a b c first (fronts_none (Sync d) [] b c second)

-- whatever was to come first, nothing is a front
pub none_yet : (xs : List Op) (op : Op) (ops : List Op) → IsFrontOf (xs ++ op ∷ ops) []
none_yet [] op ops = none_done op ops
none_yet (x ∷ xs) op ops = none_done x (xs ++ op ∷ ops)

-- The first of two runs in a row was cut off, where there are operations that were to follow.
pub cut_first : (P Q R : List Op → Type 0) (a b : Told) (ys : List Op) → ((xs ys : List Op) → P xs → Q ys → R (xs ++ ys)) → Q ys → Runs (IsFrontOfSome P) a b → Runs (IsFrontOfSome R) a b
cut_first P Q R a b ys joined later run = (
  run.0,
  run.1,
  (run.2.0 ++ ys, joined run.2.0 ys run.2.1 later, front_first run.2.0 ys run.0 run.2.2),
)

-- the second one was
pub cut_later : (P Q R : List Op → Type 0) (a b c : Told) → ((xs ys : List Op) → P xs → Q ys → R (xs ++ ys)) → Runs P a b → Runs (IsFrontOfSome Q) b c → Runs (IsFrontOfSome R) a c
cut_later P Q R a b c joined first run = (
  first.0 ++ run.0,
  does-append first.0 run.0 a b c first.1 run.1,
  (first.0 ++ run.2.0, joined first.0 run.2.0 first.2 run.2.1, front_later first.0 run.2.0 run.0 run.2.2),
)

-- nothing is a front of some operations, or all of them
pub up_to_none : (P : List Op → Type 0) (ops : List Op) → P ops → IsUpTo P []
up_to_none P [] is = inl is
up_to_none P (op ∷ ops) is = inr (op ∷ ops, is, none_done op ops)

pub up_to_as : (P Q : List Op → Type 0) (ops : List Op) → ((xs : List Op) → P xs → Q xs) → IsUpTo P ops → IsUpTo Q ops
up_to_as P Q ops weaker (inl is) = inl (weaker ops is)
up_to_as P Q ops weaker (inr (whole, is, front)) = inr (whole, weaker whole is, front)

-- The first of two lists in a row was done whole or cut off, and of the other one nothing was done.
pub up_to_first : (P Q R : List Op → Type 0) (ops ys : List Op) → ((xs ys : List Op) → P xs → Q ys → R (xs ++ ys)) → Q ys → IsUpTo P ops → IsUpTo R ops
up_to_first P Q R ops [] joined later (inl is) = inl (subst R (append-nil ops) (joined ops [] is later))
up_to_first P Q R ops (y ∷ ys) joined later (inl is) =
    inr (
      ops ++ y ∷ ys,
      joined ops (y ∷ ys) is later,
      subst (IsFrontOf (ops ++ y ∷ ys)) (append-nil ops) (front_later ops (y ∷ ys) [] (none_done y ys)),
    )
up_to_first P Q R ops ys joined later (inr (whole, is, front)) = inr (whole ++ ys, joined whole ys is later, front_first whole ys ops front)

-- the first one was done, and the other one whole or cut off
pub up_to_later : (P Q R : List Op → Type 0) (xs ops : List Op) → ((xs ys : List Op) → P xs → Q ys → R (xs ++ ys)) → P xs → IsUpTo Q ops → IsUpTo R (xs ++ ops)
up_to_later P Q R xs ops joined first (inl is) = inl (joined xs ops first is)
up_to_later P Q R xs ops joined first (inr (whole, is, front)) = inr (xs ++ whole, joined xs whole first is, front_later xs whole ops front)
