-- Slots have their turns in order.
use Rattle.std.proofs.Common.{◌≡◌, ℕ, Result, Ok, Err, List, ◌++◌, IfErr, OnOk, OnErr, refl, sym, subst}
use Rattle.std.specs.Option.{ForSome}
use Rattle.urna_outside.specs.Flash.{Op, after}
use Rattle.urna_outside.specs.Told.{Told, Does, Runs}
use Rattle.urna_outside.specs.declared.device.Dev.{Dev}
use Rattle.urna_outside.specs.declared.device.Dev.TheVariants.{Internal, External}
use Rattle.urna_outside.proofs.Doing.{does-append, runs-append, told_after}
use Rattle.gate_slot.specs.Front.{IsFrontOf, IsFrontOfSome, RunsUpTo}
use Rattle.gate_slot.specs.Slot.{shut_ops, publish_ops}
use Rattle.gate_slot.specs.Token.{IsTornAt}
use Rattle.gate_slot.specs.declared.slot.Slot.{Slot}
use Rattle.gate_slot.specs.declared.slot.Step.{Step}
use Rattle.gate_slot.specs.declared.slot.Torn.{Torn}
use Rattle.gate_slot.proofs.Fronts.{cut_first, cut_later}
use Rattle.twin_image.specs.Cut.{IsRenewalCutIn, IsSecondCutIn, IsTurnCutIn, before_step, step_ops}
use Rattle.twin_image.specs.Order.{IsTurn, IsRenewal, AreRenewals}
use Rattle.twin_image.specs.Rewrite.{rewrite_ops}

-- P and Q of two lists say R of both in a row
abbrev pub Joins : (List Op → Type 0) → (List Op → Type 0) → (List Op → Type 0) → Type 0
Joins P Q R = (xs ys : List Op) → P xs → Q ys → R (xs ++ ys)

-- the first of two runs in a row was cut off
pub cut_early : (P Q R : List Op → Type 0) (a b : Told) (ys : List Op) → Joins P Q R → Q ys → ForSome a.flashes (λ start. Runs (IsFrontOfSome P) a b) → ForSome a.flashes (λ start. Runs (IsFrontOfSome R) a b)
cut_early P Q R a b ys joins later first start told = cut_first P Q R a b ys joins later (first start told)

-- the second one was
pub cut_in_row : (P Q R : List Op → Type 0) (a b c : Told) → Joins P Q R → ForSome a.flashes (λ start. Runs P a b) → ForSome b.flashes (λ mid. Runs (IsFrontOfSome Q) b c) → ForSome a.flashes (λ start. Runs (IsFrontOfSome R) a c)
cut_in_row P Q R a b c joins first second start told =
    let one = first start told in
    let two = second (after one.0 start) (told_after one.0 a b start one.1 told) in
    cut_later P Q R a b c joins one two

-- both were done
pub in_row : (P Q R : List Op → Type 0) (a b c : Told) → Joins P Q R → ForSome a.flashes (λ start. Runs P a b) → ForSome b.flashes (λ mid. Runs Q b c) → ForSome a.flashes (λ start. Runs R a c)
in_row P Q R a b c joins first second start told =
    let one = first start told in
    let two = second (after one.0 start) (told_after one.0 a b start one.1 told) in
    runs-append P Q R a b c joins one two

-- what was done is known, as far as the flashes are told, and what behind it
pub does_behind : (xs ys : List Op) (a b c : Told) → ForSome a.flashes (λ start. Does xs a b) → Does ys b c → ForSome a.flashes (λ start. Does (xs ++ ys) a c)
does_behind xs ys a b c first second start told = does-append xs ys a b c (first start told) second

-- all that is done of an open slot
abbrev pub turn_ops : ℕ → Dev → ℕ → List ℕ → List ℕ → List Op
turn_ops size d index old new = shut_ops size d index ++ rewrite_ops size d index old new ++ publish_ops size d index

pub turn_is : (size : ℕ) (d : Dev) (index : ℕ) (old new : List ℕ) → IsTurn size d index old new (turn_ops size d index old new)
turn_is size d index old new = record { body = rewrite_ops size d index old new; body_is = refl; in_row = refl }

-- it was cut off, or done
pub turn_cut : (size : ℕ) (d : Dev) (index : ℕ) (old new : List ℕ) (a b : Told) → Runs (IsFrontOf (turn_ops size d index old new)) a b → Runs (IsFrontOfSome (IsTurn size d index old new)) a b
turn_cut size d index old new a b cut = (cut.0, cut.1, (turn_ops size d index old new, turn_is size d index old new, cut.2))

pub turn_up_to : {T E : Type 0} (r : Result T E) (size : ℕ) (d : Dev) (index : ℕ) (old new : List ℕ) (a b : Told) → OnOk r (Does (turn_ops size d index old new) a b) → OnErr r (Runs (IsFrontOf (turn_ops size d index old new)) a b)
    → RunsUpTo r (IsTurn size d index old new) a b
turn_up_to (Ok x) size d index old new a b done cut = (turn_ops size d index old new, done, turn_is size d index old new)
turn_up_to (Err e) size d index old new a b done cut = turn_cut size d index old new a b cut

-- it was cut off in a step, which is that of the token
pub turn_cut_in : (size : ℕ) (d : Dev) (index : ℕ) (old new : List ℕ) (step at : Step) (a b c : Told) → step ≡ at → ForSome a.flashes (λ start. Does (before_step size d index old new at) a b) → Runs (IsFrontOf (step_ops size d index old new at)) b c
    → ForSome a.flashes (λ start. Runs (IsTurnCutIn size d index old new step) a c)
turn_cut_in size d index old new step at a b c is done cut start told =
    let before = before_step size d index old new at in
    subst (λ (s : Step). Runs (IsTurnCutIn size d index old new s) a c) (sym is)
    (before ++ cut.0, does-append before cut.0 a b c (done start told) cut.1, record { front = cut.0; front_is = cut.2; in_row = refl })

pub turn_cut_if_torn : {T : Type 0} {SIZE : ℕ} (r : Result T (Torn SIZE)) (slot : Slot SIZE) (size : ℕ) (d : Dev) (index : ℕ) (old new : List ℕ) (at : Step) (a b c : Told) → IfErr r (IsTornAt slot at) → ForSome a.flashes (λ start. Does (before_step size d index old new at) a b) → OnErr r (Runs (IsFrontOf (step_ops size d index old new at)) b c)
    → IfErr r (λ torn. ForSome a.flashes (λ start. Runs (IsTurnCutIn size d index old new torn.step) a c))
turn_cut_if_torn (Ok x) slot size d index old new at a b c is done cut = tt
turn_cut_if_torn (Err torn) slot size d index old new at a b c is done cut =
    turn_cut_in size d index old new torn.step at a b c is.1 done cut

-- the turns of a device, and the renewals of both
pub turns_join : (size : ℕ) (d : Dev) (old new : List ℕ) → Joins (IsTurn size d 0 old new) (IsTurn size d 1 old new) (IsRenewal size d old new)
turns_join size d old new xs ys first second =
    record { first = xs; second = ys; first_is = first; second_is = second; in_row = refl }

pub renewals_join : (size : ℕ) (old new : List ℕ) → Joins (IsRenewal size Internal old new) (IsRenewal size External old new) (AreRenewals size old new)
renewals_join size old new xs ys internal external =
    record { internal = xs; external = ys; internal_is = internal; external_is = external; in_row = refl }

-- all that is done of a device
abbrev pub renewal_ops : ℕ → Dev → List ℕ → List ℕ → List Op
renewal_ops size d old new = turn_ops size d 0 old new ++ turn_ops size d 1 old new

pub renewal_is : (size : ℕ) (d : Dev) (old new : List ℕ) → IsRenewal size d old new (renewal_ops size d old new)
renewal_is size d old new =
    turns_join size d old new (turn_ops size d 0 old new) (turn_ops size d 1 old new) (turn_is size d 0 old new) (turn_is size d 1 old new)

-- a renewal was cut off in the turn of slot 0
pub renewal_cut_first : (size : ℕ) (d : Dev) (old new : List ℕ) (index : ℕ) (step : Step) (a b : Told) → index ≡ 0 → ForSome a.flashes (λ start. Runs (IsTurnCutIn size d 0 old new step) a b) → ForSome a.flashes (λ start. Runs (IsRenewalCutIn size d old new index step) a b)
renewal_cut_first size d old new index step a b is cut =
    subst (λ (k : ℕ). ForSome a.flashes (λ start. Runs (IsRenewalCutIn size d old new k step) a b)) (sym is) cut

second_cut_joins : (size : ℕ) (d : Dev) (old new : List ℕ) (step : Step) → Joins (IsTurn size d 0 old new) (IsTurnCutIn size d 1 old new step) (IsSecondCutIn size d old new step)
second_cut_joins size d old new step xs ys first rest =
    record { first = xs; rest = ys; first_is = first; rest_is = rest; in_row = refl }

-- and in that of slot 1
pub renewal_cut_second : (size : ℕ) (d : Dev) (old new : List ℕ) (index : ℕ) (step : Step) (a b c : Told) → index ≡ 1 → ForSome a.flashes (λ start. Runs (IsTurn size d 0 old new) a b) → ForSome b.flashes (λ mid. Runs (IsTurnCutIn size d 1 old new step) b c)
    → ForSome a.flashes (λ start. Runs (IsRenewalCutIn size d old new index step) a c)
renewal_cut_second size d old new index step a b c is first cut =
    subst (λ (k : ℕ). ForSome a.flashes (λ start. Runs (IsRenewalCutIn size d old new k step) a c)) (sym is)
    (in_row (IsTurn size d 0 old new) (IsTurnCutIn size d 1 old new step) (IsSecondCutIn size d old new step) a b c (second_cut_joins size d old new step) first cut)
