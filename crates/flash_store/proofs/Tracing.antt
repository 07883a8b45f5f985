-- What holds of the operations that were done, where the trail is told.
use Rattle.std.proofs.Common.{◌≡◌, ℕ, ◌≤◌, Option, Some, None, IsSome, option_map, List, ◌++◌, refl, sym, ap, subst, ◌∙◌}
use Rattle.std.specs.Option.{ForSome}
use Rattle.std.proofs.lemmas.List.{append_cancel_left}
use Rattle.std.proofs.lemmas.Option.{same_Some}
use Rattle.urna_outside.specs.Flash.{Flashes, Op, after}
use Rattle.urna_outside.specs.Told.{Told, Does, Runs}
use Rattle.gate_slot.specs.Page.{put_bytes}
use Rattle.twin_image.specs.Rewrite.{PutsAtMost}

-- what is told stays told
still_some : {T : Type 0} (f : T → T) (o p : Option T) → p ≡ option_map f o → IsSome o → IsSome p
still_some f None p is some = absurd (cc)
still_some f (Some x) p is some = subst IsSome (sym is) refl

-- where the one tells its trail and its flashes, the other one does
pub record TellsToo (a b : Told) : Type 0 where
  pub trail : IsSome a.trail → IsSome b.trail
  pub flashes : IsSome a.flashes → IsSome b.flashes

pub still_tells : (ops : List Op) (a b : Told) → Does ops a b → TellsToo a b
still_tells ops a b does =
    record {
      trail = still_some (λ before. before ++ ops) a.trail b.trail does.trail;
      flashes = still_some (after ops) a.flashes b.flashes does.flashes;
    }

-- two lists of the operations that were done are one, where the trail is told
same_ops : (xs ys : List Op) (a b : Told) → IsSome a.trail → Does xs a b → Does ys a b → xs ≡ ys
same_ops xs ys a b traced first second = go a.trail refl
  where
    go : (o : Option (List Op)) → a.trail ≡ o → xs ≡ ys
    go None none = let nothing : Option (List Op) = None in let some : IsSome nothing = subst (λ (o : Option (List Op)). IsSome o) none traced in absurd (cc)
    go (Some before) is =
        let both : Some (before ++ xs) ≡ Some (before ++ ys) =
        ap (option_map (λ (l : List Op). l ++ xs)) (sym is) ∙ sym first.trail ∙ second.trail ∙ ap (option_map (λ (l : List Op). l ++ ys)) is in
        append_cancel_left before xs ys (same_Some (before ++ xs) (before ++ ys) both)

-- so what holds of some operations that were done holds of all that were done
pub traced : (P : List Op → Type 0) (a b : Told) (ops : List Op) → IsSome a.trail → Does ops a b → Runs P a b → P ops
traced P a b ops told does run = subst P (same_ops run.0 ops a b told run.1 does) run.2

-- and where the flashes are told too, what is known over them
pub traced_over : (P : List Op → Type 0) (a b : Told) (ops : List Op) → IsSome a.trail → IsSome a.flashes → Does ops a b → ForSome a.flashes (λ start. Runs P a b) → P ops
traced_over P a b ops told there does run = go a.flashes refl
  where
    go : (o : Option Flashes) → a.flashes ≡ o → P ops
    go None none = let nothing : Option Flashes = None in let some : IsSome nothing = subst (λ (o : Option Flashes). IsSome o) none there in absurd (cc)
    go (Some start) is = traced P a b ops told does (run start is)

-- how many bytes they put
pub traced_bytes : (most : ℕ) (a b : Told) (ops : List Op) → IsSome a.trail → Does ops a b → Runs (PutsAtMost most) a b → put_bytes ops ≤ most
traced_bytes most a b ops told does few = traced (PutsAtMost most) a b ops told does few
