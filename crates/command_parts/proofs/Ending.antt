-- How a command ends that took no document, whatever its statuses are
use Rattle.std.proofs.Common.{◌≡◌, ◌≢◌, ℕ, Option, Some, None, IsSomeAnd, refl, sym, ap, subst, ◌∙◌}
use Rattle.std.proofs.lemmas.Option.{same_Some}
use Rattle.urna_outside.specs.Cabinet.{CabinetTold}
use Rattle.command_parts.specs.Taking.{HasTaken}
use Rattle.command_parts.specs.declared.error.CommandError.{CommandError}
use Rattle.command_parts.specs.declared.error.CommandError.TheVariants as error

-- the error of a status that tells one
pub error_told : {S : Type 0} (error_of : S → Option CommandError) (s : S) (P : CommandError → Type 0) → IsSomeAnd (error_of s) P → (e : CommandError) × (error_of s ≡ Some e) × P e
error_told error_of s P h = go (error_of s) h
  where
    go : (o : Option CommandError) → IsSomeAnd o P → (e : CommandError) × (o ≡ Some e) × P e
    go None h = absurd h
    go (Some e) h = (e, refl, h)

-- the status of an error is that of the same error
pub told_by : {S : Type 0} (status_of : CommandError → S) (e f : CommandError) → Some e ≡ Some f → status_of e ≡ status_of f
told_by status_of e f is = ap status_of (same_Some e f is)

-- Statuses of a program: the error that each tells, if it tells one; and the one status that tells an error.
module _ {S : Type 0} (error_of : S → Option CommandError) (status_of : CommandError → S) (only : (s : S) (e : CommandError) → error_of s ≡ Some e → s ≡ status_of e) where
  -- statuses that tell one error are one
  pub one_status : (s u : S) (P Q : CommandError → Type 0) → IsSomeAnd (error_of s) P → IsSomeAnd (error_of u) Q → ((e f : CommandError) → P e → Q f → e ≡ f) → s ≡ u
  one_status s u P Q h i once =
      let first = error_told error_of s P h in
      let second = error_told error_of u Q i in
      only s first.0 first.1 ∙ ap status_of (once first.0 second.0 first.2 second.2) ∙ sym (only u second.0 second.1)

  -- For want of memory, by a fault of the cabinet, or as one that refuses the document.
  pub fault_ends_as : (Ends : S → Type 0) (most : ℕ) (c d : CabinetTold) (Fault : CommandError → Type 0) (s : S) (e : CommandError) → error_of s ≡ Some e
      → (HasTaken most (Some error.Memory) c d → Ends (status_of error.Memory)) → (HasTaken most (Some error.Cabinet) c d → Ends (status_of error.Cabinet))
      → ((u : S) → IsSomeAnd (error_of u) Fault → HasTaken most (error_of u) c d → Ends u) → (e ≢ error.Memory → e ≢ error.Cabinet → Fault e) → HasTaken most (Some e) c d → Ends s
  fault_ends_as Ends most c d Fault s error.Memory is memory cabinet refused found taken = subst Ends (sym (only s error.Memory is)) (memory taken)
  fault_ends_as Ends most c d Fault s error.Cabinet is memory cabinet refused found taken = subst Ends (sym (only s error.Cabinet is)) (cabinet taken)
  fault_ends_as Ends most c d Fault s e is memory cabinet refused found taken =
      refused s (subst (λ (o : Option CommandError). IsSomeAnd o Fault) (sym is) (found (λ same. absurd (cc)) (λ same. absurd (cc))))
      (subst (λ (o : Option CommandError). HasTaken most o c d) (sym is) taken)
