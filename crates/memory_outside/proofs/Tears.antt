-- A torn flash is one of those that a power cut may leave.
use Rattle.std.proofs.Common.{◌≡◌, ℕ, zero, suc, Bool, false, if◌then◌else◌, List, [], ◌∷◌, length, get_or, map, Result, Ok, Err, IfOk, refl, sym, ap, subst, arith}
use Rattle.std.specs.List.{zip}
use Rattle.urna_outside.specs.Flash.{Flash, IsImage}
use Rattle.memory_outside.specs.Tear.{torn}
use Rattle.memory_outside.specs.declared.tear.Tear.{Tear}
use Rattle.memory_outside.specs.declared.tear.Tear.TheVariants.{AsPut, Byte}

length-torn : (b : ℕ) (xs : List ℕ) (marks : List Bool) → length marks ≡ length xs → length (map (λ (p : ℕ × Bool). if p.1 then b else p.0) (zip xs marks)) ≡ length xs
length-torn b [] marks same = refl
length-torn b (x ∷ xs) [] same = absurd (omega (arith, same))
length-torn b (x ∷ xs) (m ∷ marks) same = ap suc (length-torn b xs marks (omega (arith, same)))

torn_clean : (b : ℕ) (xs : List ℕ) (marks : List Bool) (k : ℕ) → length marks ≡ length xs → get_or marks k false ≡ false → get_or (map (λ (p : ℕ × Bool). if p.1 then b else p.0) (zip xs marks)) k 0 ≡ get_or xs k 0
torn_clean b [] marks k same clean = refl
torn_clean b (x ∷ xs) [] k same clean = absurd (omega (arith, same))
torn_clean b (x ∷ xs) (m ∷ marks) zero same clean = ap (λ (t : Bool). if t then b else x) clean
torn_clean b (x ∷ xs) (m ∷ marks) (suc k) same clean = torn_clean b xs marks k (omega (arith, same)) clean

pub torn_is_image : (tear : Tear) (flash : Flash) → length flash.dirty ≡ length flash.content → IsImage flash (torn tear flash)
torn_is_image AsPut flash same = record { same_length = refl; clean = λ k clean. refl }
torn_is_image (Byte b) flash same =
    record {
      same_length = length-torn b flash.content flash.dirty same;
      clean = λ k clean. torn_clean b flash.content flash.dirty k same clean;
    }

-- and so is what a call gives that gives it
pub given_is_image : {X E : Type 0} (items : X → List ℕ) (r : Result X E) (flash : Flash) (image : List ℕ) → IsImage flash image → IfOk r (λ v. items v ≡ image) → IfOk r (λ v. IsImage flash (items v))
given_is_image items (Ok v) flash image is same = subst (IsImage flash) (sym same) is
given_is_image items (Err e) flash image is same = tt
