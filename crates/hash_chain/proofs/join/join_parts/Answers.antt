use Rattle.std.proofs.Common.{◌≡◌, ◌≢◌, ℕ, List, ◌<◌, ◌^◌, length, refl, ap, arith}
use Rattle.std.specs.Prelude.{Result, Ok, Err, MatchResult, Vec}
use Rattle.hash_chain.proofs.Faults.{never_both, one_fault, one_text}
use Rattle.hash_chain.proofs.join.join_parts.Goals as goal
use Rattle.hash_chain.specs.Fault.{ArePartsOf, IsPartFault}
use Rattle.hash_chain.specs.Reading.{MatchRead}
use Rattle.hash_chain.specs.declared.fault.PartError.{PartError}
use Rattle.hash_chain.specs.declared.fault.PartError.TheVariants.{Memory, Fault}
use Rattle.hash_chain.specs.declared.fault.PartFault.{PartFault}

-- the answer is the one that there is
abbrev Answered : {Z : Type 0} → List ℕ → Result (Vec ℕ Z) PartError → Type 0
Answered bytes r = MatchRead r (λ t. ArePartsOf bytes t.items) (λ f. IsPartFault bytes f)

ok_there : {Z : Type 0} (bytes : List ℕ) (r : Result (Vec ℕ Z) PartError) → length bytes < 2 ^ 63 → Answered bytes r → r ≢ Err Memory → (text : List ℕ) → ArePartsOf bytes text → MatchResult r (λ t. t.items ≡ text) (λ e. ⊥)
ok_there bytes (Ok t) short h other text s = one_text bytes t.items text short h s
ok_there bytes (Err Memory) short h other text s = other refl
ok_there bytes (Err (Fault f)) short h other text s = never_both bytes text f short h s

fault_there : {Z : Type 0} (bytes : List ℕ) (r : Result (Vec ℕ Z) PartError) → length bytes < 2 ^ 63 → Answered bytes r → r ≢ Err Memory → (f : PartFault) → IsPartFault bytes f → r ≡ Err (Fault f)
fault_there bytes (Ok t) short h other f s = absurd (never_both bytes t.items f short s h)
fault_there bytes (Err Memory) short h other f s = absurd (other refl)
fault_there bytes (Err (Fault g)) short h other f s = ap (λ (x : PartFault). Err (Fault x)) (one_fault bytes g f h s)

pub returns-clause-ok_there : goal.returns-clause-ok_there
returns-clause-ok_there c = let few = c.requires in ok_there c.args.bytes.now c.read_parts.result (omega arith) c.read_parts.ensures

pub returns-clause-fault_there : goal.returns-clause-fault_there
returns-clause-fault_there c = let few = c.requires in fault_there c.args.bytes.now c.read_parts.result (omega arith) c.read_parts.ensures
