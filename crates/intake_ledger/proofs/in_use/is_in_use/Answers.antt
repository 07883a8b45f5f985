use Rattle.std.proofs.Common.{◌≡◌, ◌↔◌, ◌⊎◌, inl, inr, Bool, true, false, List, ℕ, take, IsTrue}
use Rattle.urna_outside.specs.Flash.{flash_of}
use Rattle.flash_store.proofs.Looking.{alike, looked, looked_twice}
use Rattle.intake_ledger.specs.Header.{magic}
use Rattle.intake_ledger.specs.Kept.{IsInUse, IsUsed}
use Rattle.intake_ledger.proofs.in_use.is_in_use.Goals as goal

-- where the magic stands and slot 0 isn't used, slot 1 decides
second_decides : (begins first second : Bool) (content : List ℕ) → (IsTrue begins ↔ (take 8 content ≡ magic)) → begins ≡ true → (IsTrue first ↔ IsUsed 0 content) → first ≡ false → (IsTrue second ↔ IsUsed 1 content)
    → (IsTrue second ↔ IsInUse content)
second_decides begins first second content magic_there begun first_used unused second_used = (
  λ (used : IsTrue second). record { begins = alike begins begun magic_there; used = inr (second_used.0 used) },
  λ busy. either busy.used,
)
  where
    either : IsUsed 0 content ⊎ IsUsed 1 content → IsTrue second
    either (inl there) = let is : first ≡ true = first_used.1 there in absurd (cc)
    either (inr there) = second_used.1 there

pub returns-clause-used : goal.returns-clause-used
returns-clause-used g c fs told =
    second_decides _ _ _ (flash_of c.args.dev fs).content (c.in_ok-stand_at.ensures.stand fs told) c.if-not-branch.false
    (looked _ _ _ c.stand_at.ensures.done c.in_ok-is_used.ensures.used fs told) c.if-branch.false
    (looked _ _ _ (looked_twice _ _ _ c.stand_at.ensures.done c.is_used.ensures.done) c.in_ok-second.ensures.used fs told)
