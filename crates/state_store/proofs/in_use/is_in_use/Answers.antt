use Rattle.std.proofs.Common.{◌≡◌, ◌↔◌, ◌⊎◌, inl, inr, Bool, true, false, List, ℕ, take, IsTrue}
use Rattle.urna_outside.specs.Flash.{flash_of}
use Rattle.state_store.specs.Load.{magic}
use Rattle.state_store.specs.Rest.{IsInUse, IsUsed}
use Rattle.flash_store.proofs.Looking.{looked, looked_twice, alike}
use Rattle.state_store.proofs.in_use.is_in_use.Goals as goal

-- where the magic stands and slot 0 isn't used, slot 1 decides
by_second : (content : List ℕ) (begins first second : Bool) → begins ≡ true → first ≡ false → (IsTrue begins ↔ (take 8 content ≡ magic)) → (IsTrue first ↔ IsUsed 0 content) → (IsTrue second ↔ IsUsed 1 content)
    → (IsTrue second ↔ IsInUse content)
by_second content begins first second begun unused magic_there first_used second_used = (
  λ (used : IsTrue second). record { begins = alike begins begun magic_there; used = inr (second_used.0 used) },
  λ busy. either busy.used,
)
  where
    either : IsUsed 0 content ⊎ IsUsed 1 content → IsTrue second
    either (inl there) = let is : first ≡ true = first_used.1 there in absurd (cc)
    either (inr there) = second_used.1 there

pub returns-clause-used : goal.returns-clause-used
returns-clause-used g c fs told =
    by_second (flash_of c.args.dev fs).content _ _ _ c.if-not-branch.false c.if-branch.false (c.in_ok-stand_at.ensures.stand fs told)
    (looked _ _ _ c.stand_at.ensures.done c.in_ok-is_used.ensures.used fs told)
    (looked _ _ _ (looked_twice _ _ _ c.stand_at.ensures.done c.is_used.ensures.done) c.in_ok-second.ensures.used fs told)
