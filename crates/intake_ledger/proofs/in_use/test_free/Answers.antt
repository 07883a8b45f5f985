use Rattle.std.proofs.Common.{◌≡◌, true, false, ap, ◌∙◌}
use Rattle.urna_outside.specs.Told.{size_of}
use Rattle.urna_outside.specs.declared.device.Dev.TheVariants.{Internal, External}
use Rattle.urna_outside.proofs.Faults.{faultless_trans}
use Rattle.flash_store.proofs.Looking.{looked}
use Rattle.intake_ledger.proofs.in_use.test_free.Goals as goal

pub returns-in-Ok-true-clause-fails : goal.returns-in-Ok-true-clause-fails
returns-in-Ok-true-clause-fails g c = (
  c.in-Ok-true.ensures.fails,
  λ fs told. (c.in-Ok-true.ensures.used fs told).0 c.in-Ok-true.field-0-test,
)

pub is_in_use-requires-2 : goal.is_in_use-requires-2
is_in_use-requires-2 g c = ap (size_of External) c.is_in_use.ensures.done.sizes ∙ c.requires External

pub returns-in-Ok-true-is_in_use-clause-fails : goal.returns-in-Ok-true-is_in_use-clause-fails
returns-in-Ok-true-is_in_use-clause-fails g c = (
  faultless_trans _ _ _ c.in-Ok-false.ensures.fails c.in-Ok-true-is_in_use.ensures.fails,
  λ fs told. (
    λ busy.
        let yes : c.in-Ok-false.field-0 ≡ true = (c.in-Ok-false.ensures.used fs told).1 busy in
        let no : c.in-Ok-false.field-0 ≡ false = c.in-Ok-false.field-0-test in
        absurd (cc),
    (looked _ _ _ c.in-Ok-false.ensures.done c.in-Ok-true-is_in_use.ensures.used fs told).0 c.in-Ok-true-is_in_use.field-0-test,
  ),
)

pub returns-in-Ok-false-is_in_use-clause-free : goal.returns-in-Ok-false-is_in_use-clause-free
returns-in-Ok-false-is_in_use-clause-free g c fs told Internal busy =
    let yes : c.in-Ok-false.field-0 ≡ true = (c.in-Ok-false.ensures.used fs told).1 busy in
    let no : c.in-Ok-false.field-0 ≡ false = c.in-Ok-false.field-0-test in
    absurd (cc)
returns-in-Ok-false-is_in_use-clause-free g c fs told External busy =
    let yes : c.in-Ok-false-is_in_use.field-0 ≡ true = (looked _ _ _ c.in-Ok-false.ensures.done c.in-Ok-false-is_in_use.ensures.used fs told).1 busy in
    let no : c.in-Ok-false-is_in_use.field-0 ≡ false = c.in-Ok-false-is_in_use.field-0-test in
    absurd (cc)
