use Rattle.std.proofs.Common.{Err, ap}
use Rattle.urna_outside.proofs.Faults.{faultless_trans}
use Rattle.flash_store.proofs.Holding.{none_held}
use Rattle.flash_store.proofs.Looking.{looked}
use Rattle.intake_ledger.specs.Body.{decoded}
use Rattle.intake_ledger.specs.Kept.{ledgers}
use Rattle.intake_ledger.proofs.Reading.{reads}
use Rattle.intake_ledger.proofs.find.find.Goals as goal

pub returns-in-Ok-clause-held : goal.returns-in-Ok-clause-held
returns-in-Ok-clause-held g c = looked _ _ _ c.in_ok-test_frames.ensures.done c.in-Ok.ensures.held

pub returns-in-Err-NoImage-clause-fails : goal.returns-in-Err-NoImage-clause-fails
returns-in-Err-NoImage-clause-fails g c =
    let t = c.args.tables.now in
    let none = looked _ _ _ c.in_ok-test_frames.ensures.done (c.in-Err-NoImage.ensures.none (ap (λ e. Err e) c.in-Err-NoImage.field-0-is)) in
    let fine = rw c.in-Err-NoImage.field-0-is at c.in-Err-NoImage.ensures.fails in (
      faultless_trans _ _ _ c.in_ok-test_frames.ensures.fine fine,
      λ fs told. record { framed = c.in_ok-test_frames.ensures.framed fs told; none = none_held (ledgers t) (decoded t) (reads t) fs (none fs told) },
    )
