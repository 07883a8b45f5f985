use Rattle.std.proofs.Common.{ap, arith}
use Rattle.urna_outside.specs.Told.{size_of}
use Rattle.urna_outside.specs.declared.device.Dev.TheVariants.{External}
use Rattle.intake_ledger.proofs.frame.test_frames.Goals as goal

pub has_frame-requires-2 : goal.has_frame-requires-2
has_frame-requires-2 g c = omega (arith, ap (size_of External) c.has_frame.ensures.done.sizes, c.requires External)
