use Rattle.std.proofs.Common.{◌≡◌, length}
use Rattle.urna_outside.specs.Flash.{clean_flash}
use Rattle.urna_outside.specs.declared.device.Dev.TheVariants.{Internal}
use Rattle.gate_slot.proofs.Patched.{IsPagedTo}
use Rattle.gate_slot.proofs.changes.Changes.bring.Given as goal

-- the pages before this one are new
abbrev pub invariant-loop-page : goal.invariant-loop-page
invariant-loop-page l = record {
  long : length l.body ≡ length l.new;
  paged : IsPagedTo l.initial.body l.new Internal 0 l.page (clean_flash l.body);
}
