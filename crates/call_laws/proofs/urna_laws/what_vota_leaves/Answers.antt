use Rattle.call_laws.proofs.AtRest.{done_is_whole, late_fault_is_sealed, rests_where_no_flash_failed}
use Rattle.call_laws.proofs.urna_laws.what_vota_leaves.Goals as goal

pub returns : goal.returns
returns c = record { done = done_is_whole; late = late_fault_is_sealed; rest = rests_where_no_flash_failed }
