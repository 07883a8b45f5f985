use Rattle.call_laws.proofs.Leaving.{standing_is_in_use}
use Rattle.call_laws.proofs.Replacing.{replaced_is_foreign, replaced_is_loaded}
use Rattle.call_laws.proofs.urna_laws.a_replaced_flash.Goals as goal

pub returns : goal.returns
returns c = record { foreign = replaced_is_foreign; loaded = replaced_is_loaded; used = standing_is_in_use }
