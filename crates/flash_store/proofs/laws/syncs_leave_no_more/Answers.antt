use Rattle.flash_store.proofs.Syncing.{syncs_leave_no_more}
use Rattle.flash_store.proofs.laws.syncs_leave_no_more.Goals as goal

pub returns : goal.returns
returns c = syncs_leave_no_more
