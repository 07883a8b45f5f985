use Rattle.call_laws.proofs.Leaving.{load_is_kept_out, opened_is_in_use}
use Rattle.call_laws.proofs.NeverBusy.{load_is_not_busy, load_leaves_free}
use Rattle.call_laws.proofs.urna_laws.never_busy.Goals as goal

pub returns : goal.returns
returns c = record { free = load_leaves_free; answer = load_is_not_busy; busy = load_is_kept_out; opened = opened_is_in_use }
