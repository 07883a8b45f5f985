use Rattle.call_laws.proofs.Leaving.{idle_endings, idle_leaves_no_more}
use Rattle.call_laws.proofs.Others.{others_are_kept_out}
use Rattle.call_laws.proofs.urna_laws.puts_nothing.Goals as goal

pub returns : goal.returns
returns c = record { endings = idle_endings; others = others_are_kept_out; stops = idle_leaves_no_more }
