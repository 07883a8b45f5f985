use Rattle.station.proofs.Prefixes.{after_prefix}
use Rattle.station.proofs.laws.prefixes.Goals as goal

pub returns : goal.returns
returns c = λ v s last es out run n u which. after_prefix v run n u which
