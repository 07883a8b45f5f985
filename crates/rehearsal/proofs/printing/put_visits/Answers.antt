use Rattle.std.proofs.Common.{refl, append_assoc}
use Rattle.rehearsal.proofs.Events.{visits_more}
use Rattle.rehearsal.proofs.printing.put_visits.Goals as goal

pub loop-place-preserved : goal.loop-place-preserved
loop-place-preserved c = rw (c.in_ok-put_visit.ensures, c.loop-place.invariant, visits_more c.loop-place.place, append_assoc) refl
