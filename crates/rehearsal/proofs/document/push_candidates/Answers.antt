use Rattle.std.proofs.Common.{◌≡◌, ◌+◌, ◌-◌, refl, arith, append_assoc}
use Rattle.std.proofs.lemmas.List.{map-append}
use Rattle.std.proofs.lemmas.List.FromFn.{map-range_with_len_more}
use Rattle.rehearsal.specs.Document.{candidate_table}
use Rattle.rehearsal.proofs.document.push_candidates.Goals as goal

pub loop-number-preserved : goal.loop-number-preserved
loop-number-preserved c =
    let number = c.loop-number.number in
    let first = c.args.first in
    let next : number + 1 - first ≡ number - first + 1 = omega arith in
    rw (
      c.in_ok-push.ensures.items,
      map-append,
      c.loop-number.invariant,
      c.in_ok-candidate.ensures,
      next,
      map-range_with_len_more (candidate_table c.args.office) first (number - first) number (omega arith),
      append_assoc,
    ) refl
