use Rattle.std.proofs.Common.{◌≡◌, ◌+◌, ◌-◌, refl, arith}
use Rattle.std.proofs.lemmas.List.{map-append}
use Rattle.std.proofs.lemmas.List.FromFn.{map-range_with_len_more}
use Rattle.toml.proofs.Views.{view-Array}
use Rattle.rehearsal.specs.Document.{party_table}
use Rattle.rehearsal.specs.Numbers.{parties}
use Rattle.rehearsal.proofs.document.parties.Goals as goal

pub loop-number-preserved : goal.loop-number-preserved
loop-number-preserved c =
    let number = c.loop-number.number in
    let next : number + 1 - 10 ≡ number - 10 + 1 = omega arith in
    rw (
      c.in_ok-push.ensures.items,
      map-append,
      c.loop-number.invariant,
      c.in_ok-party.ensures,
      next,
      map-range_with_len_more party_table 10 (number - 10) number (omega arith),
    ) refl

pub returns : goal.returns
unfolding parties
returns c =
    let done : c.loop-number.number - 10 ≡ 20 = omega arith in
    rw (view-Array, c.loop-number.invariant, done) refl
