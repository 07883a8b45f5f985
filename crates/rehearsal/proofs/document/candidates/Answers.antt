use Rattle.std.proofs.Common.{◌≡◌, ◌+◌, ◌-◌, refl, arith}
use Rattle.std.proofs.lemmas.List.{map-append}
use Rattle.toml.proofs.Views.{view-Array}
use Rattle.rehearsal.specs.Numbers.{councillors_of, councillors, parties, mayors}
use Rattle.rehearsal.proofs.Ranges.{flat_map_range_more}
use Rattle.rehearsal.proofs.document.candidates.Goals as goal

pub loop-party-preserved : goal.loop-party-preserved
loop-party-preserved c =
    let party = c.loop-party.party in
    let next : party + 1 - 10 ≡ party - 10 + 1 = omega arith in
    rw (
      c.in_ok-push_candidates.ensures,
      c.loop-party.invariant,
      next,
      flat_map_range_more councillors_of 10 (party - 10) party (omega arith),
      map-append,
    ) refl

pub returns : goal.returns
unfolding councillors parties mayors
returns c =
    let done : c.loop-party.party - 10 ≡ 20 = omega arith in
    rw (view-Array, c.in_ok-push_candidates-2.ensures, c.loop-party.invariant, done) refl
