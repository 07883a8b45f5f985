use Rattle.std.proofs.Common.{◌==◌, ◌++◌, ap, sym, ℕ, ◌∙◌, arith}
use Rattle.std.proofs.lemmas.List.Sums.{prefix_len-le-length}
use Rattle.std.proofs.lemmas.List.{append-nil}
use Rattle.poll_report.specs.declared.report.Count.{Count}
use Rattle.qr_text.specs.Writing.{spaced_parties, spaced_party, with_total}
use Rattle.qr_text.proofs.Grouping.{back_is_rest, front_is_group}
use Rattle.qr_text.proofs.WriteLaws.{all_candidates_left, all_entries_left, by_number, by_party, few_in_party, parties_step}
use Rattle.qr_text.proofs.write.put_parties.Goals as goal

pub loop-party-init : goal.loop-party-init
unfolding spaced_parties
loop-party-init c = record {
  written = sym (append-nil c.args.out.now.items);
  candidates = all_candidates_left c.args.office.now c.as_slice-candidates.result.now c.requires.counted c.requires.proportional
      c.as_slice-candidates.ensures.items;
  legends = all_entries_left c.args.office.now c.as_slice-legends.result.now c.requires.counted c.as_slice-legends.ensures.items;
}

pub split_at-requires : goal.split_at-requires
split_at-requires c =
    let most = prefix_len-le-length (λ (x : Count). by_party c.args.office.now x == c.loop-party.party) c.loop-party.candidates.now in
    omega (arith, most, c.first_of_party.ensures)

pub split_at-requires-in-loop-party : goal.split_at-requires-in-loop-party
split_at-requires-in-loop-party c =
    let most = prefix_len-le-length (λ (x : Count). by_number x == c.loop-party.party) c.loop-party.legends.now in
    omega (arith, most, c.first_of_number.ensures)

pub votes_of-requires : goal.votes_of-requires
votes_of-requires c =
    let own = front_is_group (by_party c.args.office.now) _ _ _ _ _ c.loop-party.invariant.candidates c.first_of_party.ensures
    c.split_at.ensures.front in
    let entry = front_is_group by_number _ _ _ _ _ c.loop-party.invariant.legends c.first_of_number.ensures
    c.split_at-in-loop-party.ensures.front in
    let few = few_in_party c.args.office.now _ _ _ c.requires.counted own entry in
    omega (arith, few)

pub put_party-requires : goal.put_party-requires
put_party-requires c =
    let own = front_is_group (by_party c.args.office.now) _ _ _ _ _ c.loop-party.invariant.candidates c.first_of_party.ensures
    c.split_at.ensures.front in
    let entry = front_is_group by_number _ _ _ _ _ c.loop-party.invariant.legends c.first_of_number.ensures
    c.split_at-in-loop-party.ensures.front in
    let few = few_in_party c.args.office.now _ _ _ c.requires.counted own entry in
    omega (arith, few, c.votes_of.ensures)

pub loop-party-preserved : goal.loop-party-preserved
loop-party-preserved c =
    let own = front_is_group (by_party c.args.office.now) _ _ _ _ _ c.loop-party.invariant.candidates c.first_of_party.ensures
    c.split_at.ensures.front in
    let entry = front_is_group by_number _ _ _ _ _ c.loop-party.invariant.legends c.first_of_number.ensures
    c.split_at-in-loop-party.ensures.front in
    let legend = ap (λ (v : ℕ). c.loop-party.out.items ++ spaced_party (with_total c.loop-party.party c.split_at.result.0.now v))
    c.votes_of.ensures in
    record {
      written = parties_step c.args.office.now _ _ _ c.args.out.now.items c.loop-party.out.items c.put_party.new.out.items
          c.requires.counted (omega (arith, c.loop-party.auto.party)) own entry c.loop-party.invariant.written
          (c.in_ok-put_party.ensures ∙ legend);
      candidates = back_is_rest (by_party c.args.office.now) _ _ _ _ _ c.loop-party.invariant.candidates c.first_of_party.ensures
          c.split_at.ensures.back;
      legends = back_is_rest by_number _ _ _ _ _ c.loop-party.invariant.legends c.first_of_number.ensures
          c.split_at-in-loop-party.ensures.back;
    }
