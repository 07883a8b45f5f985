use Rattle.std.proofs.Common.{◌≡◌, ◌∙◌, ◌++◌, ◌∷◌, [], List, ℕ, true, get_or, take, sym, ap, arith}
use Rattle.std.proofs.lemmas.Option.{slice_get_past}
use Rattle.quotients.specs.Average.{AverageData}
use Rattle.quotients.specs.Order.{parts_of}
use Rattle.quotients.proofs.Averages.{same_average}
use Rattle.seat_certificate.specs.declared.blocs.Bloc.{Bloc}
use Rattle.seat_certificate.specs.Blocs.{averages_of, competes}
use Rattle.seat_certificate.proofs.BlocsOfLaw.{averages_at, averages_more, averages_same}
use Rattle.seat_certificate.proofs.Checked.{three_differ, three_same}
use Rattle.seat_certificate.proofs.Members.{some_same, take_more_at}
use Rattle.seat_certificate.proofs.blocs.are_competing.Goals.{then-place-len-via-then-place-len, then-place-len-via-else-place-len+then-ne, then-competes+else-place-len+else-ne, else-competes}
use Rattle.seat_certificate.proofs.blocs.are_competing.Goals as goal

abbrev none : Bloc
none = record { standing = record { party = 0; votes = 0; able = 0; first = 0; most_in_two = 0; most_in_three = 0 }; seats = 0 }

pub returns-then-place-len : goal.returns-then-place-len
returns-then-place-len c =
    let here : competes c.args.phase (get_or c.args.blocs.now c.loop-bloc.bloc-index none) ≡ true = sym c.competes.ensures.fewer ∙ c.if-competes.true in (
      (λ e. absurd (cc)),
      (λ same.
          let at = averages_at c.args.phase c.args.blocs.now c.loop-bloc.bloc-index c.loop-bloc.place none c.args.averages.now c.loop-bloc-test.true here c.loop-bloc.invariant.within c.loop-bloc.invariant.front same in
          elim c.then-place-len.branch [
            | then-place-len-via-then-place-len w ↦ let past = slice_get_past c.args.averages.now c.loop-bloc.place (omega (arith, w.if-place-len.true, c.len.ensures)) in absurd (cc)
            | then-place-len-via-else-place-len+then-ne w ↦
                let is : parts_of w.get.result.now ≡ parts_of w.next_average.result = some_same _ _ (sym w.get.ensures ∙ at) ∙ sym w.next_average.ensures in
                let votes = ap (λ (a : AverageData). a.votes) is in
                let divisor = ap (λ (a : AverageData). a.divisor) is in
                let party = ap (λ (a : AverageData). a.party) is in
                absurd (three_differ _ _ _ _ _ _ w.if-ne.ensures votes divisor party)
          ]),
    )

pub loop-bloc-preserved : goal.loop-bloc-preserved
loop-bloc-preserved c =
    elim c.if-competes.branch [
      | then-competes+else-place-len+else-ne w ↦
          let here : competes c.args.phase (get_or c.args.blocs.now c.loop-bloc.bloc-index none) ≡ true = sym c.competes.ensures.fewer ∙ w.if-competes.true in
          let parts = three_same _ _ _ _ _ _ w.if-ne.ensures in
          let same : parts_of w.get.result.now ≡ parts_of w.next_average.result = same_average _ _ parts.0 parts.1.1 parts.1.0 in
          record {
            within = omega (arith, w.place-is, w.if-place-len.false, w.len.ensures);
            front = ap (λ (n : ℕ). take n c.args.averages.now) w.place-is
                ∙ take_more_at c.args.averages.now c.loop-bloc.place (parts_of w.get.result.now) w.get.ensures
                ∙ ap (λ (l : List AverageData). l ++ parts_of w.get.result.now ∷ []) c.loop-bloc.invariant.front
                ∙ ap (λ (a : AverageData). averages_of c.args.phase (take c.loop-bloc.bloc-index c.args.blocs.now) ++ a ∷ []) (same ∙ w.next_average.ensures)
                ∙ sym (averages_more c.args.phase c.args.blocs.now c.loop-bloc.bloc-index none c.loop-bloc-test.true here);
          }
      | else-competes w ↦
          record {
            within = omega (arith, w.place-is, c.loop-bloc.invariant.within);
            front = ap (λ (n : ℕ). take n c.args.averages.now) w.place-is
                ∙ c.loop-bloc.invariant.front
                ∙ sym (averages_same c.args.phase c.args.blocs.now c.loop-bloc.bloc-index none c.loop-bloc-test.true (sym c.competes.ensures.fewer ∙ w.if-competes.false));
          }
    ]
