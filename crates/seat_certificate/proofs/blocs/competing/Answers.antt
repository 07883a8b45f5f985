use Rattle.std.proofs.Common.{◌∙◌, ◌++◌, ◌∷◌, [], List, length, take, sym, ap, length-append, arith}
use Rattle.quotients.specs.Average.{AverageData}
use Rattle.quotients.specs.Order.{parts_of}
use Rattle.seat_certificate.specs.declared.blocs.Bloc.{Bloc}
use Rattle.seat_certificate.specs.Blocs.{averages_of}
use Rattle.seat_certificate.proofs.BlocsOfLaw.{averages_more, averages_same}
use Rattle.seat_certificate.proofs.blocs.competing.Goals.{then-competes+in_ok-push, else-competes}
use Rattle.seat_certificate.proofs.blocs.competing.Goals as goal

abbrev none : Bloc
none = record { standing = record { party = 0; votes = 0; able = 0; first = 0; most_in_two = 0; most_in_three = 0 }; seats = 0 }

pub loop-bloc-preserved : goal.loop-bloc-preserved
loop-bloc-preserved c =
    elim c.if-competes.branch [
      | then-competes+in_ok-push w ↦
          let pushed = w.averages-is ∙ w.in_ok-push.ensures.pushed in
          record {
            told = pushed
                ∙ ap (λ (l : List AverageData). l ++ parts_of w.next_average.result ∷ []) c.loop-bloc.invariant.told
                ∙ ap (λ (a : AverageData). averages_of c.args.phase (take c.loop-bloc.bloc-index c.args.blocs.now) ++ a ∷ []) w.next_average.ensures
                ∙ sym (averages_more c.args.phase c.args.blocs.now c.loop-bloc.bloc-index none c.loop-bloc-test.true (sym c.competes.ensures.fewer ∙ w.if-competes.true));
            few = omega (arith, ap (λ (l : List AverageData). length l) pushed, length-append c.loop-bloc.averages (parts_of w.next_average.result ∷ []), c.loop-bloc.invariant.few);
          }
      | else-competes w ↦
          record {
            told = w.averages-is
                ∙ c.loop-bloc.invariant.told
                ∙ sym (averages_same c.args.phase c.args.blocs.now c.loop-bloc.bloc-index none c.loop-bloc-test.true (sym c.competes.ensures.fewer ∙ w.if-competes.false));
            few = omega (arith, ap (λ (l : List AverageData). length l) w.averages-is, c.loop-bloc.invariant.few);
          }
    ]
