use Rattle.std.proofs.Common.{◌∙◌, get_or, set, sym, ap}
use Rattle.seat_certificate.specs.declared.blocs.Bloc.{Bloc}
use Rattle.seat_certificate.proofs.BlocsOfLaw.{seat_step, seated_no, seated_yes}
use Rattle.seat_certificate.proofs.blocs.give_seat.Goals.{then-bloc-party, else-bloc-party}
use Rattle.seat_certificate.proofs.blocs.give_seat.Goals as goal

abbrev none : Bloc
none = record { standing = record { party = 0; votes = 0; able = 0; first = 0; most_in_two = 0; most_in_three = 0 }; seats = 0 }

pub loop-bloc-preserved : goal.loop-bloc-preserved
loop-bloc-preserved c =
    let i = c.loop-bloc.bloc-index in
    let now = c.loop-bloc.blocs in
    let here = get_or now i none in
    let step = seat_step c.args.party i none c.args.blocs.now now c.loop-bloc-test.true c.loop-bloc.auto.blocs c.loop-bloc.invariant in
    elim c.if-bloc-party.branch [
      | then-bloc-party w ↦ w.blocs-is ∙ ap (λ (b : Bloc). set now i b) (sym (seated_yes c.args.party here w.if-bloc-party.true)) ∙ step
      | else-bloc-party w ↦ w.blocs-is ∙ ap (λ (b : Bloc). set now i b) (sym (seated_no c.args.party here w.if-bloc-party.false)) ∙ step
    ]
