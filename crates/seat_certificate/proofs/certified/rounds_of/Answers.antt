use Rattle.std.proofs.Common.{◌∙◌, ◌+◌, ◌<◌, [], ◌∷◌, get_or, length, take, sym, ap, subst, length-append, arith, List}
use Rattle.std.specs.List.{AllByRecursion}
use Rattle.std.proofs.lemmas.List.{length-take-le, take_more}
use Rattle.seat_remainders.specs.declared.outcome.Award.{Award}
use Rattle.seat_certificate.specs.declared.blocs.Bloc.{Bloc}
use Rattle.seat_certificate.specs.Blocs.{averages_of}
use Rattle.seat_certificate.specs.declared.certificate.Round.{Round}
use Rattle.seat_certificate.proofs.BlocsOfLaw.{averages_are, blocs_next, few_seats}
use Rattle.seat_certificate.proofs.Made.{rounds_more}
use Rattle.seat_certificate.proofs.certified.rounds_of.Goals as goal

abbrev none : Award
none = record { phase = 0; party = 0 }

pub competing-requires : goal.competing-requires
competing-requires c = omega (arith, c.deref.ensures.1)

pub give_seat-requires : goal.give_seat-requires
give_seat-requires c =
    let i = c.loop-award.award-index in
    let before = take i c.args.awards.now in
    let front = length-take-le i c.args.awards.now c.loop-award.auto.award-index-end in
    subst (λ (l : List Bloc). AllByRecursion (λ b. b.seats + 1 < 4294967296) l) (sym (c.deref_mut.ensures.value ∙ c.loop-award.invariant.blocs))
    (few_seats c.args.qe before c.args.contest.now.parties (omega (arith, front, c.loop-award-test.true, c.requires.within, c.requires.contest.few)))

pub loop-award-preserved : goal.loop-award-preserved
loop-award-preserved c =
    let awards = c.args.awards.now in
    let i = c.loop-award.award-index in
    let before = take i awards in
    let w = get_or awards i none in
    let averages = c.in_ok-averages.ensures
    ∙ ap (λ (l : List Bloc). averages_of w.phase l) (c.deref.ensures.0 ∙ c.loop-award.invariant.blocs)
    ∙ averages_are c.args.qe before w.phase c.args.contest.now.parties in
    record {
      rounds = rounds_more c.args.qe c.args.contest.now.parties awards c.loop-award.rounds c.push.new.self i none _ c.loop-award-test.true c.loop-award.invariant.rounds averages c.in_ok-push.ensures.pushed;
      few = omega (arith, c.loop-award.invariant.few, ap (λ (l : List Round). length l) c.in_ok-push.ensures.pushed, length-append c.loop-award.rounds (let r : Round = record { phase = w.phase; party = w.party; averages = c.in_ok-averages.averages } in r ∷ []));
      blocs = blocs_next c.args.qe c.args.contest.now.parties before (take (i + 1) awards) w c.loop-award.blocs.items c.deref_mut.result.now _ c.loop-award.invariant.blocs c.deref_mut.ensures.value c.give_seat.ensures
          (take_more awards i none c.loop-award-test.true);
    }
