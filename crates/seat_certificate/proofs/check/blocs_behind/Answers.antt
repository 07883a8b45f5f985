use Rattle.std.proofs.Common.{◌<◌, ◌+◌, [], ◌∷◌, List, take, sym, ap, ◌∙◌, subst, arith}
use Rattle.std.specs.List.{AllByRecursion}
use Rattle.std.proofs.lemmas.List.{length-map, length-take-le, map-append, take_all}
use Rattle.seat_certificate.specs.declared.blocs.Bloc.{Bloc}
use Rattle.seat_certificate.specs.declared.certificate.Round.{Round}
use Rattle.seat_certificate.specs.Blocs.{IsNext}
use Rattle.seat_certificate.specs.Certificate.{EachIsLawful, award_in, awards_in}
use Rattle.seat_certificate.proofs.BlocsOfLaw.{blocs_next, few_seats, next_from, next_to}
use Rattle.seat_certificate.proofs.Checked.{round_more, stands_here, wrong_round}
use Rattle.seat_certificate.proofs.Members.{take_more_at}
use Rattle.seat_certificate.proofs.check.blocs_behind.Goals.{then-i-left-via-then-i-left, then-i-left-via-else-i-left+then-not-is_next}
use Rattle.seat_certificate.proofs.check.blocs_behind.Goals as goal

pub returns-then-i-left-clause-wrong : goal.returns-then-i-left-clause-wrong
returns-then-i-left-clause-wrong c =
    let rounds = c.args.rounds.now in
    let i = c.loop-i.i in
    let before = awards_in (take i rounds) in
    let count = length-map (take i rounds) award_in in
    let front = length-take-le i rounds c.loop-i.auto.i-end in
    wrong_round c.args.contest.now c.args.qe rounds i c.index-rounds-i.result (stands_here rounds i c.index-rounds-i.result c.loop-i-test.true c.index-rounds-i.is) c.loop-i.invariant.lawful (λ is.
    elim c.then-i-left.branch [
      | then-i-left-via-then-i-left w ↦ omega (arith, is.left, count, front, w.if-i-left.true, c.requires.left)
      | then-i-left-via-else-i-left+then-not-is_next w ↦
          let blocs = w.deref.ensures.0 ∙ c.loop-i.invariant.blocs in
          let next = subst (λ (l : List Bloc). IsNext l c.index-rounds-i.result) (sym blocs) (next_from c.args.contest.now c.args.qe before c.index-rounds-i.result is) in
          let no = w.is_next.ensures.1 next in
          absurd (cc)
    ])

pub give_seat-requires : goal.give_seat-requires
give_seat-requires c =
    let rounds = c.args.rounds.now in
    let i = c.loop-i.i in
    let before = awards_in (take i rounds) in
    let count = length-map (take i rounds) award_in in
    let front = length-take-le i rounds c.loop-i.auto.i-end in
    subst (λ (l : List Bloc). AllByRecursion (λ b. b.seats + 1 < 4294967296) l) (sym (c.deref_mut.ensures.value ∙ c.loop-i.invariant.blocs))
    (few_seats c.args.qe before c.args.contest.now.parties (omega (arith, count, front, c.if-i-left.false, c.requires.left, c.requires.contest.few)))

pub loop-i-preserved : goal.loop-i-preserved
loop-i-preserved c =
    let rounds = c.args.rounds.now in
    let i = c.loop-i.i in
    let r = c.index-rounds-i.result in
    let before = awards_in (take i rounds) in
    let count = length-map (take i rounds) award_in in
    let front = length-take-le i rounds c.loop-i.auto.i-end in
    let stands = stands_here rounds i r c.loop-i-test.true c.index-rounds-i.is in
    let next = subst (λ (l : List Bloc). IsNext l r) (c.deref.ensures.0 ∙ c.loop-i.invariant.blocs) (c.is_next.ensures.0 c.if-not-is_next.false) in
    record {
      lawful = round_more c.args.contest.now c.args.qe rounds i r stands c.loop-i.invariant.lawful
          (next_to c.args.contest.now c.args.qe before r (omega (arith, count, front, c.if-i-left.false, c.requires.left)) next);
      blocs = blocs_next c.args.qe c.args.contest.now.parties before (awards_in (take (i + 1) rounds)) (award_in r) c.loop-i.blocs.items c.deref_mut.result.now _ c.loop-i.invariant.blocs c.deref_mut.ensures.value c.give_seat.ensures
          (ap awards_in (take_more_at rounds i r stands) ∙ map-append award_in (take i rounds) (r ∷ []));
    }

pub returns-clause-lawful : goal.returns-clause-lawful
returns-clause-lawful c = subst (λ (l : List Round). EachIsLawful c.args.contest.now c.args.qe l) (take_all c.loop-i.i c.args.rounds.now c.loop-i-test.false) c.loop-i.invariant.lawful
