use Rattle.std.proofs.Common.{◌≡◌, List, length, take, get_or, refl, sym, ap, subst, ◌∙◌, arith}
use Rattle.std.proofs.lemmas.List.{take_all}
use Rattle.seat_remainders.specs.declared.contest.Contestant.{Contestant}
use Rattle.seat_certificate.specs.declared.certificate.FirstLine.{FirstLine}
use Rattle.seat_certificate.specs.Certificate.{first_lines}
use Rattle.seat_certificate.proofs.Checked.{four_differ, further_line, line_here, missing_line, other_line}
use Rattle.seat_certificate.proofs.check.first_wrong_line.Goals.{then-i-first-via-then-i-first, then-i-first-via-else-i-first+then-ne}
use Rattle.seat_certificate.proofs.check.first_wrong_line.Goals as goal

pub returns-then-i-first : goal.returns-then-i-first
returns-then-i-first c =
    let p = c.index-parties-i.result in
    elim c.then-i-first.branch [
      | then-i-first-via-then-i-first w ↦ missing_line c.args.qe c.args.parties.now c.args.first.now c.loop-i.i p c.loop-i-test.true c.index-parties-i.is w.if-i-first.true c.loop-i.invariant.front
      | then-i-first-via-else-i-first+then-ne w ↦
          let d : FirstLine = record { party = 0; quotient = 0; able = 0; seats = 0 } in
          let l = get_or c.args.first.now c.loop-i.i d in
          other_line c.args.qe c.args.parties.now c.args.first.now c.loop-i.i p l c.loop-i-test.true c.index-parties-i.is (line_here c.args.first.now c.loop-i.i d w.if-i-first.false) (λ same.
          let is = same ∙ sym w.first_line.ensures in
          let party = ap (λ (x : FirstLine). x.party) is in
          let quotient = ap (λ (x : FirstLine). x.quotient) is in
          let able = ap (λ (x : FirstLine). x.able) is in
          let seats = ap (λ (x : FirstLine). x.seats) is in
          four_differ _ _ _ _ _ _ _ _ w.if-ne.ensures party quotient able seats) c.loop-i.invariant.front
    ]

pub returns-then-first-parties : goal.returns-then-first-parties
returns-then-first-parties c =
    let same = c.loop-i.auto.i-end in
    let i : c.loop-i.i ≡ length c.args.parties.now = omega (arith, c.loop-i-test.false, same) in
    let front = subst (λ (n : _). take n c.args.first.now ≡ first_lines c.args.qe (take n c.args.parties.now)) i c.loop-i.invariant.front in
    further_line c.args.qe c.args.parties.now c.args.first.now (length c.args.parties.now) refl c.if-first-parties.true
    (front ∙ ap (λ (l : List Contestant). first_lines c.args.qe l) (take_all (length c.args.parties.now) c.args.parties.now (omega arith)))
