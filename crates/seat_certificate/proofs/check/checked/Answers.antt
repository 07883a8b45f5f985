use Rattle.std.proofs.Common.{List, refl, sym, ap, ◌∙◌, arith}
use Rattle.seat_remainders.specs.declared.contest.Contestant.{Contestant}
use Rattle.seat_certificate.specs.Certificate.{first_lines}
use Rattle.seat_certificate.proofs.BlocsOfLaw.{nobody_told}
use Rattle.seat_certificate.proofs.Checked.{added, lines_few, so_far}
use Rattle.seat_certificate.proofs.check.checked.Goals.{else-certificate-gt0-via-then-certificate-gt0+else-not-nobody_left, else-certificate-gt0-via-else-certificate-gt0}
use Rattle.seat_certificate.proofs.check.checked.Goals as goal

pub seats_in-first-requires : goal.seats_in-first-requires
seats_in-first-requires c =
    let lines = c.in_default.ensures ∙ ap (λ (l : List Contestant). first_lines c.quotient-qe.result l) c.as_slice-parties.ensures.items in
    let few = lines_few c.quotient-qe.result c.args.contest.now.parties c.as_slice-lines.result.now (omega (arith, c.if-qe-eq0.false)) c.requires.votes lines in
    few.1

pub overflow_add-given : goal.overflow_add-given
overflow_add-given c =
    let lines = c.in_default.ensures ∙ ap (λ (l : List Contestant). first_lines c.quotient-qe.result l) c.as_slice-parties.ensures.items in
    let few = lines_few c.quotient-qe.result c.args.contest.now.parties c.as_slice-lines.result.now (omega (arith, c.if-qe-eq0.false)) c.requires.votes lines in
    omega (arith, few.1, c.seats_in-first.ensures, c.as_slice-rounds.ensures.few)

pub adds_up-requires : goal.adds_up-requires
adds_up-requires c =
    let lines = c.in_default.ensures ∙ ap (λ (l : List Contestant). first_lines c.quotient-qe.result l) c.as_slice-parties.ensures.items in
    let few = lines_few c.quotient-qe.result c.args.contest.now.parties c.as_slice-lines.result.now (omega (arith, c.if-qe-eq0.false)) c.requires.votes lines in
    omega (arith, few.1, c.seats_in-first.ensures, c.as_slice-rounds.ensures.few)

pub returns-then-not-adds_up : goal.returns-then-not-adds_up
returns-then-not-adds_up c =
    let there = so_far c.args.contest.now c.args.certificate.now c.quotient-qe.result c.valid_votes.result c.as_slice-parties.result.now c.as_slice-lines.result.now c.as_slice-rounds.result.now c.valid_votes.ensures c.quotient-qe.ensures
    (omega (arith, c.if-qe-eq0.false)) c.if-certificate-qe.false c.as_slice-parties.ensures.items c.as_slice-lines.ensures.items c.as_slice-rounds.ensures.items c.in_default.ensures c.in-Ok.ensures.lawful in
    let sum = added c.args.certificate.now c.as_slice-lines.result.now c.as_slice-rounds.result.now c.seats_in-first.result c.args.certificate.now.vacant c.seats_in-first.ensures refl c.as_slice-lines.ensures.items c.as_slice-rounds.ensures.items in
    (there.0, there.1, there.2, (λ both. let no = c.if-not-adds_up.ensures.1 (sum ∙ both.0) in absurd (cc)))

pub returns-then-not-nobody_left : goal.returns-then-not-nobody_left
returns-then-not-nobody_left c =
    let there = so_far c.args.contest.now c.args.certificate.now c.quotient-qe.result c.valid_votes.result c.as_slice-parties.result.now c.as_slice-lines.result.now c.as_slice-rounds.result.now c.valid_votes.ensures c.quotient-qe.ensures
    (omega (arith, c.if-qe-eq0.false)) c.if-certificate-qe.false c.as_slice-parties.ensures.items c.as_slice-lines.ensures.items c.as_slice-rounds.ensures.items c.in_default.ensures c.in-Ok.ensures.lawful in (
      there.0,
      there.1,
      there.2,
      (λ both.
          let nobody = nobody_told c.args.contest.now c.args.certificate.now c.quotient-qe.result c.as_slice-rounds.result.now c.in-Ok.blocs.items c.deref.result.now c.nobody_left.result c.if-certificate-qe.false c.as_slice-rounds.ensures.items
          c.in-Ok.ensures.blocs c.deref.ensures.0 c.nobody_left.ensures in
          let yes = nobody.1 (both.1 c.if-certificate-gt0.true) in
          absurd (cc)),
    )

pub returns : goal.returns
returns c =
    let there = so_far c.args.contest.now c.args.certificate.now c.quotient-qe.result c.valid_votes.result c.as_slice-parties.result.now c.as_slice-lines.result.now c.as_slice-rounds.result.now c.valid_votes.ensures c.quotient-qe.ensures
    (omega (arith, c.if-qe-eq0.false)) c.if-certificate-qe.false c.as_slice-parties.ensures.items c.as_slice-lines.ensures.items c.as_slice-rounds.ensures.items c.in_default.ensures c.in-Ok.ensures.lawful in
    let sum = added c.args.certificate.now c.as_slice-lines.result.now c.as_slice-rounds.result.now c.seats_in-first.result c.args.certificate.now.vacant c.seats_in-first.ensures refl c.as_slice-lines.ensures.items c.as_slice-rounds.ensures.items in
    record {
      quotient = there.0;
      first = there.1;
      rounds = there.2;
      all = sym sum ∙ c.if-not-adds_up.ensures.0 refl;
      vacant = elim c.else-certificate-gt0.branch [
        | else-certificate-gt0-via-then-certificate-gt0+else-not-nobody_left w ↦ (λ _.
            (nobody_told c.args.contest.now c.args.certificate.now c.quotient-qe.result c.as_slice-rounds.result.now c.in-Ok.blocs.items w.deref.result.now w.nobody_left.result c.if-certificate-qe.false c.as_slice-rounds.ensures.items
            c.in-Ok.ensures.blocs w.deref.ensures.0 w.nobody_left.ensures).0 w.if-not-nobody_left.false)
        | else-certificate-gt0-via-else-certificate-gt0 w ↦ (λ some. absurd (omega (arith, some, w.if-certificate-gt0.false)))
      ];
    }
