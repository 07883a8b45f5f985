use Rattle.std.proofs.Common.{◌≤◌, ◌++◌, ℕ, List, take, ap, subst, sym, ◌∙◌, append_assoc, arith}
use Rattle.std.specs.Prelude.{codes}
use Rattle.seat_remainders.specs.declared.outcome.Outcome.{Outcome}
use Rattle.rehearsal_run.specs.Lines.{elected_words, parties_in, seats_words}
use Rattle.rehearsal_run.proofs.LineLaws.{seats_in, seats_more, seats_within, words_more}
use Rattle.rehearsal_run.proofs.lines.elected_line.Goals as goal

pub push_seats-requires-clause-few : goal.push_seats-requires-clause-few
push_seats-requires-clause-few c =
    let all : seats_in c.in-Seats.seats.parties ≤ 9 = subst (λ (o : Outcome). seats_in (parties_in o) ≤ 9) c.in-Seats.is c.requires in
    let within = seats_within c.in-Seats.seats.parties c.loop-i.i c.get-party.result.now c.get-party.ensures in
    omega (arith, all, within)

pub push_seats-requires-clause-room : goal.push_seats-requires-clause-room
push_seats-requires-clause-room c =
    let all : seats_in c.in-Seats.seats.parties ≤ 9 = subst (λ (o : Outcome). seats_in (parties_in o) ≤ 9) c.in-Seats.is c.requires in
    let within = seats_within c.in-Seats.seats.parties c.loop-i.i c.get-party.result.now c.get-party.ensures in
    let short = c.loop-i.invariant.1 in
    omega (arith, all, within, short)

pub loop-i-preserved : goal.loop-i-preserved
loop-i-preserved c =
    let ps = c.in-Seats.seats.parties in
    let p = c.get-party.result.now in
    let more = seats_more ps c.loop-i.i p c.get-party.ensures in
    let short = c.loop-i.invariant.1 in
    let grown = c.push_seats.ensures.short in (
      c.push_seats.ensures.text
          ∙ (ap (λ (l : List ℕ). l ++ seats_words p.number p.seats) c.loop-i.invariant.0
          ∙ (append_assoc (codes "CARGO 13 ELEITOS") (elected_words (take c.loop-i.i ps)) (seats_words p.number p.seats)
          ∙ ap (λ (l : List ℕ). codes "CARGO 13 ELEITOS" ++ l) (sym (words_more ps c.loop-i.i p c.get-party.ensures)))),
      omega (arith, more, short, grown),
    )
