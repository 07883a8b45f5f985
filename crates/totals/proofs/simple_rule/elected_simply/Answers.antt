use Rattle.std.proofs.Common.{◌≡◌, ◌∷◌, [], ℕ, List, length, filter, sym, ap, subst, ◌∙◌, arith}
use Rattle.std.proofs.lemmas.List.{length_push}
use Rattle.seat_remainders.specs.Parties.{nominal_votes}
use Rattle.seat_remainders.specs.declared.contest.Entry.{Entry}
use Rattle.totals.specs.Simple.{elected_simply}
use Rattle.totals.proofs.SimpleRule.{HaveOwnNumbers, is_other, one_more, others_too, own_numbers, sum_by-filter-le}
use Rattle.totals.proofs.simple_rule.elected_simply.Goals as goal

pub loop-init : goal.loop-init
loop-init c = record {
  elected = rw c.new-elected.ensures (ap (λ (n : ℕ). elected_simply n c.args.candidates) (omega arith));
  own = own_numbers c.args.candidates c.requires.rising;
  votes = c.requires.votes;
  few = omega (arith, ap (λ (l : List ℕ). length l) c.new-elected.ensures);
}

pub loop-preserved : goal.loop-preserved
loop-preserved c =
    let before = c.loop.invariant in
    let n = c.in-Some.number in
    let left = c.loop.left in
    let one : elected_simply 1 left ≡ n ∷ [] = sym (c.in-Some.ensures ∙ ap (elected_simply 1) c.as_slice.ensures.items) in
    let pushed = c.in_ok-push-in-Some.ensures.pushed in
    let others : c.in_ok-left-in-Some.left ≡ filter (is_other n) left =
    c.in_ok-left-in-Some.ensures ∙ ap (λ (l : List Entry). filter (is_other n) l) c.as_slice-in-Some.ensures.items in
    record {
      elected = rw (pushed, others) (one_more c.args.seats c.loop.counter n c.args.candidates left c.loop.elected before.own c.loop-test.true one before.elected);
      own = subst HaveOwnNumbers (sym others) (others_too n left before.own);
      votes = omega (arith, ap (λ (l : List Entry). nominal_votes l) others, sum_by-filter-le (is_other n) (λ e. e.votes) left, before.votes);
      few = omega (arith, ap (λ (l : List ℕ). length l) pushed, length_push c.loop.elected n, before.few);
    }
