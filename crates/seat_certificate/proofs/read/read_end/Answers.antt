use Rattle.std.proofs.Common.{ℕ, ◌+◌, ap, ◌∙◌, arith}
use Rattle.std.specs.Prelude.{Err}
use Rattle.seat_certificate.specs.Reading.{AtVacant, made}
use Rattle.seat_certificate.proofs.Passing.{bad_end, bad_vacant, good_end, good_vacant, is_nothing, is_something, no_end, nothing_behind, runs_out, something_behind}
use Rattle.seat_certificate.proofs.read.read_end.Goals as goal

pub returns-in_default : goal.returns-in_default
returns-in_default c = λ code q first rounds. runs_out c.args.number (AtVacant code q first rounds) c.args.text.now c.in_default.ensures.split

pub returns-in_default-vacant_of : goal.returns-in_default-vacant_of
returns-in_default-vacant_of c = λ code q first rounds. bad_vacant c.args.number code q first rounds c.args.text.now c.in-Some.line.now c.in-Some.rest.now c.in-Some.ensures.split c.in_default-vacant_of.ensures

pub returns-in_default-split_line : goal.returns-in_default-split_line
returns-in_default-split_line c = λ code q first rounds. good_vacant c.args.number code q c.in-Some-vacant_of.vacant first rounds c.args.text.now c.in-Some.line.now c.in-Some.rest.now c.in-Some.ensures.split c.in-Some-vacant_of.ensures ∙ no_end (c.args.number + 1) code (made q first rounds c.in-Some-vacant_of.vacant) c.in-Some.rest.now c.in_default-split_line.ensures.split

pub returns-then-ne : goal.returns-then-ne
returns-then-ne c = λ code q first rounds. good_vacant c.args.number code q c.in-Some-vacant_of.vacant first rounds c.args.text.now c.in-Some.line.now c.in-Some.rest.now c.in-Some.ensures.split c.in-Some-vacant_of.ensures ∙ bad_end (c.args.number + 1) code (made q first rounds c.in-Some-vacant_of.vacant) c.in-Some.rest.now c.in-Some-split_line.line.now c.in-Some-split_line.rest.now c.as_slice.result.now c.in-Some-split_line.ensures.split c.as_slice.ensures c.if-ne.ensures

pub returns-then-not-is_empty : goal.returns-then-not-is_empty
returns-then-not-is_empty c = λ code q first rounds. good_vacant c.args.number code q c.in-Some-vacant_of.vacant first rounds c.args.text.now c.in-Some.line.now c.in-Some.rest.now c.in-Some.ensures.split c.in-Some-vacant_of.ensures ∙ good_end (c.args.number + 1) code (made q first rounds c.in-Some-vacant_of.vacant) c.in-Some.rest.now c.in-Some-split_line.line.now c.in-Some-split_line.rest.now c.as_slice.result.now c.in-Some-split_line.ensures.split c.as_slice.ensures c.if-ne.ensures
    ∙ something_behind (c.args.number + 1 + 1) code (made q first rounds c.in-Some-vacant_of.vacant) c.in-Some-split_line.rest.now (is_something c.in-Some-split_line.rest.now c.if-not-is_empty.ensures)
    ∙ ap (λ (n : ℕ). Err n) (omega arith)

pub returns : goal.returns
returns c = λ code q first rounds. good_vacant c.args.number code q c.in-Some-vacant_of.vacant first rounds c.args.text.now c.in-Some.line.now c.in-Some.rest.now c.in-Some.ensures.split c.in-Some-vacant_of.ensures ∙ good_end (c.args.number + 1) code (made q first rounds c.in-Some-vacant_of.vacant) c.in-Some.rest.now c.in-Some-split_line.line.now c.in-Some-split_line.rest.now c.as_slice.result.now c.in-Some-split_line.ensures.split c.as_slice.ensures c.if-ne.ensures
    ∙ nothing_behind (c.args.number + 1 + 1) code (made q first rounds c.in-Some-vacant_of.vacant) c.in-Some-split_line.rest.now (is_nothing c.in-Some-split_line.rest.now c.if-not-is_empty.ensures)
