use Rattle.std.proofs.Common.{◌≡◌, ◌++◌, map, take, vec_capacity}
use Rattle.vote_kinds.specs.Ballot.{choices_of, line_of}
use Rattle.intake_ledger.proofs.choices.put_panel.Given as goal

abbrev pub invariant-loop-place : goal.invariant-loop-place
invariant-loop-place l = record {
  put : l.choices.items ≡ l.fn.choices.items ++ map (λ c. (l.panel, c)) (take l.place (choices_of (line_of l.tables l.panel)));
  memory : vec_capacity l.choices ≡ vec_capacity l.fn.choices;
}
