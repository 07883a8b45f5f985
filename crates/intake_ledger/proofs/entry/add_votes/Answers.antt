use Rattle.std.proofs.Common.{ℕ, ◌+◌, List, ap, ◌∙◌, arith}
use Rattle.urna_outside.specs.Flash.{overwrite}
use Rattle.intake_ledger.specs.Body.{sum_in, sum_offset}
use Rattle.intake_ledger.proofs.Keeping.{sum_put}
use Rattle.intake_ledger.proofs.entry.add_votes.Goals as goal

pub returns-clause-sum : goal.returns-clause-sum
returns-clause-sum c =
    let place : ℕ = c.args.place in
    let sum : ℕ = c.sum_in.result + c.from.result in
    ap (λ (bytes : List ℕ). sum_in bytes place) c.overwrite.ensures
    ∙ ap (λ (bytes : List ℕ). sum_in (overwrite c.args.into.now (sum_offset place) bytes) place) c.put_be64.ensures
    ∙ sum_put c.args.into.now place sum (omega arith) (omega arith)
    ∙ omega (arith, c.sum_in.ensures, c.from.ensures)
