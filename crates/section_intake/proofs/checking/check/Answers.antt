use Rattle.std.proofs.Common.{◌≡◌, ℕ, ◌<◌, ◌^◌, List, length, IfOk, Result, Ok, Err, arith}
use Rattle.election_tables.specs.TablesData.{TablesData}
use Rattle.urna_base.specs.declared.memory.Memory.{Memory}
use Rattle.section_intake.specs.Verdict.{IsVerdict}
use Rattle.section_intake.specs.declared.verdict.Verdict.{Verdict}
use Rattle.section_intake.proofs.VerdictLaws.{one_verdict}
use Rattle.section_intake.proofs.checking.check.Goals as goal

-- the verdict that was given is the one that there is
given : (t : TablesData) (bytes : List ℕ) (r : Result Verdict Memory) (v : Verdict) → length bytes < 2 ^ 63 → IfOk r (λ w. IsVerdict t bytes w) → IsVerdict t bytes v
    → IfOk r (λ w. w ≡ v)
given t bytes (Ok w) v short h i = one_verdict t bytes w v short h i
given t bytes (Err e) v short h i = tt

pub returns-clause-there : goal.returns-clause-there
returns-clause-there c v is =
    let short = c.requires in
    given c.args.tables.now c.args.bytes.now c.judge.result v (omega arith) c.judge.ensures is
