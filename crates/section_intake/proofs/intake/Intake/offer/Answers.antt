use Rattle.std.proofs.Common.{◌≡◌, ◌<◌, ◌^◌, List, length, IfOk, Result, Ok, Err, arith}
use Rattle.election_tables.specs.TablesData.{TablesData}
use Rattle.urna_base.specs.declared.memory.Memory.{Memory}
use Rattle.section_intake.specs.Accepted.{File, IsVerdictBehind}
use Rattle.section_intake.specs.Intake.{accepted_files}
use Rattle.section_intake.specs.Laws.{AreAllApart}
use Rattle.section_intake.specs.declared.verdict.Verdict.{Verdict}
use Rattle.section_intake.proofs.BehindLaws.{one_behind}
use Rattle.section_intake.proofs.IntakeLaws.{files_apart}
use Rattle.section_intake.proofs.intake.Intake.offer.Goals as goal

-- the verdict that was given is the one that there is
given : (t : TablesData) (files : List File) (bytes : File) (r : Result Verdict Memory) (v : Verdict) → length bytes < 2 ^ 63 → AreAllApart t files
    → IfOk r (λ w. IsVerdictBehind t files bytes w) → IsVerdictBehind t files bytes v → IfOk r (λ w. w ≡ v)
given t files bytes (Ok w) v short apart h i = one_behind t files bytes w v short apart h i
given t files bytes (Err e) v short apart h i = tt

pub returns-clause-there : goal.returns-clause-there
returns-clause-there c v is =
    let short = c.requires.short in
    given c.args.tables.now (accepted_files c.args.self.now) c.args.bytes.now c.judge.result v (omega arith)
    (files_apart c.args.tables.now c.args.self.now c.requires.made) c.judge.ensures.verdict is
