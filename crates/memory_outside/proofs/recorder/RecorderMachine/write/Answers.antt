use Rattle.std.proofs.Common.{rules}
use Rattle.memory_outside.specs.Recorder.{room_left}
use Rattle.memory_outside.proofs.Torn.{runs_torn_put}
use Rattle.memory_outside.proofs.recorder.RecorderMachine.write.Goals as goal

pub returns-then-not-writes-clause-torn : goal.returns-then-not-writes-clause-torn
returns-then-not-writes-clause-torn c =
    runs_torn_put c.fail.result (room_left c.args.self.now) c.args.dev c.args.at c.args.bytes.now _ _ (search rules)
