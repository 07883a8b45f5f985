use Rattle.std.proofs.Common.{rules}
use Rattle.memory_outside.specs.Recorder.{room_left}
use Rattle.memory_outside.proofs.Torn.{runs_torn_show}
use Rattle.memory_outside.proofs.recorder.RecorderMachine.show.Goals as goal

pub returns-then-not-shows-clause-torn : goal.returns-then-not-shows-clause-torn
returns-then-not-shows-clause-torn c =
    runs_torn_show c.fail.result (room_left c.args.self.now) c.args.bytes.now _ _ (search rules)
