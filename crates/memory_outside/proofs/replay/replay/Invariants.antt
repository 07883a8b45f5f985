use Rattle.memory_outside.specs.Chip.{flash}
use Rattle.memory_outside.proofs.Replays.{IsReplayed}
use Rattle.memory_outside.proofs.replay.replay.Given as goal

abbrev pub invariant-loop-op : goal.invariant-loop-op
invariant-loop-op l = IsReplayed l.tape l.dev l.first l.op-index l.from (flash l.chip)
