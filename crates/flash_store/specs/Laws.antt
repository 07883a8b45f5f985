-- What a power cut before the second sync of a call leaves
use Rattle.std.specs.Prelude.{List, []}
use Rattle.urna_outside.specs.Flash.{Flashes, Op, after, shown_by}
use Rattle.urna_outside.specs.Stop.{IsLeft, IsStop, Left}
use Rattle.flash_store.specs.Syncs.{both_synced}

-- Where the power stops a call before its second sync, it leaves what it might have left before the call, and nothing was shown.
abbrev pub SyncsLeaveNoMore : Type 0
SyncsLeaveNoMore =
    (start : Flashes) (done : List Op) (left : Left) → IsStop both_synced done → IsLeft (after done start) (shown_by done) left → IsLeft start [] left
