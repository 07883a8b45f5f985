-- Operations as a recorder keeps them: the bytes of all puts stand in one row and those of all shows in another, in order.
use Rattle.std.specs.Prelude.{ℕ, ◌+◌, List, [], ◌∷◌, take, drop}
use Rattle.urna_outside.specs.Flash.{Op, Put, Sync, Show}
use Rattle.memory_outside.specs.declared.tape.Operation.{Operation}
use Rattle.memory_outside.specs.declared.tape.Operation.TheVariants as kept

-- how many bytes an operation has in the row of puts
abbrev pub put_length : Operation → ℕ
put_length (kept.Put dev at len) = len
put_length (kept.Sync dev) = 0
put_length (kept.Show len) = 0

-- and in the row of shows
abbrev pub shown_length : Operation → ℕ
shown_length (kept.Put dev at len) = 0
shown_length (kept.Sync dev) = 0
shown_length (kept.Show len) = len

-- the place behind the bytes that an operation put on its device
abbrev pub end_of : Operation → ℕ
end_of (kept.Put dev at len) = at + len
end_of (kept.Sync dev) = 0
end_of (kept.Show len) = 0

-- how many bytes these operations have in the row of puts
abbrev pub put_total : List Operation → ℕ
put_total [] = 0
put_total (op ∷ ops) = put_length op + put_total ops

-- and in the row of shows
abbrev pub shown_total : List Operation → ℕ
shown_total [] = 0
shown_total (op ∷ ops) = shown_length op + shown_total ops

-- an operation whose bytes stand at the front of its row
abbrev pub kept_op : Operation → List ℕ → List ℕ → Op
kept_op (kept.Put dev at len) puts shown = Put dev at (take len puts)
kept_op (kept.Sync dev) puts shown = Sync dev
kept_op (kept.Show len) puts shown = Show (take len shown)

-- the operations, each with its bytes
abbrev pub kept_ops : List Operation → List ℕ → List ℕ → List Op
kept_ops [] puts shown = []
kept_ops (op ∷ ops) puts shown =
    kept_op op puts shown ∷ kept_ops ops (drop (put_length op) puts) (drop (shown_length op) shown)
