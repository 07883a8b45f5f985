-- Worked rows of the definitions.
use Rattle.std.proofs.Common.{◌≡◌, [], ◌∷◌, refl}
use Rattle.urna_outside.specs.Flash.{Put, Sync, Show, clean_flash, put}
use Rattle.memory_outside.specs.Kept.{kept_ops}
use Rattle.memory_outside.specs.Room.{torn_part}
use Rattle.memory_outside.specs.Tear.{torn}
use Rattle.urna_outside.specs.declared.device.Dev.TheVariants.{Internal, External}
use Rattle.memory_outside.specs.declared.tape.Operation.TheVariants as kept
use Rattle.memory_outside.specs.declared.tear.Tear.TheVariants.{Byte}

-- a show of three bytes that fails shows one, and none where there is no room for an operation
torn_row : torn_part (record { ops = 1; bytes = 9 }) (70 ∷ 73 ∷ 77 ∷ []) ≡ 70 ∷ []
torn_row = refl

no_room_row : torn_part (record { ops = 0; bytes = 9 }) (70 ∷ 73 ∷ 77 ∷ []) ≡ []
no_room_row = refl

-- two writes and a show between them, whose bytes are kept in two rows
kept_row : kept_ops (kept.Put External 2 1 ∷ kept.Show 2 ∷ kept.Sync External ∷ kept.Put Internal 0 2 ∷ []) (5 ∷ 6 ∷ 7 ∷ []) (70 ∷ 73 ∷ [])
    ≡ Put External 2 (5 ∷ []) ∷ Show (70 ∷ 73 ∷ []) ∷ Sync External ∷ Put Internal 0 (6 ∷ 7 ∷ []) ∷ []
kept_row = refl

-- of two bytes put and not synced a power cut leaves 153 in each
tear_row : torn (Byte 0x99) (put 1 (7 ∷ 8 ∷ []) (clean_flash (1 ∷ 2 ∷ 3 ∷ 4 ∷ []))) ≡ 1 ∷ 153 ∷ 153 ∷ 4 ∷ []
tear_row = refl
