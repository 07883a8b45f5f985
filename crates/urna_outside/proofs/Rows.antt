-- Worked rows of the definitions.
use Rattle.std.proofs.Common.{◌≡◌, ◌-◌, ◌^◌, true, false, Some, None, inr, [], ◌∷◌, refl}
use Rattle.urna_outside.specs.Flash.{Op, Put, Sync, Show, clean_flash, put, after, shown_by}
use Rattle.urna_outside.specs.Stop.{IsPartOf, IsStop}
use Rattle.urna_outside.specs.Told.{calls_after, one_more}
use Rattle.urna_outside.specs.Cabinet.{file_at}
use Rattle.urna_outside.specs.declared.device.Dev.TheVariants.{Internal, External}

-- two bytes put from place 1 on
put_row : put 1 (7 ∷ 8 ∷ []) (clean_flash (0 ∷ 0 ∷ 0 ∷ 0 ∷ [])) ≡ record { content = 0 ∷ 7 ∷ 8 ∷ 0 ∷ []; dirty = false ∷ true ∷ true ∷ false ∷ [] }
put_row = refl

-- a put on each device, of which the internal one is synced, and a show between them
after_row : after (Put Internal 0 (5 ∷ []) ∷ Show (70 ∷ []) ∷ Put External 1 (6 ∷ []) ∷ Sync Internal ∷ []) (record { internal = clean_flash (0 ∷ 0 ∷ []); external = clean_flash (0 ∷ 0 ∷ []) })
    ≡ record { internal = record { content = 5 ∷ 0 ∷ []; dirty = false ∷ false ∷ [] }; external = record { content = 0 ∷ 6 ∷ []; dirty = false ∷ true ∷ [] } }
after_row = refl

-- the power goes inside a put of three bytes at 4, of which the middle one was put; the show after it has not begun
stop_row : IsStop (Put Internal 4 (1 ∷ 2 ∷ 3 ∷ []) ∷ Show (70 ∷ []) ∷ []) (Put Internal 5 (2 ∷ []) ∷ [])
stop_row = inr ((1 ∷ [], 2 ∷ [], 3 ∷ [], refl, refl), refl)

-- a sync is done as a whole or not at all
no_part_row : (part : Op) → ¬ IsPartOf (Sync External) part
no_part_row part h = h

shown_row : shown_by (Show (70 ∷ 73 ∷ []) ∷ Sync External ∷ Show (77 ∷ []) ∷ []) ≡ 70 ∷ 73 ∷ 77 ∷ []
shown_row = refl

-- the third call, whose number is 2, fails, and the fourth ends well
calls_row : calls_after true (calls_after false (record { made = 2; failed = 0; last_failed = None })) ≡ record { made = 4; failed = 1; last_failed = Some 2 }
calls_row = refl

-- a count stands at its last value
stands_row : one_more (2 ^ 64 - 1) ≡ 2 ^ 64 - 1
stands_row = refl

-- the first of two files of one name, and a name that is not there
file_row : file_at (97 ∷ []) (record { name = 98 ∷ []; bytes = 1 ∷ [] } ∷ record { name = 97 ∷ []; bytes = 2 ∷ [] } ∷ record { name = 97 ∷ []; bytes = 3 ∷ [] } ∷ []) ≡ Some (2 ∷ [])
file_row = refl

lacks_row : file_at [] (record { name = 98 ∷ []; bytes = 1 ∷ [] } ∷ []) ≡ None
lacks_row = refl
