-- The ledger is opened, and lines or offers are put out from it on
use Rattle.std.proofs.Common.{◌≡◌, ◌<◌, ℕ, List, [], ◌∷◌, ◌++◌, length, refl, arith}
use Rattle.std.specs.Option.{ForSome}
use Rattle.urna_outside.specs.Faults.{IsFaultless}
use Rattle.urna_outside.specs.Flash.{Op}
use Rattle.urna_outside.specs.ShownLines.{HasShown, IsCutOff}
use Rattle.urna_outside.specs.Told.{Runs, Told}
use Rattle.urna_outside.specs.declared.device.Port.{Port}
use Rattle.urna_outside.specs.declared.device.Port.TheVariants as port
use Rattle.election_tables.specs.TablesData.{IsTables, TablesData}
use Rattle.flash_store.specs.Calls.{KeepsHeld}
use Rattle.flash_store.specs.Pieces.{Piece, quiet}
use Rattle.flash_store.specs.Played.{HasPut, HasStopped, IsSafe, Plays}
use Rattle.flash_store.specs.Syncs.{both_synced}
use Rattle.flash_store.proofs.Playing.{opening_call, put_plays, put_shown, put_to, stopped_after, stopped_plays, stopped_shown, whole_call}
use Rattle.intake_ledger.specs.Calls.{IsOpening, Keeps, Opens}
use Rattle.intake_ledger.specs.Kept.{kept_ledger, ledgers}
use Rattle.intake_ledger.specs.Ledger.{LedgerData, accepted_in}
use Rattle.intake_ledger.specs.Totals.{TotalsData}
use Rattle.intake_ledger.proofs.Committing.{stored}
use Rattle.intake_ledger.proofs.Offering.{at_rest}
use Rattle.ledger_commands.specs.Opening.{IsOpened, ledger_line, opening}

-- opening heals, and keeps the ledger that is held
opens_keep : (t : TablesData) (l : LedgerData) (a b : Told) → Runs (λ ops. (rest : List Op) × (ops ≡ both_synced ++ rest) × Opens t l a rest) a b
    → Runs (λ ops. (rest : List Op) × (ops ≡ both_synced ++ rest) × KeepsHeld (ledgers t) l a rest) a b
opens_keep t l a b (ops, does, (rest, is, opens)) = (
  ops,
  does,
  (rest, is, record { within = opens.slots.within; stops = λ start told. (opens.stops start told).1 }),
)

-- a ledger that was opened between a and b
module _ (t : TablesData) (tables : IsTables t) (l : LedgerData) (kept : TotalsData) (a b : Told) (keeps : Keeps t b kept l)
    (ran : Runs (λ ops. (rest : List Op) × (ops ≡ both_synced ++ rest) × Opens t l a rest) a b)
    (exact : ForSome a.flashes (λ start. Runs (IsOpening t l start) a b)) (fine : IsFaultless a b) where
  pub opened : IsOpened t l a b
  opened = record { ran = ran; exact = exact; rest = at_rest t b kept l keeps; fine = fine }

  -- lines that tell no ledger, the first of which is this one
  module _ (line : List ℕ) (lines : List (List ℕ)) (c : Told) where
    pub lines_put : HasShown (line ∷ lines) b c → HasPut (kept_ledger t) l (quiet (line ∷ lines)) b c
    lines_put shown = put_shown (kept_ledger t) l (line ∷ lines) b c (stored t l tables) (at_rest t b kept l keeps) shown

    pub lines_stopped : IsCutOff (line ∷ lines) b c → HasStopped (kept_ledger t) l (quiet (line ∷ lines)) port.Display b c
    lines_stopped off = stopped_shown (kept_ledger t) l (line ∷ lines) b c (stored t l tables) (at_rest t b kept l keeps) off

    pub lines_safe : Runs (Plays (ledgers t) l (quiet (line ∷ lines)) b.flashes) b c → IsSafe (ledgers t) l (quiet (line ∷ lines)) a c
    lines_safe plays = opening_call (kept_ledger t) l line lines a b c (opens_keep t l a b ran) plays

    pub told_safe : HasShown (line ∷ lines) b c → IsSafe (ledgers t) l (quiet (line ∷ lines)) a c
    told_safe shown = lines_safe (put_plays (kept_ledger t) l (quiet (line ∷ lines)) b c (lines_put shown))

    pub cut_safe : IsCutOff (line ∷ lines) b c → IsSafe (ledgers t) l (quiet (line ∷ lines)) a c
    cut_safe off = lines_safe (stopped_plays (kept_ledger t) l (quiet (line ∷ lines)) port.Display b c (lines_stopped off))

  -- offers behind the opening line
  module _ (c d : Told) (shown : HasShown (ledger_line (accepted_in l) ∷ []) b c) (pieces : List (Piece LedgerData)) where
    full_line : 0 < length (ledger_line (accepted_in l))
    full_line = omega arith

    first : HasPut (kept_ledger t) l (opening l) b c
    first = lines_put (ledger_line (accepted_in l)) [] c shown

    pub offers_put : HasPut (kept_ledger t) l pieces c d → HasPut (kept_ledger t) l (opening l ++ pieces) b d
    offers_put put = put_to (kept_ledger t) l (opening l) pieces (opening l ++ pieces) b c d refl (full_line, tt) first put

    pub offers_stopped : (p : Port) → HasStopped (kept_ledger t) l pieces p c d → HasStopped (kept_ledger t) l (opening l ++ pieces) p b d
    offers_stopped p stopped = stopped_after (kept_ledger t) l (opening l) pieces p b c d (full_line, tt) first stopped

    pub offers_safe : Runs (Plays (ledgers t) l pieces c.flashes) c d → IsSafe (ledgers t) l (opening l ++ pieces) a d
    offers_safe plays = whole_call (kept_ledger t) l (ledger_line (accepted_in l)) [] a b c d pieces (full_line, tt) (opens_keep t l a b ran) first plays
