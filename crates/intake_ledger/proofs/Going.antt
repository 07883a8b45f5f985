-- What a power cut leaves is a ledger again.
use Rattle.std.proofs.Common.{List, [], ◌∷◌, length, ◌∙◌, arith}
use Rattle.std.specs.Prelude.{Contains}
use Rattle.std.proofs.lemmas.List.Elements.{Contains-get_or}
use Rattle.urna_outside.specs.Flash.{Flashes}
use Rattle.urna_outside.specs.Started.{clean_flashes}
use Rattle.urna_outside.specs.Stop.{Left}
use Rattle.urna_outside.specs.declared.device.Dev.TheVariants.{Internal, External}
use Rattle.election_tables.specs.TablesData.{TablesData}
use Rattle.twin_image.proofs.Laid.{frame_kept}
use Rattle.flash_store.specs.Held.{HeldByBoth, KeepFrames}
use Rattle.flash_store.specs.Pieces.{commits_in, lines_in, lines_reached}
use Rattle.flash_store.proofs.Counting.{held_among}
use Rattle.intake_ledger.specs.Header.{header}
use Rattle.intake_ledger.specs.Kept.{AreFramed, ledgers}
use Rattle.intake_ledger.specs.Laws.{AreWhole, IsLedgerAgain, OffersGoOn, OpeningGoesOn}
use Rattle.intake_ledger.specs.Layout.{body_size}
use Rattle.intake_ledger.specs.Ledger.{LedgerData}

module _ (t : TablesData) (m : LedgerData) (of : List LedgerData) (start : Flashes) (left : Left) (whole : AreWhole start) (framed : AreFramed t start) (keeps : KeepFrames body_size start left)
    (held : HeldByBoth (ledgers t) left.internal left.external m) (one : Contains of m) where
  whole_left : AreWhole (clean_flashes left.internal left.external)
  whole_left Internal = (keeps Internal).same_length ∙ whole Internal
  whole_left External = (keeps External).same_length ∙ whole External

  framed_left : AreFramed t (clean_flashes left.internal left.external)
  framed_left Internal = frame_kept body_size (header t Internal) start.internal.content left.internal (omega (arith, whole Internal)) (keeps Internal) (framed Internal)
  framed_left External = frame_kept body_size (header t External) start.external.content left.external (omega (arith, whole External)) (keeps External) (framed External)

  pub again : IsLedgerAgain t of left
  again = record { whole = whole_left; ledger = m; one = one; found = record { framed = framed_left; held = held } }

pub opening_goes_on : OpeningGoesOn
opening_goes_on t l start left whole found held keeps = again t l (l ∷ []) start left whole found.framed keeps held (Contains-get_or (l ∷ []) 0 l (omega arith))

pub offers_go_on : OffersGoOn
offers_go_on t l pieces start left whole framed follows keeps =
    let k = lines_reached (lines_in pieces) (length left.shown) in
    let held = held_among l pieces k (HeldByBoth (ledgers t) left.internal left.external) follows.holds.both in
    again t held.0 (l ∷ commits_in pieces) start left whole framed keeps held.1 held.2
