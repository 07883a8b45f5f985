-- Calls over flashes that hold a ledger: which of them put nothing, and that an opening is of the same tables
use Rattle.std.proofs.Common.{◌≡◌, ◌≢◌, ◌⊎◌, inl, inr, ℕ, List, [], ◌∷◌, ◌++◌, Some, take, drop, refl, sym, ap, subst, ◌∙◌, append_assoc, lit≤}
use Rattle.std.specs.Prelude.{replicate}
use Rattle.std.proofs.lemmas.List.{take-take, take_at}
use Rattle.urna_outside.specs.Cabinet.{CabinetTold}
use Rattle.urna_outside.specs.Flash.{Flashes, Op, flash_of}
use Rattle.urna_outside.specs.Told.{Does, Runs, Told}
use Rattle.urna_outside.specs.declared.device.Dev.{Dev}
use Rattle.urna_outside.specs.declared.device.Dev.TheVariants as dev
use Rattle.urna_outside.proofs.Doing.{does-append, does_nothing}
use Rattle.election_tables.specs.TablesData.{IsTables, TablesData}
use Rattle.gate_slot.specs.Slot.{header_size}
use Rattle.flash_store.specs.Syncs.{IsFrontOfSyncs, IsUntouched, both_synced}
use Rattle.intake_ledger.specs.Body.{StandsFor}
use Rattle.intake_ledger.specs.Calls.{FailsToFormat, FailsToOpen}
use Rattle.flash_store.specs.Device.{device_byte}
use Rattle.intake_ledger.specs.Header.{header, header_zeros, magic}
use Rattle.intake_ledger.specs.Kept.{AreFound, HasFrameOf, IsBegun, IsInUse, ledgers}
use Rattle.intake_ledger.specs.Ledger.{LedgerData, accepted_in, panel_choices}
use Rattle.intake_ledger.specs.Totals.{TotalsData}
use Rattle.intake_ledger.specs.declared.ledger.LedgerError.{LedgerError}
use Rattle.intake_ledger.specs.declared.ledger.LedgerError.TheVariants as ledger
use Rattle.intake_ledger.proofs.Telling.{tell_ledger}
use Rattle.command_parts.proofs.Idle.{Idles, front_idles, synced_idles, untouched_idles}
use Rattle.command_parts.proofs.InUse.{one_in_use}
use Rattle.ledger_commands.specs.Abre.{AbreEnds, begin_no_cabinet, begin_no_memory, begin_refused, begun, begun_untold, not_begun}
use Rattle.ledger_commands.specs.declared.status.LedgerStatus.{LedgerStatus}

-- ---- the hash in a header

header_is : (t : TablesData) (d : Dev) → header t d ≡ magic ++ device_byte d ∷ (t.digest ++ replicate header_zeros 0)
unfolding header
header_is t d = refl

magic_first : (byte : ℕ) (rest : List ℕ) → take 8 (magic ++ byte ∷ rest) ≡ magic
magic_first byte rest = refl

hash_place : (t : TablesData) (d : Dev) → IsTables t → take 32 (drop 9 (header t d)) ≡ t.digest
hash_place t d tables =
    ap (λ (l : List ℕ). take 32 (drop 9 l)) (header_is t d)
    ∙ take_at t.digest (replicate header_zeros 0) 32 tables.digest

-- a device has the frames of tables of one hash
same_digest : (t u : TablesData) (d : Dev) (content : List ℕ) → IsTables t → IsTables u → HasFrameOf t d content → HasFrameOf u d content → u.digest ≡ t.digest
same_digest t u d content tables also a b =
    sym (hash_place u d also) ∙ ap (λ (l : List ℕ). take 32 (drop 9 l)) (sym b.at_front ∙ a.at_front) ∙ hash_place t d tables

pub found_digest : (t u : TablesData) (l k : LedgerData) (start : Flashes) → IsTables t → IsTables u → AreFound t l start → AreFound u k start → u.digest ≡ t.digest
found_digest t u l k start tables also a b = same_digest t u dev.Internal start.internal.content tables also (a.framed dev.Internal) (b.framed dev.Internal)

-- ---- flashes in use

begins_so : (t : TablesData) (d : Dev) (content : List ℕ) → HasFrameOf t d content → take 8 content ≡ magic
begins_so t d content frame =
    sym (take-take 8 header_size content (lit≤ tt)) ∙ ap (take 8) (frame.at_front ∙ header_is t d) ∙ magic_first (device_byte d) (t.digest ++ replicate header_zeros 0)

-- the number of a body is that of its ledger
begun_body : (t : TablesData) (l : LedgerData) → accepted_in l ≢ 0 → (body : List ℕ) → StandsFor t l body → IsBegun body
begun_body t l some body stands none =
    let totals : TotalsData = record { choices = panel_choices t; body = body } in
    some (sym (tell_ledger t l totals (record { choices = refl; stands = stands })).0 ∙ none)

-- of two flashes that hold a ledger with a report one is in use
pub found_in_use : (t : TablesData) (l : LedgerData) (start : Flashes) → AreFound t l start → accepted_in l ≢ 0 → (d : Dev) × IsInUse (flash_of d start).content
found_in_use t l start found some =
    one_in_use (ledgers t) l magic IsBegun (begun_body t l some) start (λ d. begins_so t d (flash_of d start).content (found.framed d)) found.held

-- ---- abre, where one is in use

module _ (start : Flashes) (used : Dev) (in_use : IsInUse (flash_of used start).content) (m b : Told) (told : m.flashes ≡ Some start) where
  format_idles : (e : LedgerError) → FailsToFormat m b e → Idles m b
  format_idles ledger.Memory h = untouched_idles m b h
  format_idles (ledger.Flash d) (ends, (ops, does, inl within)) = front_idles m b (ops, does, inl within)
  format_idles (ledger.Flash d) (ends, (ops, does, inr (rest, is, inl none))) =
      front_idles m b (ops, does, inr (is ∙ ap (λ (l : List Op). both_synced ++ l) none))
  format_idles (ledger.Flash d) (ends, (ops, does, inr (rest, is, inr loads))) = absurd (loads.free start told used in_use)
  format_idles (ledger.Foreign d) h = absurd h
  format_idles ledger.NoImage h = absurd h
  format_idles (ledger.Busy d) h = synced_idles m b h.0

  pub abre_idles : (name : List ℕ) (c d : CabinetTold) (s : LedgerStatus) → AbreEnds name c d m b s → Idles m b
  abre_idles name c d s (begin_refused why taken un) = untouched_idles m b un
  abre_idles name c d _ (begin_no_memory taken un) = untouched_idles m b un
  abre_idles name c d _ (begin_no_cabinet taken un) = untouched_idles m b un
  abre_idles name c d _ (not_begun e given taken h) = format_idles e h.fails
  abre_idles name c d _ (begun_untold between given taken h off) = absurd (h.ran.2.2.free start told used in_use)
  abre_idles name c d _ (begun between given taken h shown) = absurd (h.ran.2.2.free start told used in_use)

-- ---- opening a ledger

-- A call synced both flashes first.
abbrev pub FromBoth : Told → Told → Type 0
FromBoth m n = Runs (λ ops. (rest : List Op) × (ops ≡ both_synced ++ rest)) m n

pub from_both : (m a n : Told) → FromBoth m a → (later : List Op) → Does later a n → FromBoth m n
from_both m a n (ops, does, (rest, is)) later more =
    (ops ++ later, does-append ops later m a n does more, (rest ++ later, ap (λ (l : List Op). l ++ later) is ∙ append_assoc both_synced rest later))

-- It made no call, or only the syncs; or it opened a ledger that these flashes hold.
abbrev pub OpensOrNot : TablesData → Flashes → Told → Told → Type 0
OpensOrNot u start m b = Runs IsFrontOfSyncs m b ⊎ (((k : LedgerData) × AreFound u k start) × FromBoth m b)

untouched_front : (m b : Told) → IsUntouched m b → Runs IsFrontOfSyncs m b
untouched_front m b same = subst (Runs IsFrontOfSyncs m) (sym same) ([], does_nothing m, inl (inl refl))

pub unopened : (u : TablesData) (start : Flashes) (m b : Told) → m.flashes ≡ Some start → (e : LedgerError) → FailsToOpen u m b e → OpensOrNot u start m b
unopened u start m b told ledger.Memory same = inl (untouched_front m b same)
unopened u start m b told (ledger.Flash d) (ends, (ops, does, inl within)) = inl (ops, does, inl within)
unopened u start m b told (ledger.Flash d) (ends, (ops, does, inr (rest, is, inl none))) = inl (ops, does, inr (is ∙ ap (λ (l : List Op). both_synced ++ l) none))
unopened u start m b told (ledger.Flash d) (ends, (ops, does, inr (rest, is, inr (k, opens)))) = inr ((k, (opens.stops start told).0), (ops, does, (rest, is)))
unopened u start m b told (ledger.Foreign d) (synced, why) = inl (both_synced, synced.does, inr refl)
unopened u start m b told ledger.NoImage (synced, why) = inl (both_synced, synced.does, inr refl)
unopened u start m b told (ledger.Busy d) h = absurd h
