-- Ledgers on two flashes: which one is held, flashes at rest, frames, and flashes in use
use Rattle.std.specs.Prelude.{◌≡◌, ◌≢◌, ℕ, ◌+◌, ◌*◌, List}
use Rattle.urna_outside.specs.Flash.{Flashes, Op, flash_of}
use Rattle.urna_outside.specs.Told.{Sizes, size_of}
use Rattle.urna_outside.specs.declared.device.Dev.{Dev}
use Rattle.urna_outside.specs.declared.device.Dev.TheVariants.{Internal, External}
use Rattle.election_tables.specs.TablesData.{TablesData}
use Rattle.gate_slot.specs.Slot.{room}
use Rattle.twin_image.specs.Frame.{HasFrame}
use Rattle.twin_image.specs.Order.{AreRenewals}
use Rattle.flash_store.specs.Held.{Codec, HeldByBoth}
use Rattle.flash_store.specs.InUse.{AreFree as AreFreeOf, IsBusy as IsBusyOf, IsInUse as IsInUseOf, IsUsed as IsUsedOf}
use Rattle.flash_store.specs.Played.{Keeping}
use Rattle.flash_store.specs.Rest.{AreLaidWith}
use Rattle.intake_ledger.specs.Body.{StandsFor, number_in}
use Rattle.intake_ledger.specs.Header.{header, magic}
use Rattle.intake_ledger.specs.Layout.{body_size}
use Rattle.intake_ledger.specs.Ledger.{LedgerData, accepted_in}

-- how many bytes a device has: those of its header and of two slots
abbrev pub device_size : ℕ
device_size = room body_size

-- both devices have them
abbrev pub AreDevices : Sizes → Type 0
AreDevices sizes = (d : Dev) → size_of d sizes ≡ device_size

-- how the ledgers of these tables are written: the later one has more accepted sections
abbrev pub ledgers : TablesData → Codec LedgerData
ledgers t = record { size = body_size; IsEncoding = StandsFor t; rank = accepted_in }

-- both flashes are at rest with a body: whole, and nothing is dirty
abbrev pub AreLaid : TablesData → List ℕ → Flashes → Type 0
AreLaid t body flashes = AreLaidWith body_size (header t) body flashes

-- they are at rest with a ledger: with the body that stands for it
abbrev pub AreAtRest : TablesData → LedgerData → Flashes → Type 0
AreAtRest t l flashes = (body : List ℕ) × StandsFor t l body × AreLaid t body flashes

-- All that a commit does over flashes at rest with a ledger l: internal 0, internal 1, external 0 and external 1 are brought from its body to
-- that of the ledger m, one after the other. Of each the gate is shut, each page of the body that changes is put and the gate is opened, and
-- each of these three steps is synced.
abbrev pub IsCommit : TablesData → LedgerData → LedgerData → List Op → Type 0
IsCommit t l m ops = (a : List ℕ) × (b : List ℕ) × StandsFor t l a × StandsFor t m b × AreRenewals body_size a b ops

-- how many bytes it puts at most: in each of the four slots a body, and two gates
abbrev pub commit_bytes : ℕ
commit_bytes = 4 * (body_size + 2)

-- how the ledgers of these tables are kept on two flashes
abbrev pub kept_ledger : TablesData → Keeping LedgerData
kept_ledger t = record { codec = ledgers t; AreAtRest = AreAtRest t; IsCommit = IsCommit t; commit_bytes = λ l m. commit_bytes }

-- ---- frames

-- the device has the frame of these tables: its header, and zeros behind both gates
abbrev pub HasFrameOf : TablesData → Dev → List ℕ → Type 0
HasFrameOf t d content = HasFrame body_size (header t d) content

-- both devices have it
abbrev pub AreFramed : TablesData → Flashes → Type 0
AreFramed t flashes = (d : Dev) → HasFrameOf t d (flash_of d flashes).content

-- the device hasn't, and it is the first that hasn't
abbrev pub IsForeign : TablesData → Dev → Flashes → Type 0
IsForeign t Internal flashes = ¬ HasFrameOf t Internal flashes.internal.content
IsForeign t External flashes = HasFrameOf t Internal flashes.internal.content × (¬ HasFrameOf t External flashes.external.content)

-- the flashes have the frames of these tables, and hold this ledger together
pub record AreFound (t : TablesData) (l : LedgerData) (flashes : Flashes) : Type 0 where
  pub framed : AreFramed t flashes
  pub held : HeldByBoth (ledgers t) flashes.internal.content flashes.external.content l

-- ---- in use

-- the number of the body is above 0
abbrev pub IsBegun : List ℕ → Type 0
IsBegun body = number_in body ≢ 0

-- the slot is open over such a body
abbrev pub IsUsed : ℕ → List ℕ → Type 0
IsUsed index content = IsUsedOf magic body_size IsBegun index content

-- a device in use: it begins with the magic, and one of its slots is used
abbrev pub IsInUse : List ℕ → Type 0
IsInUse content = IsInUseOf magic body_size IsBegun content

-- the device is in use, and it is the first that is
abbrev pub IsBusy : Dev → Flashes → Type 0
IsBusy d flashes = IsBusyOf magic body_size IsBegun d flashes

-- no device is in use
abbrev pub AreFree : Flashes → Type 0
AreFree flashes = AreFreeOf magic body_size IsBegun flashes
