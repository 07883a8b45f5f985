-- What is so of all ledgers, and of what two flashes hold
use Rattle.std.specs.Prelude.{◌≡◌, ◌≢◌, ◌↔◌, ℕ, ◌<◌, ◌^◌, List, [], ◌∷◌, Option, Some, None, Contains, length, map}
use Rattle.std.specs.List.{sum_by}
use Rattle.std.specs.Option.{option_and_then}
use Rattle.urna_outside.specs.Flash.{Flashes, flash_of}
use Rattle.urna_outside.specs.Started.{clean_flashes}
use Rattle.urna_outside.specs.Stop.{Left}
use Rattle.urna_outside.specs.Told.{AreSized, Sizes}
use Rattle.urna_outside.specs.declared.device.Dev.{Dev}
use Rattle.election_tables.specs.TablesData.{IsTables, TablesData}
use Rattle.hash_chain.specs.Hash.{hash_text}
use Rattle.poll_report.specs.declared.report.Report.{Report}
use Rattle.section_intake.specs.Accepted.{AreOffered, File, IsOfSection}
use Rattle.section_intake.specs.Laws.{AreShort}
use Rattle.section_intake.specs.Sums.{AreReportsOf}
use Rattle.section_intake.specs.declared.verdict.Verdict.{Verdict}
use Rattle.section_intake.specs.declared.verdict.Verdict.TheVariants as verdict
use Rattle.vote_kinds.specs.declared.choice.Choice.{Choice}
use Rattle.twin_image.specs.Held.{held_alone, held_on}
use Rattle.flash_store.specs.Held.{HeldByBoth, Hold, HoldNone, KeepFrames, bodies_of_both, open_bodies}
use Rattle.flash_store.specs.Pieces.{Piece, commits_in}
use Rattle.flash_store.specs.Played.{Follows}
use Rattle.intake_ledger.specs.Body.{StandsFor, decoded, rank_in}
use Rattle.intake_ledger.specs.Kept.{AreAtRest, AreDevices, AreFound, AreFramed, device_size, ledgers}
use Rattle.intake_ledger.specs.LastHash.{IsLastHash}
use Rattle.intake_ledger.specs.Layout.{body_size}
use Rattle.intake_ledger.specs.Ledger.{IsLedger, LedgerData, accepted_in, empty_ledger, panel_choices, sum_of, votes_in}
use Rattle.intake_ledger.specs.Offers.{AreOfferedTo, IsOffer}
use Rattle.intake_ledger.specs.Totals.{AreTotals, TotalsData, accepted_told, sum_told}

-- bytes stand for a ledger exactly where that is what is read of them
abbrev pub ReadExactly : Type 0
ReadExactly = (t : TablesData) (l : LedgerData) (bytes : List ℕ) → (decoded t bytes ≡ Some l) ↔ StandsFor t l bytes

-- what they stand for is a ledger of the tables,
abbrev pub AreLedgers : Type 0
AreLedgers = (t : TablesData) (l : LedgerData) (bytes : List ℕ) → IsTables t → StandsFor t l bytes → IsLedger t l

-- the ledger before the first report has a body,
abbrev pub EmptyHasBody : Type 0
EmptyHasBody = (t : TablesData) → IsTables t → (body : List ℕ) × StandsFor t (empty_ledger t) body

-- and no other bytes stand for it
abbrev pub OneBody : Type 0
OneBody = (t : TablesData) (l : LedgerData) (a b : List ℕ) → IsTables t → StandsFor t l a → StandsFor t l b → a ≡ b

-- totals tell the number of the accepted sections and the sums of their ledger
abbrev pub TellLedger : Type 0
TellLedger = (t : TablesData) (l : LedgerData) (d : TotalsData) → AreTotals t l d
    → (accepted_told d ≡ accepted_in l) × ((panel : ℕ) (c : Choice) → sum_told d panel c ≡ sum_of t l panel c)

-- ---- offers

-- a file that is offered has no other verdict, and leaves no other ledger
abbrev pub OneOffer : Type 0
OneOffer = (t : TablesData) (l m k : LedgerData) (file : File) (v w : Verdict) → length file < 2 ^ 63 → IsOffer t l file v m → IsOffer t l file w k
    → (v ≡ w) × (m ≡ k)

-- and each file has one
abbrev pub SomeOffer : Type 0
SomeOffer = (t : TablesData) (l : LedgerData) (file : File) → IsTables t → length file < 2 ^ 63 → (v : Verdict) × (m : LedgerData) × IsOffer t l file v m

-- A file that was accepted is repeated from then on, whatever is offered between.
abbrev pub AcceptedIsRepeated : Type 0
AcceptedIsRepeated =
    (t : TablesData) (l m k : LedgerData) (file : File) (zone section : ℕ) (files : List File) (verdicts : List Verdict) (pieces : List (Piece LedgerData)) → IsLedger t l
    → IsOffer t l file (verdict.Accepted zone section) m → AreOfferedTo t m files verdicts pieces k → IsOffer t k file (verdict.Repeated zone section) k

-- ---- the ledger, and the intake of the same files

-- two different texts with one SHA-512, as it is written
abbrev pub Collision : Type 0
Collision = (x : List ℕ) × (y : List ℕ) × (x ≢ y) × (hash_text x ≡ hash_text y)

-- The verdict of a ledger on a file is that of the intake, which accepts these files. Only a file that is in conflict there may be repeated
-- here, where the accepted file of its section is another one with the same hash of its last part; and then two different texts have one SHA-512.
pub data IsSaidSo (t : TablesData) (accepted : List File) (file : File) : Verdict → Verdict → Type 0 where
  same : {v : Verdict} → IsSaidSo t accepted file v v
  collided : {zone section : ℕ} {other : File} {hash : List ℕ} → Contains accepted other → IsOfSection t zone section other → other ≢ file
      → IsLastHash other hash → IsLastHash file hash → Collision → IsSaidSo t accepted file (verdict.Conflict zone section) (verdict.Repeated zone section)

-- so it is of each of these files
abbrev pub AreSaidSo : TablesData → List File → List File → List Verdict → List Verdict → Type 0
AreSaidSo t accepted [] [] [] = Unit {0}
AreSaidSo t accepted (file ∷ files) (v ∷ verdicts) (w ∷ said) = IsSaidSo t accepted file v w × AreSaidSo t accepted files verdicts said
AreSaidSo t accepted files verdicts said = ⊥

-- The ledger has the sums over the reports of these accepted files, and as many sections as there are.
pub record HasSumsOf (t : TablesData) (accepted : List File) (l : LedgerData) : Type 0 where
  pub reports : List Report
  pub read : AreReportsOf accepted reports
  pub sums : l.sums ≡ map (λ x. sum_by (votes_in x) reports) (panel_choices t)
  pub number : accepted_in l ≡ length accepted

-- Files that are offered to the ledger before the first report have the verdicts that an intake gives them, but where two of them have one last
-- hash; and the ledger has the sums over those that the intake accepts, even then.
abbrev pub LedgerIsIntake : Type 0
LedgerIsIntake = (t : TablesData) (files accepted : List File) (verdicts said : List Verdict) (pieces : List (Piece LedgerData)) (l : LedgerData) → IsTables t
    → AreShort files → AreOffered t files verdicts accepted → AreOfferedTo t (empty_ledger t) files said pieces l → AreSaidSo t accepted files verdicts said × HasSumsOf t accepted l

-- ---- on two flashes

-- bodies hold one ledger at most
abbrev pub OneIsHeld : Type 0
OneIsHeld = (t : TablesData) (bodies : List (List ℕ)) (l m : LedgerData) → Hold (ledgers t) bodies l → Hold (ledgers t) bodies m → l ≡ m

-- What bodies hold is this answer, and where it is none they hold none.
abbrev pub IsDecodedFrom : TablesData → List (List ℕ) → Option LedgerData → Type 0
IsDecodedFrom t bodies answer =
    ((l : LedgerData) → Hold (ledgers t) bodies l ↔ (answer ≡ Some l)) × (HoldNone (ledgers t) bodies ↔ (answer ≡ None))

-- What both images together hold, and what one alone holds, is what is read of the body of greatest rank, among equals the first.
abbrev pub HeldIsDecoded : Type 0
HeldIsDecoded = (t : TablesData) (internal external : List ℕ)
    → IsDecodedFrom t (bodies_of_both body_size internal external) (option_and_then (decoded t) (held_on (rank_in t) body_size internal external))
    × IsDecodedFrom t (open_bodies body_size internal) (option_and_then (decoded t) (held_alone (rank_in t) body_size internal))

-- flashes at rest with a ledger, on devices of their size, are found with it
abbrev pub RestIsFound : Type 0
RestIsFound = (t : TablesData) (l : LedgerData) (sizes : Sizes) (flashes : Flashes) → AreDevices sizes → AreSized sizes flashes
    → AreAtRest t l flashes → AreFound t l flashes

-- ---- where the power goes

-- both flashes have their size
abbrev pub AreWhole : Flashes → Type 0
AreWhole flashes = (d : Dev) → length (flash_of d flashes).content ≡ device_size

-- What a power cut left is one of these ledgers again, on devices of their size, with the frames of these tables.
pub record IsLedgerAgain (t : TablesData) (ledgers : List LedgerData) (left : Left) : Type 0 where
  pub whole : AreWhole (clean_flashes left.internal left.external)
  pub ledger : LedgerData
  pub one : Contains ledgers ledger
  pub found : AreFound t ledger (clean_flashes left.internal left.external)

-- So it is with what is left of an opening, in the ledger that it found,
abbrev pub OpeningGoesOn : Type 0
OpeningGoesOn = (t : TablesData) (l : LedgerData) (start : Flashes) (left : Left) → AreWhole start → AreFound t l start
    → HeldByBoth (ledgers t) left.internal left.external l → KeepFrames body_size start left → IsLedgerAgain t (l ∷ []) left

-- and of offers, in the ledger before them or one that they tell.
abbrev pub OffersGoOn : Type 0
OffersGoOn = (t : TablesData) (l : LedgerData) (pieces : List (Piece LedgerData)) (start : Flashes) (left : Left) → AreWhole start → AreFramed t start
    → Follows (ledgers t) l pieces left → KeepFrames body_size start left → IsLedgerAgain t (l ∷ commits_in pieces) left
