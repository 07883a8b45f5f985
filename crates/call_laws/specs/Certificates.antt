-- What a certificate that verifica finds valid says, and what it tells of one that certifica put
use Rattle.std.specs.Prelude.{◌≡◌, ◌≢◌, ◌⊎◌, ℕ, List, [], ◌∷◌, Ok, Some}
use Rattle.std.specs.List.{AllByRecursion}
use Rattle.urna_outside.specs.Cabinet.{CabinetTold, Files}
use Rattle.urna_outside.specs.ShownLines.{HasShown}
use Rattle.urna_outside.specs.Told.{Told}
use Rattle.seat_remainders.specs.declared.contest.Contest.{Contest}
use Rattle.seat_remainders.specs.declared.outcome.Outcome.{Outcome}
use Rattle.seat_remainders.specs.declared.outcome.Outcome.TheVariants as outcome
use Rattle.seat_remainders.specs.declared.outcome.Seats.{Seats as SeatsData}
use Rattle.seat_remainders.specs.Outcome.{AreSeats, IsOutcome}
use Rattle.seat_certificate.specs.Laws.{Tells}
use Rattle.seat_certificate.specs.declared.certificate.Certificate.{Certificate}
use Rattle.command_parts.specs.Documents.{HasNames}
use Rattle.urna_commands.specs.Certifica.{CertificaEnds, certificate_name}
use Rattle.urna_commands.specs.Command.{Certifica, Verifica}
use Rattle.urna_commands.specs.Verifica.{HasContestAndCertificate, VerificaEnds, checked_line}
use Rattle.urna_commands.specs.declared.status.Status.{Status}
use Rattle.urna_commands.specs.declared.status.Status.TheVariants as status

-- Where verifica is Done over a cabinet that tells its files, the file is a certificate of the office, and tells seats. They come of the contest of
-- the accepted reports, and nothing else does.
abbrev pub VerifiedTellsSeats : Type 0
VerifiedTellsSeats =
    (names : Verifica) (c d : CabinetTold) (m n : Told) → VerificaEnds names c d m n status.Done → (files : Files) → c.files ≡ Some files
    → (contest : Contest) × (certificate : Certificate) × (s : SeatsData) × HasContestAndCertificate (Some files) names contest certificate × Tells certificate s
    × AreSeats contest s × ((o : Outcome) → IsOutcome contest o → o ≡ outcome.Seats s)

-- the certificate has another name than the tables, the list and the listed reports
abbrev pub HasOwnName : Files → Certifica → Type 0
HasOwnName files names =
    (listed : List (List ℕ)) → HasNames (Some files) names.list listed → AllByRecursion (λ name. name ≢ certificate_name names.out) (names.tables ∷ names.list ∷ listed)

-- Whoever calls verifica with the same names and this certificate over the files that a cabinet tells is shown that it is valid, and the status is
-- Done; or memory was wanted, or the cabinet or the display failed.
abbrev pub IsValidThere : Certifica → CabinetTold → Type 0
IsValidThere names behind =
    (c d : CabinetTold) (m n : Told) (answer : Status)
    → VerificaEnds (record { tables = names.tables; list = names.list; code = names.code; certificate = certificate_name names.out }) c d m n answer → c.files ≡ behind.files
    → ((answer ≡ status.Done) × HasShown (checked_line names.code (Ok tt) ∷ []) m n) ⊎ (answer ≡ status.Memory) ⊎ (answer ≡ status.Cabinet) ⊎ (answer ≡ status.Display)

-- So it is where certifica is Done, and the certificate has a name of its own.
abbrev pub CertifiedIsValid : Type 0
CertifiedIsValid =
    (names : Certifica) (c d : CabinetTold) (m n : Told) → CertificaEnds names c d m n status.Done → (files : Files) → c.files ≡ Some files → HasOwnName files names
    → IsValidThere names d
