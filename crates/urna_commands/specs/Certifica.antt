-- The command certifica: what it writes and shows, and how it ends
use Rattle.std.specs.Prelude.{◌≡◌, ◌⊎◌, ℕ, List, [], ◌∷◌, ◌++◌, codes, map, Option}
use Rattle.std.specs.Fmt.{decimal}
use Rattle.urna_base.specs.Lines.{number_line}
use Rattle.urna_outside.specs.Cabinet.{CabinetTold, Entry, Files}
use Rattle.urna_outside.specs.ShownLines.{HasShown, IsCutOff}
use Rattle.urna_outside.specs.Told.{Told}
use Rattle.flash_store.specs.Syncs.{IsUntouched}
use Rattle.seat_remainders.specs.Outcome.{AreSeats}
use Rattle.seat_remainders.specs.declared.contest.Contest.{Contest}
use Rattle.seat_remainders.specs.declared.outcome.Seats.{Seats as SeatsData}
use Rattle.seat_certificate.specs.Substitutes.{substitutes_in}
use Rattle.seat_certificate.specs.Text.{Spells}
use Rattle.seat_certificate.specs.Valid.{IsValid}
use Rattle.seat_certificate.specs.declared.certificate.Certificate.{Certificate}
use Rattle.seat_certificate.specs.declared.substitute.Substitute.{Substitute}
use Rattle.urna_commands.specs.Command.{Certifica}
use Rattle.urna_commands.specs.Office.{ContestStops, HasContest, IsContestFault}
use Rattle.urna_commands.specs.Offered.{HasTakenReports}
use Rattle.urna_commands.specs.Putting.{FailsToPutFile, HasPutFile}
use Rattle.urna_commands.specs.declared.status.Status.{Status}
use Rattle.urna_commands.specs.declared.status.Status.TheVariants as status

-- the name of a certificate under the word OUT
abbrev pub certificate_name : List ℕ → List ℕ
certificate_name out = out ++ codes ".cer"

-- the line that tells a substitute: the bloc, the rank in it, and the number
abbrev pub substitute_line : Substitute → List ℕ
substitute_line s = codes "SUPLENTE " ++ decimal s.bloc ++ codes " " ++ decimal s.rank ++ codes " " ++ decimal s.number ++ 10 ∷ []

-- the line that tells that the certificate of the office of a code is put
abbrev pub certified_line : ℕ → List ℕ
certified_line code = number_line (codes "CERTIFICADO ") code

-- The contest comes to seats, and its certificate tells these, since it is valid (laws::certificates of seat_certificate). The text spells that
-- certificate as one of the office of a code, and the lines tell the substitutes of those who have the seats, and that it is put.
pub record IsCertified (code : ℕ) (contest : Contest) (text : List ℕ) (lines : List (List ℕ)) : Type 0 where
  pub certificate : Certificate
  pub valid : IsValid contest certificate
  pub spelled : Spells text code certificate
  pub seats : SeatsData
  pub come : AreSeats contest seats
  pub told : lines ≡ map substitute_line (substitutes_in contest seats) ++ certified_line code ∷ []

-- the contest comes to no seats: there is no quotient, or the first phase comes to more than there are
abbrev pub HasNoSeats : Contest → Type 0
HasNoSeats contest = (s : SeatsData) → ¬ AreSeats contest s

-- no certificate of a contest was made, since it comes to no seats, or for want of memory
abbrev pub IsNotCertified : Contest → Status → Type 0
IsNotCertified contest s = ((s ≡ status.NoSeats) × HasNoSeats contest) ⊎ (s ≡ status.Memory)

-- ---- what the files give

-- Done where the contest that the files of these names give comes to seats, and else NoSeats
pub data IsByContest (files : Option Files) (names : Certifica) : Status → Type 0 where
  by_seats : {contest : Contest} {s : SeatsData} → HasContest files names.tables names.list names.code contest → AreSeats contest s → IsByContest files names status.Done
  by_no_seats : {contest : Contest} → HasContest files names.tables names.list names.code contest → HasNoSeats contest → IsByContest files names status.NoSeats

-- The status that the files give: they give no contest, or it is by what the contest comes to.
pub data IsCertifyStatus (files : Option Files) (names : Certifica) : Status → Type 0 where
  certify_at_fault : {s : Status} → IsContestFault files names.tables names.list names.code s → IsCertifyStatus files names s
  certify_by_contest : {s : Status} → IsByContest files names s → IsCertifyStatus files names s

-- ---- the endings

-- the file of a certificate with this text
abbrev pub certificate_file : Certifica → List ℕ → Entry
certificate_file names text = record { name = certificate_name names.out; bytes = text }

-- The files of these names give a contest. The text of its certificate was made, and the lines that tell it, and no file was put.
pub record HasMade (names : Certifica) (c taken : CabinetTold) (text : List ℕ) (lines : List (List ℕ)) : Type 0 where
  pub contest : Contest
  pub has : HasContest c.files names.tables names.list names.code contest
  pub made : IsCertified names.code contest text lines
  pub took : HasTakenReports names.tables names.list 2 status.Done c taken

-- How certifica ends, but for the line that tells a fault.
pub data CertificaEnds (names : Certifica) (c d : CabinetTold) (m n : Told) : Status → Type 0 where
  -- There is no contest: nothing is shown, and no file is put.
  certify_no_contest : {s : Status} → ContestStops names.tables names.list names.code c d m n s → CertificaEnds names c d m n s
  -- The contest comes to no seats, or memory was wanted for its certificate: nothing is shown, and no file is put.
  certify_no_seats : {contest : Contest} → HasContest c.files names.tables names.list names.code contest → HasNoSeats contest
      → HasTakenReports names.tables names.list 2 status.NoSeats c d → IsUntouched m n → CertificaEnds names c d m n status.NoSeats
  certify_no_memory : {contest : Contest} → HasContest c.files names.tables names.list names.code contest
      → HasTakenReports names.tables names.list 2 status.Memory c d → IsUntouched m n → CertificaEnds names c d m n status.Memory
  -- The cabinet failed at the certificate: nothing is shown.
  certificate_not_put : {text : List ℕ} {lines : List (List ℕ)} (taken : CabinetTold) → HasMade names c taken text lines
      → FailsToPutFile (certificate_file names text) taken d → IsUntouched m n → CertificaEnds names c d m n status.Cabinet
  -- It was put, and the display failed in one of the lines.
  certified_untold : {text : List ℕ} {lines : List (List ℕ)} (taken : CabinetTold) → HasMade names c taken text lines
      → HasPutFile (certificate_file names text) taken d → IsCutOff lines m n → CertificaEnds names c d m n status.Display
  certified : {text : List ℕ} {lines : List (List ℕ)} (taken : CabinetTold) → HasMade names c taken text lines
      → HasPutFile (certificate_file names text) taken d → HasShown lines m n → CertificaEnds names c d m n status.Done
