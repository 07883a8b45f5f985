-- The command verifica: what it shows, and how it ends
use Rattle.std.specs.Prelude.{◌≡◌, ◌≢◌, ℕ, List, [], ◌∷◌, ◌++◌, codes, Option, Result, Ok, Err}
use Rattle.std.specs.Fmt.{decimal}
use Rattle.urna_outside.specs.Cabinet.{CabinetTold, Files}
use Rattle.urna_outside.specs.Told.{Told}
use Rattle.flash_store.specs.Syncs.{IsUntouched}
use Rattle.seat_remainders.specs.declared.contest.Contest.{Contest}
use Rattle.seat_certificate.specs.Valid.{IsCertFault, IsValid}
use Rattle.seat_certificate.specs.declared.certificate.Certificate.{Certificate}
use Rattle.seat_certificate.specs.declared.check.CertFault.{CertFault}
use Rattle.seat_certificate.specs.declared.check.CertFault.TheVariants as fault
use Rattle.command_parts.specs.Documents.{HasCertificate}
use Rattle.urna_commands.specs.Answering.{Answers}
use Rattle.urna_commands.specs.Command.{Verifica}
use Rattle.urna_commands.specs.Documents.{IsFault}
use Rattle.urna_commands.specs.Office.{ContestStops, HasContest, IsContestFault}
use Rattle.urna_commands.specs.Offered.{HasTakenReports}
use Rattle.command_parts.specs.declared.error.Doc.TheVariants as doc
use Rattle.urna_commands.specs.declared.status.Status.{Status}
use Rattle.urna_commands.specs.declared.status.Status.TheVariants as status

-- the line of a certificate's text in which the code of its office stands
abbrev pub code_line : ℕ
code_line = 2

-- ---- what the files hold

-- The certificate of these names may not be checked, and this status says why: its file is at fault, or it is one of another office than that of
-- the code.
pub data IsCertificateFault (files : Option Files) (names : Verifica) : Status → Type 0 where
  of_file : {s : Status} → IsFault files names.certificate doc.Certificate s → IsCertificateFault files names s
  of_other_office : {code : ℕ} {certificate : Certificate} → HasCertificate files names.certificate code certificate → code ≢ names.code
      → IsCertificateFault files names (status.CertificateLine code_line)

-- A document of verifica is at fault, and this status says it: those that give the contest are tried first, and the certificate where there is one.
pub data IsVerifyFault (files : Option Files) (names : Verifica) : Status → Type 0 where
  first_contest : {s : Status} → IsContestFault files names.tables names.list names.code s → IsVerifyFault files names s
  then_certificate : {contest : Contest} {s : Status} → HasContest files names.tables names.list names.code contest → IsCertificateFault files names s
      → IsVerifyFault files names s

-- the files of these names give this contest, and this certificate of its office
pub record HasContestAndCertificate (files : Option Files) (names : Verifica) (contest : Contest) (certificate : Certificate) : Type 0 where
  pub contest_is : HasContest files names.tables names.list names.code contest
  pub certificate_is : HasCertificate files names.certificate names.code certificate

-- ---- the check

-- what a check of a certificate may come to: that it is valid, or its first fault
abbrev pub Check : Type 0
Check = Result (Unit {0}) CertFault

-- this is what the check of a certificate comes to for a contest
abbrev pub IsChecked : Contest → Certificate → Check → Type 0
IsChecked contest certificate (Ok valid) = IsValid contest certificate
IsChecked contest certificate (Err f) = IsCertFault contest certificate f

-- what tells it, without the line feed
abbrev pub checked_text : ℕ → Check → List ℕ
checked_text code (Ok valid) = codes "CERTIFICADO VALIDO " ++ decimal code
checked_text code (Err fault.Quotient) = codes "RECUSADO QUOCIENTE"
checked_text code (Err (fault.First k)) = codes "RECUSADO PRIMEIRA " ++ decimal k
checked_text code (Err (fault.Round k)) = codes "RECUSADO RODADA " ++ decimal k
checked_text code (Err fault.End) = codes "RECUSADO FIM"

-- the line that tells it
abbrev pub checked_line : ℕ → Check → List ℕ
checked_line code checked = checked_text code checked ++ 10 ∷ []

-- a certificate with a fault is refused
abbrev pub checked_status : Check → Status
checked_status (Ok valid) = status.Done
checked_status (Err f) = status.CertificateRefused f

-- the status that the check of the certificate gives for the contest, where the files give both
pub record IsByCheck (files : Option Files) (names : Verifica) (s : Status) : Type 0 where
  pub contest : Contest
  pub certificate : Certificate
  pub given : HasContestAndCertificate files names contest certificate
  pub checked : Check
  pub is_checked : IsChecked contest certificate checked
  pub is : s ≡ checked_status checked

-- The status that the files give: a document is at fault, or it is by the check.
pub data IsVerifyStatus (files : Option Files) (names : Verifica) : Status → Type 0 where
  verify_at_fault : {s : Status} → IsVerifyFault files names s → IsVerifyStatus files names s
  verify_by_check : {s : Status} → IsByCheck files names s → IsVerifyStatus files names s

-- ---- the endings

-- How verifica ends, but for the line that tells a fault.
pub data VerificaEnds (names : Verifica) (c d : CabinetTold) (m n : Told) : Status → Type 0 where
  -- There is no contest: nothing is shown.
  verify_no_contest : {s : Status} → ContestStops names.tables names.list names.code c d m n s → VerificaEnds names c d m n s
  -- The certificate is at fault, memory was wanted for it, or the cabinet failed at it: nothing is shown.
  certificate_at_fault : {contest : Contest} {s : Status} → HasContest c.files names.tables names.list names.code contest → IsCertificateFault c.files names s
      → HasTakenReports names.tables names.list 3 s c d → IsUntouched m n → VerificaEnds names c d m n s
  verify_no_memory : HasTakenReports names.tables names.list 3 status.Memory c d → IsUntouched m n → VerificaEnds names c d m n status.Memory
  verify_no_cabinet : HasTakenReports names.tables names.list 3 status.Cabinet c d → IsUntouched m n → VerificaEnds names c d m n status.Cabinet
  -- What the check comes to is told.
  verified : {contest : Contest} {certificate : Certificate} {s : Status} (checked : Check)
      → HasContestAndCertificate c.files names contest certificate → IsChecked contest certificate checked
      → HasTakenReports names.tables names.list 3 s c d → Answers (checked_line names.code checked) (checked_status checked) m n s → VerificaEnds names c d m n s
