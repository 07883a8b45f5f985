-- How certifica and verifica end, and what one tells of the other's file
use Rattle.std.proofs.Common.{◌≡◌, ◌⊎◌, inl, inr, ℕ, List, Option, Some, Ok, Err, refl, sym, ap, subst, ◌∙◌}
use Rattle.urna_outside.specs.Cabinet.{CabinetTold, Files}
use Rattle.urna_outside.specs.Told.{Told}
use Rattle.key_script.specs.Laws.{OneListAnswers}
use Rattle.seat_remainders.specs.Outcome.{AreSeats}
use Rattle.seat_remainders.specs.declared.contest.Contest.{Contest}
use Rattle.seat_remainders.specs.declared.outcome.Seats.{Seats as SeatsData}
use Rattle.seat_certificate.specs.declared.certificate.Certificate.{Certificate}
use Rattle.seat_certificate.proofs.Faults as faults
use Rattle.command_parts.specs.Documents.{HasCertificate, IsFault as IsFaultOf}
use Rattle.urna_commands.specs.Answering.{Answers, answered, cut_short}
use Rattle.urna_commands.specs.Certifica.{CertificaEnds, HasNoSeats, IsByContest, IsCertifyStatus, by_no_seats, by_seats, certificate_not_put, certified, certified_untold, certify_at_fault, certify_by_contest, certify_no_contest, certify_no_memory, certify_no_seats}
use Rattle.urna_commands.specs.Command.{Certifica, Verifica}
use Rattle.urna_commands.specs.Documents.{IsFault}
use Rattle.urna_commands.specs.Laws.{CertifyEndsSo, OneCertifyStatus, OneVerifyStatus, VerifyEndsSo}
use Rattle.urna_commands.specs.Office.{ContestStops, HasContest, HasOfficeAndReports, IsContestFault, contest_no_cabinet, contest_no_memory, contest_refused}
use Rattle.urna_commands.specs.Verifica.{Check, HasContestAndCertificate, IsCertificateFault, IsChecked, IsVerifyFault, IsVerifyStatus, VerificaEnds, certificate_at_fault, checked_line, checked_status, first_contest, of_file, of_other_office, then_certificate, verified, verify_at_fault, verify_by_check, verify_no_cabinet, verify_no_contest, verify_no_memory}
use Rattle.command_parts.specs.declared.error.Doc.TheVariants as doc
use Rattle.urna_commands.specs.declared.status.Status.{Status}
use Rattle.urna_commands.specs.declared.status.Status.TheVariants as status
use Rattle.command_parts.proofs.Ending.{error_told}
use Rattle.command_parts.proofs.Once.{certificate_not_fault as no_certificate_fault, same_certificate}
use Rattle.urna_commands.specs.Errors.{error_of}
use Rattle.urna_commands.proofs.Offices.{fault_or_contest, fault_or_office, one_contest_fault, same_contest}
use Rattle.urna_commands.proofs.Once.{fault_once}

-- ---- certifica

module _ (answers : OneListAnswers) (files : Files) (names : Certifica) where
  seats_or_none : (x y : Contest) (s : SeatsData) → HasContest (Some files) names.tables names.list names.code x → HasContest (Some files) names.tables names.list names.code y → AreSeats x s → HasNoSeats y → ⊥
  seats_or_none x y s h i are none = none s (subst (λ (c : Contest). AreSeats c s) (same_contest answers files names.tables names.list names.code x y h i) are)

  by_one_contest : (s u : Status) → IsByContest (Some files) names s → IsByContest (Some files) names u → s ≡ u
  by_one_contest _ _ (by_seats has are) (by_seats also were) = refl
  by_one_contest _ _ (by_seats {contest} {s} has are) (by_no_seats {contest = other} also none) = absurd (seats_or_none contest other s has also are none)
  by_one_contest _ _ (by_no_seats {contest} has none) (by_seats {contest = other} {s} also are) = absurd (seats_or_none other contest s also has are none)
  by_one_contest _ _ (by_no_seats has none) (by_no_seats also nobody) = refl

  pub fault_or_counted : (s u : Status) → IsContestFault (Some files) names.tables names.list names.code s → IsByContest (Some files) names u → ⊥
  fault_or_counted s _ why (by_seats {contest} has are) = fault_or_contest answers files names.tables names.list names.code s contest why has
  fault_or_counted s _ why (by_no_seats {contest} has none) = fault_or_contest answers files names.tables names.list names.code s contest why has

  one_status : (s u : Status) → IsCertifyStatus (Some files) names s → IsCertifyStatus (Some files) names u → s ≡ u
  one_status s u (certify_at_fault h) (certify_at_fault i) = one_contest_fault answers files names.tables names.list names.code s u h i
  one_status s u (certify_at_fault h) (certify_by_contest i) = absurd (fault_or_counted s u h i)
  one_status s u (certify_by_contest h) (certify_at_fault i) = absurd (fault_or_counted u s i h)
  one_status s u (certify_by_contest h) (certify_by_contest i) = by_one_contest s u h i

pub one_certify_status : OneListAnswers → OneCertifyStatus
one_certify_status answers files names s u h i = one_status answers files names s u h i

-- what a command answers that has no contest
stops_so : (tables list : List ℕ) (code : ℕ) (c d : CabinetTold) (m n : Told) (s : Status) → ContestStops tables list code c d m n s
    → IsContestFault c.files tables list code s ⊎ (s ≡ status.Memory) ⊎ (s ≡ status.Cabinet)
stops_so tables list code c d m n s (contest_refused why taken un) = inl why
stops_so tables list code c d m n s (contest_no_memory taken un) = inr (inl refl)
stops_so tables list code c d m n s (contest_no_cabinet taken un) = inr (inr refl)

pub certify_ends_so : CertifyEndsSo
certify_ends_so names c d m n s (certify_no_contest stops) = elim (stops_so names.tables names.list names.code c d m n s stops) [
  | inl why ↦ inl (certify_at_fault why)
  | inr (inl memory) ↦ inr (inl memory)
  | inr (inr cabinet) ↦ inr (inr (inl cabinet))
]
certify_ends_so names c d m n s (certify_no_seats has none taken un) = inl (certify_by_contest (by_no_seats has none))
certify_ends_so names c d m n s (certify_no_memory has taken un) = inr (inl refl)
certify_ends_so names c d m n s (certificate_not_put after made fails un) = inr (inr (inl refl))
certify_ends_so names c d m n s (certified_untold after made put off) = inr (inr (inr refl))
certify_ends_so names c d m n s (certified after made put shown) = inl (certify_by_contest (by_seats made.has made.made.come))

-- ---- verifica

certificate_not_fault : (files : Files) (name : List ℕ) (s : Status) (code : ℕ) (x : Certificate) → IsFault (Some files) name doc.Certificate s → HasCertificate (Some files) name code x → ⊥
certificate_not_fault files name s code x h has =
    let told = error_told error_of s (IsFaultOf (Some files) name doc.Certificate) h in no_certificate_fault files name told.0 code x told.2 has

-- a check comes to one answer
one_check : (contest : Contest) (x : Certificate) (a b : Check) → IsChecked contest x a → IsChecked contest x b → checked_status a ≡ checked_status b
one_check contest x (Ok v) (Ok w) h i = refl
one_check contest x (Ok v) (Err g) h i = absurd (faults.never_both contest x g h i)
one_check contest x (Err f) (Ok w) h i = absurd (faults.never_both contest x f i h)
one_check contest x (Err f) (Err g) h i = ap status.CertificateRefused (faults.one_fault contest x f g h i)

module _ (answers : OneListAnswers) (files : Files) (names : Verifica) where
  certificate_once : (s u : Status) → IsCertificateFault (Some files) names s → IsCertificateFault (Some files) names u → s ≡ u
  certificate_once s u (of_file h) (of_file i) = fault_once files names.certificate doc.Certificate s u h i
  certificate_once s _ (of_file h) (of_other_office {code} {certificate} has other) = absurd (certificate_not_fault files names.certificate s code certificate h has)
  certificate_once _ u (of_other_office {code} {certificate} has other) (of_file i) = absurd (certificate_not_fault files names.certificate u code certificate i has)
  certificate_once _ _ (of_other_office has other) (of_other_office also another) = refl

  certificate_or_read : (s : Status) (x : Certificate) → IsCertificateFault (Some files) names s → HasCertificate (Some files) names.certificate names.code x → ⊥
  certificate_or_read s x (of_file h) has = certificate_not_fault files names.certificate s names.code x h has
  certificate_or_read _ x (of_other_office {code} {certificate} also other) has = other (same_certificate files names.certificate code names.code certificate x also has).0

  pub one_verify_fault : (s u : Status) → IsVerifyFault (Some files) names s → IsVerifyFault (Some files) names u → s ≡ u
  one_verify_fault s u (first_contest h) (first_contest i) = one_contest_fault answers files names.tables names.list names.code s u h i
  one_verify_fault s u (first_contest h) (then_certificate {contest} has i) = absurd (fault_or_contest answers files names.tables names.list names.code s contest h has)
  one_verify_fault s u (then_certificate {contest} has h) (first_contest i) = absurd (fault_or_contest answers files names.tables names.list names.code u contest i has)
  one_verify_fault s u (then_certificate has h) (then_certificate also i) = certificate_once s u h i

  pub fault_or_certificate : (s : Status) (x : Certificate) → IsVerifyFault (Some files) names s → HasOfficeAndReports (Some files) names.tables names.list names.code
      → HasCertificate (Some files) names.certificate names.code x → ⊥
  fault_or_certificate s x (first_contest h) has read = fault_or_office answers files names.tables names.list names.code s h has
  fault_or_certificate s x (then_certificate also h) has read = certificate_or_read s x h read

  pub fault_or_check : (s : Status) (contest : Contest) (x : Certificate) → IsVerifyFault (Some files) names s → HasContestAndCertificate (Some files) names contest x → ⊥
  fault_or_check s contest x (first_contest h) has = fault_or_contest answers files names.tables names.list names.code s contest h has.contest_is
  fault_or_check s contest x (then_certificate also h) has = certificate_or_read s x h has.certificate_is

  pub same_check : (contest other : Contest) (x y : Certificate) (a b : Check) → HasContestAndCertificate (Some files) names contest x
      → HasContestAndCertificate (Some files) names other y → IsChecked contest x a → IsChecked other y b → checked_status a ≡ checked_status b
  same_check contest other x y a b h i is also =
      let same = same_contest answers files names.tables names.list names.code contest other h.contest_is i.contest_is in
      let read = (same_certificate files names.certificate names.code names.code x y h.certificate_is i.certificate_is).1 in
      one_check other y a b (subst (λ (z : Certificate). IsChecked other z a) read (subst (λ (c : Contest). IsChecked c x a) same is)) also

  one_check_status : (s u : Status) → IsVerifyStatus (Some files) names s → IsVerifyStatus (Some files) names u → s ≡ u
  one_check_status s u (verify_at_fault h) (verify_at_fault i) = one_verify_fault s u h i
  one_check_status s u (verify_at_fault h) (verify_by_check i) = absurd (fault_or_check s i.contest i.certificate h i.given)
  one_check_status s u (verify_by_check h) (verify_at_fault i) = absurd (fault_or_check u h.contest h.certificate i h.given)
  one_check_status s u (verify_by_check h) (verify_by_check i) =
      h.is ∙ (same_check h.contest i.contest h.certificate i.certificate h.checked i.checked h.given i.given h.is_checked i.is_checked ∙ sym i.is)

pub one_verify_status : OneListAnswers → OneVerifyStatus
one_verify_status answers files names s u h i = one_check_status answers files names s u h i

-- what a check came to was told, or the display failed in it
check_ends_so : (names : Verifica) (c : CabinetTold) (m n : Told) (contest : Contest) (x : Certificate) (found : Check) (s : Status)
    → HasContestAndCertificate c.files names contest x → IsChecked contest x found → Answers (checked_line names.code found) (checked_status found) m n s
    → IsVerifyStatus c.files names s ⊎ (s ≡ status.Memory) ⊎ (s ≡ status.Cabinet) ⊎ (s ≡ status.Display)
check_ends_so names c m n contest x found _ has is (answered shown) =
    inl (verify_by_check (record { contest = contest; certificate = x; given = has; checked = found; is_checked = is; is = refl }))
check_ends_so names c m n contest x found _ has is (cut_short off) = inr (inr (inr refl))

pub verify_ends_so : VerifyEndsSo
verify_ends_so names c d m n s (verify_no_contest stops) = elim (stops_so names.tables names.list names.code c d m n s stops) [
  | inl why ↦ inl (verify_at_fault (first_contest why))
  | inr (inl memory) ↦ inr (inl memory)
  | inr (inr cabinet) ↦ inr (inr (inl cabinet))
]
verify_ends_so names c d m n s (certificate_at_fault has why taken un) = inl (verify_at_fault (then_certificate has why))
verify_ends_so names c d m n s (verify_no_memory taken un) = inr (inl refl)
verify_ends_so names c d m n s (verify_no_cabinet taken un) = inr (inr (inl refl))
verify_ends_so names c d m n s (verified {contest} {certificate} found has is taken tells) = check_ends_so names c m n contest certificate found s has is tells

-- ---- where the documents are refused

module _ (answers : OneListAnswers) (tables list : List ℕ) (code : ℕ) (c d : CabinetTold) (m n : Told) (files : Files) where
  stopped_so : (e s : Status) → c.files ≡ Some files → IsContestFault (Some files) tables list code e → ContestStops tables list code c d m n s
      → (s ≡ e) ⊎ (s ≡ status.Memory) ⊎ (s ≡ status.Cabinet)
  stopped_so e s told why (contest_refused h taken un) =
      inl (one_contest_fault answers files tables list code s e (subst (λ (o : Option Files). IsContestFault o tables list code s) told h) why)
  stopped_so e s told why (contest_no_memory taken un) = inr (inl refl)
  stopped_so e s told why (contest_no_cabinet taken un) = inr (inr refl)

  -- where the files give the contest, nothing but memory or the cabinet stops it
  pub stopped_elsewhere : (s : Status) (contest : Contest) → c.files ≡ Some files → HasContest (Some files) tables list code contest
      → ContestStops tables list code c d m n s → (s ≡ status.Memory) ⊎ (s ≡ status.Cabinet)
  stopped_elsewhere s contest told has (contest_refused h taken un) =
      absurd (fault_or_contest answers files tables list code s contest (subst (λ (o : Option Files). IsContestFault o tables list code s) told h) has)
  stopped_elsewhere s contest told has (contest_no_memory taken un) = inl refl
  stopped_elsewhere s contest told has (contest_no_cabinet taken un) = inr refl

pub certifica_refused : OneListAnswers → (names : Certifica) (c d : CabinetTold) (m n : Told) (files : Files) (e s : Status) → c.files ≡ Some files
    → IsContestFault (Some files) names.tables names.list names.code e → CertificaEnds names c d m n s → (s ≡ e) ⊎ (s ≡ status.Memory) ⊎ (s ≡ status.Cabinet)
certifica_refused answers names c d m n files e s told why (certify_no_contest stops) = stopped_so answers names.tables names.list names.code c d m n files e s told why stops
certifica_refused answers names c d m n files e s told why (certify_no_seats {contest} has none taken un) =
    absurd (fault_or_contest answers files names.tables names.list names.code e contest why (subst (λ (o : Option Files). HasContest o names.tables names.list names.code contest) told has))
certifica_refused answers names c d m n files e s told why (certify_no_memory has taken un) = inr (inl refl)
certifica_refused answers names c d m n files e s told why (certificate_not_put after made fails un) = inr (inr refl)
certifica_refused answers names c d m n files e s told why (certified_untold after made put off) =
    absurd (fault_or_contest answers files names.tables names.list names.code e made.contest why (subst (λ (o : Option Files). HasContest o names.tables names.list names.code made.contest) told made.has))
certifica_refused answers names c d m n files e s told why (certified after made put shown) =
    absurd (fault_or_contest answers files names.tables names.list names.code e made.contest why (subst (λ (o : Option Files). HasContest o names.tables names.list names.code made.contest) told made.has))

pub verifica_refused : OneListAnswers → (names : Verifica) (c d : CabinetTold) (m n : Told) (files : Files) (e s : Status) → c.files ≡ Some files
    → IsVerifyFault (Some files) names e → VerificaEnds names c d m n s → (s ≡ e) ⊎ (s ≡ status.Memory) ⊎ (s ≡ status.Cabinet)
verifica_refused answers names c d m n files e s told (first_contest why) (verify_no_contest stops) =
    stopped_so answers names.tables names.list names.code c d m n files e s told why stops
verifica_refused answers names c d m n files e s told (then_certificate {contest} has why) (verify_no_contest stops) =
    inr (stopped_elsewhere answers names.tables names.list names.code c d m n files s contest told has stops)
verifica_refused answers names c d m n files e s told why (certificate_at_fault {contest} has h taken un) =
    inl (one_verify_fault answers files names s e (then_certificate (subst (λ (o : Option Files). HasContest o names.tables names.list names.code contest) told has)
    (subst (λ (o : Option Files). IsCertificateFault o names s) told h)) why)
verifica_refused answers names c d m n files e s told why (verify_no_memory taken un) = inr (inl refl)
verifica_refused answers names c d m n files e s told why (verify_no_cabinet taken un) = inr (inr refl)
verifica_refused answers names c d m n files e s told why (verified {contest} {certificate} found has is taken tells) =
    absurd (fault_or_check answers files names e contest certificate why (subst (λ (o : Option Files). HasContestAndCertificate o names contest certificate) told has))
