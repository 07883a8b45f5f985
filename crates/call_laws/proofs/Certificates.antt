-- What a certificate that verifica finds valid says, and what it tells of one that certifica put
use Rattle.std.proofs.Common.{◌≡◌, ◌≢◌, ◌⊎◌, inl, inr, ℕ, ◌≤◌, List, [], ◌∷◌, length, Option, Some, Ok, Err, refl, sym, subst, ◌∙◌}
use Rattle.std.proofs.lemmas.List.{append-nil}
use Rattle.std.specs.List.{AllByRecursion}
use Rattle.urna_outside.specs.Cabinet.{CabinetTold, Files, file_at}
use Rattle.urna_outside.specs.ShownLines.{HasShown}
use Rattle.urna_outside.specs.Told.{Told}
use Rattle.key_script.specs.Laws.{OneListAnswers}
use Rattle.section_intake.specs.Accepted.{File}
use Rattle.seat_remainders.specs.Computed.{outcome_of}
use Rattle.seat_remainders.specs.Outcome.{AreSeats, IsOutcome}
use Rattle.seat_remainders.specs.declared.contest.Contest.{Contest}
use Rattle.seat_remainders.specs.declared.outcome.Outcome.{Outcome}
use Rattle.seat_remainders.specs.declared.outcome.Outcome.TheVariants as outcome
use Rattle.seat_remainders.specs.declared.outcome.Seats.{Seats as SeatsData}
use Rattle.seat_remainders.proofs.OneOutcome.{only_outcome, outcome_is}
use Rattle.seat_certificate.specs.Laws.{Tells}
use Rattle.seat_certificate.specs.Valid.{IsValid}
use Rattle.seat_certificate.specs.declared.certificate.Certificate.{Certificate}
use Rattle.seat_certificate.proofs.Faults.{never_both}
use Rattle.seat_certificate.proofs.Outcomes.{tells_outcome}
use Rattle.seat_certificate.proofs.Short.{text_short}
use Rattle.command_parts.specs.Documents.{AreTaken, IsTaken}
use Rattle.urna_commands.specs.Answering.{Answers, answered, cut_short}
use Rattle.urna_commands.specs.Certifica.{CertificaEnds, IsCertified, certificate_file, certificate_name, certificate_not_put, certified, certified_untold, certify_no_contest, certify_no_memory, certify_no_seats}
use Rattle.call_laws.specs.Certificates.{CertifiedIsValid, HasOwnName, IsValidThere, VerifiedTellsSeats}
use Rattle.urna_commands.specs.Command.{Certifica, Verifica}
use Rattle.urna_commands.specs.Documents.{IsFault}
use Rattle.urna_commands.specs.Office.{ContestStops, HasContest, contest_no_cabinet, contest_no_memory, contest_refused, of_list, of_office, of_report, of_tables}
use Rattle.urna_commands.specs.Putting.{HasPutFile}
use Rattle.urna_commands.specs.Verifica.{Check, HasContestAndCertificate, IsCertificateFault, IsChecked, VerificaEnds, certificate_at_fault, checked_line, checked_status, of_file, of_other_office, then_certificate, verified, verify_no_cabinet, verify_no_contest, verify_no_memory}
use Rattle.command_parts.specs.declared.error.Doc.{Doc}
use Rattle.command_parts.specs.declared.error.Doc.TheVariants as doc
use Rattle.urna_commands.specs.declared.status.Status.{Status}
use Rattle.urna_commands.specs.declared.status.Status.TheVariants as status
use Rattle.command_parts.proofs.Once.{same_certificate}
use Rattle.call_laws.proofs.Accepting.{tables_stay, there}
use Rattle.call_laws.proofs.Certifying.{fault_or_check, stopped_elsewhere}
use Rattle.urna_commands.proofs.Offices.{same_contest}
use Rattle.call_laws.proofs.PutFiles.{put_stays}

-- ---- a call that is Done

-- no document is at fault by it,
fault_done : (files : Option Files) (name : List ℕ) (d : Doc) (s : Status) → IsFault files name d s → s ≡ status.Done → ⊥
fault_done files name d s h same = absurd (subst (IsFault files name d) same h)

-- and there is a contest
stops_done : (tables list : List ℕ) (code : ℕ) (c d : CabinetTold) (m n : Told) (s : Status) → ContestStops tables list code c d m n s → s ≡ status.Done → ⊥
stops_done tables list code c d m n s (contest_refused (of_tables h) taken un) same = fault_done c.files tables doc.Tables s h same
stops_done tables list code c d m n _ (contest_refused (of_office has none) taken un) same = absurd (cc)
stops_done tables list code c d m n s (contest_refused (of_list has office h) taken un) same = fault_done c.files list doc.List s h same
stops_done tables list code c d m n s (contest_refused (of_report {name} given office offered h) taken un) same = fault_done c.files name doc.Report s h same
stops_done tables list code c d m n _ (contest_no_memory taken un) same = absurd (cc)
stops_done tables list code c d m n _ (contest_no_cabinet taken un) same = absurd (cc)

-- ---- verifica

-- a check whose answer is Done found the certificate valid
valid_done : (contest : Contest) (x : Certificate) (code : ℕ) (checked : Check) (m n : Told) (s : Status) → IsChecked contest x checked
    → Answers (checked_line code checked) (checked_status checked) m n s → s ≡ status.Done → IsValid contest x
valid_done contest x code (Ok valid) m n s is tells same = is
valid_done contest x code (Err f) m n _ is (answered shown) same = absurd (cc)
valid_done contest x code (Err f) m n _ is (cut_short off) same = absurd (cc)

tells_seats : (contest : Contest) (x : Certificate) → IsValid contest x
    → (s : SeatsData) × Tells x s × AreSeats contest s × ((o : Outcome) → IsOutcome contest o → o ≡ outcome.Seats s)
tells_seats contest x valid =
    let (s, is, tells) = tells_outcome contest x (outcome_of contest) valid (outcome_is contest) in
    (s, tells, subst (IsOutcome contest) is (outcome_is contest), λ o has. only_outcome contest o has ∙ is)

pub verified_tells_seats : VerifiedTellsSeats
verified_tells_seats names c d m n ends files told = ended status.Done ends refl
  where
    ended : (s : Status) → VerificaEnds names c d m n s → s ≡ status.Done
        → (contest : Contest) × (certificate : Certificate) × (s : SeatsData) × HasContestAndCertificate (Some files) names contest certificate × Tells certificate s
        × AreSeats contest s × ((o : Outcome) → IsOutcome contest o → o ≡ outcome.Seats s)
    ended s (verify_no_contest stops) same = absurd (stops_done names.tables names.list names.code c d m n s stops same)
    ended s (certificate_at_fault has (of_file h) taken un) same = absurd (fault_done c.files names.certificate doc.Certificate s h same)
    ended _ (certificate_at_fault has (of_other_office read other) taken un) same = absurd (cc)
    ended _ (verify_no_memory taken un) same = absurd (cc)
    ended _ (verify_no_cabinet taken un) same = absurd (cc)
    ended s (verified {contest} {certificate} found has is taken tells) same =
        let (seats, tell, come, only) = tells_seats contest certificate (valid_done contest certificate names.code found m n s is tells same) in
        (contest, certificate, seats, subst (λ (o : Option Files). HasContestAndCertificate o names contest certificate) told has, tell, come, only)

-- ---- files whose names stay

module _ (before now : Files) (own : List ℕ) (others : (name : List ℕ) → name ≢ own → file_at name now ≡ file_at name before) where
  taken_stays : (d : Doc) (name bytes : List ℕ) → name ≢ own → IsTaken (Some before) d name bytes → IsTaken (Some now) d name bytes
  taken_stays d name bytes other h = record { held = λ x is. there name bytes now x is (others name other ∙ h.held before refl); short = h.short }

  reports_stay : (names : List (List ℕ)) (reports : List File) → AllByRecursion (λ name. name ≢ own) names → AreTaken (Some before) names reports → AreTaken (Some now) names reports
  reports_stay [] [] other h = tt
  reports_stay [] (bytes ∷ reports) other h = absurd h
  reports_stay (name ∷ names) [] other h = absurd h
  reports_stay (name ∷ names) (bytes ∷ reports) other h = (taken_stays doc.Report name bytes other.0 h.0, reports_stay names reports other.1 h.1)

  contest_stays : (tables list : List ℕ) (code : ℕ) (contest : Contest) → (has : HasContest (Some before) tables list code contest)
      → AllByRecursion (λ name. name ≢ own) (tables ∷ list ∷ has.listed) → HasContest (Some now) tables list code contest
  contest_stays tables list code contest has other =
      let offered = has.offered in
      record {
        t = has.t;
        listed = has.listed;
        given = record {
          tables = tables_stay tables has.t before now (others tables other.0) has.given.tables;
          list = record { bytes = has.given.list.bytes; taken = taken_stays doc.List list has.given.list.bytes other.1.0 has.given.list.taken; read = has.given.list.read };
        };
        panel = has.panel;
        office = has.office;
        verdicts = has.verdicts;
        accepted = has.accepted;
        offered = record {
          names = offered.names;
          all = offered.all;
          reports = offered.reports;
          taken = reports_stay offered.names offered.reports
              (subst (λ (l : List (List ℕ)). AllByRecursion (λ name. name ≢ own) l) (offered.all ∙ append-nil offered.names) other.1.1) offered.taken;
          offered = offered.offered;
        };
        reports = has.reports;
        read = has.read;
        is = has.is;
      }

-- ---- the certificate that was put

-- what verifica answers where the files give a contest and a valid certificate of it
abbrev SaysValid : ℕ → Told → Told → Status → Type 0
SaysValid code m n answer =
    ((answer ≡ status.Done) × HasShown (checked_line code (Ok tt) ∷ []) m n) ⊎ (answer ≡ status.Memory) ⊎ (answer ≡ status.Cabinet) ⊎ (answer ≡ status.Display)

stopped_says : (code : ℕ) (m n : Told) (answer : Status) → (answer ≡ status.Memory) ⊎ (answer ≡ status.Cabinet) → SaysValid code m n answer
stopped_says code m n answer (inl memory) = inr (inl memory)
stopped_says code m n answer (inr cabinet) = inr (inr (inl cabinet))

module _ (answers : OneListAnswers) (names : Verifica) (now : Files) (contest : Contest) (x : Certificate) (has : HasContestAndCertificate (Some now) names contest x)
    (valid : IsValid contest x) where
  check_says : (other : Contest) (y : Certificate) (checked : Check) (m n : Told) (answer : Status) → HasContestAndCertificate (Some now) names other y → IsChecked other y checked
      → Answers (checked_line names.code checked) (checked_status checked) m n answer → SaysValid names.code m n answer
  check_says other y (Ok fine) m n _ also is (answered shown) = inl (refl, shown)
  check_says other y (Ok fine) m n _ also is (cut_short off) = inr (inr (inr refl))
  check_says other y (Err f) m n answer also is tells =
      let one = same_contest answers now names.tables names.list names.code contest other has.contest_is also.contest_is in
      let read = (same_certificate now names.certificate names.code names.code x y has.certificate_is also.certificate_is).1 in
      absurd (never_both other y f (subst (λ (z : Certificate). IsValid other z) read (subst (λ (k : Contest). IsValid k x) one valid)) is)

  pub valid_is_told : (c d : CabinetTold) (m n : Told) (answer : Status) → c.files ≡ Some now → VerificaEnds names c d m n answer → SaysValid names.code m n answer
  valid_is_told c d m n answer told (verify_no_contest stops) =
      stopped_says names.code m n answer (stopped_elsewhere answers names.tables names.list names.code c d m n now answer contest told has.contest_is stops)
  valid_is_told c d m n answer told (certificate_at_fault {contest = other} of why taken un) =
      absurd (fault_or_check answers now names answer contest x (then_certificate
      (subst (λ (o : Option Files). HasContest o names.tables names.list names.code other) told of)
      (subst (λ (o : Option Files). IsCertificateFault o names answer) told why)) has)
  valid_is_told c d m n answer told (verify_no_memory taken un) = inr (inl refl)
  valid_is_told c d m n answer told (verify_no_cabinet taken un) = inr (inr (inl refl))
  valid_is_told c d m n answer told (verified {contest = other} {certificate = y} found also is taken tells) =
      check_says other y found m n answer (subst (λ (o : Option Files). HasContestAndCertificate o names other y) told also) is tells

module _ (answers : OneListAnswers) (names : Certifica) (files : Files) (own : HasOwnName files names) where
  abbrev checking : Verifica
  checking = record { tables = names.tables; list = names.list; code = names.code; certificate = certificate_name names.out }

  put_is_valid : (c a d : CabinetTold) (contest : Contest) (text : List ℕ) (lines : List (List ℕ)) → c.files ≡ Some files → a.files ≡ c.files
      → HasContest c.files names.tables names.list names.code contest → IsCertified names.code contest text lines
      → HasPutFile (certificate_file names text) a d → IsValidThere names d
  put_is_valid c a d contest text lines told same has is put x y m n answer ends at =
      let (now, now_told, others) = put_stays (certificate_file names text ∷ []) a d files (same ∙ told) (d, put, refl) in
      let held = put.there now now_told in
      let given = subst (λ (o : Option Files). HasContest o names.tables names.list names.code contest) told has in
      let stays = contest_stays files now (certificate_name names.out) (λ name other. others name (other, tt)) names.tables names.list names.code contest given (own given.listed given.given.list) in
      let short = subst (λ (b : List ℕ). length b ≤ 1048576) (sym is.spelled.text) (text_short names.code is.certificate is.spelled.fits) in
      let both : HasContestAndCertificate (Some now) checking contest is.certificate =
      record {
        contest_is = stays;
        certificate_is = record {
          bytes = text;
          taken = record { held = λ f of. there (certificate_name names.out) text now f of held; short = short };
          read = is.spelled;
        };
      } in
      valid_is_told answers checking now contest is.certificate both is.valid x y m n answer (at ∙ now_told) ends

pub certified_is_valid : OneListAnswers → CertifiedIsValid
certified_is_valid answers names c d m n ends files told own = ended status.Done ends refl
  where
    ended : (s : Status) → CertificaEnds names c d m n s → s ≡ status.Done → IsValidThere names d
    ended s (certify_no_contest stops) same = absurd (stops_done names.tables names.list names.code c d m n s stops same)
    ended _ (certify_no_seats has none taken un) same = absurd (cc)
    ended _ (certify_no_memory has taken un) same = absurd (cc)
    ended _ (certificate_not_put after made fails un) same = absurd (cc)
    ended _ (certified_untold after made put off) same = absurd (cc)
    ended _ (certified {text} {lines} after made put shown) same =
        put_is_valid answers names files own c after d made.contest text lines told made.took.2.files made.has made.made put
