-- The files that give the contest of an office give one, or are refused with one status
use Rattle.std.proofs.Common.{◌≡◌, ◌≢◌, ◌==◌, ◌<◌, ◌≤◌, ℕ, suc, Bool, true, List, [], ◌∷◌, length, map, filter, get_or, Option, Some, Err, IsSomeAnd, inl, inr, refl, sym, ap, subst, ◌∙◌, arith}
use Rattle.std.proofs.lemmas.Bool.{cases_Bool, cases_order}
use Rattle.std.proofs.lemmas.List.{append-nil, length-map}
use Rattle.std.proofs.lemmas.List.Sums.{count_by-le-length, length-filter}
use Rattle.std.proofs.lemmas.Option.{slice_get-get_or}
use Rattle.std.specs.List.{All, AllByRecursion}
use Rattle.std.specs.Option.{unwrap_or}
use Rattle.urna_outside.specs.Cabinet.{CabinetTold, Files}
use Rattle.urna_outside.specs.Told.{Told}
use Rattle.election_tables.specs.Limits.{most_candidates}
use Rattle.election_tables.specs.Offices.{allows, code_proportional}
use Rattle.election_tables.specs.TablesData.{IsPanel, IsParty, IsTables, TablesData, bloc_of}
use Rattle.election_tables.specs.declared.office.Kind.{Kind}
use Rattle.election_tables.specs.declared.tables.panels.Panel.{Panel}
use Rattle.election_tables.specs.declared.tables.parties.Party.{Party}
use Rattle.key_script.specs.Laws.{OneListAnswers}
use Rattle.poll_report.specs.declared.report.Report.{Report}
use Rattle.section_intake.specs.Accepted.{AreOffered, File}
use Rattle.section_intake.specs.Sums.{AreReportsOf}
use Rattle.section_intake.specs.declared.intake.Intake.{Intake}
use Rattle.section_intake.specs.declared.verdict.Verdict.{Verdict}
use Rattle.section_intake.proofs.BehindLaws.{one_list_of_verdicts, short_accepted}
use Rattle.section_intake.proofs.ReportLaws.{one_list}
use Rattle.seat_remainders.specs.declared.contest.Contest.{Contest}
use Rattle.seat_certificate.specs.Text.{HasFewBlocs, IsBloc, IsNarrow}
use Rattle.totals.specs.Contest.{bloc_of_candidate, blocs_of, contest_in, contestant_in, entries_in, entry_of, party_numbers}
use Rattle.vote_kinds.specs.Ballot.{no_panel, panel_at}
use Rattle.command_parts.specs.Documents.{AreTaken, HasNames, HasTables, IsFault as IsFaultOf, IsListed}
use Rattle.urna_commands.specs.Documents.{IsFault}
use Rattle.urna_commands.specs.Offered.{HasOffered, HasTakenReports}
use Rattle.urna_commands.specs.Offering.{OffersEnd, one_at_fault, one_no_cabinet, one_no_memory, one_not_shown}
use Rattle.urna_commands.specs.Office.{ContestStops, HasContest, HasNoOffice, HasOfficeAndReports, IsContestFault, IsOfficeAt, contest_no_cabinet, contest_no_memory, contest_refused, of_list, of_office, of_report, of_tables}
use Rattle.urna_commands.specs.Taking.{HasTaken}
use Rattle.command_parts.specs.declared.error.CommandError.{CommandError}
use Rattle.command_parts.specs.declared.error.CommandError.TheVariants as error
use Rattle.command_parts.specs.declared.error.Doc.{Doc}
use Rattle.command_parts.specs.declared.error.Doc.TheVariants as doc
use Rattle.urna_commands.specs.declared.offering.Telling.TheVariants as telling
use Rattle.urna_commands.specs.declared.status.Status.{Status}
use Rattle.urna_commands.specs.declared.status.Status.TheVariants as status
use Rattle.command_parts.proofs.Ending.{error_told}
use Rattle.command_parts.proofs.Listing.{same_reports, short_files}
use Rattle.command_parts.proofs.Once.{names_not_fault as no_names_fault, same_names, same_tables, tables_not_fault as no_tables_fault}
use Rattle.urna_commands.specs.Errors.{error_of}
use Rattle.urna_commands.proofs.Endings.{only_status, status_of}
use Rattle.urna_commands.proofs.Offers.{all_calls}
use Rattle.urna_commands.proofs.Once.{fault_once}
use Rattle.urna_commands.proofs.Totals.{first_at_fault, none_at_fault}

-- ---- one office

panel_there : (t : TablesData) (panel : ℕ) → panel < length t.panels → panel_at t panel ≡ get_or t.panels panel no_panel
panel_there t panel lt = ap (λ (o : Option Panel). unwrap_or o no_panel) (slice_get-get_or t.panels panel no_panel lt)

same_code : (t : TablesData) (code p q : ℕ) → IsOfficeAt t code p → IsOfficeAt t code q → (get_or t.panels p no_panel).office.code ≡ (get_or t.panels q no_panel).office.code
same_code t code p q h i =
    let code_of : Panel → ℕ = λ x. x.office.code in
    sym (ap code_of (panel_there t p h.panel_is)) ∙ (h.has_code ∙ (sym i.has_code ∙ ap code_of (panel_there t q i.panel_is)))

same_office : (t : TablesData) (code p q : ℕ) → IsTables t → IsOfficeAt t code p → IsOfficeAt t code q → p ≡ q
same_office t code p q is h i = elim (cases_order p q) [
  | inl same ↦ same
  | inr (inl less) ↦ absurd (is.codes p q no_panel less i.panel_is (same_code t code p q h i))
  | inr (inr more) ↦ absurd (is.codes q p no_panel more h.panel_is (same_code t code q p i h))
]

-- ---- its contest has a certificate with a text

office_is : (t : TablesData) (code panel : ℕ) → IsTables t → IsOfficeAt t code panel → IsPanel t.parties (panel_at t panel)
office_is t code panel is at = subst (IsPanel t.parties) (sym (panel_there t panel at.panel_is)) (is.panels panel no_panel at.panel_is)

office_proportional : (t : TablesData) (code panel : ℕ) → IsTables t → IsOfficeAt t code panel → code_proportional code ≡ true
office_proportional t code panel is at =
    let allowed = (office_is t code panel is at).office.kind in
    subst (λ (c : ℕ). code_proportional c ≡ true) at.has_code
    (subst (λ (k : Kind). allows (panel_at t panel).office.code k ≡ true) at.proportional allowed)

filter_few : {X : Type 0} (f : X → Bool) (xs : List X) → length (filter f xs) ≤ length xs
filter_few f xs = omega (arith, length-filter f xs, count_by-le-length f xs)

blocs_of_parties : (f : ℕ → Bool) (parties : List Party) → All IsParty parties → AllByRecursion IsBloc (filter f (map (λ q. q.number) parties))
blocs_of_parties f [] are = tt
blocs_of_parties f (q ∷ parties) are =
    let rest = blocs_of_parties f parties (λ i d lt. are (suc i) d (omega (arith, lt))) in
    let number = (are 0 q (omega arith)).number in
    elim (cases_Bool (f q.number)) [ inl t ↦ rw t (number, rest) | inr g ↦ rw g rest ]

module _ (t : TablesData) (reports : List Report) (panel : ℕ) (p : Panel) where
  numbers_are : (blocs : List ℕ) → AllByRecursion IsBloc blocs → AllByRecursion (λ x. IsBloc x.number) (map (contestant_in t reports panel p) blocs)
  numbers_are [] are = tt
  numbers_are (n ∷ blocs) are = (are.0, numbers_are blocs are.1)

  candidates_few : length p.candidates ≤ most_candidates → (blocs : List ℕ) → AllByRecursion (λ x. IsNarrow (length x.candidates)) (map (contestant_in t reports panel p) blocs)
  candidates_few few [] = tt
  candidates_few few (n ∷ blocs) =
      let fewer = filter_few (λ c. bloc_of_candidate t p.office.digits c == n) (entries_in reports panel p) in
      let same = length-map p.candidates (entry_of reports panel) in
      (omega (arith, few, fewer, same), candidates_few few blocs)

few_blocs : (t : TablesData) (reports : List Report) (code panel : ℕ) → IsTables t → IsOfficeAt t code panel → HasFewBlocs (contest_in t reports panel)
few_blocs t reports code panel is at =
    let fewer = filter_few (λ party. bloc_of t.federations party == party) (party_numbers t) in
    let parties = length-map t.parties (λ q. q.number) in
    let each = length-map (blocs_of t) (contestant_in t reports panel (panel_at t panel)) in
    let most = is.party_count.1 in
    record {
      few = omega (arith, fewer, parties, each, most);
      numbers = numbers_are t reports panel (panel_at t panel) (blocs_of t) (blocs_of_parties (λ party. bloc_of t.federations party == party) t.parties is.parties);
      candidates = candidates_few t reports panel (panel_at t panel) (office_is t code panel is at).count (blocs_of t);
    }

-- ---- the documents

-- a document that was not taken is at fault, as the status of its error says
pub fault_told : (files : Option Files) (name : List ℕ) (d : Doc) (s : Status) (e : CommandError) → error_of s ≡ Some e
    → (e ≢ error.Memory → e ≢ error.Cabinet → IsFaultOf files name d e) → s ≢ status.Memory → s ≢ status.Cabinet → IsFault files name d s
fault_told files name d s e is found memory failed =
    subst (λ (o : Option CommandError). IsSomeAnd o (IsFaultOf files name d)) (sym is)
    (found (λ same. memory (only_status s e is ∙ ap status_of same)) (λ same. failed (only_status s e is ∙ ap status_of same)))

tables_not_fault : (files : Files) (name : List ℕ) (s : Status) (t : TablesData) → IsFault (Some files) name doc.Tables s → HasTables (Some files) name t → ⊥
tables_not_fault files name s t h has = let told = error_told error_of s (IsFaultOf (Some files) name doc.Tables) h in no_tables_fault files name told.0 t told.2 has

names_not_fault : OneListAnswers → (files : Files) (name : List ℕ) (s : Status) (listed : List (List ℕ)) → IsFault (Some files) name doc.List s → HasNames (Some files) name listed → ⊥
names_not_fault answers files name s listed h has =
    let told = error_told error_of s (IsFaultOf (Some files) name doc.List) h in no_names_fault answers files name told.0 listed told.2 has

no_office_not_there : (files : Files) (name : List ℕ) (code panel : ℕ) (t u : TablesData) → HasTables (Some files) name t → HasNoOffice t code
    → HasTables (Some files) name u → IsOfficeAt u code panel → ⊥
no_office_not_there files name code panel t u h none i office =
    none panel (subst (λ (x : TablesData). IsOfficeAt x code panel) (same_tables files name u t i h) office)

-- ---- the contest

module _ (answers : OneListAnswers) (files : Files) (tables list : List ℕ) (code : ℕ) where
  pub fault_or_office : (s : Status) → IsContestFault (Some files) tables list code s → HasOfficeAndReports (Some files) tables list code → ⊥
  fault_or_office s (of_tables h) has = tables_not_fault files tables s has.t h has.given.tables
  fault_or_office s (of_office {t} h none) has = no_office_not_there files tables code has.panel t has.t h none has.given.tables has.office
  fault_or_office s (of_list _ _ h) has = names_not_fault answers files list s has.listed h has.given.list
  fault_or_office s (of_report {listed} {left} {name} given office offered fault) has =
      let same = same_names files list listed has.listed given.list has.given.list in
      none_at_fault files offered.names name left has.listed has.reports s (sym offered.all ∙ same) has.taken fault

  pub fault_or_contest : (s : Status) (contest : Contest) → IsContestFault (Some files) tables list code s → HasContest (Some files) tables list code contest → ⊥
  fault_or_contest s contest fault has = fault_or_office s fault (record {
    t = has.t;
    listed = has.listed;
    given = has.given;
    panel = has.panel;
    office = has.office;
    reports = has.offered.reports;
    taken = subst (λ (l : List (List ℕ)). AreTaken (Some files) l has.offered.reports) (sym (has.offered.all ∙ append-nil has.offered.names)) has.offered.taken;
  })

  pub one_contest_fault : (s u : Status) → IsContestFault (Some files) tables list code s → IsContestFault (Some files) tables list code u → s ≡ u
  one_contest_fault s u (of_tables h) (of_tables i) = fault_once files tables doc.Tables s u h i
  one_contest_fault s u (of_tables h) (of_office {t} has none) = absurd (tables_not_fault files tables s t h has)
  one_contest_fault s u (of_tables h) (of_list {t} has office i) = absurd (tables_not_fault files tables s t h has)
  one_contest_fault s u (of_tables h) (of_report {t} given office offered i) = absurd (tables_not_fault files tables s t h given.tables)
  one_contest_fault s u (of_office {t} has none) (of_tables i) = absurd (tables_not_fault files tables u t i has)
  one_contest_fault _ _ (of_office has none) (of_office also no_other) = refl
  one_contest_fault s u (of_office {t} has none) (of_list {t = v} {panel} also office i) = absurd (no_office_not_there files tables code panel t v has none also office)
  one_contest_fault s u (of_office {t} has none) (of_report {t = v} {panel} given office offered i) = absurd (no_office_not_there files tables code panel t v has none given.tables office)
  one_contest_fault s u (of_list {t} has office h) (of_tables i) = absurd (tables_not_fault files tables u t i has)
  one_contest_fault s u (of_list {t} {panel} has office h) (of_office {t = v} also none) = absurd (no_office_not_there files tables code panel v t also none has office)
  one_contest_fault s u (of_list has office h) (of_list also other i) = fault_once files list doc.List s u h i
  one_contest_fault s u (of_list has office h) (of_report {listed} given other offered i) = absurd (names_not_fault answers files list s listed h given.list)
  one_contest_fault s u (of_report {t} given office offered h) (of_tables i) = absurd (tables_not_fault files tables u t i given.tables)
  one_contest_fault s u (of_report {t} {panel} given office offered h) (of_office {t = v} also none) =
      absurd (no_office_not_there files tables code panel v t also none given.tables office)
  one_contest_fault s u (of_report {listed} given office offered h) (of_list also other i) = absurd (names_not_fault answers files list u listed i given.list)
  one_contest_fault s u (of_report {listed} {left} {name} given office offered h) (of_report {listed = other} {left = rest} {name = n} also there found i) =
      let same = same_names files list listed other given.list also.list in
      first_at_fault files offered.names found.names name n left rest offered.reports found.reports s u (sym offered.all ∙ (same ∙ found.all)) offered.taken found.taken h i

  pub same_contest : (x y : Contest) → HasContest (Some files) tables list code x → HasContest (Some files) tables list code y → x ≡ y
  same_contest x y h i =
      let t = i.t in
      let same = same_tables files tables h.t t h.given.tables i.given.tables in
      let names = same_names files list h.listed i.listed h.given.list i.given.list in
      let panel = same_office t code h.panel i.panel i.given.tables.valid (subst (λ (u : TablesData). IsOfficeAt u code h.panel) same h.office) i.office in
      let first : AreTaken (Some files) i.listed h.offered.reports =
      subst (λ (l : List (List ℕ)). AreTaken (Some files) l h.offered.reports) (sym (h.offered.all ∙ append-nil h.offered.names) ∙ names) h.offered.taken in
      let second : AreTaken (Some files) i.listed i.offered.reports =
      subst (λ (l : List (List ℕ)). AreTaken (Some files) l i.offered.reports) (sym (i.offered.all ∙ append-nil i.offered.names)) i.offered.taken in
      let bytes = same_reports files i.listed h.offered.reports i.offered.reports first second in
      let short = short_files (Some files) i.listed i.offered.reports second in
      let offered : AreOffered t i.offered.reports h.verdicts h.accepted =
      subst (λ (l : List File). AreOffered t l h.verdicts h.accepted) bytes (subst (λ (u : TablesData). AreOffered u h.offered.reports h.verdicts h.accepted) same h.offered.offered) in
      let accepted = (one_list_of_verdicts t i.offered.reports h.verdicts i.verdicts h.accepted i.accepted short offered i.offered.offered).1 in
      let reports = one_list i.accepted h.reports i.reports (short_accepted t i.offered.reports i.verdicts i.accepted short i.offered.offered)
      (subst (λ (l : List File). AreReportsOf l h.reports) accepted h.read) i.read in
      h.is
      ∙ (ap (λ (u : TablesData). contest_in u h.reports h.panel) same
      ∙ (ap (λ (l : List Report). contest_in t l h.panel) reports ∙ (ap (contest_in t i.reports) panel ∙ sym i.is)))

-- so a contest that the files give has such a certificate
pub contest_few : (files : Option Files) (tables list : List ℕ) (code : ℕ) (contest : Contest) → HasContest files tables list code contest → HasFewBlocs contest
contest_few files tables list code contest has = subst HasFewBlocs (sym has.is) (few_blocs has.t has.reports code has.panel has.given.tables.valid has.office)

pub contest_proportional : (files : Option Files) (tables list : List ℕ) (code : ℕ) (contest : Contest) → HasContest files tables list code contest → code_proportional code ≡ true
contest_proportional files tables list code contest has = office_proportional has.t code has.panel has.given.tables.valid has.office

-- ---- how it is made, or not

module _ (tables list : List ℕ) (code : ℕ) (c d : CabinetTold) (m : Told) where
  -- a document that was not taken, or an office that there is not
  pub office_stops : (s : Status) → (s ≢ status.Memory → s ≢ status.Cabinet → IsContestFault c.files tables list code s) → HasTaken 2 s c d → ContestStops tables list code c d m m s
  office_stops status.Memory found taken = contest_no_memory (0, inl refl, taken) refl
  office_stops status.Cabinet found taken = contest_no_cabinet (0, inl refl, taken) refl
  office_stops s found taken = contest_refused (found (λ same. absurd (cc)) (λ same. absurd (cc))) (0, inl refl, taken) refl

  module _ (y : CabinetTold) (t : TablesData) (listed : List (List ℕ)) (panel : ℕ) (given : IsListed c.files tables list t listed) (office : IsOfficeAt t code panel)
      (first : HasTaken 2 status.Done c y) (i : Intake) (n : Told) where
    all_taken : (s : Status) → HasTaken (length listed) s y d → HasTakenReports tables list 2 s c d
    all_taken s taken = (length listed, inr (t, listed, given, refl), all_calls s (length listed) c y d first taken)

    offered_first : {left : List (List ℕ)} {verdicts : List Verdict} {accepted : List File} → HasOffered y.files t listed left verdicts accepted
        → HasOffered c.files t listed left verdicts accepted
    offered_first {left} {verdicts} {accepted} h = subst (λ (files : Option Files). HasOffered files t listed left verdicts accepted) first.files h

    -- an offer that ended the command
    pub offers_stop_contest : (s : Status) → OffersEnd telling.Nothing t listed i y d m n (Err s) → ContestStops tables list code c d m n s
    offers_stop_contest _ (one_not_shown h taken off) = absurd off
    offers_stop_contest _ (one_no_memory h taken un) = contest_no_memory (all_taken status.Memory taken) un
    offers_stop_contest _ (one_no_cabinet h taken un) = contest_no_cabinet (all_taken status.Cabinet taken) un
    offers_stop_contest s (one_at_fault {name} h fault taken un) =
        contest_refused (of_report given office (offered_first h) (subst (λ (files : Option Files). IsFault files name doc.Report s) first.files fault)) (all_taken s taken) un
