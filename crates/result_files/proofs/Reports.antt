-- The report of a sealed poll, and its file
use Rattle.std.proofs.Common.{◌≡◌, ℕ, ◌+◌, ◌*◌, ◌≤◌, ◌||◌, Bool, true, false, nat_eq, List, [], ◌∷◌, map, length, option_map, refl, sym, ap, ◌∙◌, subst, inl, inr, arith}
use Rattle.std.specs.Prelude.{Contains, nat_lt}
use Rattle.std.specs.List.{AllByRecursion, list_any}
use Rattle.std.proofs.lemmas.Bool.{cases_Bool}
use Rattle.std.proofs.lemmas.Bool.Decides.{nat_tests}
use Rattle.election_tables.specs.TablesData.{IsTables, TablesData}
use Rattle.election_tables.specs.declared.office.Kind.{Kind}
use Rattle.election_tables.specs.declared.office.Kind.TheVariants as kind
use Rattle.election_tables.specs.declared.tables.panels.Panel.{Panel}
use Rattle.election_tables.specs.declared.tables.sections.Section.{Section}
use Rattle.turnout.specs.Turnout.{number_came}
use Rattle.turnout.specs.declared.phase.Phase.TheVariants as phase
use Rattle.vote_kinds.specs.Ballot.{is_choice, line_for, lines_by_panel, lines_from}
use Rattle.vote_kinds.specs.declared.choice.Choice.{Choice}
use Rattle.vote_kinds.specs.declared.choice.Choice.TheVariants as choice
use Rattle.vote_record.specs.Bag.{bag_at, count_of}
use Rattle.image_codec.specs.State.{State}
use Rattle.image_codec.specs.Valid.{HasMoments}
use Rattle.image_codec.proofs.Counting.{only_votes}
use Rattle.hash_chain.specs.Chain.{parts_text}
use Rattle.hash_chain.proofs.Sizes.{few_bytes}
use Rattle.poll_report.specs.Counted.{counts_of_panels, listed, office_counts, party_counts, report_of}
use Rattle.poll_report.specs.Report.{IsReport}
use Rattle.poll_report.specs.declared.report.Report.{Report}
use Rattle.poll_report.proofs.Spelled.{report_spelled}
use Rattle.qr_text.specs.Spelling.{report_text}
use Rattle.qr_text.proofs.Lengths.{text_is_short}
use Rattle.qr_text.proofs.Spellings.{text_spells_report}
use Rattle.section_intake.specs.Fits.{FitLines, Fits}
use Rattle.section_intake.proofs.FileLaws.{file_is_accepted, text_has_parts}
use Rattle.state_store.proofs.Sections.{found_section}
use Rattle.result_files.specs.Reports.{SealedHasFile, SealedHasReport, SealedHasText, SealedIsAccepted, record_of}

pub sealed_has_report : SealedHasReport
sealed_has_report t section s opened closed tables listed of sealed =
    let moments : HasMoments (phase.Sealed opened closed) = subst HasMoments sealed of.valid.moments in
    record {
      votes = only_votes t section.voters s of;
      totals = of.valid.full ∙ ap (λ (places : List ℕ). map (λ n. number_came s.came * n) places) of.places;
      section = listed;
      voters = sym of.roll;
      opened = moments.0;
      closed = moments.1;
      order = moments.2;
    }

pub sealed_has_text : SealedHasText
sealed_has_text t section s opened closed tables listed of sealed =
    (text_spells_report (report_of t section s.bags s.came opened closed)
    (report_spelled t section (record_of s) s.came opened closed tables (sealed_has_report t section s opened closed tables listed of sealed))).0

pub sealed_has_file : SealedHasFile
sealed_has_file t section s opened closed tables listed of sealed =
    let r : Report = report_of t section s.bags s.came opened closed in
    let is : IsReport r = report_spelled t section (record_of s) s.came opened closed tables (sealed_has_report t section s opened closed tables listed of sealed) in
    record { text = report_text r; parts = record { fields = text_has_parts r is; same = refl }; spells = (text_spells_report r is).0 }

-- ---- the report fits the tables

-- each of some numbers is one of more
abbrev AreAmong : List ℕ → List ℕ → Type 0
AreAmong all numbers = AllByRecursion (λ n. list_any (nat_eq n) all ≡ true) numbers

one_more_among : (m : ℕ) (all numbers : List ℕ) → AreAmong all numbers → AreAmong (m ∷ all) numbers
one_more_among m all [] h = tt
one_more_among m all (n ∷ numbers) h = (here (nat_eq n m) h.0, one_more_among m all numbers h.1)
  where
    here : (b : Bool) {c : Bool} → c ≡ true → b || c ≡ true
    here true e = refl
    here false e = e

among_themselves : (numbers : List ℕ) → AreAmong numbers numbers
among_themselves [] = tt
among_themselves (n ∷ numbers) =
    let same : nat_eq n n ≡ true = grind (arith, nat_tests) in
    (rw same refl, one_more_among n numbers numbers (among_themselves numbers))

-- whoever is listed is one of those who may be
listed_among : (choose : ℕ → Choice) (P : ℕ → Type 0) (numbers : List ℕ) (bag : List Choice) → AllByRecursion P numbers
    → AllByRecursion (λ c. P c.number) (listed choose numbers bag)
listed_among choose P [] bag h = tt
listed_among choose P (n ∷ numbers) bag h = elim (cases_Bool (nat_lt 0 (count_of (choose n) bag))) [
  | inl e ↦ rw e (h.0, listed_among choose P numbers bag h.1)
  | inr e ↦ rw e (listed_among choose P numbers bag h.1)
]

parties_fit : (t : TablesData) (number : ℕ) (p : Panel) (k : Kind) (bag : List Choice) → p.office.kind ≡ k
    → AllByRecursion (λ c. is_choice (line_for t number p) (choice.Party c.number) ≡ true) (party_counts k t bag)
parties_fit t number p kind.Proportional bag e =
    listed_among (λ n. choice.Party n) (λ n. is_choice (line_for t number p) (choice.Party n) ≡ true) (map (λ q. q.number) t.parties) bag
    (all_may (map (λ q. q.number) t.parties) (among_themselves (map (λ q. q.number) t.parties)))
  where
    all_may : (numbers : List ℕ) → AreAmong (map (λ q. q.number) t.parties) numbers
        → AllByRecursion (λ n. is_choice (line_for t number p) (choice.Party n) ≡ true) numbers
    all_may [] h = tt
    all_may (n ∷ numbers) h = (rw (e, h.0) refl, all_may numbers h.1)
parties_fit t number p kind.Absolute bag e = tt
parties_fit t number p kind.Simple bag e = tt

offices_fit : (t : TablesData) (bags : List (List Choice)) (first : ℕ) (panels : List Panel)
    → FitLines (lines_from t first panels) (counts_of_panels t bags first panels)
offices_fit t bags first [] = tt
offices_fit t bags first (p ∷ panels) = (
  record {
    code = refl;
    places = refl;
    candidates =
        listed_among (λ n. choice.Nominal n) (λ n. list_any (nat_eq n) (map (λ c. c.number) p.candidates) ≡ true) (map (λ c. c.number) p.candidates)
        (bag_at bags first) (among_themselves (map (λ c. c.number) p.candidates));
    parties = parties_fit t first p p.office.kind (bag_at bags first) refl;
  },
  offices_fit t bags (first + 1) panels,
)

report_fits : (t : TablesData) (section : Section) (s : State) (opened closed : ℕ) → IsTables t → Contains t.sections section
    → Fits t (report_of t section s.bags s.came opened closed)
unfolding lines_by_panel office_counts
report_fits t section s opened closed tables listed =
    record {
      process = refl;
      date = refl;
      turn = refl;
      section = ap (option_map (λ (x : Section). x.voters)) (found_section t.sections section tables.sections_rise listed);
      offices = offices_fit t s.bags 0 t.panels;
    }

-- ---- the file is short

few_voters : (t : TablesData) (section : Section) → IsTables t → Contains t.sections section → section.voters ≤ 600
few_voters t section tables listed =
    subst (λ (x : Section). x.voters ≤ 600) listed.2 (tables.sections listed.0 section listed.1).voters.1

short_file : (r : Report) → IsReport r → r.came ≤ 600 → length (parts_text (report_text r)) ≤ 1048576
short_file r is few =
    let text = text_is_short r is in
    let file = few_bytes (report_text r) (text_has_parts r is) (omega arith) in
    omega arith

pub sealed_is_accepted : SealedIsAccepted
sealed_is_accepted t section s opened closed tables listed of sealed =
    let r : Report = report_of t section s.bags s.came opened closed in
    let is : IsReport r = report_spelled t section (record_of s) s.came opened closed tables (sealed_has_report t section s opened closed tables listed of sealed) in
    let few = few_voters t section tables listed in
    let came = is.came in
    (short_file r is (omega arith), file_is_accepted t r is (report_fits t section s opened closed tables listed))
