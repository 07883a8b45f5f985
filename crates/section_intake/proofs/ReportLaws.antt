-- The reports of files: there is one list of them, and no more of different sections than the tables have.
use Rattle.std.proofs.Common.{◌≡◌, ℕ, zero, suc, ◌≤◌, ◌==◌, ◌&&◌, true, false, List, [], ◌∷◌, ◌++◌, length, map, slice_get, Some, option_map, refl, ap, ◌∙◌, subst, inl, inr, arith}
use Rattle.std.specs.List.{AllByRecursion, Contains}
use Rattle.std.proofs.lemmas.Bool.{cases_Bool}
use Rattle.std.proofs.lemmas.Bool.Decides.{nat_tests}
use Rattle.std.proofs.lemmas.List.{length-map}
use Rattle.election_tables.specs.TablesData.{TablesData, section_with}
use Rattle.election_tables.specs.declared.tables.sections.Section.{Section}
use Rattle.poll_report.specs.Report.{IsReport}
use Rattle.poll_report.specs.declared.report.Report.{Report}
use Rattle.section_intake.specs.Accepted.{File}
use Rattle.section_intake.specs.Fits.{Fits}
use Rattle.section_intake.specs.Sections.{AreOfDifferentSections, is_beside}
use Rattle.section_intake.specs.Laws.{OneListOfReports}
use Rattle.section_intake.specs.Sums.{AreReportsOf}
use Rattle.section_intake.specs.Verdict.{IsReportFile}
use Rattle.section_intake.proofs.Members.{taken}
use Rattle.section_intake.proofs.VerdictLaws.{one_report}

pub one_list : OneListOfReports
one_list [] [] [] short a b = refl
one_list [] [] (q ∷ others) short a b = absurd b
one_list [] (r ∷ reports) others short a b = absurd a
one_list (f ∷ files) [] others short a b = absurd a
one_list (f ∷ files) (r ∷ reports) [] short a b = absurd b
one_list (f ∷ files) (r ∷ reports) (q ∷ others) short a b =
    ap (λ (x : Report). x ∷ reports) (one_report f r q short.0 a.0 b.0) ∙ ap (λ (l : List Report). q ∷ l) (one_list files reports others short.1 a.1 b.1)

pub as_many : (files : List File) (reports : List Report) → AreReportsOf files reports → length files ≡ length reports
as_many [] [] h = refl
as_many [] (r ∷ reports) h = absurd h
as_many (f ∷ files) [] h = absurd h
as_many (f ∷ files) (r ∷ reports) h = ap suc (as_many files reports h.1)

pub one_more : (files : List File) (reports : List Report) (f : File) (r : Report) → AreReportsOf files reports → IsReportFile f r
    → AreReportsOf (files ++ f ∷ []) (reports ++ r ∷ [])
one_more [] [] f r all h = (h, tt)
one_more [] (q ∷ reports) f r all h = absurd all
one_more (g ∷ files) [] f r all h = absurd all
one_more (g ∷ files) (q ∷ reports) f r all h = (all.0, one_more files reports f r all.1 h)

pub are_reports : (files : List File) (reports : List Report) → AreReportsOf files reports → AllByRecursion IsReport reports
are_reports [] [] h = tt
are_reports [] (r ∷ reports) h = absurd h
are_reports (f ∷ files) [] h = absurd h
are_reports (f ∷ files) (r ∷ reports) h = (h.0.spells.report, are_reports files reports h.1)

-- the file at the place of a report
pub file_of : (files : List File) (reports : List Report) (k : ℕ) (r : Report) → AreReportsOf files reports → slice_get reports k ≡ Some r
    → (f : File) × (slice_get files k ≡ Some f) × IsReportFile f r
file_of files [] k r all e = absurd (cc)
file_of [] (q ∷ reports) k r all e = absurd all
file_of (f ∷ files) (q ∷ reports) zero r all e = let same : q ≡ r = cc in (f, refl, subst (λ (x : Report). IsReportFile f x) same all.0)
file_of (f ∷ files) (q ∷ reports) (suc k) r all e = file_of files reports k r all.1 e

-- ---- no more than sections

-- a zone and a number
abbrev pair : ℕ → ℕ → ℕ × ℕ
pair z n = (z, n)

section_listed : (sections : List Section) (z n able : ℕ) → option_map (λ s. s.voters) (section_with z n sections) ≡ Some able
    → Contains (map (λ s. pair s.zone s.number) sections) (pair z n)
section_listed [] z n able e = absurd (cc)
section_listed (s ∷ sections) z n able e = elim (cases_Bool ((s.zone == z) && (s.number == n))) [
  | inl here ↦ (0, omega arith, same s.zone s.number z n here)
  | inr other ↦ let (k, lt, is) = section_listed sections z n able (rw other at e) in (suc k, omega arith, is)
]
  where
    same : (a b z n : ℕ) → ((a == z) && (b == n)) ≡ true → pair a b ≡ pair z n
    same a b z n h =
        let zone : a ≡ z = grind (arith, nat_tests) in
        let number : b ≡ n = grind (arith, nat_tests) in
        rw (zone, number) refl

beside_itself : (z n : ℕ) → ((z == z) && (n == n)) ≡ true
beside_itself z n = grind (arith, nat_tests)

-- a report that is not beside another has another zone and section
other_pair : (r q : Report) → is_beside r q ≡ false → pair q.zone q.section ≡ pair r.zone r.section → ⊥
other_pair r q h same =
    let zone : q.zone ≡ r.zone = ap (λ (p : ℕ × ℕ). p.0) same in
    let section : q.section ≡ r.section = ap (λ (p : ℕ × ℕ). p.1) same in
    let yes : is_beside r q ≡ true = rw (zone, section) (beside_itself r.zone r.section) in
    cc

few_of : (pairs : List (ℕ × ℕ)) (reports : List Report) → AreOfDifferentSections reports → AllByRecursion (λ r. Contains pairs (pair r.zone r.section)) reports
    → length reports ≤ length pairs
few_of pairs [] apart listed = omega arith
few_of pairs (r ∷ reports) apart listed =
    let (rest, len, others) = taken pairs (pair r.zone r.section) listed.0 in
    let more = few_of rest reports apart.1 (left rest r others reports apart.0 listed.1) in
    omega arith
  where
    left : (rest : List (ℕ × ℕ)) (r : Report) → ((y : ℕ × ℕ) → Contains pairs y → (y ≡ pair r.zone r.section → ⊥) → Contains rest y) → (reports : List Report)
        → AllByRecursion (λ q. is_beside r q ≡ false) reports → AllByRecursion (λ q. Contains pairs (pair q.zone q.section)) reports
        → AllByRecursion (λ q. Contains rest (pair q.zone q.section)) reports
    left rest r others [] apart listed = tt
    left rest r others (q ∷ reports) apart listed =
        (others (pair q.zone q.section) listed.0 (other_pair r q apart.0), left rest r others reports apart.1 listed.1)

all_listed : (t : TablesData) (reports : List Report) → AllByRecursion (Fits t) reports
    → AllByRecursion (λ r. Contains (map (λ s. pair s.zone s.number) t.sections) (pair r.zone r.section)) reports
all_listed t [] fit = tt
all_listed t (r ∷ reports) fit = let is = fit.0 in (section_listed t.sections r.zone r.section r.able is.section, all_listed t reports fit.1)

pub no_more : (t : TablesData) (reports : List Report) → AllByRecursion (Fits t) reports → AreOfDifferentSections reports → length reports ≤ length t.sections
no_more t reports fit apart =
    let many = length-map t.sections (λ (s : Section). pair s.zone s.number) in
    let few = few_of (map (λ s. pair s.zone s.number) t.sections) reports apart (all_listed t reports fit) in
    omega arith
