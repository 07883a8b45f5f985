-- The tests of a report say whether it fits the tables.
use Rattle.std.proofs.Common.{◌≡◌, ◌≢◌, ℕ, zero, suc, ◌+◌, ◌<◌, ◌≤◌, ◌==◌, ◌&&◌, Bool, true, false, List, [], ◌∷◌, length, drop, get_or, map, nat_eq, slice_get, Some, None, Option, option_map, unwrap_or, ◌⊎◌, inl, inr, eq-eqb, refl, sym, ap, ◌∙◌, arith}
use Rattle.std.specs.Prelude.{nat_le}
use Rattle.std.specs.List.{All, AllByRecursion, list_all, list_any}
use Rattle.std.specs.Option.{option_map_or}
use Rattle.std.proofs.lemmas.Bool.{and_parts, cases_Bool, eqb-true}
use Rattle.std.proofs.lemmas.Bool.Decides.{nat_tests}
use Rattle.std.proofs.lemmas.List.{drop_all, drop_more}
use Rattle.std.proofs.lemmas.Option.{get_or_from_slice_get, slice_get_cases}
use Rattle.election_tables.specs.TablesData.{IsParty, IsTables, TablesData, candidates_at, places_in, section_with, without_name}
use Rattle.election_tables.specs.declared.tables.candidates.Candidate.{Candidate}
use Rattle.election_tables.specs.declared.tables.candidates.NamedCandidate.{NamedCandidate}
use Rattle.election_tables.specs.declared.tables.panels.Panel.{Panel}
use Rattle.election_tables.specs.declared.tables.parties.Party.{Party}
use Rattle.election_tables.specs.declared.tables.sections.Section.{Section}
use Rattle.poll_report.specs.declared.report.Count.{Count}
use Rattle.poll_report.specs.declared.report.OfficeCount.{OfficeCount}
use Rattle.poll_report.specs.declared.report.Report.{Report}
use Rattle.vote_kinds.specs.Ballot.{BallotLine, is_choice, is_proportional, line_for, line_of, lines_by_panel, lines_from, no_panel, panel_at}
use Rattle.vote_kinds.proofs.Lookups.{by_panel_get, by_panel_length, candidates_known}
use Rattle.vote_kinds.specs.declared.choice.Choice.TheVariants as choice
use Rattle.section_intake.specs.Fits.{FitLines, Fits, FitsLine}
use Rattle.section_intake.specs.Fitting.{are_candidates, are_parties, fit_lines, fits, fits_election, fits_line, fits_section, is_party}

-- ---- candidate by candidate

any_at : (n i : ℕ) (candidates : List NamedCandidate) (r : Candidate) → option_map without_name (slice_get candidates i) ≡ Some r → r.number ≡ n
    → list_any (nat_eq n) (map (λ c. c.number) candidates) ≡ true
any_at n i [] r e same = absurd (cc)
any_at n zero (c ∷ candidates) r e same = let first : c.number ≡ n = cc in rw (eq-eqb n c.number (sym first)) refl
any_at n (suc i) (c ∷ candidates) r e same = elim (cases_Bool (nat_eq n c.number)) [
  | inl first ↦ rw first refl
  | inr other ↦ rw other (any_at n i candidates r e same)
]

-- the number of a candidate who stands at some place is one of a candidate
pub stands_there : (t : TablesData) (panel i n : ℕ) (r : Candidate) → option_map without_name (slice_get (candidates_at panel t) i) ≡ Some r → r.number ≡ n
    → is_choice (line_of t panel) (choice.Nominal n) ≡ true
stands_there t panel i n r e same = let known = candidates_known t panel in any_at n i (panel_at t panel).candidates r (rw known at e) same

-- ---- panel by panel

pub other_lengths : (lines : List BallotLine) (offices : List OfficeCount) → length offices ≢ length lines → fit_lines lines offices ≡ false
unfolding fit_lines
other_lengths [] [] other = absurd (other refl)
other_lengths [] (o ∷ offices) other = refl
other_lengths (line ∷ lines) [] other = refl
other_lengths (line ∷ lines) (o ∷ offices) other = no_rest (fits_line line o) (other_lengths lines offices (λ same. other (ap suc same)))
  where
    no_rest : (b : Bool) {c : Bool} → c ≡ false → b && c ≡ false
    no_rest true e = e
    no_rest false e = refl

line_at : (t : TablesData) (panel : ℕ) → panel < length t.panels → get_or (lines_by_panel t) panel (line_of t panel) ≡ line_of t panel
line_at t panel lt = get_or_from_slice_get (lines_by_panel t) panel (line_of t panel) (line_of t panel) (found (slice_get_cases t.panels panel).1)
  where
    found : ((p : Panel) × (panel < length t.panels) × (slice_get t.panels panel ≡ Some p) × (get_or t.panels panel p ≡ p))
        ⊎ ((length t.panels ≤ panel) × (slice_get t.panels panel ≡ None)) → slice_get (lines_by_panel t) panel ≡ Some (line_of t panel)
    found (inl some) =
        by_panel_get t panel
        ∙ (ap (option_map (line_for t panel)) some.2 ∙ sym (ap (λ (o : Option Panel). Some (line_for t panel (unwrap_or o no_panel))) some.2))
    found (inr none) = absurd (let past = none.0 in omega arith)

-- the next panel of those that are left, with the next office
pub fit_more : (t : TablesData) (panel : ℕ) (offices : List OfficeCount) (o : OfficeCount) → panel < length t.panels → panel < length offices
    → o ≡ get_or offices panel o
    → fit_lines (drop panel (lines_by_panel t)) (drop panel offices)
    ≡ (fits_line (line_of t panel) o && fit_lines (drop (panel + 1) (lines_by_panel t)) (drop (panel + 1) offices))
unfolding fit_lines
fit_more t panel offices o here there is =
    let many = by_panel_length t in
    let left : drop panel (lines_by_panel t) ≡ line_of t panel ∷ drop (panel + 1) (lines_by_panel t) =
    drop_more (lines_by_panel t) panel (line_of t panel) (omega arith)
    ∙ ap (λ (l : BallotLine). l ∷ drop (panel + 1) (lines_by_panel t)) (line_at t panel here) in
    let right : drop panel offices ≡ o ∷ drop (panel + 1) offices =
    drop_more offices panel o there ∙ ap (λ (x : OfficeCount). x ∷ drop (panel + 1) offices) (sym is) in
    rw (left, right) refl

-- no panel and no office is left
pub fit_none : (t : TablesData) (panel : ℕ) (offices : List OfficeCount) → length t.panels ≤ panel → length offices ≤ panel
    → fit_lines (drop panel (lines_by_panel t)) (drop panel offices) ≡ true
unfolding fit_lines
fit_none t panel offices here there =
    let many = by_panel_length t in
    rw (drop_all panel (lines_by_panel t) (omega arith), drop_all panel offices there) refl

-- ---- the tests and what they say

equal : (m n : ℕ) → m == n ≡ true → m ≡ n
equal m n h = eqb-true m n h

same : (m n : ℕ) → m ≡ n → m == n ≡ true
same m n h = eq-eqb m n h

all_pass : {A : Type 0} (test : A → Bool) (xs : List A) → list_all test xs ≡ true → AllByRecursion (λ x. test x ≡ true) xs
all_pass test [] h = tt
all_pass test (x ∷ xs) h = let both = and_parts (test x) (list_all test xs) h in (both.0, all_pass test xs both.1)

pass_all : {A : Type 0} (test : A → Bool) (xs : List A) → AllByRecursion (λ x. test x ≡ true) xs → list_all test xs ≡ true
pass_all test [] h = refl
pass_all test (x ∷ xs) h = rw (h.0, pass_all test xs h.1) refl

-- the number of a party has two digits
party_small : (parties : List Party) (n : ℕ) → All IsParty parties → list_any (nat_eq n) (map (λ q. q.number) parties) ≡ true → n ≤ 99
party_small [] n all h = absurd (cc)
party_small (q ∷ qs) n all h = elim (cases_Bool (nat_eq n q.number)) [
  | inl e ↦ let is = all 0 q (omega arith) in let number : n ≡ q.number = equal n q.number e in let most = is.number.1 in omega arith
  | inr e ↦ party_small qs n (λ k d lt. all (suc k) d (omega arith)) (rw e at h)
]

parties_say : (line : BallotLine) (counts : List Count) → are_parties line counts ≡ true → AllByRecursion (λ c. is_choice line (choice.Party c.number) ≡ true) counts
parties_say line [] h = tt
parties_say line (c ∷ counts) h =
    let both = and_parts (is_party line c.number) (are_parties line counts) h in
    ((and_parts (nat_le c.number 99) (is_choice line (choice.Party c.number)) both.0).1, parties_say line counts both.1)

line_says : (line : BallotLine) (o : OfficeCount) → fits_line line o ≡ true → FitsLine line o
unfolding fits_line
line_says line o h =
    let halves = and_parts (o.code == line.code && o.places == line.places) (are_candidates line o.nominal && are_parties line o.parties) h in
    let head = and_parts (o.code == line.code) (o.places == line.places) halves.0 in
    let lists = and_parts (are_candidates line o.nominal) (are_parties line o.parties) halves.1 in
    record {
      code = equal o.code line.code head.0;
      places = equal o.places line.places head.1;
      candidates = all_pass (λ c. is_choice line (choice.Nominal c.number)) o.nominal lists.0;
      parties = parties_say line o.parties lists.1;
    }

lines_say : (lines : List BallotLine) (offices : List OfficeCount) → fit_lines lines offices ≡ true → FitLines lines offices
unfolding fit_lines
lines_say [] [] h = tt
lines_say [] (o ∷ offices) h = absurd (cc)
lines_say (line ∷ lines) [] h = absurd (cc)
lines_say (line ∷ lines) (o ∷ offices) h =
    let both = and_parts (fits_line line o) (fit_lines lines offices) h in
    (line_says line o both.0, lines_say lines offices both.1)

said_parties : (t : TablesData) → IsTables t → (n : ℕ) (p : Panel) (counts : List Count)
    → AllByRecursion (λ c. is_choice (line_for t n p) (choice.Party c.number) ≡ true) counts → are_parties (line_for t n p) counts ≡ true
said_parties t is n p [] h = refl
said_parties t is n p (c ∷ counts) h =
    let both = and_parts (is_proportional p.office.kind) (list_any (nat_eq c.number) (map (λ q. q.number) t.parties)) h.0 in
    let few = party_small t.parties c.number is.parties both.1 in
    let small : nat_le c.number 99 ≡ true = grind (arith, nat_tests) in
    rw (small, h.0, said_parties t is n p counts h.1) refl

said_line : (t : TablesData) → IsTables t → (n : ℕ) (p : Panel) (o : OfficeCount) → FitsLine (line_for t n p) o → fits_line (line_for t n p) o ≡ true
unfolding fits_line
said_line t is n p o h =
    rw (
      same o.code p.office.code h.code,
      same o.places (places_in p) h.places,
      pass_all (λ c. is_choice (line_for t n p) (choice.Nominal c.number)) o.nominal h.candidates,
      said_parties t is n p o.parties h.parties,
    ) refl

said_lines : (t : TablesData) → IsTables t → (n : ℕ) (panels : List Panel) (offices : List OfficeCount)
    → FitLines (lines_from t n panels) offices → fit_lines (lines_from t n panels) offices ≡ true
unfolding fit_lines
said_lines t is n [] [] h = refl
said_lines t is n [] (o ∷ offices) h = absurd h
said_lines t is n (p ∷ panels) [] h = absurd h
said_lines t is n (p ∷ panels) (o ∷ offices) h = rw (said_line t is n p o h.0, said_lines t is (n + 1) panels offices h.1) refl

section_says : (found : Option Section) (able : ℕ) → option_map_or (λ s. s.voters == able) found false ≡ true → option_map (λ s. s.voters) found ≡ Some able
section_says None able h = absurd (cc)
section_says (Some s) able h = ap (λ (n : ℕ). Some n) (equal s.voters able h)

said_section : (found : Option Section) (able : ℕ) → option_map (λ s. s.voters) found ≡ Some able → option_map_or (λ s. s.voters == able) found false ≡ true
said_section None able h = absurd (cc)
said_section (Some s) able h = let voters : s.voters ≡ able = cc in same s.voters able voters

-- a report that passes the tests fits,
pub fit_says : (t : TablesData) (r : Report) → fits t r ≡ true → Fits t r
fit_says t r h =
    let halves = and_parts (fits_section t.sections r) (fits_election t r && fit_lines (lines_by_panel t) r.offices) h in
    let rest = and_parts (fits_election t r) (fit_lines (lines_by_panel t) r.offices) halves.1 in
    let head = and_parts (r.process == t.process) (r.date == t.date && r.turn == t.turn) rest.0 in
    let days = and_parts (r.date == t.date) (r.turn == t.turn) head.1 in
    record {
      process = equal r.process t.process head.0;
      date = equal r.date t.date days.0;
      turn = equal r.turn t.turn days.1;
      section = section_says (section_with r.zone r.section t.sections) r.able halves.0;
      offices = lines_say (lines_by_panel t) r.offices rest.1;
    }

-- and one that fits passes them
pub says_fit : (t : TablesData) → IsTables t → (r : Report) → Fits t r → fits t r ≡ true
unfolding lines_by_panel
says_fit t is r h =
    rw (
      same r.process t.process h.process,
      same r.date t.date h.date,
      same r.turn t.turn h.turn,
      said_section (section_with r.zone r.section t.sections) r.able h.section,
      said_lines t is 0 t.panels r.offices h.offices,
    ) refl
