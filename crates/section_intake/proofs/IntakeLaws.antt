-- An intake that was made for some tables: what it says, and what it is with one report more.
use Rattle.std.proofs.Common.{◌≡◌, ℕ, zero, suc, ◌+◌, ◌<◌, ◌≤◌, ◌^◌, ◌==◌, ◌&&◌, Bool, true, false, List, [], ◌∷◌, ◌++◌, length, get_or, set, slice_get, nat_eq, if◌then◌else◌, Option, None, Some, refl, sym, ap, ◌∙◌, subst, inl, inr, arith}
use Rattle.std.specs.List.{AllByRecursion, list_any, position, sum_by}
use Rattle.std.specs.Option.{option_map_or}
use Rattle.std.proofs.lemmas.Bool.{cases_Bool}
use Rattle.std.proofs.lemmas.Bool.Decides.{nat_tests}
use Rattle.std.proofs.lemmas.List.{length-map, length_push}
use Rattle.std.proofs.lemmas.List.Sums.{sum_by-cons, sum_by_push}
use Rattle.std.proofs.lemmas.Option.{slice_get_cases, slice_get_read, slice_get_within}
use Rattle.urna_base.proofs.Every.{every_append}
use Rattle.election_tables.specs.TablesData.{TablesData, place_with}
use Rattle.election_tables.specs.declared.tables.sections.Section.{Section}
use Rattle.poll_report.specs.Report.{IsReport, total_of}
use Rattle.poll_report.specs.declared.report.Count.{Count}
use Rattle.poll_report.specs.declared.report.OfficeCount.{OfficeCount}
use Rattle.poll_report.specs.declared.report.Report.{Report}
use Rattle.vote_kinds.specs.Ballot.{BallotLine, is_choice, line_of, lines_by_panel}
use Rattle.vote_kinds.specs.declared.choice.Choice.TheVariants as choice
use Rattle.vote_kinds.proofs.Lookups.{by_panel_length, line_found}
use Rattle.section_intake.specs.Accepted.{File, IsOfSection}
use Rattle.section_intake.specs.Fits.{FitLines, Fits, FitsLine}
use Rattle.section_intake.specs.Intake.{IsIntakeFor, accepted_files}
use Rattle.section_intake.specs.Kept.{HasRoomFor, HaveRoom, sums_at, tallies_of, votes_at, with_office, with_offices}
use Rattle.section_intake.specs.Sections.{AreOfDifferentSections, holders_in, is_beside, is_of}
use Rattle.section_intake.specs.Laws.{AreAllApart, AreApart, AreShort}
use Rattle.section_intake.specs.Sums.{AreReportsOf, nominal_sum, of_office, party_sum, votes_for}
use Rattle.section_intake.specs.Verdict.{IsReportFile, accepted}
use Rattle.section_intake.specs.declared.intake.Intake.{Intake}
use Rattle.section_intake.specs.declared.panel_sums.PanelSums.{PanelSums}
use Rattle.section_intake.specs.declared.tallies.Tally.{Tally}
use Rattle.section_intake.proofs.AcceptedLaws.{files_short, report_few, small_sum, sums_within_all}
use Rattle.section_intake.proofs.HolderLaws.{free, free_place, held, held_more, section_there}
use Rattle.section_intake.proofs.NumberSums.{sum_zero}
use Rattle.section_intake.proofs.ReportLaws.{are_reports, as_many, no_more, one_list, one_more}
use Rattle.section_intake.proofs.SumLaws as sums
use Rattle.section_intake.proofs.VerdictLaws.{one_report}
use Rattle.section_intake.proofs.TallyLaws.{more_tallies, same_tallies, votes_nowhere, votes_there}

-- ---- the office of a panel, in a report that fits

lines_long : (lines : List BallotLine) (offices : List OfficeCount) → FitLines lines offices → length offices ≡ length lines
lines_long [] [] fit = refl
lines_long [] (o ∷ offices) fit = absurd fit
lines_long (line ∷ lines) [] fit = absurd fit
lines_long (line ∷ lines) (o ∷ offices) fit = ap suc (lines_long lines offices fit.1)

-- a report that fits has an office for each panel
pub offices_long : (t : TablesData) (r : Report) → Fits t r → length r.offices ≡ length t.panels
offices_long t r fit = lines_long (lines_by_panel t) r.offices fit.offices ∙ by_panel_length t

line_at : (lines : List BallotLine) (offices : List OfficeCount) (k : ℕ) (line : BallotLine) (o : OfficeCount) → FitLines lines offices
    → slice_get lines k ≡ Some line → slice_get offices k ≡ Some o → FitsLine line o
line_at [] [] k line o fit a b = absurd (cc)
line_at [] (p ∷ offices) k line o fit a b = absurd fit
line_at (l ∷ lines) [] k line o fit a b = absurd fit
line_at (l ∷ lines) (p ∷ offices) zero line o fit a b =
    let first : l ≡ line = cc in
    let second : p ≡ o = cc in
    subst (λ (x : OfficeCount). FitsLine line x) second (subst (λ (x : BallotLine). FitsLine x p) first fit.0)
line_at (l ∷ lines) (p ∷ offices) (suc k) line o fit a b = line_at lines offices k line o fit.1 a b

fits_there : (t : TablesData) (r : Report) (panel : ℕ) (o : OfficeCount) → Fits t r → slice_get r.offices panel ≡ Some o → FitsLine (line_of t panel) o
fits_there t r panel o fit at =
    let many = offices_long t r fit in
    let lt = slice_get_within r.offices panel o at in
    line_at (lines_by_panel t) r.offices panel (line_of t panel) o fit.offices (line_found t panel (omega arith)) at

-- what is the same of each office that fits is the same of reports that fit
same_in_office : (f g : OfficeCount → ℕ) (t : TablesData) (panel : ℕ) (r : Report) → Fits t r → ((o : OfficeCount) → FitsLine (line_of t panel) o → f o ≡ g o)
    → (found : Option OfficeCount) → slice_get r.offices panel ≡ found → option_map_or f found 0 ≡ option_map_or g found 0
same_in_office f g t panel r fit same None at = refl
same_in_office f g t panel r fit same (Some o) at = same o (fits_there t r panel o fit at)

pub same_in_all : (f g : OfficeCount → ℕ) (t : TablesData) (panel : ℕ) (reports : List Report) → AllByRecursion (Fits t) reports
    → ((o : OfficeCount) → FitsLine (line_of t panel) o → f o ≡ g o) → sum_by (of_office f panel) reports ≡ sum_by (of_office g panel) reports
same_in_all f g t panel [] fit same = refl
same_in_all f g t panel (r ∷ reports) fit same =
    let left = sum_by-cons (of_office f panel) r reports in
    let right = sum_by-cons (of_office g panel) r reports in
    let first : of_office f panel r ≡ of_office g panel r = same_in_office f g t panel r fit.0 same (slice_get r.offices panel) refl in
    let rest = same_in_all f g t panel reports fit.1 same in
    omega arith

-- ---- a number that the tables lack has no votes

-- where each listed number passes a test, one that doesn't has no votes
no_votes : (may : ℕ → Bool) (number : ℕ) (counts : List Count) → may number ≡ false → AllByRecursion (λ c. may c.number ≡ true) counts → votes_for number counts ≡ 0
no_votes may number [] none all = refl
no_votes may number (c ∷ counts) none all =
    let sum = sum_by-cons (λ (d : Count). if d.number == number then d.votes else 0) c counts in
    let rest = no_votes may number counts none all.1 in
    elim (cases_Bool (c.number == number)) [
      | inl here ↦ absurd (
          let same : c.number ≡ number = grind (arith, nat_tests) in
          let passes : may number ≡ true = subst (λ (n : ℕ). may n ≡ true) same all.0 in
          cc)
      | inr other ↦
          let first : (if c.number == number then c.votes else 0) ≡ 0 = rw other refl in
          omega arith
    ]

-- nothing is counted
abbrev none_of : OfficeCount → ℕ
none_of o = 0

none_in_all : (f : OfficeCount → ℕ) (t : TablesData) (panel : ℕ) (reports : List Report) → AllByRecursion (Fits t) reports
    → ((o : OfficeCount) → FitsLine (line_of t panel) o → f o ≡ 0) → sum_by (of_office f panel) reports ≡ 0
none_in_all f t panel reports fit none =
    same_in_all f none_of t panel reports fit none ∙ sum_zero (of_office none_of panel) reports (λ r. nothing (slice_get r.offices panel))
  where
    nothing : (o : Option OfficeCount) → option_map_or none_of o 0 ≡ 0
    nothing None = refl
    nothing (Some o) = refl

pub no_nominal : (t : TablesData) (panel number : ℕ) (reports : List Report) → AllByRecursion (Fits t) reports
    → is_choice (line_of t panel) (choice.Nominal number) ≡ false → nominal_sum panel number reports ≡ 0
no_nominal t panel number reports fit none =
    none_in_all (λ o. votes_for number o.nominal) t panel reports fit
    (λ o h. no_votes (λ n. is_choice (line_of t panel) (choice.Nominal n)) number o.nominal none h.candidates)

pub no_party : (t : TablesData) (panel number : ℕ) (reports : List Report) → AllByRecursion (Fits t) reports
    → is_choice (line_of t panel) (choice.Party number) ≡ false → party_sum panel number reports ≡ 0
no_party t panel number reports fit none =
    none_in_all (λ o. votes_for number o.parties) t panel reports fit
    (λ o h. no_votes (λ n. is_choice (line_of t panel) (choice.Party n)) number o.parties none h.parties)

pub nominal_there : (t : TablesData) (panel number : ℕ) (reports : List Report) → AllByRecursion (Fits t) reports
    → votes_at number (sums_at t reports panel).nominal ≡ nominal_sum panel number reports
nominal_there t panel number reports fit = elim (cases_Bool (list_any (nat_eq number) (line_of t panel).candidates)) [
  | inl listed ↦ votes_there (λ n. nominal_sum panel n reports) (line_of t panel).candidates number listed
  | inr lacks ↦
      votes_nowhere (λ n. nominal_sum panel n reports) (line_of t panel).candidates number lacks
      ∙ sym (no_nominal t panel number reports fit lacks)
]

-- a number that is none of a party may not be chosen in any office
no_choice : (proportional : Bool) {listed : Bool} → listed ≡ false → proportional && listed ≡ false
no_choice true lacks = lacks
no_choice false lacks = refl

pub party_there : (t : TablesData) (panel number : ℕ) (reports : List Report) → AllByRecursion (Fits t) reports
    → votes_at number (sums_at t reports panel).parties ≡ party_sum panel number reports
party_there t panel number reports fit = elim (cases_Bool (list_any (nat_eq number) (line_of t panel).parties)) [
  | inl listed ↦ votes_there (λ n. party_sum panel n reports) (line_of t panel).parties number listed
  | inr lacks ↦
      votes_nowhere (λ n. party_sum panel n reports) (line_of t panel).parties number lacks
      ∙ sym (no_party t panel number reports fit (no_choice (line_of t panel).proportional lacks))
]

-- what stands in a panel of an intake are the sums over the reports of its files
pub panel_there : (t : TablesData) (i : Intake) (reports : List Report) (panel : ℕ) (s : PanelSums) → IsIntakeFor t i → AreReportsOf (accepted_files i) reports
    → slice_get i.panels.items panel ≡ Some s → (AllByRecursion (Fits t) reports) × (s ≡ sums_at t reports panel)
panel_there t i reports panel s is read at =
    let same : is.reports ≡ reports = one_list (accepted_files i) is.reports reports (files_short (accepted_files i) is.short) is.read read in
    let lt = slice_get_within i.panels.items panel s at in
    let many = is.panels in
    let own = is.sums panel (omega arith) in
    let both : Some s ≡ Some (sums_at t is.reports panel) = sym at ∙ own in
    let here : s ≡ sums_at t is.reports panel = cc in
    (subst (AllByRecursion (Fits t)) same is.fit, here ∙ ap (λ (l : List Report). sums_at t l panel) same)

-- ---- one report more

one_office_more : (f : OfficeCount → ℕ) (panel : ℕ) (reports : List Report) (r : Report) (o : OfficeCount) → slice_get r.offices panel ≡ Some o
    → sum_by (of_office f panel) reports + f o ≡ sum_by (of_office f panel) (reports ++ r ∷ [])
one_office_more f panel reports r o at =
    ap (λ (n : ℕ). sum_by (of_office f panel) reports + n) (sym (ap (λ (x : Option OfficeCount). option_map_or f x 0) at))
    ∙ sym (sum_by_push (of_office f panel) reports r)

abbrev panel_of : List Tally → List Tally → ℕ → ℕ → PanelSums
panel_of nominal parties blank null_votes = record { nominal = nominal; parties = parties; blank = blank; null_votes = null_votes }

same_panel : (a b c d : List Tally) (k l m n : ℕ) → a ≡ b → c ≡ d → k ≡ l → m ≡ n → panel_of a c k m ≡ panel_of b d l n
same_panel a b c d k l m n first second third fourth =
    ap (λ (x : List Tally). panel_of x c k m) first
    ∙ ap (λ (x : List Tally). panel_of b x k m) second
    ∙ ap (λ (x : ℕ). panel_of b d x m) third
    ∙ ap (λ (x : ℕ). panel_of b d l x) fourth

sums_more : (t : TablesData) (reports : List Report) (r : Report) (panel : ℕ) (o : OfficeCount) → slice_get r.offices panel ≡ Some o
    → with_office o (sums_at t reports panel) ≡ sums_at t (reports ++ r ∷ []) panel
sums_more t reports r panel o at =
    let nominal =
    more_tallies (λ n. nominal_sum panel n reports) o.nominal (line_of t panel).candidates
    ∙ same_tallies (λ n. nominal_sum panel n reports + votes_for n o.nominal) (λ n. nominal_sum panel n (reports ++ r ∷ [])) (line_of t panel).candidates
    (λ n. one_office_more (λ o. votes_for n o.nominal) panel reports r o at) in
    let parties =
    more_tallies (λ n. party_sum panel n reports) o.parties (line_of t panel).parties
    ∙ same_tallies (λ n. party_sum panel n reports + votes_for n o.parties) (λ n. party_sum panel n (reports ++ r ∷ [])) (line_of t panel).parties
    (λ n. one_office_more (λ o. votes_for n o.parties) panel reports r o at) in
    let blank = one_office_more (λ o. o.blank) panel reports r o at in
    let null_votes = one_office_more (λ o. o.null_votes) panel reports r o at in
    same_panel _ _ _ _ _ _ _ _ nominal parties blank null_votes

apart_more : (s : Section) (reports : List Report) (r : Report) → is_of s r ≡ true → AllByRecursion (λ q. is_of s q ≡ false) reports → AreOfDifferentSections reports
    → AreOfDifferentSections (reports ++ r ∷ [])
apart_more s [] r mine none apart = (tt, tt)
apart_more s (q ∷ reports) r mine none apart =
    (every_append (λ x. is_beside q x ≡ false) reports (r ∷ []) apart.0 (other s q r mine none.0, tt), apart_more s reports r mine none.1 apart.1)
  where
    other : (s : Section) (q r : Report) → is_of s r ≡ true → is_of s q ≡ false → is_beside q r ≡ false
    other s q r mine no_q = elim (cases_Bool (is_beside q r)) [
      | inl same ↦ absurd (
          let zone : s.zone ≡ q.zone = grind (arith, nat_tests) in
          let section : s.number ≡ q.section = grind (arith, nat_tests) in
          let its : is_of s q ≡ true = grind (arith, nat_tests) in
          cc)
      | inr else_where ↦ else_where
    ]

-- there is room for one file more
pub one_more_fits : (t : TablesData) (i : Intake) (r : Report) (place : ℕ) → IsIntakeFor t i → Fits t r → place_with r.zone r.section t.sections ≡ Some place
    → slice_get i.holders.items place ≡ Some None → length (accepted_files i) + 1 ≤ length t.sections
one_more_fits t i r place is fit at kept =
    let (s, there, mine) = section_there t.sections r.zone r.section place at in
    let held : slice_get (holders_in t.sections is.reports) place ≡ Some None = ap (λ (l : List (Option ℕ)). slice_get l place) (sym is.holders) ∙ kept in
    let none = free_place t is.reports r place s there held in
    let few = no_more t (is.reports ++ r ∷ []) (every_append (Fits t) is.reports (r ∷ []) is.fit (fit, tt)) (apart_more s is.reports r mine none is.different) in
    let more = length_push is.reports r in
    let many = as_many (accepted_files i) is.reports is.read in
    omega arith

-- an intake with the file of a report that fits, and its counts
pub still_made : (t : TablesData) (i more : Intake) (bytes : File) (r : Report) (place : ℕ) → IsIntakeFor t i → length bytes < 2 ^ 31 → IsReportFile bytes r → Fits t r
    → place_with r.zone r.section t.sections ≡ Some place → slice_get i.holders.items place ≡ Some None
    → accepted_files more ≡ accepted_files i ++ bytes ∷ [] → more.holders.items ≡ set i.holders.items place (Some (length (accepted_files i)))
    → more.panels.items ≡ with_offices r.offices i.panels.items → IsIntakeFor t more
still_made t i more bytes r place is short h fit at kept files holders panels =
    let (s, there, mine) = section_there t.sections r.zone r.section place at in
    let held : slice_get (holders_in t.sections is.reports) place ≡ Some None = ap (λ (l : List (Option ℕ)). slice_get l place) (sym is.holders) ∙ kept in
    let none = free_place t is.reports r place s there held in
    let S : File → Type 0 = λ f. length f < 2 ^ 31 in
    let tables = is.tables in
    let many = as_many (accepted_files i) is.reports is.read in
    record {
      tables = is.tables;
      panels = ap length panels ∙ sums.as_many r.offices i.panels.items ∙ is.panels;
      short = subst (AllByRecursion S) (sym files) (every_append S (accepted_files i) (bytes ∷ []) is.short (short, tt));
      reports = is.reports ++ r ∷ [];
      read = subst (λ (l : List File). AreReportsOf l (is.reports ++ r ∷ [])) (sym files) (one_more (accepted_files i) is.reports bytes r is.read h);
      fit = every_append (Fits t) is.reports (r ∷ []) is.fit (fit, tt);
      different = apart_more s is.reports r mine none is.different;
      holders = holders
          ∙ ap (λ (l : List (Option ℕ)). set l place (Some (length (accepted_files i)))) is.holders
          ∙ ap (λ (n : ℕ). set (holders_in t.sections is.reports) place (Some n)) many
          ∙ held_more t.sections is.reports r place s tables.sections_rise there mine none;
      sums = λ panel lt. ap (λ (l : List PanelSums). slice_get l panel) panels ∙ panel_more panel lt (is.sums panel lt);
    }
  where
    panel_more : (panel : ℕ) → panel < length t.panels → slice_get i.panels.items panel ≡ Some (sums_at t is.reports panel)
        → slice_get (with_offices r.offices i.panels.items) panel ≡ Some (sums_at t (is.reports ++ r ∷ []) panel)
    panel_more panel lt was = elim ((slice_get_cases r.offices panel).1) [
      | inl there ↦
          sums.office_added r.offices i.panels.items panel there.0 (sums_at t is.reports panel) there.2 was
          ∙ ap (λ (s : PanelSums). Some s) (sums_more t is.reports r panel there.0 there.2)
      | inr past ↦ absurd (let gone = past.0 in let all = offices_long t r fit in omega arith)
    ]

-- ---- room

room_in : (votes : ℕ → ℕ) (more : ℕ) (ns : List ℕ) → ((n : ℕ) → votes n + more < 2 ^ 64) → HaveRoom more (tallies_of votes ns)
room_in votes more [] small = tt
room_in votes more (n ∷ ns) small = (small n, room_in votes more ns small)

-- there is room for the counts of a report more
pub room_for_report : (t : TablesData) (i : Intake) (r : Report) → IsIntakeFor t i → IsReport r → (panel : ℕ) (s : PanelSums) (o : OfficeCount)
    → slice_get i.panels.items panel ≡ Some s → slice_get r.offices panel ≡ Some o → HasRoomFor (total_of o) s
room_for_report t i r is report panel s o at counted =
    let here = panel_there t i is.reports panel s is is.read at in
    let tables = is.tables in
    let all = small_sum t is.reports panel tables.section_count.1 (are_reports (accepted_files i) is.reports is.read) is.fit is.different in
    let few = report_few r panel report in
    let office : of_office total_of panel r ≡ total_of o = ap (λ (x : Option OfficeCount). option_map_or total_of x 0) counted in
    let within = λ (n : ℕ). sums_within_all panel n is.reports in
    let none = within 0 in
    let room : HasRoomFor (total_of o) (sums_at t is.reports panel) = record {
      nominal = room_in (λ n. nominal_sum panel n is.reports) (total_of o) (line_of t panel).candidates (λ n. let w = within n in omega arith);
      parties = room_in (λ n. party_sum panel n is.reports) (total_of o) (line_of t panel).parties (λ n. let w = within n in omega arith);
      blank = omega arith;
      null_votes = omega arith;
    } in
    subst (HasRoomFor (total_of o)) (sym here.1) room

-- ---- its files

section_told : (t : TablesData) (z n : ℕ) (f : File) (r : Report) → length f < 2 ^ 63 → IsReportFile f r → IsOfSection t z n f → (r.zone ≡ z) × (r.section ≡ n)
section_told t _ _ f r short h (accepted {r = q} i fit) =
    let same : r ≡ q = one_report f r q short h i in
    (ap (λ (x : Report). x.zone) same, ap (λ (x : Report). x.section) same)

all_apart : (t : TablesData) (files : List File) (reports : List Report) → AreShort files → AreReportsOf files reports → AreOfDifferentSections reports → AreAllApart t files
all_apart t [] reports short read different = tt
all_apart t (f ∷ files) [] short read different = absurd read
all_apart t (f ∷ files) (r ∷ reports) short read different =
    (others f r short.0 read.0 files reports short.1 read.1 different.0, all_apart t files reports short.1 read.1 different.1)
  where
    clash : (r q : Report) (z n : ℕ) → is_beside r q ≡ false → (r.zone ≡ z) × (r.section ≡ n) → (q.zone ≡ z) × (q.section ≡ n) → ⊥
    clash r q z n other a b =
        let zone : r.zone ≡ q.zone = a.0 ∙ sym b.0 in
        let section : r.section ≡ q.section = a.1 ∙ sym b.1 in
        let same : is_beside r q ≡ true = grind (arith, nat_tests) in
        cc

    others : (f : File) (r : Report) → length f < 2 ^ 63 → IsReportFile f r → (files : List File) (reports : List Report) → AreShort files → AreReportsOf files reports
        → AllByRecursion (λ q. is_beside r q ≡ false) reports → AllByRecursion (AreApart t f) files
    others f r lt h [] reports short read other = tt
    others f r lt h (g ∷ files) [] short read other = absurd read
    others f r lt h (g ∷ files) (q ∷ reports) short read other = (
      (λ z n i j. clash r q z n other.0 (section_told t z n f r lt h i) (section_told t z n g q short.0 read.0 j)),
      others f r lt h files reports short.1 read.1 other.1,
    )

pub files_apart : (t : TablesData) (i : Intake) → IsIntakeFor t i → AreAllApart t (accepted_files i)
files_apart t i is = all_apart t (accepted_files i) is.reports (files_short (accepted_files i) is.short) is.read is.different

-- what it keeps for the section at a place
pub kept_at : (t : TablesData) (i : Intake) (place : ℕ) (o p : Option ℕ) → IsIntakeFor t i → place < length t.sections → o ≡ get_or i.holders.items place o → o ≡ p
    → slice_get i.holders.items place ≡ Some p
kept_at t i place o p is lt at same =
    let many = ap (λ (l : List (Option ℕ)). length l) is.holders ∙ length-map t.sections (λ (s : Section). position (is_of s) is.reports) in
    slice_get_read i.holders.items (length i.holders.items) place o refl (omega arith) at ∙ ap (λ (x : Option ℕ). Some x) same

-- the file of the report of a section whose place is kept
pub holder_of : (t : TablesData) (i : Intake) (r : Report) (place j : ℕ) → IsIntakeFor t i → place_with r.zone r.section t.sections ≡ Some place
    → slice_get i.holders.items place ≡ Some (Some j) → (f : File) × (slice_get (accepted_files i) j ≡ Some f) × IsOfSection t r.zone r.section f
holder_of t i r place j is at kept =
    held t (accepted_files i) is.reports r place j is.read is.fit at (ap (λ (l : List (Option ℕ)). slice_get l place) (sym is.holders) ∙ kept)

-- no file is of a section whose place is free
pub nobody_holds : (t : TablesData) (i : Intake) (r : Report) (place : ℕ) → IsIntakeFor t i → place_with r.zone r.section t.sections ≡ Some place
    → slice_get i.holders.items place ≡ Some None → AllByRecursion (λ f. ¬ IsOfSection t r.zone r.section f) (accepted_files i)
nobody_holds t i r place is at kept =
    free t (accepted_files i) is.reports r place (files_short (accepted_files i) is.short) is.read at
    (ap (λ (l : List (Option ℕ)). slice_get l place) (sym is.holders) ∙ kept)
