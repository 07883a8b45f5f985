-- Which section has which report: the places that an intake keeps.
use Rattle.std.proofs.Common.{◌≡◌, ℕ, zero, suc, ◌+◌, ◌<◌, ◌^◌, ◌==◌, ◌&&◌, Bool, true, false, not, cond, List, [], ◌∷◌, ◌++◌, length, map, set, slice_get, Option, None, Some, Less, Equal, option_map, find, refl, sym, ap, ◌∙◌, subst, inl, inr, arith}
use Rattle.std.specs.Prelude.{nat_lt}
use Rattle.std.specs.Cmp.{nat_cmp_is}
use Rattle.std.specs.List.{AllByRecursion, position, position_or_len}
use Rattle.std.proofs.lemmas.Bool.{cases_Bool}
use Rattle.std.proofs.lemmas.Bool.Decides.{nat_tests}
use Rattle.std.proofs.lemmas.List.Folds.{position_or_len_push}
use Rattle.std.proofs.lemmas.List.{length_push}
use Rattle.std.proofs.lemmas.List.Sums.{prefix_len-le-length}
use Rattle.std.proofs.lemmas.Map.Keys.{sorted_head, sorted_tail}
use Rattle.std.proofs.lemmas.Option.{slice_get-map, slice_get_cases}
use Rattle.election_tables.specs.TablesData.{SectionsRise, TablesData, pair_cmp, place_with}
use Rattle.election_tables.specs.declared.tables.sections.Section.{Section}
use Rattle.election_tables.proofs.Rising.{at_place, find_passes, no_place}
use Rattle.poll_report.specs.declared.report.Report.{Report}
use Rattle.section_intake.specs.Accepted.{File, IsOfSection}
use Rattle.section_intake.specs.Fits.{Fits}
use Rattle.section_intake.specs.Sections.{holders_in, is_of}
use Rattle.section_intake.specs.Laws.{AreShort}
use Rattle.section_intake.specs.Sums.{AreReportsOf}
use Rattle.section_intake.specs.Verdict.{IsReportFile, accepted}
use Rattle.section_intake.proofs.AcceptedLaws.{by_report}
use Rattle.section_intake.proofs.Members.{all_at}
use Rattle.section_intake.proofs.ReportLaws.{file_of}
use Rattle.section_intake.proofs.VerdictLaws.{one_report}

-- ---- a place of the tables

-- the section at the place of a zone and a number
pub section_there : (sections : List Section) (z n place : ℕ) → place_with z n sections ≡ Some place
    → (s : Section) × (slice_get sections place ≡ Some s) × (((s.zone == z) && (s.number == n)) ≡ true)
section_there sections z n place e =
    let at = at_place (λ (s : Section). (s.zone == z) && (s.number == n)) sections place e in
    elim ((slice_get_cases sections place).1) [
      | inl there ↦ (there.0, there.2, find_passes (λ (s : Section). (s.zone == z) && (s.number == n)) sections there.0 (at.1 ∙ there.2))
      | inr past ↦ absurd (let lt = at.0 in let gone = past.0 in omega arith)
    ]

-- where there is none no report of it fits
pub not_listed : (t : TablesData) (r : Report) → place_with r.zone r.section t.sections ≡ None → ¬ Fits t r
not_listed t r e fit =
    let none = no_place (λ (s : Section). (s.zone == r.zone) && (s.number == r.section)) t.sections e in
    let some = fit.section in
    let both : None ≡ Some r.able = sym (ap (option_map (λ s. s.voters)) none) ∙ some in
    cc

-- ---- what is held

-- the place that is kept for a section is that of its report
held_place : (sections : List Section) (reports : List Report) (place : ℕ) (s : Section) (o : Option ℕ) → slice_get sections place ≡ Some s
    → slice_get (holders_in sections reports) place ≡ Some o → position (is_of s) reports ≡ o
held_place sections reports place s o at kept =
    let both : Some (position (is_of s) reports) ≡ Some o =
    sym (slice_get-map (λ (x : Section). position (is_of x) reports) sections place ∙ ap (option_map (λ (x : Section). position (is_of x) reports)) at) ∙ kept in
    cc

same_pair : (a b z n : ℕ) → ((a == z) && (b == n)) ≡ true → (a ≡ z) × (b ≡ n)
same_pair a b z n h = (grind (arith, nat_tests), grind (arith, nat_tests))

pub held : (t : TablesData) (files : List File) (reports : List Report) (r : Report) (place j : ℕ) → AreReportsOf files reports → AllByRecursion (Fits t) reports
    → place_with r.zone r.section t.sections ≡ Some place → slice_get (holders_in t.sections reports) place ≡ Some (Some j)
    → (f : File) × (slice_get files j ≡ Some f) × IsOfSection t r.zone r.section f
held t files reports r place j read fit at kept =
    let (s, there, is) = section_there t.sections r.zone r.section place at in
    let is_at = at_place (is_of s) reports j (held_place t.sections reports place s (Some j) there kept) in
    elim ((slice_get_cases reports j).1) [
      | inl found ↦
          let q = found.0 in
          let mine = same_pair s.zone s.number r.zone r.section is in
          let its = same_pair s.zone s.number q.zone q.section (find_passes (is_of s) reports q (is_at.1 ∙ found.2)) in
          let (f, file, h) = file_of files reports j q read found.2 in
          let own : IsOfSection t q.zone q.section f = by_report t f q h (all_at (Fits t) reports j q fit found.2) in
          (f, file, subst (λ (n : ℕ). IsOfSection t r.zone n f) (sym its.1 ∙ mine.1) (subst (λ (n : ℕ). IsOfSection t n q.section f) (sym its.0 ∙ mine.0) own))
      | inr past ↦ absurd (let lt = is_at.0 in let gone = past.0 in omega arith)
    ]

-- no report is of a section whose place is free
none_of : (s : Section) (reports : List Report) → find (is_of s) reports ≡ None → AllByRecursion (λ q. is_of s q ≡ false) reports
none_of s [] e = tt
none_of s (q ∷ reports) e = elim (cases_Bool (is_of s q)) [
  | inl here ↦ absurd (let some = rw here at e in cc)
  | inr other ↦ (other, none_of s reports (rw other at e))
]

pub free_place : (t : TablesData) (reports : List Report) (r : Report) (place : ℕ) (s : Section) → slice_get t.sections place ≡ Some s
    → slice_get (holders_in t.sections reports) place ≡ Some None → AllByRecursion (λ q. is_of s q ≡ false) reports
free_place t reports r place s there kept = none_of s reports (no_place (is_of s) reports (held_place t.sections reports place s None there kept))

file_elsewhere : (t : TablesData) (s : Section) (z n : ℕ) (f : File) (q : Report) → length f < 2 ^ 63 → (s.zone ≡ z) × (s.number ≡ n) → is_of s q ≡ false
    → IsReportFile f q → ¬ IsOfSection t z n f
file_elsewhere t s _ _ f q short mine other h (accepted {r} i fit) =
    let same : q ≡ r = one_report f q r short h i in
    let zone : s.zone ≡ q.zone = mine.0 ∙ ap (λ (x : Report). x.zone) (sym same) in
    let section : s.number ≡ q.section = mine.1 ∙ ap (λ (x : Report). x.section) (sym same) in
    let its : is_of s q ≡ true = grind (arith, nat_tests) in
    cc

pub free : (t : TablesData) (files : List File) (reports : List Report) (r : Report) (place : ℕ) → AreShort files → AreReportsOf files reports
    → place_with r.zone r.section t.sections ≡ Some place → slice_get (holders_in t.sections reports) place ≡ Some None
    → AllByRecursion (λ f. ¬ IsOfSection t r.zone r.section f) files
free t files reports r place short read at kept =
    let (s, there, is) = section_there t.sections r.zone r.section place at in
    elsewhere s files reports short read (free_place t reports r place s there kept) (same_pair s.zone s.number r.zone r.section is)
  where
    elsewhere : (s : Section) (files : List File) (reports : List Report) → AreShort files → AreReportsOf files reports → AllByRecursion (λ q. is_of s q ≡ false) reports
        → (s.zone ≡ r.zone) × (s.number ≡ r.section) → AllByRecursion (λ f. ¬ IsOfSection t r.zone r.section f) files
    elsewhere s [] reports short read none mine = tt
    elsewhere s (f ∷ files) [] short read none mine = absurd read
    elsewhere s (f ∷ files) (q ∷ reports) short read none mine =
        (file_elsewhere t s r.zone r.section f q short.0 mine none.0 read.0, elsewhere s files reports short.1 read.1 none.1 mine)

-- ---- one report more

same_place : {X : Type 0} (p : X → Bool) (xs : List X) (x : X) → p x ≡ false → position p (xs ++ x ∷ []) ≡ position p xs
same_place p xs x other =
    let many = length_push xs x in
    let push = position_or_len_push p xs x in
    elim (cases_Bool (nat_lt (position_or_len p xs) (length xs))) [
      | inl within ↦ rw within (found push many within)
      | inr past ↦ rw past (missed push many past)
    ]
  where
    found : position_or_len p (xs ++ x ∷ []) ≡ cond (position_or_len p xs == length xs) (length xs + cond (p x) 0 1) (position_or_len p xs)
        → length (xs ++ x ∷ []) ≡ length xs + 1 → nat_lt (position_or_len p xs) (length xs) ≡ true
        → position p (xs ++ x ∷ []) ≡ Some (position_or_len p xs)
    found push many within =
        let lt : position_or_len p xs < length xs = grind (arith, nat_tests) in
        let ne : (position_or_len p xs == length xs) ≡ false = grind (arith, nat_tests) in
        let at : position_or_len p (xs ++ x ∷ []) ≡ position_or_len p xs = push ∙ ap (λ (b : Bool). cond b (length xs + cond (p x) 0 1) (position_or_len p xs)) ne in
        let here : nat_lt (position_or_len p xs) (length xs + 1) ≡ true = grind (arith, nat_tests) in
        rw (at, many, here) refl

    missed : position_or_len p (xs ++ x ∷ []) ≡ cond (position_or_len p xs == length xs) (length xs + cond (p x) 0 1) (position_or_len p xs)
        → length (xs ++ x ∷ []) ≡ length xs + 1 → nat_lt (position_or_len p xs) (length xs) ≡ false
        → position p (xs ++ x ∷ []) ≡ None
    missed push many past =
        let most = prefix_len-le-length (λ y. not (p y)) xs in
        let end : position_or_len p xs ≡ length xs = grind (arith, nat_tests) in
        let eq : (position_or_len p xs == length xs) ≡ true = grind (arith, nat_tests) in
        let at : position_or_len p (xs ++ x ∷ []) ≡ length xs + 1 =
        push ∙ ap (λ (b : Bool). cond b (length xs + cond (p x) 0 1) (position_or_len p xs)) eq ∙ ap (λ (b : Bool). length xs + cond b 0 1) other in
        let gone : nat_lt (length xs + 1) (length xs + 1) ≡ false = grind (arith, nat_tests) in
        rw (at, many, gone) refl

all_miss : {X : Type 0} (p : X → Bool) (xs : List X) → AllByRecursion (λ y. p y ≡ false) xs → position_or_len p xs ≡ length xs
all_miss p [] none = refl
all_miss p (x ∷ xs) none = let more : 1 + length xs ≡ suc (length xs) = omega arith in rw (none.0, all_miss p xs none.1) more

new_place : {X : Type 0} (p : X → Bool) (xs : List X) (x : X) → AllByRecursion (λ y. p y ≡ false) xs → p x ≡ true → position p (xs ++ x ∷ []) ≡ Some (length xs)
new_place p xs x none here =
    let many = length_push xs x in
    let end = all_miss p xs none in
    let eq : (position_or_len p xs == length xs) ≡ true = grind (arith, nat_tests) in
    let at : position_or_len p (xs ++ x ∷ []) ≡ length xs + 0 =
    position_or_len_push p xs x ∙ ap (λ (b : Bool). cond b (length xs + cond (p x) 0 1) (position_or_len p xs)) eq ∙ ap (λ (b : Bool). length xs + cond b 0 1) here in
    let exact : length xs + 0 ≡ length xs = omega arith in
    let lt : nat_lt (length xs) (length xs + 1) ≡ true = grind (arith, nat_tests) in
    rw (at, exact, many, lt) refl

-- sections behind another are others
behind : (a b c d z n : ℕ) → pair_cmp (a, b) (c, d) ≡ Less → ((a == z) && (b == n)) ≡ true → ((c == z) && (d == n)) ≡ false
behind a b c d z n less here = elim (cases_Bool ((c == z) && (d == n))) [
  | inl there ↦
      let first = same_pair a b z n here in
      let second = same_pair c d z n there in
      let zone : a ≡ c = first.0 ∙ sym second.0 in
      let number : b ≡ d = first.1 ∙ sym second.1 in
      absurd (never a c b d zone number less)
  | inr other ↦ other
]
  where
    never : (a c b d : ℕ) → a ≡ c → b ≡ d → pair_cmp (a, b) (c, d) ≡ Less → ⊥
    never a c b d zone number less =
        let e = nat_cmp_is a c Equal zone in
        let f = nat_cmp_is b d Equal number in
        let both : Equal ≡ Less = rw (sym e, sym f) at less in
        cc

no_other : (s : Section) (r : Report) (sections : List Section) → is_of s r ≡ true
    → AllByRecursion (λ y. pair_cmp (s.zone, s.number) y ≡ Less) (map (λ x. (x.zone, x.number)) sections) → AllByRecursion (λ x. is_of x r ≡ false) sections
no_other s r [] mine less = tt
no_other s r (x ∷ sections) mine less = (behind s.zone s.number x.zone x.number r.zone r.section less.0 mine, no_other s r sections mine less.1)

holders_stay : (sections : List Section) (reports : List Report) (r : Report) → AllByRecursion (λ x. is_of x r ≡ false) sections
    → holders_in sections reports ≡ holders_in sections (reports ++ r ∷ [])
holders_stay [] reports r other = refl
holders_stay (x ∷ sections) reports r other =
    ap (λ (o : Option ℕ). o ∷ holders_in sections reports) (sym (same_place (is_of x) reports r other.0))
    ∙ ap (λ (l : List (Option ℕ)). position (is_of x) (reports ++ r ∷ []) ∷ l) (holders_stay sections reports r other.1)

less_at : (x s : Section) (sections : List Section) (k : ℕ) → AllByRecursion (λ y. pair_cmp (x.zone, x.number) y ≡ Less) (map (λ z. (z.zone, z.number)) sections)
    → slice_get sections k ≡ Some s → pair_cmp (x.zone, x.number) (s.zone, s.number) ≡ Less
less_at x s [] k less e = absurd (cc)
less_at x s (y ∷ sections) zero less e =
    let same : y ≡ s = cc in
    subst (λ (z : Section). pair_cmp (x.zone, x.number) (z.zone, z.number) ≡ Less) same less.0
less_at x s (y ∷ sections) (suc k) less e = less_at x s sections k less.1 e

before_it : (x s : Section) (r : Report) → pair_cmp (x.zone, x.number) (s.zone, s.number) ≡ Less → is_of s r ≡ true → is_of x r ≡ false
before_it x s r less mine = elim (cases_Bool (is_of x r)) [
  | inl here ↦ absurd (let other = behind x.zone x.number s.zone s.number r.zone r.section less here in cc)
  | inr other ↦ other
]

-- the place of the report of a section that had none is the end of the list
pub held_more : (sections : List Section) (reports : List Report) (r : Report) (place : ℕ) (s : Section) → SectionsRise sections → slice_get sections place ≡ Some s
    → is_of s r ≡ true → AllByRecursion (λ q. is_of s q ≡ false) reports
    → set (holders_in sections reports) place (Some (length reports)) ≡ holders_in sections (reports ++ r ∷ [])
held_more [] reports r place s rise at mine none = absurd (cc)
held_more (x ∷ sections) reports r zero s rise at mine none =
    let same : x ≡ s = cc in
    let head = sorted_head pair_cmp (x.zone, x.number) (map (λ z. (z.zone, z.number)) sections) rise in
    let its : is_of x r ≡ true = subst (λ (z : Section). is_of z r ≡ true) (sym same) mine in
    let no_others : AllByRecursion (λ q. is_of x q ≡ false) reports = subst (λ (z : Section). AllByRecursion (λ q. is_of z q ≡ false) reports) (sym same) none in
    ap (λ (o : Option ℕ). o ∷ holders_in sections reports) (sym (new_place (is_of x) reports r no_others its))
    ∙ ap (λ (l : List (Option ℕ)). position (is_of x) (reports ++ r ∷ []) ∷ l) (holders_stay sections reports r (no_other x r sections its head))
held_more (x ∷ sections) reports r (suc k) s rise at mine none =
    let head = sorted_head pair_cmp (x.zone, x.number) (map (λ z. (z.zone, z.number)) sections) rise in
    let tail = sorted_tail pair_cmp (x.zone, x.number) (map (λ z. (z.zone, z.number)) sections) rise in
    let other = before_it x s r (less_at x s sections k head at) mine in
    ap (λ (o : Option ℕ). o ∷ set (holders_in sections reports) k (Some (length reports))) (sym (same_place (is_of x) reports r other))
    ∙ ap (λ (l : List (Option ℕ)). position (is_of x) (reports ++ r ∷ []) ∷ l) (held_more sections reports r k s tail at mine none)
