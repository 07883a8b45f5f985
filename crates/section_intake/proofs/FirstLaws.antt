-- Accepted files are those that are the first of their section.
use Rattle.std.proofs.Common.{◌≡◌, ℕ, ◌<◌, ◌^◌, Bool, true, false, if◌then◌else◌, List, [], ◌∷◌, ◌++◌, length, refl, sym, ap, ◌∙◌, subst, inl, inr}
use Rattle.std.specs.List.{Contains}
use Rattle.std.proofs.lemmas.List.{same_from_push}
use Rattle.std.proofs.lemmas.List.Elements.{All-contains, All-from_recursion, Contains-append_left, Contains-push, Contains-push_cases}
use Rattle.election_tables.specs.TablesData.{TablesData}
use Rattle.section_intake.specs.Accepted.{AreFirst, AreOffered, File, HasReportIn, IsFirstOfSection, IsOfSection, IsVerdictBehind, accepted_with, again, another, by_itself, comes_first, comes_later, first, is_accepted, no_files, none_offered, one_more}
use Rattle.section_intake.specs.Laws.{AreShort, FirstsAreAccepted, SameSections}
use Rattle.section_intake.specs.declared.verdict.Verdict.{Verdict}
use Rattle.section_intake.proofs.BehindLaws.{kept_with, never_none, not_itself, one_section}
use Rattle.section_intake.proofs.Members.{all_but_last}

-- ---- sections that have a report have an accepted one

kept_in : (accepted : List File) (file g : File) (v : Verdict) → Contains accepted g → Contains (accepted_with accepted v file) g
kept_in accepted file g v at = there (is_accepted v)
  where
    there : (b : Bool) → Contains (if b then accepted ++ file ∷ [] else accepted) g
    there true = Contains-append_left accepted (file ∷ []) g at
    there false = at

-- the section of the last file has a report among the accepted ones
last_held : (t : TablesData) (accepted : List File) (file : File) (v : Verdict) (z s : ℕ) → length file < 2 ^ 63 → IsVerdictBehind t accepted file v
    → IsOfSection t z s file → HasReportIn t z s (accepted_with accepted v file)
last_held t accepted file _ z s short (by_itself {v} h refuses) i = absurd (not_itself t file z s v short h refuses i)
last_held t accepted file _ z s short (first h free) i = (file, Contains-push accepted file, i)
last_held t accepted file _ z s short (again h at) i = (file, at, i)
last_held t accepted file _ z s short (another {zone = y} {section = u} {other} h at is ne) i =
    let same = one_section t file z s y u short i h in
    let there : IsOfSection t z s other = rw (same.0, same.1) is in
    (other, at, there)

has_accepted : (t : TablesData) (files : List File) (verdicts : List Verdict) (accepted : List File) (z s : ℕ) → AreShort files → AreOffered t files verdicts accepted
    → HasReportIn t z s files → HasReportIn t z s accepted
has_accepted t _ _ _ z s short none_offered there = there
has_accepted t _ _ _ z s short (one_more {files} {accepted} {verdicts} {file} {v} before is) (f, at, i) =
    let both = all_but_last (λ (g : File). length g < 2 ^ 63) files file short in
    elim (Contains-push_cases files file f at) [
      | inl earlier ↦
          let (other, here, there) = has_accepted t files verdicts accepted z s both.0 before (f, earlier, i) in
          (other, kept_in accepted file other v here, there)
      | inr last ↦ last_held t accepted file v z s both.1 is (subst (IsOfSection t z s) (sym last) i)
    ]

-- accepted files are among those that were offered
among : (t : TablesData) (files : List File) (verdicts : List Verdict) (accepted : List File) → AreOffered t files verdicts accepted
    → (g : File) → Contains accepted g → Contains files g
among t _ _ _ none_offered g at = at
among t _ _ _ (one_more {files} {accepted} {verdicts} {file} {v} before is) g at =
    kept_with (λ (l : List File). Contains l g → Contains (files ++ file ∷ []) g) t accepted file v is
    (λ here. Contains-append_left files (file ∷ []) g (among t files verdicts accepted before g here))
    (λ z s h free here. elim (Contains-push_cases accepted file g here) [
      | inl earlier ↦ Contains-append_left files (file ∷ []) g (among t files verdicts accepted before g earlier)
      | inr last ↦ subst (Contains (files ++ file ∷ [])) last (Contains-push files file)
    ]) at

pub same_sections : SameSections
same_sections t files verdicts accepted z s short offered =
    (has_accepted t files verdicts accepted z s short offered, λ (f, at, is). (f, among t files verdicts accepted offered f at, is))

-- ---- the first of each section

-- a file whose section has a report before it is not the first
comes_behind : (t : TablesData) (before : List File) (file other : File) (z s : ℕ) → length file < 2 ^ 63 → IsOfSection t z s file → Contains before other
    → IsOfSection t z s other → ¬ IsFirstOfSection t before file
comes_behind t before file other z s short h at is (y, u, i, free) =
    let same = one_section t file y u z s short i h in
    let there : IsOfSection t y u other = rw (same.0, same.1) is in
    free (other, at, there)

-- the next file, where the accepted ones are the first, and the sections are the same
next_first : (t : TablesData) (files accepted : List File) (file : File) (v : Verdict) → length file < 2 ^ 63 → AreFirst t files accepted
    → ((z s : ℕ) → HasReportIn t z s files → HasReportIn t z s accepted) → ((g : File) → Contains accepted g → Contains files g) → IsVerdictBehind t accepted file v
    → AreFirst t (files ++ file ∷ []) (accepted_with accepted v file)
next_first t files accepted file _ short firsts there within (by_itself {v} h refuses) =
    rw refuses (comes_later firsts (λ (z, s, i, free). not_itself t file z s v short h refuses i))
next_first t files accepted file _ short firsts there within (first {zone} {section} h free) =
    let P : File → Type 0 = λ f. ¬ IsOfSection t zone section f in
    comes_first firsts
    (zone, section, h, λ has. let (other, at, is) = there zone section has in All-contains P accepted other (All-from_recursion P accepted free) at is)
next_first t files accepted file _ short firsts there within (again {zone} {section} h at) =
    comes_later firsts (comes_behind t files file file zone section short h (within file at) h)
next_first t files accepted file _ short firsts there within (another {zone} {section} {other} h at is ne) =
    comes_later firsts (comes_behind t files file other zone section short h (within other at) is)

firsts_accepted : (t : TablesData) (files : List File) (verdicts : List Verdict) (accepted : List File) → AreShort files → AreOffered t files verdicts accepted
    → AreFirst t files accepted
firsts_accepted t _ _ _ short none_offered = no_files
firsts_accepted t _ _ _ short (one_more {files} {accepted} {verdicts} {file} {v} before is) =
    let both = all_but_last (λ (f : File). length f < 2 ^ 63) files file short in
    next_first t files accepted file v both.1 (firsts_accepted t files verdicts accepted both.0 before)
    (λ z s. has_accepted t files verdicts accepted z s both.0 before) (among t files verdicts accepted before) is

-- there is one list of them
one_list_of_firsts : (t : TablesData) (files other firsts others : List File) → files ≡ other → AreFirst t files firsts → AreFirst t other others → firsts ≡ others
one_list_of_firsts t _ _ _ _ same no_files no_files = refl
one_list_of_firsts t _ _ _ _ same no_files (comes_first {files} {file} before is) = absurd (never_none files file same)
one_list_of_firsts t _ _ _ _ same no_files (comes_later {files} {file} before is) = absurd (never_none files file same)
one_list_of_firsts t _ _ _ _ same (comes_first {files} {file} before is) no_files = absurd (never_none files file (sym same))
one_list_of_firsts t _ _ _ _ same (comes_later {files} {file} before is) no_files = absurd (never_none files file (sym same))
one_list_of_firsts t _ _ _ _ same (comes_first {files} {firsts} {file} before is) (comes_first {files = gs} {firsts = others} {file = g} too it) =
    let ends = same_from_push files gs file g same in
    ap (λ (l : List File). l ++ file ∷ []) (one_list_of_firsts t files gs firsts others ends.0 before too) ∙ ap (λ (f : File). others ++ f ∷ []) ends.1
one_list_of_firsts t _ _ _ _ same (comes_later {files} {firsts} {file} before is) (comes_later {files = gs} {firsts = others} {file = g} too it) =
    let ends = same_from_push files gs file g same in
    one_list_of_firsts t files gs firsts others ends.0 before too
one_list_of_firsts t _ _ _ _ same (comes_first {files} {file} before is) (comes_later {files = gs} {file = g} too it) =
    let ends = same_from_push files gs file g same in
    absurd (it (subst (λ (l : List File). IsFirstOfSection t l g) ends.0 (subst (IsFirstOfSection t files) ends.1 is)))
one_list_of_firsts t _ _ _ _ same (comes_later {files} {file} before is) (comes_first {files = gs} {file = g} too it) =
    let ends = same_from_push files gs file g same in
    absurd (is (subst (λ (l : List File). IsFirstOfSection t l file) (sym ends.0) (subst (IsFirstOfSection t gs) (sym ends.1) it)))

pub firsts_are_accepted : FirstsAreAccepted
firsts_are_accepted t files verdicts accepted short offered =
    let firsts = firsts_accepted t files verdicts accepted short offered in
    (firsts, λ others are. one_list_of_firsts t files files accepted others refl firsts are)
