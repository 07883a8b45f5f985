-- Files that are offered one behind the other: their verdicts, and the accepted ones.
use Rattle.std.proofs.Common.{◌≡◌, ℕ, suc, ◌<◌, ◌^◌, ◌⊎◌, ◌==◌, ◌&&◌, Bool, true, false, List, [], ◌∷◌, ◌++◌, length, refl, sym, ap, ◌∙◌, subst, inl, inr, arith}
use Rattle.std.specs.List.{AllByRecursion, Contains}
use Rattle.std.specs.Str.{bytes_eq}
use Rattle.std.specs.Cmp.Lexicographic.{other_text, same_text}
use Rattle.std.proofs.lemmas.Bool.{cases_Bool}
use Rattle.std.proofs.lemmas.Bool.Decides.{nat_tests}
use Rattle.std.proofs.lemmas.List.{append_assoc, same_from_push}
use Rattle.std.proofs.lemmas.List.Elements.{All-contains, All-from_recursion, Contains-append_cases}
use Rattle.urna_base.proofs.Every.{every_append}
use Rattle.election_tables.specs.TablesData.{IsTables, TablesData}
use Rattle.section_intake.specs.Accepted.{AreOffered, File, IsOfSection, IsVerdictBehind, accepted_with, again, another, by_itself, first, is_accepted, none_offered, one_more}
use Rattle.section_intake.specs.Laws.{AreAllApart, AreApart, AreShort, EachIsAccepted, EachSectionOnce, OneListOfVerdicts, SomeVerdicts}
use Rattle.section_intake.specs.Verdict.{IsVerdict}
use Rattle.section_intake.specs.declared.verdict.Verdict.{Verdict}
use Rattle.section_intake.specs.declared.verdict.Verdict.TheVariants as verdict
use Rattle.section_intake.proofs.Members.{all_but_last, only}
use Rattle.section_intake.proofs.VerdictLaws.{one_verdict, some_verdict}

-- ---- one verdict behind the accepted files

-- a verdict that refuses a file by itself is none of a report that fits
pub not_itself : (t : TablesData) (file : File) (z s : ℕ) (v : Verdict) → length file < 2 ^ 63 → IsVerdict t file v → is_accepted v ≡ false → IsOfSection t z s file → ⊥
not_itself t file z s v short h refuses is =
    let same : v ≡ verdict.Accepted z s = one_verdict t file v (verdict.Accepted z s) short h is in
    let yes : is_accepted v ≡ true = ap is_accepted same in
    cc

-- a file is of one section
pub one_section : (t : TablesData) (file : File) (z s y u : ℕ) → length file < 2 ^ 63 → IsOfSection t z s file → IsOfSection t y u file → (z ≡ y) × (s ≡ u)
one_section t file z s y u short h i =
    let same : verdict.Accepted z s ≡ verdict.Accepted y u = one_verdict t file (verdict.Accepted z s) (verdict.Accepted y u) short h i in
    (cc, cc)

-- of files of different sections one alone is of a section
pub one_holder : (t : TablesData) (z s : ℕ) (files : List File) (a b : File) → AreAllApart t files → Contains files a → Contains files b → IsOfSection t z s a
    → IsOfSection t z s b → a ≡ b
one_holder t z s [] a b apart (k, lt, e) there h i = absurd (omega arith)
one_holder t z s (f ∷ files) a b apart here there h i = elim (Contains-append_cases (f ∷ []) files a here) [
  | inl one ↦ let is = only f a one in elim (Contains-append_cases (f ∷ []) files b there) [
    | inl same ↦ sym is ∙ only f b same
    | inr rest ↦ absurd (All-contains (AreApart t f) files b (All-from_recursion (AreApart t f) files apart.0) rest z s (subst (IsOfSection t z s) (sym is) h) i)
  ]
  | inr rest ↦ elim (Contains-append_cases (f ∷ []) files b there) [
    | inl also ↦ let same = only f b also in absurd (All-contains (AreApart t f) files a (All-from_recursion (AreApart t f) files apart.0) rest z s (subst (IsOfSection t z s) (sym same) i) h)
    | inr both ↦ one_holder t z s files a b apart.1 rest both h i
  ]
]

-- the file of a section of which no accepted file is, is none of them
none_holds : (t : TablesData) (z s y u : ℕ) (accepted : List File) (file other : File) → length file < 2 ^ 63 → IsOfSection t z s file → IsOfSection t y u file
    → AllByRecursion (λ f. ¬ IsOfSection t z s f) accepted → Contains accepted other → IsOfSection t y u other → ⊥
none_holds t z s y u accepted file other short h i free at is =
    let same = one_section t file z s y u short h i in
    let there : IsOfSection t z s other = rw (same.0, same.1) is in
    let P : File → Type 0 = λ f. ¬ IsOfSection t z s f in
    All-contains P accepted other (All-from_recursion P accepted free) at there

pub one_behind : (t : TablesData) (accepted : List File) (file : File) (v w : Verdict) → length file < 2 ^ 63 → AreAllApart t accepted
    → IsVerdictBehind t accepted file v → IsVerdictBehind t accepted file w → v ≡ w
one_behind t accepted file _ _ short apart (by_itself {v} h no_v) (by_itself {v = w} i no_w) = one_verdict t file v w short h i
one_behind t accepted file _ _ short apart (by_itself {v} h no_v) (first {zone = y} {section = u} i free) = absurd (not_itself t file y u v short h no_v i)
one_behind t accepted file _ _ short apart (by_itself {v} h no_v) (again {zone = y} {section = u} i at) = absurd (not_itself t file y u v short h no_v i)
one_behind t accepted file _ _ short apart (by_itself {v} h no_v) (another {zone = y} {section = u} i at is ne) = absurd (not_itself t file y u v short h no_v i)
one_behind t accepted file _ _ short apart (first {zone = z} {section = s} h free) (by_itself {v = w} i no_w) = absurd (not_itself t file z s w short i no_w h)
one_behind t accepted file _ _ short apart (first {zone = z} {section = s} h free) (first {zone = y} {section = u} i also) =
    one_verdict t file (verdict.Accepted z s) (verdict.Accepted y u) short h i
one_behind t accepted file _ _ short apart (first {zone = z} {section = s} h free) (again {zone = y} {section = u} i at) =
    absurd (none_holds t z s y u accepted file file short h i free at i)
one_behind t accepted file _ _ short apart (first {zone = z} {section = s} h free) (another {zone = y} {section = u} {other} i at is ne) =
    absurd (none_holds t z s y u accepted file other short h i free at is)
one_behind t accepted file _ _ short apart (again {zone = z} {section = s} h at) (by_itself {v = w} i no_w) = absurd (not_itself t file z s w short i no_w h)
one_behind t accepted file _ _ short apart (again {zone = z} {section = s} h at) (first {zone = y} {section = u} i free) =
    absurd (none_holds t y u z s accepted file file short i h free at h)
one_behind t accepted file _ _ short apart (again {zone = z} {section = s} h at) (again {zone = y} {section = u} i there) =
    let same = one_section t file z s y u short h i in rw (same.0, same.1) refl
one_behind t accepted file _ _ short apart (again {zone = z} {section = s} h at) (another {zone = y} {section = u} {other} i there is ne) =
    absurd (ne (one_holder t y u accepted other file apart there at is i))
one_behind t accepted file _ _ short apart (another {zone = z} {section = s} h at is ne) (by_itself {v = w} i no_w) = absurd (not_itself t file z s w short i no_w h)
one_behind t accepted file _ _ short apart (another {zone = z} {section = s} {other} h at is ne) (first {zone = y} {section = u} i free) =
    absurd (none_holds t y u z s accepted file other short i h free at is)
one_behind t accepted file _ _ short apart (another {zone = z} {section = s} {other} h at is ne) (again {zone = y} {section = u} i there) =
    absurd (ne (one_holder t z s accepted other file apart at there is h))
one_behind t accepted file _ _ short apart (another {zone = z} {section = s} h at is ne) (another {zone = y} {section = u} i there also other_than) =
    let same = one_section t file z s y u short h i in rw (same.0, same.1) refl

-- ---- some verdict behind the accepted files

is_for : ℕ → ℕ → Verdict → Bool
is_for z s (verdict.Accepted y u) = y == z && u == s
is_for z s (verdict.Part f) = false
is_for z s (verdict.Fields f) = false
is_for z s verdict.Strange = false
is_for z s (verdict.Repeated y u) = false
is_for z s (verdict.Conflict y u) = false

is_for_itself : (z s : ℕ) → is_for z s (verdict.Accepted z s) ≡ true
unfolding is_for
is_for_itself z s = grind (arith, nat_tests)

for_accepted : (z s : ℕ) (v : Verdict) → is_for z s v ≡ true → v ≡ verdict.Accepted z s
unfolding is_for
for_accepted z s (verdict.Accepted y u) e =
    let zone : y ≡ z = grind (arith, nat_tests) in
    let section : u ≡ s = grind (arith, nat_tests) in
    rw (zone, section) refl
for_accepted z s (verdict.Part f) e = absurd (cc)
for_accepted z s (verdict.Fields f) e = absurd (cc)
for_accepted z s verdict.Strange e = absurd (cc)
for_accepted z s (verdict.Repeated y u) e = absurd (cc)
for_accepted z s (verdict.Conflict y u) e = absurd (cc)

-- a file is of a section or isn't
of_section_or_not : (t : TablesData) → IsTables t → (z s : ℕ) (file : File) → length file < 2 ^ 63 → IsOfSection t z s file ⊎ (¬ IsOfSection t z s file)
of_section_or_not t is z s file short =
    let (v, h) = some_verdict t file is short in
    elim (cases_Bool (is_for z s v)) [
      | inl mine ↦ inl (subst (IsVerdict t file) (for_accepted z s v mine) h)
      | inr other ↦ inr (λ i. let same = one_verdict t file v (verdict.Accepted z s) short h i in let yes : is_for z s v ≡ true = ap (is_for z s) same ∙ is_for_itself z s in cc)
    ]

-- some file of these is of a section, or none is
held_or_free : (t : TablesData) → IsTables t → (z s : ℕ) (files : List File) → AreShort files
    → ((other : File) × Contains files other × IsOfSection t z s other) ⊎ AllByRecursion (λ f. ¬ IsOfSection t z s f) files
held_or_free t is z s [] short = inr tt
held_or_free t is z s (f ∷ files) short = elim (of_section_or_not t is z s f short.0) [
  | inl here ↦ inl (f, (0, omega arith, refl), here)
  | inr other ↦ elim (held_or_free t is z s files short.1) [
    | inl (g, (k, lt, e), there) ↦ inl (g, (suc k, omega arith, e), there)
    | inr free ↦ inr (other, free)
  ]
]

behind_a_fitting_one : (t : TablesData) → IsTables t → (accepted : List File) (file : File) (z s : ℕ) → AreShort accepted → IsOfSection t z s file
    → (v : Verdict) × IsVerdictBehind t accepted file v
behind_a_fitting_one t is accepted file z s short h = elim (held_or_free t is z s accepted short) [
  | inl (other, at, there) ↦ elim (cases_Bool (bytes_eq other file)) [
    | inl same ↦ (verdict.Repeated z s, again h (subst (Contains accepted) (same_text other file (sym same)) at))
    | inr differ ↦ (verdict.Conflict z s, another h at there (other_text other file (sym differ)))
  ]
  | inr free ↦ (verdict.Accepted z s, first h free)
]

pub some_behind : (t : TablesData) → IsTables t → (accepted : List File) (file : File) → AreShort accepted → length file < 2 ^ 63
    → (v : Verdict) × IsVerdictBehind t accepted file v
some_behind t is accepted file short lt = let (v, h) = some_verdict t file is lt in by_its_own v h
  where
    by_its_own : (v : Verdict) → IsVerdict t file v → (w : Verdict) × IsVerdictBehind t accepted file w
    by_its_own (verdict.Accepted z s) h = behind_a_fitting_one t is accepted file z s short h
    by_its_own (verdict.Part f) h = (verdict.Part f, by_itself h refl)
    by_its_own (verdict.Fields f) h = (verdict.Fields f, by_itself h refl)
    by_its_own verdict.Strange h = (verdict.Strange, by_itself h refl)
    by_its_own (verdict.Repeated z s) h = (verdict.Repeated z s, by_itself h refl)
    by_its_own (verdict.Conflict z s) h = (verdict.Conflict z s, by_itself h refl)

-- ---- the accepted files

-- what is so of the accepted files, and of one that is accepted behind them, is so of all
pub kept_with : (P : List File → Type 0) (t : TablesData) (accepted : List File) (file : File) (v : Verdict) → IsVerdictBehind t accepted file v → P accepted
    → ((z s : ℕ) → IsOfSection t z s file → AllByRecursion (λ f. ¬ IsOfSection t z s f) accepted → P (accepted ++ file ∷ []))
    → P (accepted_with accepted v file)
kept_with P t accepted file _ (by_itself {v} h refuses) before more = rw refuses before
kept_with P t accepted file _ (first {zone} {section} h free) before more = more zone section h free
kept_with P t accepted file _ (again h at) before more = before
kept_with P t accepted file _ (another h at is ne) before more = before

pub each_is_accepted : EachIsAccepted
each_is_accepted t _ _ _ none_offered = tt
each_is_accepted t _ _ _ (one_more {files} {accepted} {verdicts} {file} {v} before is) =
    let Q : File → Type 0 = λ f. (zone : ℕ) × (section : ℕ) × IsOfSection t zone section f in
    kept_with (AllByRecursion Q) t accepted file v is (each_is_accepted t files verdicts accepted before)
    (λ z s h free. every_append Q accepted (file ∷ []) (each_is_accepted t files verdicts accepted before) ((z, s, h), tt))

pub apart_push : (t : TablesData) (files : List File) (file : File) (z s : ℕ) → length file < 2 ^ 63 → AreAllApart t files → IsOfSection t z s file
    → AllByRecursion (λ f. ¬ IsOfSection t z s f) files → AreAllApart t (files ++ file ∷ [])
apart_push t [] file z s short apart h free = (tt, tt)
apart_push t (f ∷ files) file z s short apart h free = (
  every_append (AreApart t f) files (file ∷ []) apart.0 ((λ y u i j. let same = one_section t file z s y u short h j in free.0 (rw (same.0, same.1) i)), tt),
  apart_push t files file z s short apart.1 h free.1,
)

pub each_section_once : EachSectionOnce
each_section_once t _ _ _ short none_offered = tt
each_section_once t _ _ _ short (one_more {files} {accepted} {verdicts} {file} {v} before is) =
    let both = all_but_last (λ (f : File). length f < 2 ^ 63) files file short in
    let apart = each_section_once t files verdicts accepted both.0 before in
    kept_with (AreAllApart t) t accepted file v is apart (λ z s h free. apart_push t accepted file z s both.1 apart h free)

-- and so each of them is short
pub short_accepted : (t : TablesData) (files : List File) (verdicts : List Verdict) (accepted : List File) → AreShort files → AreOffered t files verdicts accepted
    → AreShort accepted
short_accepted t _ _ _ short none_offered = tt
short_accepted t _ _ _ short (one_more {files} {accepted} {verdicts} {file} {v} before is) =
    let S : File → Type 0 = λ f. length f < 2 ^ 63 in
    let both = all_but_last S files file short in
    let rest = short_accepted t files verdicts accepted both.0 before in
    kept_with (AllByRecursion S) t accepted file v is rest (λ z s h free. every_append S accepted (file ∷ []) rest (both.1, tt))

-- ---- some verdicts, and no others

go_on : (t : TablesData) → IsTables t → (before rest : List File) (verdicts : List Verdict) (accepted : List File) → AreShort before → AreShort rest
    → AreOffered t before verdicts accepted → (all : List Verdict) × (kept : List File) × AreOffered t (before ++ rest) all kept
go_on t is before [] verdicts accepted short more offered = (verdicts, accepted, subst (λ (l : List File). AreOffered t l verdicts accepted) (sym (none_behind before)) offered)
  where
    none_behind : (l : List File) → l ++ [] ≡ l
    none_behind [] = refl
    none_behind (f ∷ l) = ap (λ (m : List File). f ∷ m) (none_behind l)
go_on t is before (f ∷ rest) verdicts accepted short more offered =
    let (v, h) = some_behind t is accepted f (short_accepted t before verdicts accepted short offered) more.0 in
    let S : File → Type 0 = λ g. length g < 2 ^ 63 in
    let (all, kept, done) = go_on t is (before ++ f ∷ []) rest (verdicts ++ v ∷ []) (accepted_with accepted v f) (every_append S before (f ∷ []) short (more.0, tt)) more.1
    (one_more offered h) in
    (all, kept, subst (λ (l : List File). AreOffered t l all kept) (append_assoc before (f ∷ []) rest) done)

pub some_verdicts : SomeVerdicts
some_verdicts t files is short = go_on t is [] files [] [] tt short none_offered

pub never_none : (files : List File) (f : File) → [] ≡ files ++ f ∷ [] → ⊥
never_none [] f e = cc
never_none (g ∷ files) f e = cc

same_offers : (t : TablesData) (files other : List File) (verdicts others : List Verdict) (accepted kept : List File) → AreShort files → files ≡ other
    → AreOffered t files verdicts accepted → AreOffered t other others kept → (verdicts ≡ others) × (accepted ≡ kept)
same_offers t _ _ _ _ _ _ short same none_offered none_offered = (refl, refl)
same_offers t _ _ _ _ _ _ short same none_offered (one_more {files} {file} offered h) = absurd (never_none files file same)
same_offers t _ _ _ _ _ _ short same (one_more {files} {file} offered h) none_offered = absurd (never_none files file (sym same))
same_offers t _ _ _ _ _ _ short same (one_more {files} {accepted} {verdicts} {file} {v} offered h)
    (one_more {files = gs} {accepted = kept} {verdicts = others} {file = g} {v = w} again_offered i) =
    let both = all_but_last (λ (f : File). length f < 2 ^ 63) files file short in
    let ends = same_from_push files gs file g same in
    let before = same_offers t files gs verdicts others accepted kept both.0 ends.0 offered again_offered in
    let apart = each_section_once t files verdicts accepted both.0 offered in
    let j : IsVerdictBehind t accepted file w =
    subst (λ (l : List File). IsVerdictBehind t l file w) (sym before.1) (subst (λ (f : File). IsVerdictBehind t kept f w) (sym ends.1) i) in
    let last : v ≡ w = one_behind t accepted file v w both.1 apart h j in (
      ap (λ (l : List Verdict). l ++ v ∷ []) before.0 ∙ ap (λ (x : Verdict). others ++ x ∷ []) last,
      ap (λ (l : List File). accepted_with l v file) before.1 ∙ ap (λ (x : Verdict). accepted_with kept x file) last
          ∙ ap (λ (f : File). accepted_with kept w f) ends.1,
    )

pub one_list_of_verdicts : OneListOfVerdicts
one_list_of_verdicts t files verdicts others accepted kept short h i = same_offers t files files verdicts others accepted kept short refl h i
