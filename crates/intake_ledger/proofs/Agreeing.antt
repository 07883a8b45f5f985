-- The ledger of files that are offered from the empty one on, and the intake of the same files
use Rattle.std.proofs.Common.{◌≡◌, inl, inr, ℕ, zero, suc, ◌+◌, ◌<◌, ◌^◌, Bool, true, cond, ◌&&◌, ◌==◌, List, [], ◌∷◌, ◌++◌, length, map, slice_get, slice_set, Option, Some, None, is_some, refl, sym, ap, subst, ◌∙◌, arith}
use Rattle.std.specs.List.{AllByRecursion, Contains, count_by, sum_by}
use Rattle.std.specs.Option.{option_and_then}
use Rattle.std.proofs.lemmas.Bool.{and_parts, cases_Bool, cases_eq, eqb-true}
use Rattle.std.proofs.lemmas.List.{length-map, length-set, length_push, same_from_push}
use Rattle.std.proofs.lemmas.List.Elements.{All-contains, All-from_recursion, Contains-append_left, Contains-push, Contains-push_cases}
use Rattle.std.proofs.lemmas.List.Sums.{sum_by-cons, sum_by_push}
use Rattle.std.proofs.lemmas.Option.{same_Some, slice_get_within}
use Rattle.election_tables.specs.TablesData.{TablesData, place_with}
use Rattle.election_tables.specs.declared.tables.sections.Section.{Section}
use Rattle.poll_report.specs.declared.report.Report.{Report}
use Rattle.vote_kinds.specs.declared.choice.Choice.{Choice}
use Rattle.section_intake.specs.Accepted.{AreOffered, File, IsOfSection, IsVerdictBehind, accepted_with, again, another, by_itself, first, is_accepted, none_offered, one_more}
use Rattle.section_intake.specs.Laws.{AreAllApart, AreShort}
use Rattle.section_intake.specs.Verdict.{IsReportFile}
use Rattle.section_intake.specs.Verdict.{accepted as by_fit}
use Rattle.section_intake.specs.declared.verdict.Verdict.{Verdict}
use Rattle.section_intake.specs.declared.verdict.Verdict.TheVariants as verdict
use Rattle.section_intake.proofs.BehindLaws.{each_section_once, never_none, not_itself, one_holder, one_section}
use Rattle.section_intake.proofs.HolderLaws.{section_there}
use Rattle.section_intake.proofs.Members.{all_but_last}
use Rattle.section_intake.proofs.ReportLaws.{one_more as one_report_more}
use Rattle.section_intake.proofs.VerdictLaws.{one_report, one_verdict}
use Rattle.flash_store.specs.Pieces.{Piece}
use Rattle.intake_ledger.specs.LastHash.{IsLastHash}
use Rattle.intake_ledger.specs.Laws.{AreSaidSo, HasSumsOf, IsSaidSo, LedgerIsIntake, collided, same}
use Rattle.intake_ledger.specs.Ledger.{LedgerData, empty_ledger, hash_at, panel_choices, votes_in, with_report, with_votes}
use Rattle.intake_ledger.specs.Offers.{AreOfferedTo, IsOffer, IsReportAt}
use Rattle.intake_ledger.specs.Offers.{by_itself as refused, first as entered, again as repeated, another as conflicting, none_offered as none_yet, one_more as one_later}
use Rattle.intake_ledger.proofs.Colliding.{one_or_collide}
use Rattle.intake_ledger.proofs.OneOffer.{hash_set, of_section, one_hash, set_elsewhere}

-- ---- places

-- the hash of a place, if it has one
abbrev hash_of : Option (Option (List ℕ)) → Option (List ℕ)
hash_of = option_and_then (λ hash. hash)

nothing_kept : {X : Type 0} (xs : List X) (place : ℕ) → hash_of (slice_get (map (λ s. None) xs) place) ≡ None
nothing_kept [] place = refl
nothing_kept (x ∷ xs) zero = refl
nothing_kept (x ∷ xs) (suc place) = nothing_kept xs place

abbrev no_hash : Option (List ℕ)
no_hash = None

-- a place counts where it has a hash
abbrev one_if : Option (List ℕ) → ℕ
one_if o = cond (is_some o) 1 0

none_kept : {X : Type 0} (xs : List X) → count_by is_some (map (λ (s : X). no_hash) xs) ≡ 0
none_kept [] = refl
none_kept {X = X} (x ∷ xs) =
    let rest = none_kept xs in
    let sum = sum_by-cons one_if no_hash (map (λ (s : X). no_hash) xs) in
    omega arith

-- one more is kept
one_kept : (xs : List (Option (List ℕ))) (place : ℕ) (hash : List ℕ) → place < length xs → hash_of (slice_get xs place) ≡ None
    → count_by is_some (slice_set xs place (Some hash)) ≡ count_by is_some xs + 1
one_kept [] place hash lt none = absurd (omega arith)
one_kept (x ∷ xs) zero hash lt none =
    let left = sum_by-cons one_if (Some hash) xs in
    let right = sum_by-cons one_if x xs in
    let was : cond {A = ℕ} (is_some x) 1 0 ≡ 0 = ap one_if none in
    omega arith
one_kept (x ∷ xs) (suc place) hash lt none =
    let left = sum_by-cons one_if x (slice_set xs place (Some hash)) in
    let right = sum_by-cons one_if x xs in
    let rest = one_kept xs place hash (omega arith) none in
    omega arith

-- sums with a report more
sums_with : (reports : List Report) (r : Report) (xs : List (ℕ × Choice)) → with_votes xs r (map (λ x. sum_by (votes_in x) reports) xs) ≡ map (λ x. sum_by (votes_in x) (reports ++ r ∷ [])) xs
sums_with reports r [] = refl
sums_with reports r (x ∷ xs) =
    ap (λ (n : ℕ). n ∷ with_votes xs r (map (λ y. sum_by (votes_in y) reports) xs)) (sym (sum_by_push (votes_in x) reports r))
    ∙ ap (λ (l : List ℕ). sum_by (votes_in x) (reports ++ r ∷ []) ∷ l) (sums_with reports r xs)

-- ---- a ledger and the files that an intake accepted

-- The ledger has the sums over these files, and each place that has a hash has it of one of them.
pub record Agrees (t : TablesData) (accepted : List File) (l : LedgerData) : Type 0 where
  pub long : length l.last ≡ length t.sections
  pub short : (file : File) → Contains accepted file → length file < 2 ^ 63
  pub sums : HasSumsOf t accepted l
  pub held : (place : ℕ) (hash : List ℕ) → hash_at place l ≡ Some hash → (file : File) × (r : Report) × Contains accepted file × IsReportAt t file r place hash
  pub free : (place : ℕ) → hash_at place l ≡ None → (file : File) (r : Report) → Contains accepted file → IsReportFile file r → place_with r.zone r.section t.sections ≡ Some place → ⊥

agrees_empty : (t : TablesData) → Agrees t [] (empty_ledger t)
agrees_empty t =
    record {
      long = length-map t.sections (λ (s : Section). no_hash);
      short = λ file (k, lt, e). absurd (omega arith);
      sums = record { reports = []; read = tt; sums = refl; number = none_kept t.sections };
      held = λ place hash is. let none = nothing_kept t.sections place in absurd (cc);
      free = λ place none file r (k, lt, e) report there. omega arith;
    }

module _ (t : TablesData) (accepted : List File) (l : LedgerData) (agrees : Agrees t accepted l) (file : File) (r : Report) (place : ℕ) (hash : List ℕ) (at : IsReportAt t file r place hash)
    (short : length file < 2 ^ 63) (none : hash_at place l ≡ None) where
  within : place < length l.last
  within =
      let there = section_there t.sections r.zone r.section place at.section in
      omega (arith, agrees.long, slice_get_within t.sections place there.0 there.1)

  held_more : (other : ℕ) (kept : List ℕ) → hash_at other (with_report t place hash r l) ≡ Some kept
      → (f : File) × (q : Report) × Contains (accepted ++ file ∷ []) f × IsReportAt t f q other kept
  held_more other kept is = elim (cases_eq other place) [
    | inl here ↦
        let now : hash_at other (with_report t place hash r l) ≡ Some hash = ap (λ (k : ℕ). hash_at k (with_report t place hash r l)) here ∙ ap hash_of (hash_set l.last place hash within) in
        let one : hash ≡ kept = same_Some _ _ (sym now ∙ is) in
        (file, r, Contains-push accepted file, subst (λ (k : ℕ). IsReportAt t file r k kept) (sym here) (subst (IsReportAt t file r place) one at))
    | inr apart ↦
        let was = agrees.held other kept (sym (ap hash_of (set_elsewhere l.last place other (Some hash) apart)) ∙ is) in
        (was.0, was.1, Contains-append_left accepted (file ∷ []) was.0 was.2, was.3)
  ]

  free_more : (other : ℕ) → hash_at other (with_report t place hash r l) ≡ None → (f : File) (q : Report) → Contains (accepted ++ file ∷ []) f → IsReportFile f q
      → place_with q.zone q.section t.sections ≡ Some other → ⊥
  free_more other is f q here report there = elim (cases_eq other place) [
    | inl same_place ↦
        let now : hash_at other (with_report t place hash r l) ≡ Some hash = ap (λ (k : ℕ). hash_at k (with_report t place hash r l)) same_place ∙ ap hash_of (hash_set l.last place hash within) in
        absurd (cc)
    | inr apart ↦
        let was : hash_at other l ≡ None = sym (ap hash_of (set_elsewhere l.last place other (Some hash) apart)) ∙ is in
        elim (Contains-push_cases accepted file f here) [
          | inl earlier ↦ agrees.free other was f q earlier report there
          | inr last ↦
              let own : r ≡ q = one_report file r q short at.report (subst (λ (g : File). IsReportFile g q) (sym last) report) in
              let both : Some place ≡ Some other = sym at.section ∙ ap (λ (x : Report). place_with x.zone x.section t.sections) own ∙ there in
              apart (sym (same_Some _ _ both))
        ]
  ]

  short_more : (f : File) → Contains (accepted ++ file ∷ []) f → length f < 2 ^ 63
  short_more f here = elim (Contains-push_cases accepted file f here) [
    | inl earlier ↦ agrees.short f earlier
    | inr last ↦ subst (λ (g : File). length g < 2 ^ 63) last short
  ]

  sums_more : HasSumsOf t (accepted ++ file ∷ []) (with_report t place hash r l)
  sums_more =
      let sums = agrees.sums in
      record {
        reports = sums.reports ++ r ∷ [];
        read = one_report_more accepted sums.reports file r sums.read at.report;
        sums = ap (with_votes (panel_choices t) r) sums.sums ∙ sums_with sums.reports r (panel_choices t);
        number = omega (arith, one_kept l.last place hash within none, sums.number, length_push accepted file);
      }

  agrees_more : Agrees t (accepted ++ file ∷ []) (with_report t place hash r l)
  agrees_more =
      record {
        long = length-set l.last place (Some hash) ∙ agrees.long;
        short = short_more;
        sums = sums_more;
        held = held_more;
        free = free_more;
      }

-- ---- one offer

same_numbers : (a b : Section) (z n y m : ℕ) → a ≡ b → (a.zone == z) && (a.number == n) ≡ true → (b.zone == y) && (b.number == m) ≡ true → (z ≡ y) × (n ≡ m)
same_numbers a b z n y m one this that =
    let mine = and_parts (a.zone == z) (a.number == n) this in
    let theirs = and_parts (b.zone == y) (b.number == m) that in (
      sym (eqb-true a.zone z mine.0) ∙ ap (λ (x : Section). x.zone) one ∙ eqb-true b.zone y theirs.0,
      sym (eqb-true a.number n mine.1) ∙ ap (λ (x : Section). x.number) one ∙ eqb-true b.number m theirs.1,
    )

-- the report of a file of a section
report_of : (t : TablesData) (z s : ℕ) (file : File) → IsOfSection t z s file → (q : Report) × IsReportFile file q × (q.zone ≡ z) × (q.section ≡ s)
report_of t z s file (by_fit {r} h fit) = (r, h, refl, refl)

module _ (t : TablesData) (accepted : List File) (l : LedgerData) (agrees : Agrees t accepted l) (apart : AreAllApart t accepted) (file : File) (short : length file < 2 ^ 63) where
  -- a file that is kept for the same place is of the same section
  same_section : (r q : Report) (place : ℕ) (hash kept : List ℕ) (other : File) → IsReportAt t file r place hash → IsReportAt t other q place kept → IsOfSection t r.zone r.section other
  same_section r q place hash kept other at beside =
      let mine = section_there t.sections r.zone r.section place at.section in
      let theirs = section_there t.sections q.zone q.section place beside.section in
      let one : mine.0 ≡ theirs.0 = same_Some _ _ (sym mine.1 ∙ theirs.1) in
      let both = same_numbers mine.0 theirs.0 r.zone r.section q.zone q.section one mine.2 theirs.2 in
      subst (λ (z : ℕ). IsOfSection t z r.section other) (sym both.0) (subst (λ (n : ℕ). IsOfSection t q.zone n other) (sym both.1) (of_section t other q place kept beside))

  -- a section of which no file is accepted has none that is
  never_free : (z s : ℕ) → IsOfSection t z s file → AllByRecursion (λ f. ¬ IsOfSection t z s f) accepted → (r : Report) (place : ℕ) (hash : List ℕ) → IsReportAt t file r place hash
      → (f : File) → Contains accepted f → IsOfSection t r.zone r.section f → ⊥
  never_free z s h free r place hash at f here is =
      let both = one_section t file z s r.zone r.section short h (of_section t file r place hash at) in
      let P : File → Type 0 = λ f. ¬ IsOfSection t z s f in
      let there : IsOfSection t z s f = subst (λ (x : ℕ). IsOfSection t x s f) (sym both.0) (subst (λ (x : ℕ). IsOfSection t r.zone x f) (sym both.1) is) in
      All-contains P accepted f (All-from_recursion P accepted free) here there

  -- and one that has a file isn't without a hash
  no_other : (z s : ℕ) (other : File) → Contains accepted other → IsOfSection t z s other → (r : Report) (place : ℕ) (hash : List ℕ) → IsReportAt t file r place hash → hash_at place l ≡ None
      → (z ≡ r.zone) × (s ≡ r.section) → ⊥
  no_other z s other here is r place hash at none both =
      let (q, report, zone, section) = report_of t z s other is in
      let there : place_with q.zone q.section t.sections ≡ Some place =
      ap (λ (n : ℕ). place_with n q.section t.sections) (zone ∙ both.0) ∙ ap (λ (n : ℕ). place_with r.zone n t.sections) (section ∙ both.1) ∙ at.section in
      agrees.free place none other q here report there

  -- the file that is kept is that other one
  the_holder : (z s : ℕ) (other : File) → Contains accepted other → IsOfSection t z s other → (r : Report) (place : ℕ) (hash kept : List ℕ) → IsReportAt t file r place hash
      → (f : File) (q : Report) → Contains accepted f → IsReportAt t f q place kept → (z ≡ r.zone) × (s ≡ r.section) → f ≡ other
  the_holder z s other here is r place hash kept at f q there beside both =
      let other_is : IsOfSection t r.zone r.section other = subst (λ (x : ℕ). IsOfSection t x r.section other) both.0 (subst (λ (x : ℕ). IsOfSection t z x other) both.1 is) in
      one_holder t r.zone r.section accepted f other apart there here (same_section r q place hash kept f at beside) other_is

  step : (v w : Verdict) (m : LedgerData) → IsVerdictBehind t accepted file v → IsOffer t l file w m → IsSaidSo t accepted file v w × Agrees t (accepted_with accepted v file) m
  step _ _ _ (by_itself {v} h refuses) (refused {v = w} i no_w) =
      let one : v ≡ w = one_verdict t file v w short h i in
      (subst (IsSaidSo t accepted file v) one same, subst (λ (b : Bool). Agrees t (cond b (accepted ++ file ∷ []) accepted) l) (sym refuses) agrees)
  step _ _ _ (by_itself {v} h refuses) (entered {r} {place} {hash} at none) = absurd (not_itself t file r.zone r.section v short h refuses (of_section t file r place hash at))
  step _ _ _ (by_itself {v} h refuses) (repeated {r} {place} {hash} at some) = absurd (not_itself t file r.zone r.section v short h refuses (of_section t file r place hash at))
  step _ _ _ (by_itself {v} h refuses) (conflicting {r} {place} {hash} {kept} at some ne) = absurd (not_itself t file r.zone r.section v short h refuses (of_section t file r place hash at))
  step _ _ _ (first {zone = z} {section = s} h free) (refused {v = w} i no_w) = absurd (not_itself t file z s w short i no_w h)
  step _ _ _ (first {zone = z} {section = s} h free) (entered {r} {place} {hash} at none) =
      (subst (IsSaidSo t accepted file (verdict.Accepted z s)) (one_verdict t file (verdict.Accepted z s) (verdict.Accepted r.zone r.section) short h (of_section t file r place hash at)) same, agrees_more t accepted l agrees file r place hash at short none)
  step _ _ _ (first {zone = z} {section = s} h free) (repeated {r} {place} {hash} at some) =
      let holder = agrees.held place hash some in
      absurd (never_free z s h free r place hash at holder.0 holder.2 (same_section r holder.1 place hash hash holder.0 at holder.3))
  step _ _ _ (first {zone = z} {section = s} h free) (conflicting {r} {place} {hash} {kept} at some ne) =
      let holder = agrees.held place kept some in
      absurd (never_free z s h free r place hash at holder.0 holder.2 (same_section r holder.1 place hash kept holder.0 at holder.3))
  step _ _ _ (again {zone = z} {section = s} h here) (refused {v = w} i no_w) = absurd (not_itself t file z s w short i no_w h)
  step _ _ _ (again {zone = z} {section = s} h here) (entered {r} {place} {hash} at none) = absurd (agrees.free place none file r here at.report at.section)
  step _ _ _ (again {zone = z} {section = s} h here) (repeated {r} {place} {hash} at some) =
      let both = one_section t file z s r.zone r.section short h (of_section t file r place hash at) in
      (rw (both.0, both.1) same, agrees)
  step _ _ _ (again {zone = z} {section = s} h here) (conflicting {r} {place} {hash} {kept} at some ne) =
      let holder = agrees.held place kept some in
      let there : holder.0 ≡ file = one_holder t r.zone r.section accepted holder.0 file apart holder.2 here (same_section r holder.1 place hash kept holder.0 at holder.3) (of_section t file r place hash at) in
      absurd (ne (one_hash file kept hash short (subst (λ (f : File). IsLastHash f kept) there holder.3.last) at.last))
  step _ _ _ (another {zone = z} {section = s} h here is other_than) (refused {v = w} i no_w) = absurd (not_itself t file z s w short i no_w h)
  step _ _ _ (another {zone = z} {section = s} {other} h here is other_than) (entered {r} {place} {hash} at none) =
      let both = one_section t file z s r.zone r.section short h (of_section t file r place hash at) in
      absurd (no_other z s other here is r place hash at none both)
  step _ _ _ (another {zone = z} {section = s} {other} h here is other_than) (repeated {r} {place} {hash} at some) =
      let both = one_section t file z s r.zone r.section short h (of_section t file r place hash at) in
      let holder = agrees.held place hash some in
      let there : holder.0 ≡ other = the_holder z s other here is r place hash hash at holder.0 holder.1 holder.2 holder.3 both in
      let kept : IsLastHash other hash = subst (λ (f : File). IsLastHash f hash) there holder.3.last in
      let of_same : IsOfSection t r.zone r.section other = subst (λ (x : ℕ). IsOfSection t x r.section other) both.0 (subst (λ (x : ℕ). IsOfSection t z x other) both.1 is) in
      elim (one_or_collide other file hash kept at.last) [
        | inl collide ↦ (rw (both.0, both.1) (collided here of_same other_than kept at.last collide), agrees)
        | inr equal ↦ absurd (other_than equal)
      ]
  step _ _ _ (another {zone = z} {section = s} {other} h here is other_than) (conflicting {r} {place} {hash} {kept} at some ne) =
      let both = one_section t file z s r.zone r.section short h (of_section t file r place hash at) in
      (rw (both.0, both.1) same, agrees)

-- ---- all offers

-- what is said so of some accepted files, is said so of more
module _ (t : TablesData) (accepted more : List File) (among : (f : File) → Contains accepted f → Contains more f) where
  said_still : (file : File) (v w : Verdict) → IsSaidSo t accepted file v w → IsSaidSo t more file v w
  said_still file v _ same = same
  said_still file _ _ (collided {other} here is other_than kept last collide) = collided (among other here) is other_than kept last collide

  said_push : (files : List File) (verdicts said : List Verdict) (file : File) (v w : Verdict) → AreSaidSo t accepted files verdicts said → IsSaidSo t accepted file v w
      → AreSaidSo t more (files ++ file ∷ []) (verdicts ++ v ∷ []) (said ++ w ∷ [])
  said_push [] [] [] file v w all one = (said_still file v w one, tt)
  said_push [] [] (y ∷ said) file v w all one = absurd all
  said_push [] (x ∷ verdicts) said file v w all one = absurd all
  said_push (f ∷ files) [] said file v w all one = absurd all
  said_push (f ∷ files) (x ∷ verdicts) [] file v w all one = absurd all
  said_push (f ∷ files) (x ∷ verdicts) (y ∷ said) file v w all one = (said_still f x y all.0, said_push files verdicts said file v w all.1 one)

-- those that were accepted stay so
still_accepted : (accepted : List File) (v : Verdict) (file f : File) → Contains accepted f → Contains (accepted_with accepted v file) f
still_accepted accepted v file f here = elim (cases_Bool (is_accepted v)) [
  | inl accepts ↦ subst (λ (b : Bool). Contains (cond b (accepted ++ file ∷ []) accepted) f) (sym accepts) (Contains-append_left accepted (file ∷ []) f here)
  | inr refuses ↦ subst (λ (b : Bool). Contains (cond b (accepted ++ file ∷ []) accepted) f) (sym refuses) here
]

agree : (t : TablesData) (files others accepted : List File) (verdicts said : List Verdict) (pieces : List (Piece LedgerData)) (l : LedgerData) → AreShort files → files ≡ others
    → AreOffered t files verdicts accepted → AreOfferedTo t (empty_ledger t) others said pieces l → AreSaidSo t accepted files verdicts said × Agrees t accepted l
agree t _ _ _ _ _ _ _ short is none_offered none_yet = (tt, agrees_empty t)
agree t _ _ _ _ _ _ _ short is none_offered (one_later {files} {file} before offer) = absurd (never_none files file is)
agree t _ _ _ _ _ _ _ short is (one_more {files} {file} before behind) none_yet = absurd (never_none files file (sym is))
agree t _ _ _ _ _ _ _ short is (one_more {files} {accepted} {verdicts} {file} {v} before behind) (one_later {files = gs} {verdicts = said} {pieces} {m} {k} {file = g} {v = w} earlier offer) =
    let both = all_but_last (λ (f : File). length f < 2 ^ 63) files file short in
    let ends = same_from_push files gs file g is in
    let rest = agree t files gs accepted verdicts said pieces m both.0 ends.0 before earlier in
    let own : IsOffer t m file w k = subst (λ (f : File). IsOffer t m f w k) (sym ends.1) offer in
    let now = step t accepted m rest.1 (each_section_once t files verdicts accepted both.0 before) file both.1 v w k behind own in
    (said_push t accepted (accepted_with accepted v file) (still_accepted accepted v file) files verdicts said file v w rest.0 now.0, now.1)

pub ledger_is_intake : LedgerIsIntake
ledger_is_intake t files accepted verdicts said pieces l tables short offered told =
    let all = agree t files files accepted verdicts said pieces l short refl offered told in
    (all.0, all.1.sums)
