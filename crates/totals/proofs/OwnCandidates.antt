-- Candidates that are given to their blocs, one by one
use Rattle.std.proofs.Common.{◌≡◌, ◌==◌, ◌+◌, ◌<◌, ◌≤◌, ◌^◌, ℕ, zero, suc, Bool, true, false, List, [], ◌∷◌, ◌++◌, length, map, take, get_or, slice_get, Some, None, cond, refl, sym, ap, subst, ◌∙◌, inl, inr, arith}
use Rattle.std.specs.Prelude.{nat_eq, slice_set, IfSome}
use Rattle.std.specs.List.{AllByRecursion, list_any, position, position_or_len}
use Rattle.std.proofs.lemmas.Bool.{cases_Bool, lt-ltb}
use Rattle.std.proofs.lemmas.Bool.Decides.{nat_tests}
use Rattle.std.proofs.lemmas.List.{append-nil, take_more}
use Rattle.std.proofs.lemmas.List.Kept.{AllPairs-from_increasing}
use Rattle.std.proofs.lemmas.List.Elements.{All-from_recursion, filter-append, recursion_from_All}
use Rattle.std.proofs.lemmas.List.Sums.{count_by-le-length, length-filter}
use Rattle.section_intake.proofs.Members.{all_at}
use Rattle.election_tables.specs.Fields.{first_two}
use Rattle.election_tables.specs.TablesData.{IsCandidate, IsParty, IsTables, TablesData, bloc_of}
use Rattle.election_tables.specs.declared.tables.candidates.NamedCandidate.{NamedCandidate}
use Rattle.election_tables.specs.declared.tables.panels.Panel.{Panel}
use Rattle.election_tables.specs.declared.tables.parties.Party.{Party}
use Rattle.poll_report.specs.declared.report.Report.{Report}
use Rattle.poll_report.proofs.Totals.{Rises, rises}
use Rattle.seat_remainders.specs.Contest.{joined_by}
use Rattle.seat_remainders.specs.declared.contest.Contestant.{Contestant}
use Rattle.seat_remainders.specs.declared.contest.Entry.{Entry}
use Rattle.totals.specs.Contest.{bloc_of_candidate, blocs_of, contestant_in, entries_in, entry_of}
use Rattle.totals.specs.Giving.{IsPlaceOf, candidates_of, with_candidates, without_candidates}
use Rattle.totals.proofs.BlocLaws.{blocs_rise}

abbrev pub numbers_of : List Contestant → List ℕ
numbers_of blocs = map (λ b. b.number) blocs

-- ---- one candidate more

own_one : (t : TablesData) (digits bloc : ℕ) (es : List Entry) (e : Entry) → (bloc_of_candidate t digits e == bloc) ≡ true
    → candidates_of t digits bloc (es ++ e ∷ []) ≡ candidates_of t digits bloc es ++ e ∷ []
own_one t digits bloc es e own =
    filter-append (λ (c : Entry). bloc_of_candidate t digits c == bloc) es (e ∷ []) ∙ rw own refl

other_one : (t : TablesData) (digits bloc : ℕ) (es : List Entry) (e : Entry) → (bloc_of_candidate t digits e == bloc) ≡ false
    → candidates_of t digits bloc (es ++ e ∷ []) ≡ candidates_of t digits bloc es
other_one t digits bloc es e other =
    filter-append (λ (c : Entry). bloc_of_candidate t digits c == bloc) es (e ∷ []) ∙ rw other (append-nil (candidates_of t digits bloc es))

-- a bloc with other candidates
abbrev with_list : Contestant → List Entry → Contestant
with_list b candidates = record { number = b.number; party_votes = b.party_votes; candidates = candidates }

others_same : (t : TablesData) (digits : ℕ) (es : List Entry) (e : Entry) (blocs : List Contestant)
    → AllByRecursion (λ n. bloc_of_candidate t digits e < n) (numbers_of blocs)
    → map (with_candidates t digits (es ++ e ∷ [])) blocs ≡ map (with_candidates t digits es) blocs
others_same t digits es e [] above = refl
others_same t digits es e (b ∷ blocs) above =
    let less = above.0 in
    let other : (bloc_of_candidate t digits e == b.number) ≡ false = grind (arith, nat_tests) in
    ap (λ (l : List Entry). with_list b l ∷ map (with_candidates t digits (es ++ e ∷ [])) blocs) (other_one t digits b.number es e other)
    ∙ ap (λ (l : List Contestant). with_candidates t digits es b ∷ l) (others_same t digits es e blocs above.1)

pub one_given : (t : TablesData) (digits : ℕ) (es : List Entry) (e : Entry) (blocs : List Contestant) (k : ℕ) (b : Contestant)
    → Rises (numbers_of blocs) → slice_get (numbers_of blocs) k ≡ Some (bloc_of_candidate t digits e)
    → slice_get (map (with_candidates t digits es) blocs) k ≡ Some b
    → slice_set (map (with_candidates t digits es) blocs) k (joined_by e b) ≡ map (with_candidates t digits (es ++ e ∷ [])) blocs
one_given t digits es e [] k b rise at is = absurd (cc)
one_given t digits es e (x ∷ blocs) zero b rise at is =
    let number : x.number ≡ bloc_of_candidate t digits e = cc in
    let own : (bloc_of_candidate t digits e == x.number) ≡ true = grind (arith, nat_tests, number) in
    let this : with_candidates t digits es x ≡ b = cc in
    ap (λ (c : Contestant). joined_by e c ∷ map (with_candidates t digits es) blocs) (sym this)
    ∙ (ap (λ (l : List Entry). with_list x l ∷ map (with_candidates t digits es) blocs) (sym (own_one t digits x.number es e own))
    ∙ ap (λ (l : List Contestant). with_candidates t digits (es ++ e ∷ []) x ∷ l) (sym (others_same t digits es e blocs (rw number at rise.0))))
one_given t digits es e (x ∷ blocs) (suc k) b rise at is =
    let above = all_at (λ n. x.number < n) (numbers_of blocs) k (bloc_of_candidate t digits e) rise.0 at in
    let other : (bloc_of_candidate t digits e == x.number) ≡ false = grind (arith, nat_tests) in
    ap (λ (l : List Contestant). with_candidates t digits es x ∷ l) (one_given t digits es e blocs k b rise.1 at is)
    ∙ ap (λ (l : List Entry). with_list x l ∷ map (with_candidates t digits (es ++ e ∷ [])) blocs) (sym (other_one t digits x.number es e other))

-- the bloc that stands at a place
pub bloc_at : (blocs : List Contestant) (k n : ℕ) → slice_get (numbers_of blocs) k ≡ Some n → (b : Contestant) × (slice_get blocs k ≡ Some b)
bloc_at [] k n at = absurd (cc)
bloc_at (b ∷ blocs) zero n at = (b, refl)
bloc_at (b ∷ blocs) (suc k) n at = bloc_at blocs k n at

-- no bloc has more candidates than are given
pub few_given : (t : TablesData) (digits : ℕ) (es : List Entry) (blocs : List Contestant) (k : ℕ) → length es + 1 < 2 ^ 32
    → IfSome (slice_get (map (with_candidates t digits es) blocs) k) (λ b. length b.candidates + 1 < 2 ^ 32)
few_given t digits es [] k few = tt
few_given t digits es (b ∷ blocs) zero few =
    let own = λ (c : Entry). bloc_of_candidate t digits c == b.number in
    let kept = length-filter own es in
    let most = count_by-le-length own es in
    omega (arith, few, kept, most)
few_given t digits es (b ∷ blocs) (suc k) few = few_given t digits es blocs k few

-- the party of a candidate has two digits
few_number : (parties : List Party) (n : ℕ) → AllByRecursion IsParty parties → list_any (λ q. q.number == n) parties ≡ true → n ≤ 99
few_number [] n all there = absurd (cc)
few_number (q ∷ parties) n all there = elim (cases_Bool (q.number == n)) [
  | inl here ↦ let same : q.number ≡ n = grind (arith, nat_tests) in omega (arith, same, all.0.number.1)
  | inr other ↦ few_number parties n all.1 (rw other at there)
]

pub party_few : (t : TablesData) (digits : ℕ) (entries : List Entry) (i n : ℕ) (d : Entry) → IsTables t → i < length entries
    → AllByRecursion (λ c. list_any (λ q. q.number == first_two digits c.number) t.parties ≡ true) entries
    → n ≡ first_two digits (get_or entries i d).number → n ≤ 99
party_few t digits entries i n d is lt all party =
    let P : Entry → Type 0 = λ c. list_any (λ q. q.number == first_two digits c.number) t.parties ≡ true in
    let few = few_number t.parties (first_two digits (get_or entries i d).number) (recursion_from_All IsParty t.parties is.parties) (All-from_recursion P entries all i d lt) in
    omega (arith, party, few)

-- the numbers stay
pub numbers_stay : (t : TablesData) (digits : ℕ) (es : List Entry) (blocs : List Contestant) → numbers_of (map (with_candidates t digits es) blocs) ≡ numbers_of blocs
numbers_stay t digits es [] = refl
numbers_stay t digits es (b ∷ blocs) = ap (λ (l : List ℕ). b.number ∷ l) (numbers_stay t digits es blocs)

-- no candidates are given where there are none
pub none_given : (t : TablesData) (digits : ℕ) (blocs : List Contestant) → AllByRecursion (λ b. b.candidates ≡ []) blocs
    → map (with_candidates t digits []) blocs ≡ blocs
none_given t digits [] none = refl
none_given t digits (b ∷ blocs) none =
    ap (λ (l : List Entry). with_list b l ∷ map (with_candidates t digits []) blocs) (sym none.0)
    ∙ ap (λ (l : List Contestant). b ∷ l) (none_given t digits blocs none.1)

-- ---- where a bloc stands

pub stands : (n : ℕ) (blocs : List Contestant) → list_any (nat_eq n) (numbers_of blocs) ≡ true
    → (position_or_len (λ b. b.number == n) blocs < length blocs) × (slice_get (numbers_of blocs) (position_or_len (λ b. b.number == n) blocs) ≡ Some n)
stands n [] there = absurd (cc)
stands n (b ∷ blocs) there = elim (cases_Bool (b.number == n)) [
  | inl here ↦ let same : b.number ≡ n = grind (arith, nat_tests) in rw here (omega arith, ap Some same)
  | inr other ↦
      let differs : nat_eq n b.number ≡ false = grind (arith, nat_tests) in
      let rest = stands n blocs (rw differs at there) in
      let place = position_or_len (λ (x : Contestant). x.number == n) blocs in
      rw other (omega (arith, rest.0), ap (λ (k : ℕ). slice_get (b.number ∷ numbers_of blocs) k) (let on : 1 + place ≡ suc place = omega arith in on) ∙ rest.1)
]

pub found : (n : ℕ) (blocs : List Contestant) → list_any (nat_eq n) (numbers_of blocs) ≡ true
    → (place : ℕ) × (position (λ b. b.number == n) blocs ≡ Some place) × (slice_get (numbers_of blocs) place ≡ Some n)
found n blocs there =
    let at = stands n blocs there in
    let place = position_or_len (λ (b : Contestant). b.number == n) blocs in
    (place, ap (λ (b : Bool). cond b (Some place) None) (lt-ltb place (length blocs) at.0), at.1)

-- one candidate more, at the place of its bloc
pub give : (t : TablesData) (digits : ℕ) (entries : List Entry) (blocs old new : List Contestant) (i k n : ℕ) (d : Entry) → IsTables t
    → numbers_of blocs ≡ blocs_of t → i < length entries → old ≡ map (with_candidates t digits (take i entries)) blocs
    → IsPlaceOf t (n, k) → n ≡ first_two digits (get_or entries i d).number
    → ((b : Contestant) → slice_get old k ≡ Some b → new ≡ slice_set old k (joined_by (get_or entries i d) b))
    → new ≡ map (with_candidates t digits (take (i + 1) entries)) blocs
give t digits entries blocs old new i k n d is numbers lt before place party pushed =
    let es = take i entries in
    let e = get_or entries i d in
    let stay = ap (λ (l : List Contestant). numbers_of l) before ∙ numbers_stay t digits es blocs in
    let at = bloc_at old k (bloc_of t.federations n) (ap (λ (ns : List ℕ). slice_get ns k) (stay ∙ numbers) ∙ place) in
    let rise : Rises (numbers_of blocs) = subst Rises (sym numbers) (rises (blocs_of t) (AllPairs-from_increasing (blocs_of t) (blocs_rise t is))) in
    let own = ap (λ (ns : List ℕ). slice_get ns k) numbers ∙ place ∙ ap (λ (m : ℕ). Some (bloc_of t.federations m)) party in
    pushed at.0 at.1
    ∙ (ap (λ (l : List Contestant). slice_set l k (joined_by e at.0)) before
    ∙ (one_given t digits es e blocs k at.0 rise own (ap (λ (l : List Contestant). slice_get l k) (sym before) ∙ at.1)
    ∙ ap (λ (l : List Entry). map (with_candidates t digits l) blocs) (sym (take_more entries i d lt))))

-- ---- all of them

-- the candidates of an office are of parties of the tables
pub of_parties : (parties : List Party) (digits : ℕ) (reports : List Report) (panel : ℕ) (cs : List NamedCandidate) → AllByRecursion (IsCandidate digits parties) cs
    → AllByRecursion (λ c. list_any (λ q. q.number == first_two digits c.number) parties ≡ true) (map (entry_of reports panel) cs)
of_parties parties digits reports panel [] all = tt
of_parties parties digits reports panel (c ∷ cs) all = (all.0.party, of_parties parties digits reports panel cs all.1)

pub none_yet : (t : TablesData) (reports : List Report) (panel : ℕ) (blocs : List ℕ)
    → AllByRecursion (λ b. b.candidates ≡ []) (map (without_candidates t reports panel) blocs)
none_yet t reports panel [] = tt
none_yet t reports panel (b ∷ blocs) = (refl, none_yet t reports panel blocs)

pub given_all : (t : TablesData) (reports : List Report) (panel : ℕ) (p : Panel) (blocs : List ℕ)
    → map (with_candidates t p.office.digits (entries_in reports panel p)) (map (without_candidates t reports panel) blocs)
    ≡ map (contestant_in t reports panel p) blocs
given_all t reports panel p [] = refl
given_all t reports panel p (b ∷ blocs) = ap (λ (l : List Contestant). contestant_in t reports panel p b ∷ l) (given_all t reports panel p blocs)
