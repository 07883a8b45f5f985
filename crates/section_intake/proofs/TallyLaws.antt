-- Lists of tallies: what more counts make of them, and what is found in them.
use Rattle.std.proofs.Common.{◌≡◌, ◌==◌, ℕ, zero, suc, ◌+◌, ◌<◌, true, false, if◌then◌else◌, List, [], ◌∷◌, ◌++◌, length, map, get_or, set, take, Option, None, Some, Less, nat_cmp, find, option_map, slice_get, unwrap_or, refl, sym, ap, ◌∙◌, subst, inl, inr, arith}
use Rattle.std.specs.List.{AllByRecursion, HoldsAt, list_any}
use Rattle.std.specs.List.Sorted.{IsStrictlyIncreasing, IsStrictlySortedBy}
use Rattle.std.specs.Ordering.{eq_by_cmp}
use Rattle.std.specs.Prelude.{nat_eq}
use Rattle.std.proofs.lemmas.Bool.{cases_Bool, or_parts}
use Rattle.std.proofs.lemmas.Bool.Decides.{nat_tests}
use Rattle.std.proofs.lemmas.List.{length-map, map-append, take_more}
use Rattle.std.proofs.lemmas.List.Sums.{sum_by-append, sum_by_more_le_part}
use Rattle.std.proofs.lemmas.Map.Keys.{below_from_sorted, sorted_from_strictly_increasing, sorted_head, sorted_tail}
use Rattle.std.proofs.lemmas.Option.{get_or_from_slice_get, slice_get-map, slice_get_cases, slice_get_within}
use Rattle.election_tables.specs.TablesData.{IsPanel, IsTables, TablesData, candidates_at}
use Rattle.election_tables.specs.declared.tables.candidates.NamedCandidate.{NamedCandidate}
use Rattle.election_tables.specs.declared.tables.panels.Panel.{Panel}
use Rattle.election_tables.specs.declared.tables.parties.Party.{Party}
use Rattle.poll_report.specs.Report.{votes_of}
use Rattle.poll_report.specs.declared.report.Count.{Count}
use Rattle.vote_kinds.specs.Ballot.{line_of, no_panel, panel_at}
use Rattle.vote_kinds.proofs.Lookups.{candidates_known}
use Rattle.section_intake.specs.Kept.{HaveRoom, tallies_of, votes_at, with_counts}
use Rattle.section_intake.specs.Sums.{votes_for}
use Rattle.section_intake.specs.declared.tallies.Tally.{Tally}
use Rattle.section_intake.proofs.AcceptedLaws.{no_more_than}

-- ---- numbers

pub numbers_of : (votes : ℕ → ℕ) (ns : List ℕ) → map (λ t. t.number) (tallies_of votes ns) ≡ ns
numbers_of votes [] = refl
numbers_of votes (n ∷ ns) = ap (λ (l : List ℕ). n ∷ l) (numbers_of votes ns)

pub numbers_kept : (counts : List Count) (ts : List Tally) → map (λ t. t.number) (with_counts counts ts) ≡ map (λ t. t.number) ts
numbers_kept counts [] = refl
numbers_kept counts (t ∷ ts) = ap (λ (l : List ℕ). t.number ∷ l) (numbers_kept counts ts)

pub numbers_rise : (votes : ℕ → ℕ) (ns : List ℕ) → IsStrictlyIncreasing ns → IsStrictlyIncreasing (map (λ t. t.number) (tallies_of votes ns))
numbers_rise votes ns rise = subst IsStrictlyIncreasing (sym (numbers_of votes ns)) rise

-- ---- more counts

pub no_counts : (ts : List Tally) → with_counts [] ts ≡ ts
no_counts [] = refl
no_counts (t ∷ ts) = let same : t.votes + 0 ≡ t.votes = omega arith in rw (same, no_counts ts) refl

one_more : (counts : List Count) (c : Count) (ts : List Tally) → with_counts (c ∷ []) (with_counts counts ts) ≡ with_counts (counts ++ c ∷ []) ts
one_more counts c [] = refl
one_more counts c (t ∷ ts) =
    let both = sum_by-append (λ (d : Count). if d.number == t.number then d.votes else 0) counts (c ∷ []) in
    let same : t.votes + votes_for t.number counts + votes_for t.number (c ∷ []) ≡ t.votes + votes_for t.number (counts ++ c ∷ []) = omega (arith, both) in
    rw (same, one_more counts c ts) refl

-- one count more than the first i
pub next_count : (counts : List Count) (i : ℕ) (c : Count) (ts : List Tally) → i < length counts → c ≡ get_or counts i c
    → with_counts (c ∷ []) (with_counts (take i counts) ts) ≡ with_counts (take (i + 1) counts) ts
next_count counts i c ts lt is =
    one_more (take i counts) c ts
    ∙ ap (λ (d : Count). with_counts (take i counts ++ d ∷ []) ts) is
    ∙ ap (λ (l : List Count). with_counts l ts) (sym (take_more counts i c lt))

-- where there is room for all of some counts there is room for the next one
pub room_for_next : (counts : List Count) (i : ℕ) (c : Count) → i < length counts → c ≡ get_or counts i c → (ts : List Tally)
    → HaveRoom (votes_of counts) ts → HaveRoom c.votes (with_counts (take i counts) ts)
room_for_next counts i c lt is [] room = tt
room_for_next counts i c lt is (t ∷ ts) room =
    let part = sum_by_more_le_part (λ (d : Count). if d.number == t.number then d.votes else 0) (λ (d : Count). d.votes) counts i c lt (λ d. no_more_than t.number d) in
    let votes : c.votes ≡ (get_or counts i c).votes = ap (λ (d : Count). d.votes) is in
    let first = room.0 in
    (omega arith, room_for_next counts i c lt is ts room.1)

-- ---- at a place

-- whether a tally has a number, as a search by numbers asks it
pub by_number : (n : ℕ) (t : Tally) → (t.number == n) ≡ eq_by_cmp nat_cmp t.number n
by_number n t = let m : ℕ = t.number in grind (arith, nat_tests)

-- a count of another number changes nothing
pub others_stay : (c : Count) (ts : List Tally) → AllByRecursion (λ n. (c.number == n) ≡ false) (map (λ t. t.number) ts) → with_counts (c ∷ []) ts ≡ ts
others_stay c [] h = refl
others_stay c (t ∷ ts) h = let same : t.votes + 0 ≡ t.votes = omega arith in rw (h.0, same, others_stay c ts h.1) refl

above : (n : ℕ) (ns : List ℕ) → AllByRecursion (λ m. nat_cmp n m ≡ Less) ns → AllByRecursion (λ m. (n == m) ≡ false) ns
above n [] h = tt
above n (m ∷ ns) h = (apart n m h.0, above n ns h.1)
  where
    apart : (n m : ℕ) → nat_cmp n m ≡ Less → (n == m) ≡ false
    apart n m less = grind (arith, nat_tests)

-- a count is added where its number stands
pub added_at : (ts : List Tally) (c : Count) (i : ℕ) (t : Tally) → IsStrictlySortedBy nat_cmp (map (λ t. t.number) ts) → i < length ts → t ≡ get_or ts i t
    → t.number ≡ c.number → set ts i (record { number = t.number; votes = t.votes + c.votes }) ≡ with_counts (c ∷ []) ts
added_at [] c i t rise lt is same = absurd (omega arith)
added_at (x ∷ xs) c zero t rise lt is same =
    let first : x.number ≡ c.number = ap (λ (y : Tally). y.number) (sym is) ∙ same in
    let P : ℕ → Type 0 = λ n. AllByRecursion (λ m. nat_cmp n m ≡ Less) (map (λ t. t.number) xs) in
    let rest = others_stay c xs (above c.number _ (subst P first (sorted_head nat_cmp x.number (map (λ t. t.number) xs) rise))) in
    let here : (c.number == x.number) ≡ true = grind (arith, nat_tests) in
    let sum : 0 + c.votes ≡ c.votes = omega arith in
    rw (is, here, sum, rest) refl
added_at (x ∷ xs) c (suc i) t rise lt is same =
    let below = below_from_sorted (x.number ∷ map (λ t. t.number) xs) 0 (suc i) t.number rise (omega arith) (rw (length_of xs) (omega arith)) in
    let at : get_or (map (λ t. t.number) xs) i t.number ≡ t.number = sym (number_at xs i t is) in
    let less : x.number < c.number = omega (arith, below, at, same) in
    let other : (c.number == x.number) ≡ false = grind (arith, nat_tests) in
    let sum : x.votes + 0 ≡ x.votes = omega arith in
    rw (other, sum, added_at xs c i t (sorted_tail nat_cmp x.number (map (λ t. t.number) xs) rise) (omega arith) is same) refl
  where
    length_of : (xs : List Tally) → length (map (λ t. t.number) xs) ≡ length xs
    length_of [] = refl
    length_of (x ∷ xs) = ap suc (length_of xs)

    number_at : (xs : List Tally) (i : ℕ) (t : Tally) → t ≡ get_or xs i t → t.number ≡ get_or (map (λ t. t.number) xs) i t.number
    number_at [] i t is = refl
    number_at (x ∷ xs) zero t is = ap (λ (y : Tally). y.number) is
    number_at (x ∷ xs) (suc i) t is = number_at xs i t is

-- at the place that a search for the number found
pub added_there : (ts : List Tally) (c : Count) (i : ℕ) (t : Tally) (votes : ℕ) → IsStrictlyIncreasing (map (λ t. t.number) ts) → i < length ts → t ≡ get_or ts i t
    → HoldsAt (λ y. y.number ≡ c.number) ts i → votes ≡ c.votes
    → set ts i (record { number = t.number; votes = t.votes + votes }) ≡ with_counts (c ∷ []) ts
added_there ts c i t votes rise lt is at same =
    let number : t.number ≡ c.number = ap (λ (y : Tally). y.number) is ∙ at t in
    ap (λ (n : ℕ). set ts i (record { number = t.number; votes = t.votes + n })) same
    ∙ added_at ts c i t (sorted_from_strictly_increasing (map (λ t. t.number) ts) rise) lt is number

pub still_rise : (ts : List Tally) (c : Count) (more : List Tally) → IsStrictlyIncreasing (map (λ t. t.number) ts) → more ≡ with_counts (c ∷ []) ts
    → IsStrictlyIncreasing (map (λ t. t.number) more)
still_rise ts c more rise is =
    subst (λ (xs : List Tally). IsStrictlyIncreasing (map (λ t. t.number) xs)) (sym is) (subst IsStrictlyIncreasing (sym (numbers_kept (c ∷ []) ts)) rise)

pub none_there : (n : ℕ) (ts : List Tally) → find (λ t. t.number == n) ts ≡ None → AllByRecursion (λ m. (n == m) ≡ false) (map (λ t. t.number) ts)
none_there n [] e = tt
none_there n (t ∷ ts) e = elim (cases_Bool (t.number == n)) [
  | inl here ↦ absurd (let some = rw here at e in cc)
  | inr other ↦ (flipped t.number n other, none_there n ts (rw other at e))
]
  where
    flipped : (m n : ℕ) → (m == n) ≡ false → (n == m) ≡ false
    flipped m n h = grind (arith, nat_tests)

-- ---- as they are made

-- one number more
pub next_number : (votes : ℕ → ℕ) (ns : List ℕ) (i n : ℕ) → slice_get ns i ≡ Some n
    → tallies_of votes (take i ns) ++ record { number = n; votes = votes n } ∷ [] ≡ tallies_of votes (take (i + 1) ns)
next_number votes ns i n at =
    let is : get_or ns i n ≡ n = get_or_from_slice_get ns i n n at in
    let tally : ℕ → Tally = λ m. record { number = m; votes = votes m } in
    sym (map-append tally (take i ns) (n ∷ []))
    ∙ ap (λ (m : ℕ). map tally (take i ns ++ m ∷ [])) (sym is)
    ∙ ap (map tally) (sym (take_more ns i n (slice_get_within ns i n at)))

pub candidate_count : (t : TablesData) (panel : ℕ) → length (line_of t panel).candidates ≡ length (candidates_at panel t)
candidate_count t panel =
    length-map (panel_at t panel).candidates (λ c. c.number) ∙ ap (λ (cs : List NamedCandidate). length cs) (sym (candidates_known t panel))

pub party_at : (t : TablesData) (i n : ℕ) → option_map (λ q. q.number) (slice_get t.parties i) ≡ Some n → slice_get (map (λ q. q.number) t.parties) i ≡ Some n
party_at t i n e = slice_get-map (λ (q : Party). q.number) t.parties i ∙ e

pub candidates_rise : (t : TablesData) → IsTables t → (panel : ℕ) → panel < length t.panels → IsStrictlyIncreasing (line_of t panel).candidates
candidates_rise t is panel lt = elim ((slice_get_cases t.panels panel).1) [
  | inl found ↦
      let p = found.0 in
      let here : IsPanel t.parties p = subst (IsPanel t.parties) found.3 (is.panels panel p lt) in
      let same : p ≡ panel_at t panel = sym (ap (λ (o : Option Panel). unwrap_or o no_panel) found.2) in
      subst (λ (q : Panel). IsStrictlyIncreasing (map (λ c. c.number) q.candidates)) same here.rise
  | inr past ↦ absurd (let gone = past.0 in omega arith)
]

-- ---- look-ups

-- the votes of a number that is one of these
pub votes_there : (votes : ℕ → ℕ) (ns : List ℕ) (n : ℕ) → list_any (nat_eq n) ns ≡ true → votes_at n (tallies_of votes ns) ≡ votes n
votes_there votes [] n any = absurd (cc)
votes_there votes (m ∷ ns) n any = elim (cases_Bool (m == n)) [
  | inl here ↦ let same : m ≡ n = grind (arith, nat_tests) in rw here (ap votes same)
  | inr other ↦ let flip : nat_eq n m ≡ false = grind (arith, nat_tests) in rw other (votes_there votes ns n (rw flip at any))
]

-- and of one that isn't
pub votes_nowhere : (votes : ℕ → ℕ) (ns : List ℕ) (n : ℕ) → list_any (nat_eq n) ns ≡ false → votes_at n (tallies_of votes ns) ≡ 0
votes_nowhere votes [] n none = refl
votes_nowhere votes (m ∷ ns) n none =
    let both = or_parts (nat_eq n m) (list_any (nat_eq n) ns) none in
    let first = both.0 in
    let flip : (m == n) ≡ false = grind (arith, nat_tests) in
    rw flip (votes_nowhere votes ns n both.1)

-- tallies of the same numbers with counts more
pub more_tallies : (votes : ℕ → ℕ) (counts : List Count) (ns : List ℕ) → with_counts counts (tallies_of votes ns) ≡ tallies_of (λ n. votes n + votes_for n counts) ns
more_tallies votes counts [] = refl
more_tallies votes counts (n ∷ ns) = rw (more_tallies votes counts ns) refl

pub same_tallies : (v w : ℕ → ℕ) (ns : List ℕ) → ((n : ℕ) → v n ≡ w n) → tallies_of v ns ≡ tallies_of w ns
same_tallies v w [] same = refl
same_tallies v w (n ∷ ns) same = rw (same n, same_tallies v w ns same) refl
