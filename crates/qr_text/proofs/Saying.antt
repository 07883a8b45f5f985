-- What a report says is well formed and right.
use Rattle.std.proofs.Common.{◌≡◌, ℕ, zero, suc, ◌+◌, ◌-◌, ◌/◌, ◌%◌, ◌<◌, ◌≤◌, Bool, true, false, List, [], ◌∷◌, ◌++◌, map, refl, sym, ap, ◌∙◌, subst, ◌⊎◌, inl, inr, arith, lit≤}
use Rattle.std.specs.Prelude.{nat_lt, ◌==◌, ◌&&◌}
use Rattle.std.specs.List.{AllByRecursion, flat_map, filter, range_with_len, sum_by, zip}
use Rattle.std.proofs.lemmas.Bool.Decides.{nat_tests}
use Rattle.std.proofs.lemmas.Bool.{cases_Bool, eqb-true, lt-ltb, ltb-true}
use Rattle.std.proofs.lemmas.List.Sums.{sum_by-cons}
use Rattle.std.proofs.lemmas.List.{map-append}
use Rattle.urna_base.specs.Moment.{is_between, is_date, is_moment}
use Rattle.urna_base.proofs.DigitLaws.{both_from_and}
use Rattle.election_tables.specs.Fields.{has_digits, first_two}
use Rattle.election_tables.specs.Offices.{code_proportional}
use Rattle.poll_report.specs.Report.{IsReport, MayLegend, votes_of, EachAfter, is_above, numbers_of, MayVote, digits_in, is_some_votes}
use Rattle.poll_report.specs.declared.report.Count.{Count}
use Rattle.poll_report.specs.declared.report.OfficeCount.{OfficeCount}
use Rattle.poll_report.specs.declared.report.Report.{Report}
use Rattle.poll_report.proofs.Totals.{votes_cons}
use Rattle.qr_text.specs.Said.{IsSaidParty, MayParty, MayVoteIn, head_values}
use Rattle.qr_text.specs.Spelling.{said, said_party, candidates_of_party, party_votes}
use Rattle.qr_text.specs.Table.{fits, is_time, head_rows}
use Rattle.qr_text.specs.declared.said.SaidParty.{SaidParty}
use Rattle.qr_text.proofs.Codes.{proportional_digits}
use Rattle.qr_text.proofs.Grouping.{Within, Ascends, regroup, none_has}

-- ---- the head

by_parts : (a b c d : Bool) → (a && b && c && d) ≡ true → (a ≡ true) × (b ≡ true) × (c ≡ true) × (d ≡ true)
by_parts true true true true h = (refl, refl, refl, refl)
by_parts true true true false h = absurd (cc)
by_parts true true false d h = absurd (cc)
by_parts true false c d h = absurd (cc)
by_parts false b c d h = absurd (cc)

moment_parts : (n : ℕ) → is_moment n ≡ true
    → (is_date (n / 1000000) ≡ true) × (is_between 0 23 (n / 10000 % 100) ≡ true) × (is_between 0 59 (n / 100 % 100) ≡ true)
    × (is_between 0 59 (n % 100) ≡ true)
unfolding is_moment
moment_parts n h = by_parts (is_date (n / 1000000)) (is_between 0 23 (n / 10000 % 100)) (is_between 0 59 (n / 100 % 100))
    (is_between 0 59 (n % 100)) h

time_of : (n : ℕ) → is_moment n ≡ true → is_time (n % 1000000) ≡ true
time_of n h =
    let parts = moment_parts n h in
    let hours : n % 1000000 / 10000 ≡ n / 10000 % 100 = omega arith in
    let minutes : n % 1000000 / 100 % 100 ≡ n / 100 % 100 = omega arith in
    let seconds : n % 1000000 % 100 ≡ n % 100 = omega arith in
    rw (hours, minutes, seconds, parts.1, parts.2, parts.3) refl

pub date_of : (n : ℕ) → is_moment n ≡ true → is_date (n / 1000000) ≡ true
date_of n h = (moment_parts n h).0

pub few : (n : ℕ) → n ≤ 9999 → is_between 0 9999 n ≡ true
few n h = grind (arith, nat_tests)

pub head_fits : (r : Report) → IsReport r → AllByRecursion (λ x. fits x.0.form x.1 ≡ true) (zip head_rows (head_values (said r)))
unfolding said head_rows
head_fits r h =
    let able = few r.able h.able in
    let came = let all = h.able in let within = h.came in few r.came (omega arith) in
    let missed = let all = h.able in few (r.able - r.came) (omega arith) in
    let d = date_of r.opened h.opened in
    let t = time_of r.opened h.opened in
    let e = date_of r.closed h.closed in
    let u = time_of r.closed h.closed in
    (refl, (h.process, (h.date, (h.turn, (h.zone, (h.section, (able, (came, (missed, (d, (t, (e, (u, tt)))))))))))))

-- ---- the candidates of a party

pub above_snoc : (before : List ℕ) (x n : ℕ) → is_above before n ≡ true → nat_lt x n ≡ true → is_above (before ++ x ∷ []) n ≡ true
above_snoc [] x n h g = rw g refl
above_snoc (y ∷ before) x n h g =
    let both = both_from_and (nat_lt y n) (is_above before n) h in rw (both.0, above_snoc before x n both.1 g) refl

pub above_front : (before : List ℕ) (x n : ℕ) → is_above (before ++ x ∷ []) n ≡ true → (is_above before n ≡ true) × (nat_lt x n ≡ true)
above_front [] x n h = (refl, (both_from_and (nat_lt x n) true h).0)
above_front (y ∷ before) x n h =
    let both = both_from_and (nat_lt y n) (is_above (before ++ x ∷ []) n) h in
    let rest = above_front before x n both.1 in
    (rw (both.0, rest.0) refl, rest.1)

-- what is above the ones is above the others
abbrev Keeps : List Count → List Count → Type 0
Keeps before kept = (n : ℕ) → is_above (numbers_of before) n ≡ true → is_above (numbers_of kept) n ≡ true

keeps_both : (before kept : List Count) (c : Count) → Keeps before kept → Keeps (before ++ c ∷ []) (kept ++ c ∷ [])
keeps_both before kept c k n h =
    let both = above_front (numbers_of before) c.number n (rw (map-append (λ (x : Count). x.number) before (c ∷ [])) at h) in
    rw (map-append (λ (x : Count). x.number) kept (c ∷ [])) (above_snoc (numbers_of kept) c.number n (k n both.0) both.1)

keeps_one : (before kept : List Count) (c : Count) → Keeps before kept → Keeps (before ++ c ∷ []) kept
keeps_one before kept c k n h =
    k n (above_front (numbers_of before) c.number n (rw (map-append (λ (x : Count). x.number) before (c ∷ [])) at h)).0

-- the candidates of a party may stand in it
candidates_may : (digits party : ℕ) (before kept cs : List Count) → Keeps before kept → EachAfter (MayVote digits) before cs
    → EachAfter (MayVoteIn digits party) kept (candidates_of_party digits party cs)
candidates_may digits party before kept [] k h = tt
candidates_may digits party before kept (c ∷ cs) k h =
    elim (cases_Bool (first_two digits c.number == party)) [
      | inl e ↦ rw e (
        (eqb-true (first_two digits c.number) party e, (h.0.0, k c.number h.0.1)),
        candidates_may digits party (before ++ c ∷ []) (kept ++ c ∷ []) cs (keeps_both before kept c k) h.1,
      )
      | inr e ↦ rw e (candidates_may digits party (before ++ c ∷ []) kept cs (keeps_one before kept c k) h.1)
    ]

-- ---- sums of parts

-- some of them have no more votes than all
pub part_votes : (p : Count → Bool) (cs : List Count) → votes_of (filter p cs) ≤ votes_of cs
part_votes p [] = lit≤ tt
part_votes p (c ∷ cs) =
    let rest = part_votes p cs in
    let whole = votes_cons c cs in
    elim (cases_Bool (p c)) [
      | inl e ↦ let kept = votes_cons c (filter p cs) in rw e (omega arith)
      | inr e ↦ rw e (omega arith)
    ]

pub legend_part : (k : ℕ) (ps : List Count) → party_votes k ps ≤ votes_of ps
legend_part k [] = lit≤ tt
legend_part k (c ∷ ps) =
    let rest = legend_part k ps in
    let whole = votes_cons c ps in
    elim (cases_Bool (c.number == k)) [
      | inl e ↦ rw e (omega arith)
      | inr e ↦ rw e (omega arith)
    ]

-- ---- the parties

-- the votes of an office that belong to parties or candidates
abbrev pub total_votes : OfficeCount → ℕ
total_votes o = votes_of o.nominal + votes_of o.parties

small_total : (n : ℕ) → nat_lt 0 n ≡ true → n ≤ 9999 → is_between 1 9999 n ≡ true
small_total n h g = grind (arith, nat_tests)

party_number : (n : ℕ) → 10 ≤ n → n < 100 → is_between 10 99 n ≡ true
party_number n h g = grind (arith, nat_tests)

-- a party with votes may be said
is_party : (digits : ℕ) (o : OfficeCount) (k : ℕ) → EachAfter (MayVote digits) [] o.nominal → total_votes o ≤ 9999 → 10 ≤ k → k < 100
    → nat_lt 0 (said_party digits o k).total ≡ true
    → IsSaidParty digits (said_party digits o k)
is_party digits o k votes bound low high some =
    let nominal = part_votes (λ c. first_two digits c.number == k) o.nominal in
    let legend = legend_part k o.parties in
    record {
      number = party_number k low high;
      candidates = candidates_may digits k [] [] o.nominal (λ n h. h) votes;
      legend = few (party_votes k o.parties) (omega arith);
      total = small_total (votes_of (candidates_of_party digits k o.nominal) + party_votes k o.parties) some (omega arith);
    }

abbrev pub party_numbers : List SaidParty → List ℕ
party_numbers ps = map (λ p. p.number) ps

abbrev pub some_votes : SaidParty → Bool
some_votes p = nat_lt 0 p.total

-- so many parties from the a-th on may stand behind these
pub parties_may : (digits : ℕ) (o : OfficeCount) (n a : ℕ) (before : List SaidParty) → EachAfter (MayVote digits) [] o.nominal
    → total_votes o ≤ 9999 → 10 ≤ a → a + n ≤ 100
    → ((k : ℕ) → a ≤ k → is_above (party_numbers before) k ≡ true)
    → EachAfter (MayParty digits) before (filter some_votes (map (said_party digits o) (range_with_len a n)))
parties_may digits o zero a before votes bound low high above = tt
parties_may digits o (suc n) a before votes bound low high above =
    elim (cases_Bool (some_votes (said_party digits o a))) [
      | inl e ↦ rw e (
        (is_party digits o a votes bound low (omega arith) e, above a (omega arith)),
        parties_may digits o n (a + 1) (before ++ said_party digits o a ∷ []) votes bound (omega arith) (omega arith)
            (λ k h. rw (map-append (λ (x : SaidParty). x.number) before ((said_party digits o a) ∷ []))
            (above_snoc (party_numbers before) a k (above k (omega arith)) (lt-ltb a k (omega arith)))),
      )
      | inr e ↦ rw e (parties_may digits o n (a + 1) before votes bound (omega arith) (omega arith) (λ k h. above k (omega arith)))
    ]

-- ---- the groups of candidates are all candidates

-- numbers of so many digits rise with their first two, which are a party
pub record Grouped (digits : ℕ) : Type 0 where
  pub ascends : (m n : ℕ) → m < n → first_two digits m ≤ first_two digits n
  pub within : (n : ℕ) → has_digits digits n ≡ true → (10 ≤ first_two digits n) × (first_two digits n < 100)

four_digits : (n : ℕ) → has_digits 4 n ≡ true → (10 ≤ n / 100) × (n / 100 < 100)
four_digits n h = let low : 1000 ≤ n = grind (arith, nat_tests) in let high : n ≤ 9999 = grind (arith, nat_tests) in
    (omega arith, omega arith)

five_digits : (n : ℕ) → has_digits 5 n ≡ true → (10 ≤ n / 1000) × (n / 1000 < 100)
five_digits n h = let low : 10000 ≤ n = grind (arith, nat_tests) in let high : n ≤ 99999 = grind (arith, nat_tests) in
    (omega arith, omega arith)

grouped_4 : Grouped 4
grouped_4 = record { ascends = λ m n h. omega arith; within = four_digits }

grouped_5 : Grouped 5
grouped_5 = record { ascends = λ m n h. omega arith; within = five_digits }

by_digits : (digits : ℕ) → (digits ≡ 4) ⊎ (digits ≡ 5) → Grouped digits
by_digits digits (inl e) = let P : ℕ → Type 0 = λ n. Grouped n in subst P (sym e) grouped_4
by_digits digits (inr e) = let P : ℕ → Type 0 = λ n. Grouped n in subst P (sym e) grouped_5

-- the numbers of a proportional office do
pub grouped : (code : ℕ) → code_proportional code ≡ true → Grouped (digits_in code)
grouped code h = by_digits (digits_in code) (proportional_digits code h)

all_later : (digits : ℕ) → Grouped digits → (x : Count) (before xs : List Count) → EachAfter (MayVote digits) before xs
    → ((n : ℕ) → is_above (numbers_of before) n ≡ true → nat_lt x.number n ≡ true)
    → AllByRecursion (λ y. first_two digits x.number ≤ first_two digits y.number) xs
all_later digits g x before [] h above = tt
all_later digits g x before (y ∷ xs) h above = (
  g.ascends x.number y.number (ltb-true x.number y.number (above y.number h.0.1)),
  all_later digits g x (before ++ y ∷ []) xs h.1
      (λ n a. above n (above_front (numbers_of before) y.number n (rw (map-append (λ (x : Count). x.number) before (y ∷ [])) at a)).0),
)

pub ascends_by : (digits : ℕ) → Grouped digits → (before ns : List Count) → EachAfter (MayVote digits) before ns
    → Ascends (λ c. first_two digits c.number) ns
ascends_by digits g before [] h = tt
ascends_by digits g before (c ∷ ns) h = (
  all_later digits g c (before ++ c ∷ []) ns h.1
      (λ n a. (above_front (numbers_of before) c.number n (rw (map-append (λ (x : Count). x.number) before (c ∷ [])) at a)).1),
  ascends_by digits g (before ++ c ∷ []) ns h.1,
)

pub within_by : (digits : ℕ) → Grouped digits → (before ns : List Count) → EachAfter (MayVote digits) before ns
    → Within (λ c. first_two digits c.number) 10 90 ns
within_by digits g before [] h = tt
within_by digits g before (c ∷ ns) h =
    let has = both_from_and (has_digits digits c.number) (is_some_votes c.votes) h.0.0 in
    let range = g.within c.number has.0 in
    ((range.0, omega arith), within_by digits g (before ++ c ∷ []) ns h.1)

pub votes_append : (a b : List Count) → votes_of (a ++ b) ≡ votes_of a + votes_of b
votes_append [] b = omega arith
votes_append (c ∷ a) b =
    let rest = votes_append a b in
    let left = votes_cons c (a ++ b) in
    let right = votes_cons c a in
    omega arith

votes_groups : (f : ℕ → List Count) (ks : List ℕ) → votes_of (flat_map f ks) ≡ sum_by (λ k. votes_of (f k)) ks
votes_groups f [] = refl
votes_groups f (k ∷ ks) =
    let rest = votes_groups f ks in
    let left = votes_append (f k) (flat_map f ks) in
    let right = sum_by-cons (λ (j : ℕ). votes_of (f j)) k ks in
    omega arith

pub nominal_groups : (digits : ℕ) → Grouped digits → (ns : List Count) → EachAfter (MayVote digits) [] ns
    → sum_by (λ k. votes_of (candidates_of_party digits k ns)) (range_with_len 10 90) ≡ votes_of ns
nominal_groups digits g ns h =
    sym (votes_groups (λ k. candidates_of_party digits k ns) (range_with_len 10 90))
    ∙ ap (λ (l : List Count). votes_of l)
    (regroup (λ (c : Count). first_two digits c.number) 90 10 ns (within_by digits g [] ns h) (ascends_by digits g [] ns h))

-- ---- so are the parties' votes

pub numbers_later : (x : Count) (before ps : List Count) → EachAfter MayLegend before ps
    → ((n : ℕ) → is_above (numbers_of before) n ≡ true → nat_lt x.number n ≡ true) → AllByRecursion (λ c. x.number < c.number) ps
numbers_later x before [] h above = tt
numbers_later x before (c ∷ ps) h above = (
  ltb-true x.number c.number (above c.number h.0.2),
  numbers_later x (before ++ c ∷ []) ps h.1
      (λ n a. above n (above_front (numbers_of before) c.number n (rw (map-append (λ (x : Count). x.number) before (c ∷ [])) at a)).0),
)

weaker : (x : Count) (ps : List Count) → AllByRecursion (λ c. x.number < c.number) ps → AllByRecursion (λ c. x.number ≤ c.number) ps
weaker x [] h = tt
weaker x (c ∷ ps) h = (let l = h.0 in omega arith, weaker x ps h.1)

pub legend_of : (before ps : List Count) (k : ℕ) → EachAfter MayLegend before ps
    → party_votes k ps ≡ votes_of (filter (λ c. c.number == k) ps)
legend_of before [] k h = refl
legend_of before (c ∷ ps) k h =
    let later = numbers_later c (before ++ c ∷ []) ps h.1
    (λ n a. (above_front (numbers_of before) c.number n (rw (map-append (λ (x : Count). x.number) before (c ∷ [])) at a)).1) in
    elim (cases_Bool (c.number == k)) [
      | inl e ↦
          let P : ℕ → Type 0 = λ n. AllByRecursion (λ d. n < d.number) ps in
          let none = none_has (λ (d : Count). d.number) k ps (subst P (eqb-true c.number k e) later) in
          let one = votes_cons c (filter (λ d. d.number == k) ps) in
          let zero_votes : votes_of (filter (λ d. d.number == k) ps) ≡ 0 = ap (λ (l : List Count). votes_of l) none in
          rw e (omega arith)
      | inr e ↦ rw e (legend_of (before ++ c ∷ []) ps k h.1)
    ]

pub ascends_parties : (before ps : List Count) → EachAfter MayLegend before ps → Ascends (λ c. c.number) ps
ascends_parties before [] h = tt
ascends_parties before (c ∷ ps) h = (
  weaker c ps (numbers_later c (before ++ c ∷ []) ps h.1
      (λ n a. (above_front (numbers_of before) c.number n (rw (map-append (λ (x : Count). x.number) before (c ∷ [])) at a)).1)),
  ascends_parties (before ++ c ∷ []) ps h.1,
)

party_range : (n : ℕ) → is_between 10 99 n ≡ true → (10 ≤ n) × (n < 100)
party_range n h = let low : 10 ≤ n = grind (arith, nat_tests) in let high : n ≤ 99 = grind (arith, nat_tests) in (low, omega arith)

pub within_parties : (before ps : List Count) → EachAfter MayLegend before ps → Within (λ c. c.number) 10 90 ps
within_parties before [] h = tt
within_parties before (c ∷ ps) h = (party_range c.number h.0.0, within_parties (before ++ c ∷ []) ps h.1)

same_sums : (f g : ℕ → ℕ) (ks : List ℕ) → ((k : ℕ) → f k ≡ g k) → sum_by f ks ≡ sum_by g ks
same_sums f g [] h = refl
same_sums f g (k ∷ ks) h = let rest = same_sums f g ks h in let a = sum_by-cons f k ks in let b = sum_by-cons g k ks in let here = h k in
    omega arith

pub legend_groups : (ps : List Count) → EachAfter MayLegend [] ps → sum_by (λ k. party_votes k ps) (range_with_len 10 90) ≡ votes_of ps
legend_groups ps h =
    same_sums (λ k. party_votes k ps) (λ k. votes_of (filter (λ c. c.number == k) ps)) (range_with_len 10 90) (λ k. legend_of [] ps k h)
    ∙ (sym (votes_groups (λ k. filter (λ c. c.number == k) ps) (range_with_len 10 90))
    ∙ ap (λ (l : List Count). votes_of l) (regroup (λ (c : Count). c.number) 90 10 ps (within_parties [] ps h) (ascends_parties [] ps h)))

-- ---- parties without votes add nothing

pub zero_of : (n : ℕ) → nat_lt 0 n ≡ false → n ≡ 0
zero_of n h = grind (arith, nat_tests)

pub no_votes : (n m : ℕ) → nat_lt 0 (n + m) ≡ false → (n ≡ 0) × (m ≡ 0)
no_votes n m h = let none : n + m ≡ 0 = grind (arith, nat_tests) in (omega arith, omega arith)

pub kept_sums : (digits : ℕ) (o : OfficeCount) (ks : List ℕ)
    → (sum_by (λ p. votes_of p.candidates) (filter some_votes (map (said_party digits o) ks))
    ≡ sum_by (λ k. votes_of (candidates_of_party digits k o.nominal)) ks)
    × (sum_by (λ p. p.legend) (filter some_votes (map (said_party digits o) ks)) ≡ sum_by (λ k. party_votes k o.parties) ks)
kept_sums digits o [] = (refl, refl)
kept_sums digits o (k ∷ ks) =
    let rest = kept_sums digits o ks in
    let p : SaidParty = said_party digits o k in
    let others : List SaidParty = filter some_votes (map (said_party digits o) ks) in
    let n = sum_by-cons (λ (j : ℕ). votes_of (candidates_of_party digits j o.nominal)) k ks in
    let l = sum_by-cons (λ (j : ℕ). party_votes j o.parties) k ks in
    elim (cases_Bool (some_votes p)) [
      | inl e ↦
          let pn = sum_by-cons (λ (q : SaidParty). votes_of q.candidates) p others in
          let pl = sum_by-cons (λ (q : SaidParty). q.legend) p others in
          let a = rest.0 in let b = rest.1 in
          rw e (omega arith, omega arith)
      | inr e ↦
          let none = no_votes (votes_of (candidates_of_party digits k o.nominal)) (party_votes k o.parties) e in
          let a = rest.0 in let b = rest.1 in let c = none.0 in let d = none.1 in
          rw e (omega arith, omega arith)
    ]
