-- The report of a section is one that has a spelling
use Rattle.std.proofs.Common.{◌≡◌, ◌≢◌, ℕ, zero, suc, ◌+◌, ◌*◌, ◌<◌, ◌≤◌, Bool, true, false, List, [], ◌∷◌, ◌++◌, map, length, slice_get, Option, Some, option_map, unwrap_or, inl, inr, refl, sym, ap, ◌∙◌, subst, arith}
use Rattle.std.specs.Prelude.{◌==◌, nat_eq, nat_lt, ◌&&◌, IsSomeAnd, IsTrue}
use Rattle.std.specs.List.{All, AllByRecursion, AllPairs, list_any}
use Rattle.std.proofs.Math.Nat.{mul-le-mul_left}
use Rattle.std.proofs.lemmas.Bool.{cases_Bool}
use Rattle.std.proofs.lemmas.Bool.Decides.{nat_tests}
use Rattle.std.proofs.lemmas.List.Elements.{recursion_from_All, All-contains, All-head, All-tail}
use Rattle.std.proofs.lemmas.List.Kept.{AllPairs-from_increasing}
use Rattle.std.proofs.lemmas.List.Sums.{count_by-le-length}
use Rattle.election_tables.specs.Limits.{most_offices, most_voters}
use Rattle.election_tables.specs.Offices.{code_digits, code_proportional, allows}
use Rattle.election_tables.specs.TablesData.{TablesData, IsTables, IsPanel, IsCandidate, IsParty, IsSection, places_in, places_of}
use Rattle.election_tables.specs.declared.office.Kind.{Kind}
use Rattle.election_tables.specs.declared.office.Kind.TheVariants as kind
use Rattle.election_tables.specs.declared.tables.candidates.NamedCandidate.{NamedCandidate}
use Rattle.election_tables.specs.declared.tables.panels.Panel.{Panel}
use Rattle.election_tables.specs.declared.tables.parties.Party.{Party}
use Rattle.election_tables.specs.declared.tables.sections.Section.{Section}
use Rattle.election_tables.proofs.PlacesOfPanels.{may_have-few, office_may_have}
use Rattle.vote_kinds.specs.declared.choice.Choice.{Choice}
use Rattle.vote_kinds.specs.declared.choice.Choice.TheVariants as choice
use Rattle.turnout.specs.Turnout.{number_came}
use Rattle.turnout.proofs.Marks.{number_came-le-length}
use Rattle.urna_base.specs.Moment.{is_between}
use Rattle.vote_kinds.specs.Ballot.{BallotLine, line_for, lines_by_panel, is_choice, is_proportional}
use Rattle.vote_kinds.specs.Choice.{is_same}
use Rattle.vote_kinds.proofs.Lookups.{by_panel_get}
use Rattle.vote_record.specs.Bag.{bag_at, count_of}
use Rattle.vote_record.specs.RdvData.{RdvData, IsVote}
use Rattle.vote_record.specs.Laws.{HasOnlyVotes}
use Rattle.poll_report.specs.declared.report.Count.{Count}
use Rattle.poll_report.specs.declared.report.OfficeCount.{OfficeCount}
use Rattle.poll_report.specs.Report.{EachAfter, IsOfficeCount, IsReport, MayCount, MayLegend, MayVote, digits_in, greatest_count, is_above, is_some_votes, is_vote, may_have_code, numbers_of, votes_of}
use Rattle.poll_report.specs.Counted.{HasReport, counted, counts_of_panels, listed, office_count, office_counts, party_counts, report_of}
use Rattle.poll_report.proofs.Totals.{IsOneOf, Rises, all_counted, rises, votes_listed}
use Rattle.poll_report.proofs.Lists.{each_listed, each_weaker, nothing_below}

-- ---- an office

-- the numbers of the parties that may have votes of their own
abbrev party_numbers : Kind → List Party → List ℕ
party_numbers kind.Proportional parties = map (λ q. q.number) parties
party_numbers kind.Absolute parties = []
party_numbers kind.Simple parties = []

parties_listed : (k : Kind) (t : TablesData) (bag : List Choice) → party_counts k t bag ≡ listed (λ n. choice.Party n) (party_numbers k t.parties) bag
parties_listed kind.Proportional t bag = refl
parties_listed kind.Absolute t bag = refl
parties_listed kind.Simple t bag = refl

party_numbers_rise : (k : Kind) (parties : List Party) → Rises (map (λ q. q.number) parties) → Rises (party_numbers k parties)
party_numbers_rise kind.Proportional parties h = h
party_numbers_rise kind.Absolute parties h = tt
party_numbers_rise kind.Simple parties h = tt

-- a choice of the panel's line is one of those that are counted
choice_counted : (t : TablesData) (number : ℕ) (p : Panel) (k : Kind) (c : Choice) → k ≡ p.office.kind → is_choice (line_for t number p) c ≡ true
    → IsOneOf (map (λ x. x.number) p.candidates) (party_numbers k t.parties) c
choice_counted t number p k (choice.Nominal n) e h = h
choice_counted t number p kind.Proportional (choice.Party n) e h = subst (λ (j : Kind). (is_proportional j && list_any (nat_eq n) (map (λ q. q.number) t.parties)) ≡ true) (sym e) h
choice_counted t number p kind.Absolute (choice.Party n) e h = absurd (let no = subst (λ (j : Kind). (is_proportional j && list_any (nat_eq n) (map (λ q. q.number) t.parties)) ≡ true) (sym e) h in cc)
choice_counted t number p kind.Simple (choice.Party n) e h = absurd (let no = subst (λ (j : Kind). (is_proportional j && list_any (nat_eq n) (map (λ q. q.number) t.parties)) ≡ true) (sym e) h in cc)
choice_counted t number p k choice.Blank e h = tt
choice_counted t number p k choice.Null e h = tt

each_counted : (t : TablesData) (number : ℕ) (p : Panel) (bag : List Choice) → AllByRecursion (λ c. is_choice (line_for t number p) c ≡ true) bag
    → AllByRecursion (IsOneOf (map (λ x. x.number) p.candidates) (party_numbers p.office.kind t.parties)) bag
each_counted t number p [] h = tt
each_counted t number p (c ∷ bag) h = (choice_counted t number p p.office.kind c refl h.0, each_counted t number p bag h.1)

-- a count of a bag with few members is one that a report can tell
some_votes : (c : Choice) (bag : List Choice) → length bag ≤ greatest_count → nat_lt 0 (count_of c bag) ≡ true → is_some_votes (count_of c bag) ≡ true
some_votes c bag few some = let within = count_by-le-length (is_same c) bag in grind (arith, nat_tests)

candidates_vote : (digits : ℕ) (parties : List Party) (bag : List Choice) (cs : List NamedCandidate) → length bag ≤ greatest_count → All (IsCandidate digits parties) cs
    → AllByRecursion (λ n. nat_lt 0 (count_of (choice.Nominal n) bag) ≡ true → is_vote digits (counted (λ m. choice.Nominal m) bag n) ≡ true) (map (λ c. c.number) cs)
candidates_vote digits parties bag [] few all = tt
candidates_vote digits parties bag (c ∷ cs) few all =
    let first : IsCandidate digits parties c = All-head (IsCandidate digits parties) c cs all in (
      (λ some. rw (some_votes (choice.Nominal c.number) bag few some, first.number) refl),
      candidates_vote digits parties bag cs few (All-tail (IsCandidate digits parties) c cs all),
    )

abbrev IsLegend : Count → Type 0
IsLegend c = (is_between 10 99 c.number ≡ true) × (is_some_votes c.votes ≡ true)

parties_vote : (bag : List Choice) (ps : List Party) → length bag ≤ greatest_count → All IsParty ps
    → AllByRecursion (λ n. nat_lt 0 (count_of (choice.Party n) bag) ≡ true → IsLegend (counted (λ m. choice.Party m) bag n)) (map (λ q. q.number) ps)
parties_vote bag [] few all = tt
parties_vote bag (q ∷ ps) few all =
    let first : IsParty q = All-head IsParty q ps all in
    let low = first.number.0 in
    let high = first.number.1 in
    let two : is_between 10 99 q.number ≡ true = grind (arith, nat_tests) in
    ((λ some. (two, some_votes (choice.Party q.number) bag few some)), parties_vote bag ps few (All-tail IsParty q ps all))

kind_parties_vote : (k : Kind) (bag : List Choice) (ps : List Party) → length bag ≤ greatest_count → All IsParty ps
    → AllByRecursion (λ n. nat_lt 0 (count_of (choice.Party n) bag) ≡ true → IsLegend (counted (λ m. choice.Party m) bag n)) (party_numbers k ps)
kind_parties_vote kind.Proportional bag ps few all = parties_vote bag ps few all
kind_parties_vote kind.Absolute bag ps few all = tt
kind_parties_vote kind.Simple bag ps few all = tt

no_parties : (k : Kind) (code : ℕ) (t : TablesData) (bag : List Choice) → IsTrue (allows code k) → code_proportional code ≡ false → party_counts k t bag ≡ []
no_parties kind.Proportional code t bag allowed not_proportional = let no : false ≡ true = sym not_proportional ∙ allowed in absurd (cc)
no_parties kind.Absolute code t bag allowed not_proportional = refl
no_parties kind.Simple code t bag allowed not_proportional = refl

-- what the tables and the record owe of a panel
abbrev pub Fits : TablesData → List (List Choice) → ℕ → ℕ → Panel → Type 0
Fits t bags came number p = IsPanel t.parties p × (length (bag_at bags number) ≡ came * places_in p) × AllByRecursion (λ c. is_choice (line_for t number p) c ≡ true) (bag_at bags number)

office_spelled : (t : TablesData) (bags : List (List Choice)) (came number : ℕ) (p : Panel) → All IsParty t.parties → Rises (map (λ q. q.number) t.parties) → came ≤ most_voters
    → Fits t bags came number p → IsOfficeCount came (office_count t p (bag_at bags number))
office_spelled t bags came number p parties rise few fits =
    let bag = bag_at bags number in
    let digits = p.office.digits in
    let panel = fits.0 in
    let places = office_may_have p.office panel.office in
    let two : came * places_in p ≤ came * 2 = mul-le-mul_left came (may_have-few p.office.code (places_in p) places).1 in
    let few_members : length bag ≤ greatest_count = omega (arith, fits.1, two, few) in
    let candidates = map (λ x. x.number) p.candidates in
    let ps = party_numbers p.office.kind t.parties in
    let candidates_rise : Rises candidates = rises candidates (AllPairs-from_increasing candidates panel.rise) in
    let parties_rise : Rises ps = party_numbers_rise p.office.kind t.parties rise in
    let same_digits : digits_in p.office.code ≡ digits = ap (λ (o : Option ℕ). unwrap_or o 0) panel.office.digits in
    let all = all_counted candidates ps bag candidates_rise parties_rise (each_counted t number p bag fits.2) in
    let nominal_votes = votes_listed (λ n. choice.Nominal n) candidates bag in
    let party_votes = votes_listed (λ n. choice.Party n) ps bag in
    let same_parties = parties_listed p.office.kind t bag in
    record {
      nominal = subst (λ (d : ℕ). EachAfter (MayVote d) [] (listed (λ n. choice.Nominal n) candidates bag)) (sym same_digits)
          (each_listed (λ c. is_vote digits c ≡ true) (λ n. choice.Nominal n) bag [] candidates candidates_rise (nothing_below candidates)
          (candidates_vote digits t.parties bag p.candidates few_members panel.candidates));
      parties = subst (λ (cs : List Count). EachAfter MayLegend [] cs) (sym same_parties)
          (each_weaker (λ b c. IsLegend c × (is_above (numbers_of b) c.number ≡ true)) MayLegend (λ b c h. (h.0.0, h.0.1, h.1)) [] (listed (λ n. choice.Party n) ps bag)
          (each_listed IsLegend (λ n. choice.Party n) bag [] ps parties_rise (nothing_below ps) (kind_parties_vote p.office.kind bag t.parties few_members parties)));
      majority = no_parties p.office.kind p.office.code t bag panel.office.kind;
      places = places;
      total = let total_of_parties = ap votes_of same_parties in omega (arith, fits.1);
      few = let total_of_parties = ap votes_of same_parties in omega (arith, few_members);
    }

-- ---- the offices of all panels

abbrev Differ : List Panel → Type 0
Differ [] = Unit {0}
Differ (p ∷ panels) = AllByRecursion (λ q. p.office.code ≢ q.office.code) panels × Differ panels

differ : (panels : List Panel) → AllPairs (λ p q. p.office.code ≢ q.office.code) panels → Differ panels
differ [] h = tt
differ (p ∷ panels) h = (
  recursion_from_All (λ q. p.office.code ≢ q.office.code) panels (λ k d within. h zero (suc k) d (omega arith) (omega arith)),
  differ panels (λ i j d below within. h (suc i) (suc j) d (omega arith) (omega arith)),
)

abbrev has_code : List ℕ → ℕ → Bool
has_code codes code = list_any (λ c. c == code) codes

has_code_snoc : (codes : List ℕ) (c code : ℕ) → has_code codes code ≡ false → c ≢ code → has_code (codes ++ c ∷ []) code ≡ false
has_code_snoc [] c code none other = elim (cases_Bool (c == code)) [
  | inl t ↦ absurd (other (grind (arith, nat_tests)))
  | inr f ↦ rw f refl
]
has_code_snoc (d ∷ codes) c code none other = elim (cases_Bool (d == code)) [
  | inl t ↦ let no : true ≡ false = rw t at none in absurd (cc)
  | inr f ↦ rw f (has_code_snoc codes c code (rw f at none) other)
]

codes_snoc : (before : List OfficeCount) (o : OfficeCount) → map (λ c. c.code) (before ++ o ∷ []) ≡ map (λ c. c.code) before ++ o.code ∷ []
codes_snoc [] o = refl
codes_snoc (b ∷ before) o = ap (λ (l : List ℕ). b.code ∷ l) (codes_snoc before o)

-- no panel of some has a code of these offices
abbrev Without : List OfficeCount → List Panel → Type 0
Without before panels = AllByRecursion (λ p. has_code (map (λ o. o.code) before) p.office.code ≡ false) panels

without_one : (before : List OfficeCount) (o : OfficeCount) (panels : List Panel) → Without before panels → AllByRecursion (λ q. o.code ≢ q.office.code) panels → Without (before ++ o ∷ []) panels
without_one before o [] none other = tt
without_one before o (q ∷ panels) none other =
    (rw (codes_snoc before o) (has_code_snoc (map (λ b. b.code) before) o.code q.office.code none.0 other.0), without_one before o panels none.1 other.1)

without_none : (panels : List Panel) → Without [] panels
without_none [] = tt
without_none (p ∷ panels) = (refl, without_none panels)

length_codes : (before : List OfficeCount) → length (map (λ o. o.code) before) ≡ length before
length_codes [] = refl
length_codes (o ∷ before) = ap suc (length_codes before)

may_code : (before : List OfficeCount) (p : Panel) → length before < most_offices → has_code (map (λ o. o.code) before) p.office.code ≡ false → code_digits p.office.code ≡ Some p.office.digits
    → may_have_code (map (λ o. o.code) before) p.office.code ≡ true
may_code before p few none known =
    let short = length_codes before in
    let room : nat_lt (length (map (λ o. o.code) before)) most_offices ≡ true = grind (arith, nat_tests) in
    rw (room, none, known) refl

length_snoc : (before : List OfficeCount) (o : OfficeCount) → length (before ++ o ∷ []) ≡ suc (length before)
length_snoc [] o = refl
length_snoc (b ∷ before) o = ap suc (length_snoc before o)

offices_spelled : (t : TablesData) (bags : List (List Choice)) (came first : ℕ) (before : List OfficeCount) (panels : List Panel)
    → All IsParty t.parties → Rises (map (λ q. q.number) t.parties) → came ≤ most_voters
    → ((k : ℕ) (p : Panel) → slice_get panels k ≡ Some p → Fits t bags came (first + k) p)
    → length before + length panels ≤ most_offices → Without before panels → Differ panels
    → EachAfter (MayCount came) before (counts_of_panels t bags first panels)
offices_spelled t bags came first before [] parties rise few fits room new apart = tt
offices_spelled t bags came first before (p ∷ panels) parties rise few fits room new apart =
    let bag = bag_at bags first in
    let o = office_count t p bag in
    let same : first + 0 ≡ first = omega arith in
    let here : Fits t bags came first p = subst (λ (n : ℕ). Fits t bags came n p) same (fits zero p refl) in
    let longer = length_snoc before o in (
      (may_code before p (omega arith) new.0 here.0.office.digits, office_spelled t bags came first p parties rise few here),
      offices_spelled t bags came (first + 1) (before ++ o ∷ []) panels parties rise few
          (λ k q there. let next : first + suc k ≡ first + 1 + k = omega arith in subst (λ (n : ℕ). Fits t bags came n q) next (fits (suc k) q there))
          (omega arith) (without_one before o panels new.1 apart.0) apart.1,
    )

-- ---- what the record owes

line_there : (t : TablesData) (k : ℕ) (p : Panel) → slice_get t.panels k ≡ Some p → slice_get (lines_by_panel t) k ≡ Some (line_for t k p)
line_there t k p e = by_panel_get t k ∙ ap (λ (o : Option Panel). option_map (line_for t k) o) e

bag_total : (n : ℕ) (bags : List (List Choice)) (panels : List Panel) (k : ℕ) (p : Panel) → map length bags ≡ map (λ places. n * places) (map places_in panels)
    → slice_get panels k ≡ Some p → length (bag_at bags k) ≡ n * places_in p
bag_total n bags [] k p full e = absurd (cc)
bag_total n [] (q ∷ panels) k p full e = absurd (cc)
bag_total n (bag ∷ bags) (q ∷ panels) zero p full e = cc
bag_total n (bag ∷ bags) (q ∷ panels) (suc k) p full e =
    let rest : map length bags ≡ map (λ places. n * places) (map places_in panels) = cc in bag_total n bags panels k p rest e

each_vote : (t : TablesData) (k : ℕ) (p : Panel) (bag : List Choice) → slice_get (lines_by_panel t) k ≡ Some (line_for t k p) → AllByRecursion (IsVote t k) bag
    → AllByRecursion (λ c. is_choice (line_for t k p) c ≡ true) bag
each_vote t k p [] line h = tt
each_vote t k p (c ∷ bag) line h = (subst (λ (o : Option BallotLine). IsSomeAnd o (λ l. is_choice l c ≡ true)) line h.0, each_vote t k p bag line h.1)

counts_spelled : (t : TablesData) (r : RdvData) (came : ℕ) → IsTables t → HasOnlyVotes t r → map length r.bags ≡ map (λ places. came * places) (places_of t) → came ≤ most_voters
    → EachAfter (MayCount came) [] (office_counts t r.bags)
unfolding office_counts
counts_spelled t r came tables votes full few =
    let numbers = map (λ q. q.number) t.parties in
    offices_spelled t r.bags came 0 [] t.panels tables.parties (rises numbers (AllPairs-from_increasing numbers tables.parties_rise)) few
    (λ k p there.
    let on : 0 + k ≡ k = omega arith in
    let at : slice_get (lines_by_panel t) k ≡ Some (line_for t k p) = line_there t k p there in
    subst (λ (n : ℕ). Fits t r.bags came n p) (sym on)
    (panel_there (IsPanel t.parties) t.panels k p tables.panels there, bag_total came r.bags t.panels k p full there, each_vote t k p (bag_at r.bags k) at (votes k)))
    (omega (arith, tables.panel_count.1)) (without_none t.panels) (differ t.panels tables.codes)
  where
    panel_there : (P : Panel → Type 0) (panels : List Panel) (k : ℕ) (p : Panel) → All P panels → slice_get panels k ≡ Some p → P p
    panel_there P [] k p all e = absurd (cc)
    panel_there P (q ∷ panels) zero p all e = let same : q ≡ p = cc in subst P same (All-head P q panels all)
    panel_there P (q ∷ panels) (suc k) p all e = panel_there P panels k p (All-tail P q panels all) e

-- ---- the section

between : (low high n : ℕ) → low ≤ n → n ≤ high → is_between low high n ≡ true
between low high n h k = grind (arith, nat_tests)

some_offices : (t : TablesData) (bags : List (List Choice)) → IsTables t → 0 < length (office_counts t bags)
unfolding office_counts
some_offices t bags tables = some t.panels tables.panel_count.0
  where
    some : (panels : List Panel) → 1 ≤ length panels → 0 < length (counts_of_panels t bags 0 panels)
    some [] h = absurd (omega arith)
    some (p ∷ panels) h = omega arith

pub report_spelled : (t : TablesData) (section : Section) (votes : RdvData) (came : List Bool) (opened closed : ℕ) → IsTables t
    → HasReport t section votes came opened closed → IsReport (report_of t section votes.bags came opened closed)
report_spelled t section votes came opened closed tables has =
    let of = All-contains IsSection t.sections section tables.sections has.section in
    let some_came = number_came-le-length came in
    record {
      process = between _ _ _ tables.process.0 tables.process.1;
      date = tables.date;
      turn = between _ _ _ tables.turn.0 tables.turn.1;
      zone = between _ _ _ of.zone.0 of.zone.1;
      section = between _ _ _ of.number.0 of.number.1;
      able = omega (arith, of.voters.1);
      came = omega (arith, has.voters);
      opened = has.opened;
      closed = has.closed;
      order = has.order;
      some = some_offices t votes.bags tables;
      offices = counts_spelled t votes (number_came came) tables has.votes has.totals (omega (arith, has.voters, of.voters.1));
    }
