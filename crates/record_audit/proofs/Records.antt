-- The record of a section and its report agree.
use Rattle.std.proofs.Common.{◌≡◌, ℕ, zero, suc, ◌+◌, ◌*◌, ◌<◌, ◌≤◌, Bool, true, false, List, [], ◌∷◌, ◌++◌, map, length, slice_get, Option, Some, None, option_map, unwrap_or, refl, sym, ap, ◌∙◌, subst, inl, inr, arith}
use Rattle.std.specs.Prelude.{◌==◌, ◌&&◌, nat_eq, nat_lt, IsSomeAnd, IsTrue}
use Rattle.std.specs.List.{All, AllByRecursion, concat, flat_map, list_any, zip}
use Rattle.std.proofs.Math.Nat.{mul-le-mul_left}
use Rattle.std.proofs.lemmas.Bool.{cases_Bool}
use Rattle.std.proofs.lemmas.Bool.Decides.{nat_tests}
use Rattle.std.proofs.lemmas.List.Elements.{All-contains, All-head, All-tail}
use Rattle.urna_base.specs.Moment.{is_between}
use Rattle.urna_base.proofs.Cases.{option_cases}
use Rattle.urna_base.proofs.DigitLaws.{both_from_and}
use Rattle.election_tables.specs.Fields.{has_digits}
use Rattle.election_tables.specs.Offices.{allows, code_proportional}
use Rattle.election_tables.specs.TablesData.{TablesData, IsCandidate, IsOffice, IsPanel, IsParty, IsSection, places_in}
use Rattle.election_tables.specs.declared.office.Kind.{Kind}
use Rattle.election_tables.specs.declared.office.Kind.TheVariants as kind
use Rattle.election_tables.specs.declared.tables.candidates.NamedCandidate.{NamedCandidate}
use Rattle.election_tables.specs.declared.tables.panels.Panel.{Panel}
use Rattle.election_tables.specs.declared.tables.parties.Party.{Party}
use Rattle.election_tables.specs.declared.tables.sections.Section.{Section}
use Rattle.election_tables.proofs.PlacesOfPanels.{may_have-few, office_may_have}
use Rattle.vote_kinds.specs.Ballot.{BallotLine, is_choice, is_proportional, line_for, lines_by_panel}
use Rattle.vote_kinds.proofs.Lookups.{by_panel_get}
use Rattle.vote_kinds.specs.declared.choice.Choice.{Choice}
use Rattle.vote_kinds.specs.declared.choice.Choice.TheVariants as choice
use Rattle.vote_record.specs.Bag.{IsInOrder, bag_at, count_of}
use Rattle.vote_record.specs.RdvData.{IsVote}
use Rattle.vote_record.specs.RecordText.{heading_words, panel_lines, record_lines, record_text}
use Rattle.poll_report.specs.Counted.{counts_of_panels, listed, office_count, office_counts, party_counts, report_of}
use Rattle.poll_report.specs.Report.{EachAfter, IsReport, MayCount, digits_in, may_have_code}
use Rattle.poll_report.specs.declared.report.OfficeCount.{OfficeCount}
use Rattle.poll_report.specs.declared.report.Report.{Report}
use Rattle.poll_report.proofs.Spelled.{report_spelled}
use Rattle.record_audit.specs.Finding.{codes_counted, difference, finding, first_differing, said_for, votes_for}
use Rattle.record_audit.specs.Laws.{SectionAgrees}
use Rattle.record_audit.specs.Record.{panel_record, section_record}
use Rattle.record_audit.specs.Spelling.{IsRecordOffice, MayStand, codes_in, may_vote, spelled_office, spelling}
use Rattle.record_audit.specs.declared.finding.Finding.TheVariants.{Agree}
use Rattle.record_audit.specs.declared.text.RecordOffice.{RecordOffice}
use Rattle.urna_base.proofs.WordLaws.{same_byte}
use Rattle.record_audit.proofs.Agreeing.{apart_not}
use Rattle.record_audit.proofs.Differences.{counted_has, first_difference}

-- ---- the votes of a number that are listed are those of the bag

listed_says : (choose : ℕ → Choice) (bag : List Choice) (number : ℕ) (ns : List ℕ) → (0 < count_of (choose number) bag → list_any (nat_eq number) ns ≡ true)
    → votes_for number (listed choose ns bag) ≡ count_of (choose number) bag
listed_says choose bag number [] there = none (count_of (choose number) bag) there
  where
    none : (n : ℕ) → (0 < n → false ≡ true) → 0 ≡ n
    none zero h = refl
    none (suc n) h = let no : false ≡ true = h (omega arith) in absurd (cc)
listed_says choose bag number (m ∷ ns) there = go (nat_lt 0 (count_of (choose m) bag)) refl (m == number) refl (listed_says choose bag number ns)
  where
    behind : (m == number) ≡ false → 0 < count_of (choose number) bag → list_any (nat_eq number) ns ≡ true
    behind other some =
        let found = there some in
        let no : nat_eq number m ≡ false = grind (arith, nat_tests) in
        rw no at found

    go : (b : Bool) → nat_lt 0 (count_of (choose m) bag) ≡ b → (p : Bool) → (m == number) ≡ p
        → ((0 < count_of (choose number) bag → list_any (nat_eq number) ns ≡ true) → votes_for number (listed choose ns bag) ≡ count_of (choose number) bag)
        → votes_for number (listed choose (m ∷ ns) bag) ≡ count_of (choose number) bag
    go true e true f rest =
        let same : m ≡ number = grind (arith, nat_tests) in
        rw (e, f) (ap (λ (n : ℕ). count_of (choose n) bag) same)
    go true e false f rest = rw (e, f) (rest (behind f))
    go false e true f rest =
        let same : m ≡ number = grind (arith, nat_tests) in
        let zero_of : count_of (choose m) bag ≡ 0 = grind (arith, nat_tests) in
        let none : count_of (choose number) bag ≡ 0 = ap (λ (n : ℕ). count_of (choose n) bag) (sym same) ∙ zero_of in
        rw e (rest (λ some. absurd (omega arith)))
    go false e false f rest = rw e (rest (behind f))

-- what is voted for is a choice
voted_is : (line : BallotLine) (bag : List Choice) (c : Choice) → AllByRecursion (λ d. is_choice line d ≡ true) bag → 0 < count_of c bag → is_choice line c ≡ true
voted_is line bag c all some = counted_has (λ d. is_choice line d ≡ true) bag c all some

-- no party is voted for in a majority office
no_votes : (line : BallotLine) (bag : List Choice) (n : ℕ) → AllByRecursion (λ d. is_choice line d ≡ true) bag → line.proportional ≡ false → 0 ≡ count_of (choice.Party n) bag
no_votes line bag n all other = at (count_of (choice.Party n) bag) (λ some. voted_is line bag (choice.Party n) all some)
  where
    at : (k : ℕ) → (0 < k → (line.proportional && list_any (nat_eq n) line.parties) ≡ true) → 0 ≡ k
    at zero h = refl
    at (suc k) h = let yes = (both_from_and line.proportional (list_any (nat_eq n) line.parties) (h (omega arith))).0 in absurd (cc)

parties_say : (t : TablesData) (number : ℕ) (p : Panel) (k : Kind) (bag : List Choice) (n : ℕ) → p.office.kind ≡ k → AllByRecursion (λ c. is_choice (line_for t number p) c ≡ true) bag
    → votes_for n (party_counts k t bag) ≡ count_of (choice.Party n) bag
parties_say t number p kind.Proportional bag n e all =
    listed_says (λ m. choice.Party m) bag n (map (λ q. q.number) t.parties)
    (λ some. (both_from_and (is_proportional p.office.kind) (list_any (nat_eq n) (map (λ q. q.number) t.parties)) (voted_is (line_for t number p) bag (choice.Party n) all some)).1)
parties_say t number p kind.Absolute bag n e all = no_votes (line_for t number p) bag n all (ap is_proportional e)
parties_say t number p kind.Simple bag n e all = no_votes (line_for t number p) bag n all (ap is_proportional e)

-- the report says of each choice how many of the bag are it
count_says : (t : TablesData) (number : ℕ) (p : Panel) (bag : List Choice) → AllByRecursion (λ c. is_choice (line_for t number p) c ≡ true) bag
    → (c : Choice) → count_of c bag ≡ said_for (office_count t p bag) c
count_says t number p bag all (choice.Nominal n) =
    sym (listed_says (λ m. choice.Nominal m) bag n (map (λ c. c.number) p.candidates) (λ some. voted_is (line_for t number p) bag (choice.Nominal n) all some))
count_says t number p bag all (choice.Party n) = sym (parties_say t number p p.office.kind bag n refl all)
count_says t number p bag all choice.Blank = refl
count_says t number p bag all choice.Null = refl

no_difference_in : (t : TablesData) (number : ℕ) (p : Panel) (bag : List Choice) → AllByRecursion (λ c. is_choice (line_for t number p) c ≡ true) bag
    → difference bag (office_count t p bag) ≡ None
no_difference_in t number p bag all = elim (option_cases (difference bag (office_count t p bag))) [
  | inl none ↦ none
  | inr some ↦ absurd ((first_difference bag (office_count t p bag) some.0 some.1).here (count_says t number p bag all some.0))
]

-- ---- a vote of a panel may be one of its office

candidate_has : (digits : ℕ) (parties : List Party) (cs : List NamedCandidate) (n : ℕ) → All (IsCandidate digits parties) cs → list_any (nat_eq n) (map (λ c. c.number) cs) ≡ true
    → has_digits digits n ≡ true
candidate_has digits parties [] n all h = absurd (cc)
candidate_has digits parties (c ∷ cs) n all h = elim (cases_Bool (nat_eq n c.number)) [
  | inl t ↦
      let same : n ≡ c.number = grind (arith, nat_tests) in
      subst (λ (m : ℕ). has_digits digits m ≡ true) (sym same) (All-head (IsCandidate digits parties) c cs all).number
  | inr f ↦ candidate_has digits parties cs n (All-tail (IsCandidate digits parties) c cs all) (rw f at h)
]

party_has : (ps : List Party) (n : ℕ) → All IsParty ps → list_any (nat_eq n) (map (λ q. q.number) ps) ≡ true → is_between 10 99 n ≡ true
party_has [] n all h = absurd (cc)
party_has (q ∷ ps) n all h = elim (cases_Bool (nat_eq n q.number)) [
  | inl t ↦
      let same : n ≡ q.number = grind (arith, nat_tests) in
      let low = (All-head IsParty q ps all).number.0 in
      let high = (All-head IsParty q ps all).number.1 in
      grind (arith, nat_tests)
  | inr f ↦ party_has ps n (All-tail IsParty q ps all) (rw f at h)
]

by_code : (k : Kind) (code : ℕ) → IsTrue (allows code k) → is_proportional k ≡ true → code_proportional code ≡ true
by_code kind.Proportional code h e = h
by_code kind.Absolute code h e = absurd (cc)
by_code kind.Simple code h e = absurd (cc)

vote_may : (t : TablesData) (number : ℕ) (p : Panel) (c : Choice) → All IsParty t.parties → IsPanel t.parties p → is_choice (line_for t number p) c ≡ true → may_vote p.office.code c ≡ true
vote_may t number p (choice.Nominal n) parties panel h =
    let digits : digits_in p.office.code ≡ p.office.digits = ap (λ (o : Option ℕ). unwrap_or o 0) panel.office.digits in
    subst (λ (d : ℕ). has_digits d n ≡ true) (sym digits) (candidate_has p.office.digits t.parties p.candidates n panel.candidates h)
vote_may t number p (choice.Party n) parties panel h =
    let both = both_from_and (is_proportional p.office.kind) (list_any (nat_eq n) (map (λ q. q.number) t.parties)) h in
    both_are (code_proportional p.office.code) (is_between 10 99 n) (by_code p.office.kind p.office.code panel.office.kind both.0) (party_has t.parties n parties both.1)
  where
    both_are : (a b : Bool) → a ≡ true → b ≡ true → (a && b) ≡ true
    both_are a b x y = rw (x, y) refl
vote_may t number p choice.Blank parties panel h = refl
vote_may t number p choice.Null parties panel h = refl

votes_may : (t : TablesData) (number : ℕ) (p : Panel) (bag : List Choice) → All IsParty t.parties → IsPanel t.parties p → AllByRecursion (λ c. is_choice (line_for t number p) c ≡ true) bag
    → AllByRecursion (λ c. may_vote p.office.code c ≡ true) bag
votes_may t number p [] parties panel h = tt
votes_may t number p (c ∷ bag) parties panel h = (vote_may t number p c parties panel h.0, votes_may t number p bag parties panel h.1)

-- ---- all panels

-- what the tables and the record owe of a panel and its bag
record Fits (t : TablesData) (number : ℕ) (p : Panel) (bag : List Choice) : Type 0 where
  pub panel : IsPanel t.parties p
  pub few : length bag ≤ 1200
  pub votes : AllByRecursion (λ c. is_choice (line_for t number p) c ≡ true) bag
  pub in_order : IsInOrder bag

-- of these panels, the first of which has this number, with these bags
abbrev AllFit : TablesData → ℕ → List Panel → List (List Choice) → Type 0
AllFit t first [] bags = Unit {0}
AllFit t first (p ∷ panels) [] = ⊥
AllFit t first (p ∷ panels) (bag ∷ bags) = Fits t first p bag × AllFit t (first + 1) panels bags

-- these bags stand in all from this number on
abbrev StandFrom : List (List Choice) → ℕ → List (List Choice) → Type 0
StandFrom all first bags = (k : ℕ) → bag_at all (first + k) ≡ bag_at bags k

first_stands : (all : List (List Choice)) (first : ℕ) (bag : List Choice) (bags : List (List Choice)) → StandFrom all first (bag ∷ bags) → bag_at all first ≡ bag
first_stands all first bag bags h = let same : first ≡ first + 0 = omega arith in ap (bag_at all) same ∙ h 0

others_stand : (all : List (List Choice)) (first : ℕ) (bag : List Choice) (bags : List (List Choice)) → StandFrom all first (bag ∷ bags) → StandFrom all (first + 1) bags
others_stand all first bag bags h k = let same : first + 1 + k ≡ first + suc k = omega arith in ap (bag_at all) same ∙ h (suc k)

same_codes : (t : TablesData) (all : List (List Choice)) (first : ℕ) (panels : List Panel) (bags : List (List Choice)) → AllFit t first panels bags
    → codes_in (map panel_record (zip panels bags)) ≡ codes_counted (counts_of_panels t all first panels)
same_codes t all first [] bags h = refl
same_codes t all first (p ∷ panels) [] h = absurd h
same_codes t all first (p ∷ panels) (bag ∷ bags) h = ap (λ (l : List ℕ). p.office.code ∷ l) (same_codes t all (first + 1) panels bags h.1)

panels_agree : (t : TablesData) (all : List (List Choice)) (first : ℕ) (panels : List Panel) (bags : List (List Choice)) → AllFit t first panels bags → StandFrom all first bags
    → first_differing first (map panel_record (zip panels bags)) (counts_of_panels t all first panels) ≡ Agree
panels_agree t all first [] bags h stand = refl
panels_agree t all first (p ∷ panels) [] h stand = absurd h
panels_agree t all first (p ∷ panels) (bag ∷ bags) h stand =
    let same = first_stands all first bag bags stand in
    let none : difference bag (office_count t p (bag_at all first)) ≡ None = ap (λ (b : List Choice). difference bag (office_count t p b)) same ∙ no_difference_in t first p bag h.0.votes in
    rw none (panels_agree t all (first + 1) panels bags h.1 (others_stand all first bag bags stand))

records_of : (t : TablesData) (first : ℕ) (panels : List Panel) (bags : List (List Choice)) → All IsParty t.parties → AllFit t first panels bags
    → AllByRecursion IsRecordOffice (map panel_record (zip panels bags))
records_of t first [] bags parties h = tt
records_of t first (p ∷ panels) [] parties h = absurd h
records_of t first (p ∷ panels) (bag ∷ bags) parties h =
    (record { few = h.0.few; votes = votes_may t first p bag parties h.0.panel h.0.votes; in_order = h.0.in_order }, records_of t (first + 1) panels bags parties h.1)

codes_more : (before : List RecordOffice) (o : RecordOffice) → codes_in (before ++ o ∷ []) ≡ codes_in before ++ o.code ∷ []
codes_more [] o = refl
codes_more (b ∷ before) o = ap (λ (l : List ℕ). b.code ∷ l) (codes_more before o)

counted_more : (before : List OfficeCount) (c : OfficeCount) → codes_counted (before ++ c ∷ []) ≡ codes_counted before ++ c.code ∷ []
counted_more [] c = refl
counted_more (b ∷ before) c = ap (λ (l : List ℕ). b.code ∷ l) (counted_more before c)

may_stand : (came : ℕ) (mine : List RecordOffice) (theirs : List OfficeCount) (offices : List RecordOffice) (counts : List OfficeCount) → codes_in mine ≡ codes_counted theirs
    → codes_in offices ≡ codes_counted counts → AllByRecursion IsRecordOffice offices → EachAfter (MayCount came) theirs counts → EachAfter MayStand mine offices
may_stand came mine theirs [] counts e f is may = tt
may_stand came mine theirs (o ∷ offices) [] e f is may = absurd (cc)
may_stand came mine theirs (o ∷ offices) (c ∷ counts) e f is may =
    let code : o.code ≡ c.code = cc in
    let rest : codes_in offices ≡ codes_counted counts = cc in
    let here : may_have_code (codes_in mine) o.code ≡ true = ap (λ (l : List ℕ). may_have_code l o.code) e ∙ (ap (λ (n : ℕ). may_have_code (codes_counted theirs) n) code ∙ may.0.0) in
    let next : codes_in (mine ++ o ∷ []) ≡ codes_counted (theirs ++ c ∷ []) = codes_more mine o
    ∙ (ap (λ (l : List ℕ). l ++ o.code ∷ []) e ∙ (ap (λ (n : ℕ). codes_counted theirs ++ n ∷ []) code ∙ sym (counted_more theirs c))) in
    ((here, is.0), may_stand came (mine ++ o ∷ []) (theirs ++ c ∷ []) offices counts next rest is.1 may.1)

-- ---- what the record owes

-- 600 voters with at most two votes each have at most 1,200
bag_members : (n : ℕ) (p : Panel) (bag : List Choice) → IsOffice p.office → length bag ≡ n * places_in p → n ≤ 600 → length bag ≤ 1200
bag_members n p bag office full few =
    let two : n * places_in p ≤ n * 2 = mul-le-mul_left n (may_have-few p.office.code (places_in p) (office_may_have p.office office)).1 in
    omega (arith, full, two, few)

bag_few : (n : ℕ) (bags : List (List Choice)) (panels : List Panel) → map length bags ≡ map (λ places. n * places) (map places_in panels) → n ≤ 600
    → (t : TablesData) (first : ℕ) → All (IsPanel t.parties) panels → AllByRecursion IsInOrder bags
    → ((k : ℕ) (p : Panel) → slice_get panels k ≡ Some p → AllByRecursion (λ c. is_choice (line_for t (first + k) p) c ≡ true) (bag_at bags k))
    → AllFit t first panels bags
bag_few n bags [] full few t first panels order votes = tt
bag_few n [] (p ∷ panels) full few t first all order votes = absurd (cc)
bag_few n (bag ∷ bags) (p ∷ panels) full few t first all order votes =
    let here : length bag ≡ n * places_in p = cc in
    let rest : map length bags ≡ map (λ places. n * places) (map places_in panels) = cc in
    let same : first + 0 ≡ first = omega arith in (
      record {
        panel = All-head (IsPanel t.parties) p panels all;
        few = bag_members n p bag (All-head (IsPanel t.parties) p panels all).office here few;
        votes = subst (λ (m : ℕ). AllByRecursion (λ c. is_choice (line_for t m p) c ≡ true) bag) same (votes zero p refl);
        in_order = order.0;
      },
      bag_few n bags panels rest few t (first + 1) (All-tail (IsPanel t.parties) p panels all) order.1
          (λ k q there. let next : first + suc k ≡ first + 1 + k = omega arith in
          subst (λ (m : ℕ). AllByRecursion (λ c. is_choice (line_for t m q) c ≡ true) (bag_at bags k)) next (votes (suc k) q there)),
    )

-- the votes of a panel are choices of its line
votes_there : (t : TablesData) (k : ℕ) (p : Panel) (bag : List Choice) → slice_get t.panels k ≡ Some p → AllByRecursion (IsVote t k) bag
    → AllByRecursion (λ c. is_choice (line_for t k p) c ≡ true) bag
votes_there t k p [] there h = tt
votes_there t k p (c ∷ bag) there h =
    let line : slice_get (lines_by_panel t) k ≡ Some (line_for t k p) = by_panel_get t k ∙ ap (λ (o : Option Panel). option_map (line_for t k) o) there in
    (subst (λ (o : Option BallotLine). IsSomeAnd o (λ l. is_choice l c ≡ true)) line h.0, votes_there t k p bag there h.1)

-- ---- the text

same_lines : (panels : List Panel) (bags : List (List Choice)) → flat_map panel_lines (zip panels bags) ≡ flat_map spelled_office (map panel_record (zip panels bags))
same_lines [] bags = refl
same_lines (p ∷ panels) [] = refl
same_lines (p ∷ panels) (bag ∷ bags) = ap (λ (l : List (List ℕ)). panel_lines (p, bag) ++ l) (same_lines panels bags)

text_spelled : (t : TablesData) (s : Section) (bags : List (List Choice)) → record_text t s bags ≡ spelling (section_record t s bags)
unfolding record_text
text_spelled t s bags =
    ap (λ (l : List (List ℕ)). concat (record_lines (heading_words t.process t.date t.turn s.zone s.number) l)) (same_lines t.panels bags)

-- ---- the law

pub section_agrees : SectionAgrees
unfolding office_counts finding
section_agrees t section votes came opened closed tables has order =
    let report : Report = report_of t section votes.bags came opened closed in
    let is : IsReport report = report_spelled t section votes came opened closed tables has in
    let of = All-contains IsSection t.sections section tables.sections has.section in
    let fit : AllFit t 0 t.panels votes.bags = bag_few report.came votes.bags t.panels has.totals (omega (arith, is.came, of.voters.1)) t 0 tables.panels order
    (λ k p there. let on : 0 + k ≡ k = omega arith in
    subst (λ (m : ℕ). AllByRecursion (λ c. is_choice (line_for t m p) c ≡ true) (bag_at votes.bags k)) (sym on)
    (votes_there t k p (bag_at votes.bags k) there (has.votes k))) in
    let codes_same = same_codes t votes.bags 0 t.panels votes.bags fit in
    let stand : StandFrom votes.bags 0 votes.bags = λ k. let on : 0 + k ≡ k = omega arith in ap (bag_at votes.bags) on in
    let agree = panels_agree t votes.bags 0 t.panels votes.bags fit stand in
    let offices = map panel_record (zip t.panels votes.bags) in (
      record {
        record_is = record {
          heading = record { process = is.process; date = is.date; turn = is.turn; zone = is.zone; section = is.section };
          some = some_offices offices (counts_of_panels t votes.bags 0 t.panels) codes_same is.some;
          offices = may_stand report.came [] [] offices (counts_of_panels t votes.bags 0 t.panels) refl codes_same (records_of t 0 t.panels votes.bags tables.parties fit) is.offices;
        };
        same = text_spelled t section votes.bags;
      },
      rw (same_byte t.process, same_byte t.date, same_byte t.turn, same_byte section.zone, same_byte section.number, apart_not 1 (codes_in offices) (codes_counted (counts_of_panels t votes.bags 0 t.panels)) codes_same) agree,
    )
  where
    some_offices : (offices : List RecordOffice) (counts : List OfficeCount) → codes_in offices ≡ codes_counted counts → 0 < length counts → 0 < length offices
    some_offices [] [] e h = absurd (omega arith)
    some_offices [] (c ∷ counts) e h = absurd (cc)
    some_offices (o ∷ offices) counts e h = omega arith
