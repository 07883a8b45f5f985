-- The tables of a document that keeps its rules have what callers rely on.
use Rattle.std.proofs.Common.{◌≡◌, ◌≢◌, ℕ, ℤ, pos, ◌≤◌, ◌==◌, Bool, true, false, ◌&&◌, ◌||◌, List, [], ◌∷◌, ◌++◌, length, map, get_or, nat_le, Some, IsPermutation, nat_cmp, refl, ap, sym, ◌∙◌, subst, arith}
use Rattle.std.specs.List.{All, AllPairs, count_by, list_all, list_any}
use Rattle.std.proofs.lemmas.List.Sums.{count_by-le-length, length-filter}
use Rattle.std.specs.List.Sorted.{IsPermutation}
use Rattle.std.specs.Ordering.{int_eq, eq_by_cmp}
use Rattle.std.proofs.lemmas.Bool.{and_parts, leb-true, eq-eqb, false≢true}
use Rattle.std.proofs.lemmas.Bool.Decides.{Decides-int_eq}
use Rattle.std.proofs.lemmas.List.{get_or-map, length-map, map-append}
use Rattle.std.proofs.lemmas.List.Folds.{list_all-map}
use Rattle.std.proofs.lemmas.List.Elements.{All-filter, All-same, All-weaker}
use Rattle.std.proofs.lemmas.List.Sorted.{All-permutation, length_permutation, list_any-IsPermutation}
use Rattle.std.proofs.lemmas.Map.Keys.{apart_from_distinct}
use Rattle.urna_base.specs.Moment.{is_date}
use Rattle.election_tables.specs.declared.document.OfficeEntry.{OfficeEntry}
use Rattle.election_tables.specs.declared.document.PartyEntry.{PartyEntry}
use Rattle.election_tables.specs.declared.document.CandidateEntry.{CandidateEntry}
use Rattle.election_tables.specs.declared.document.FederationEntry.{FederationEntry}
use Rattle.election_tables.specs.declared.tables.candidates.NamedCandidate.{NamedCandidate}
use Rattle.election_tables.specs.declared.tables.parties.Party.{Party}
use Rattle.election_tables.specs.declared.tables.sections.Section.{Section}
use Rattle.election_tables.specs.declared.tables.panels.Panel.{Panel}
use Rattle.election_tables.specs.declared.tables.federations.Federation.{Federation}
use Rattle.election_tables.specs.DocumentData.{DocumentData}
use Rattle.election_tables.specs.Fields.{is_within, is_valid_date, is_name, has_digits, first_two}
use Rattle.election_tables.specs.Limits.{most_candidates, fewest_members, most_members, most_voters, greatest_section, greatest_process}
use Rattle.election_tables.specs.Offices.{code_digits, most_seats}
use Rattle.election_tables.specs.Rules.{are_distinct, kind_fits, seats_in_range, section_in_range, has_office, has_party, all_members, members_in_range}
use Rattle.election_tables.specs.Tables.{AreTablesOf, IsPanelOf, candidates_of, entry_of_candidate, entry_of_federation, entry_of_office, entry_of_party, entry_of_section}
use Rattle.election_tables.specs.TablesData.{TablesData, IsCandidate, IsFederation, IsPanel, IsParty, IsSection, IsTables, members_of}
use Rattle.election_tables.proofs.Distinct.{IsDistinct-from_test}
use Rattle.election_tables.proofs.FewCandidates.{candidates_together}
use Rattle.election_tables.proofs.Keys.{int_eq_by_cmp, nat_eq_by_cmp}
use Rattle.election_tables.proofs.Kept as kept
use Rattle.election_tables.proofs.Kept.{Kept, all_true}
use Rattle.election_tables.proofs.Rising.{same_distinct}

-- a number in a range
within : (low high n : ℕ) → is_within low high (pos n) ≡ true → (low ≤ n) × (n ≤ high)
within low high n h =
    let (least, most) = and_parts (nat_le low n) (nat_le n high) h in
    (leb-true low n least, leb-true n high most)

within_same : (low high n : ℕ) (z : ℤ) → pos n ≡ z → is_within low high z ≡ true → (low ≤ n) × (n ≤ high)
within_same low high n z same h =
    let P : ℤ → Type 0 = λ y. is_within low high y ≡ true in
    within low high n (subst P (sym same) h)

-- ---- parties

party_from : (q : Party) → is_within 10 99 (entry_of_party q).number ≡ true → is_name (entry_of_party q).name ≡ true → IsParty q
party_from q number name = record { number = within 10 99 q.number number; name = name }

-- what is so of each entry of the document is so of each part of the tables
parts_at : {E X : Type 0} (P : E → Type 0) (entry : X → E) (xs : List X) → All P (map entry xs) → All (λ x. P (entry x)) xs
parts_at P entry xs all k d h =
    let same_length : length (map entry xs) ≡ length xs = length-map xs entry in
    let at = all k (entry d) (omega arith) in
    let here : get_or (map entry xs) k (entry d) ≡ entry (get_or xs k d) = get_or-map entry xs k d (entry d) h in
    subst P here at

parts_are : {E X : Type 0} (P : E → Type 0) (entries : List E) (entry : X → E) (xs : List X) → IsPermutation entries (map entry xs) → All P entries
    → All (λ x. P (entry x)) xs
parts_are P entries entry xs moved all = parts_at P entry xs (All-permutation P entries (map entry xs) moved all)

-- ---- candidates

any_party : (n : ℕ) (parties : List Party) → list_any (λ p. int_eq p.number (pos n)) (map entry_of_party parties) ≡ list_any (λ q. q.number == n) parties
any_party n [] = refl
any_party n (q ∷ qs) =
    ap (λ x. x || list_any (λ p. int_eq p.number (pos n)) (map entry_of_party qs)) (int_eq_by_cmp q.number n ∙ sym (nat_eq_by_cmp q.number n))
    ∙ ap (λ r. (q.number == n) || r) (any_party n qs)

-- a party of the document is one of the tables
party_there : (entries : List PartyEntry) (parties : List Party) → IsPermutation entries (map entry_of_party parties) → (n : ℕ)
    → list_any (λ p. int_eq p.number (pos n)) entries ≡ true → list_any (λ q. q.number == n) parties ≡ true
party_there entries parties moved n there =
    sym (any_party n parties) ∙ sym (list_any-IsPermutation (λ (p : PartyEntry). int_eq p.number (pos n)) entries (map entry_of_party parties) moved) ∙ there

candidate_from : (offices : List OfficeEntry) (entries : List PartyEntry) (parties : List Party) (code digits : ℕ) (c : NamedCandidate)
    → code_digits code ≡ Some digits → IsPermutation entries (map entry_of_party parties)
    → has_office offices (entry_of_candidate code c) ≡ true → has_party entries (entry_of_candidate code c) ≡ true
    → is_valid_date (entry_of_candidate code c).birth ≡ true → is_name (entry_of_candidate code c).name ≡ true → IsCandidate digits parties c
candidate_from offices entries parties code digits c known moved office party birth name =
    let (_, right) = and_parts (list_any (λ o. int_eq o.code (pos code)) offices) _ office in
    let number : has_digits digits c.number ≡ true = rw known at right in
    let there : list_any (λ p. int_eq p.number (pos (first_two digits c.number))) entries ≡ true = rw known at party in
    record {
      number = number;
      party = party_there entries parties moved (first_two digits c.number) there;
      birth = birth;
      name = name;
    }

candidates_from : (d : DocumentData) (parties : List Party) (p : Panel) → Kept d → IsPermutation d.parties (map entry_of_party parties) → IsPanelOf d.candidates p
    → All (IsCandidate p.office.digits parties) p.candidates
candidates_from d parties p k moved of i e h =
    let code = p.office.code in
    let mine = λ (x : CandidateEntry). int_eq x.office (pos code) in
    let entries : List CandidateEntry = candidates_of code d.candidates in
    candidate_from d.offices d.parties parties code p.office.digits (get_or p.candidates i e) of.digits moved
    (parts_are (λ x. has_office d.offices x ≡ true) entries (entry_of_candidate code) p.candidates of.candidates
    (All-filter mine (λ x. has_office d.offices x ≡ true) d.candidates (all_true (has_office d.offices) d.candidates k.have_office)) i e h)
    (parts_are (λ x. has_party d.parties x ≡ true) entries (entry_of_candidate code) p.candidates of.candidates
    (All-filter mine (λ x. has_party d.parties x ≡ true) d.candidates (all_true (has_party d.parties) d.candidates k.have_party)) i e h)
    (parts_are (λ x. is_valid_date x.birth ≡ true) entries (entry_of_candidate code) p.candidates of.candidates
    (All-filter mine (λ x. is_valid_date x.birth ≡ true) d.candidates (all_true (λ x. is_valid_date x.birth) d.candidates k.births)) i e h)
    (parts_are (λ x. is_name x.name ≡ true) entries (entry_of_candidate code) p.candidates of.candidates
    (All-filter mine (λ x. is_name x.name ≡ true) d.candidates (all_true (λ x. is_name x.name) d.candidates (kept.candidate_names d k))) i e h)

count_from : (d : DocumentData) (p : Panel) → Kept d → IsPanelOf d.candidates p → length p.candidates ≤ most_candidates
count_from d p k of =
    let code = p.office.code in
    let mine = λ (x : CandidateEntry). int_eq x.office (pos code) in
    let few = kept.candidates_few d k in
    let all_length : length (map (entry_of_candidate code) p.candidates) ≡ length p.candidates = length-map p.candidates (entry_of_candidate code) in
    let moved_length : length (map (entry_of_candidate code) p.candidates) ≡ length (candidates_of code d.candidates) = length_permutation (candidates_of code d.candidates) _ of.candidates in
    let picked : length (candidates_of code d.candidates) ≡ count_by mine d.candidates = length-filter mine d.candidates in
    let least : count_by mine d.candidates ≤ length d.candidates = count_by-le-length mine d.candidates in
    omega arith

panel_from : (d : DocumentData) (parties : List Party) (p : Panel) → Kept d → IsPermutation d.parties (map entry_of_party parties) → IsPanelOf d.candidates p
    → kind_fits (entry_of_office p.office).code (entry_of_office p.office).kind ≡ true → seats_in_range (entry_of_office p.office) ≡ true → IsPanel parties p
panel_from d parties p k moved of kind seats = record {
  office = record { digits = of.digits; kind = kind; seats = within 1 (most_seats p.office.code) p.office.seats seats };
  candidates = candidates_from d parties p k moved of;
  rise = of.rise;
  count = count_from d p k of;
}

-- ---- sections

section_from : (s : Section) → section_in_range (entry_of_section s) ≡ true → IsSection s
section_from s h =
    let (zone, rest) = and_parts (is_within 1 greatest_section (pos s.zone)) (is_within 1 greatest_section (pos s.number) && is_within 1 most_voters (pos s.voters)) h in
    let (number, voters) = and_parts (is_within 1 greatest_section (pos s.number)) (is_within 1 most_voters (pos s.voters)) rest in
    record { zone = within 1 greatest_section s.zone zone; number = within 1 greatest_section s.number number; voters = within 1 most_voters s.voters voters }

-- ---- federations

federation_from : (entries : List PartyEntry) (parties : List Party) (f : Federation) → IsPermutation entries (map entry_of_party parties)
    → is_name (entry_of_federation f).name ≡ true → members_in_range (entry_of_federation f) ≡ true
    → list_all (λ n. list_any (λ p. int_eq p.number n) entries) (entry_of_federation f).parties ≡ true → IsFederation parties f
federation_from entries parties f moved name count members =
    let there = λ (n : ℤ). list_any (λ p. int_eq p.number n) entries in
    let (least, most) = and_parts (nat_le fewest_members (length (map pos f.parties))) (nat_le (length (map pos f.parties)) most_members) count in
    let low = leb-true fewest_members (length (map pos f.parties)) least in
    let high = leb-true (length (map pos f.parties)) most_members most in
    let size : length (map pos f.parties) ≡ length f.parties = length-map f.parties pos in
    let all : All (λ n. there (pos n) ≡ true) f.parties = all_true (λ n. there (pos n)) f.parties (sym (list_all-map there pos f.parties) ∙ members) in
    record {
      name = name;
      count = (omega (arith, low, size), omega (arith, high, size));
      members = All-weaker (λ n. there (pos n) ≡ true) (λ n. list_any (λ q. q.number == n) parties ≡ true) (party_there entries parties moved) f.parties all;
    }

member_numbers : (fs : List Federation) → all_members (map entry_of_federation fs) ≡ map pos (members_of fs)
member_numbers [] = refl
member_numbers (f ∷ fs) = ap (λ (ns : List ℤ). map pos f.parties ++ ns) (member_numbers fs) ∙ sym (map-append pos f.parties (members_of fs))

members_differ : (fs : List Federation) → are_distinct int_eq (all_members (map entry_of_federation fs)) ≡ true → AllPairs (λ a b. a ≢ b) (members_of fs)
members_differ fs distinct i j e before h equal =
    let ns : List ℕ = members_of fs in
    let size : length (map pos ns) ≡ length ns = length-map ns pos in
    let apart : int_eq (get_or (map pos ns) i (pos e)) (get_or (map pos ns) j (pos e)) ≡ false =
    apart_from_distinct int_eq (map pos ns) i j (pos e) (IsDistinct-from_test int_eq (map pos ns) (ap (are_distinct int_eq) (sym (member_numbers fs)) ∙ distinct)) before (omega arith) in
    let first : get_or (map pos ns) i (pos e) ≡ pos (get_or ns i e) = get_or-map pos ns i e (pos e) (omega arith) in
    let second : get_or (map pos ns) j (pos e) ≡ pos (get_or ns j e) = get_or-map pos ns j e (pos e) h in
    false≢true (sym apart ∙ (Decides-int_eq (get_or (map pos ns) i (pos e)) (get_or (map pos ns) j (pos e))).1 (first ∙ ap pos equal ∙ sym second))

-- ---- the whole

valid_date : (n : ℕ) (z : ℤ) → pos n ≡ z → is_valid_date z ≡ true → is_date n ≡ true
valid_date n z same h =
    let P : ℤ → Type 0 = λ y. is_valid_date y ≡ true in
    subst P (sym same) h

office_codes_differ : (d : DocumentData) (panels : List Panel) → map (λ p. entry_of_office p.office) panels ≡ d.offices
    → are_distinct int_eq (map (λ o. o.code) d.offices) ≡ true → AllPairs (λ p q. p.office.code ≢ q.office.code) panels
office_codes_differ d panels same distinct i j e before h equal =
    let codes : List ℕ = map (λ p. p.office.code) panels in
    let differ : are_distinct (eq_by_cmp nat_cmp) codes ≡ true =
    sym (same_distinct int_eq (λ o. o.code) (λ (p : Panel). entry_of_office p.office) (λ p. p.office.code) nat_cmp (λ x y. int_eq_by_cmp x.office.code y.office.code) panels)
    ∙ ap (λ (os : List OfficeEntry). are_distinct int_eq (map (λ o. o.code) os)) same ∙ distinct in
    let size : length codes ≡ length panels = length-map panels (λ p. p.office.code) in
    let apart : eq_by_cmp nat_cmp (get_or codes i e.office.code) (get_or codes j e.office.code) ≡ false =
    apart_from_distinct (eq_by_cmp nat_cmp) codes i j e.office.code (IsDistinct-from_test (eq_by_cmp nat_cmp) codes differ) before (omega arith) in
    let first : get_or codes i e.office.code ≡ (get_or panels i e).office.code = get_or-map (λ (p : Panel). p.office.code) panels i e e.office.code (omega arith) in
    let second : get_or codes j e.office.code ≡ (get_or panels j e).office.code = get_or-map (λ (p : Panel). p.office.code) panels j e e.office.code h in
    let here : eq_by_cmp nat_cmp (get_or panels i e).office.code (get_or panels j e).office.code ≡ false =
    ap (λ x. eq_by_cmp nat_cmp x (get_or panels j e).office.code) (sym first) ∙ ap (λ y. eq_by_cmp nat_cmp (get_or codes i e.office.code) y) (sym second) ∙ apart in
    false≢true (sym here ∙ sym (nat_eq_by_cmp (get_or panels i e).office.code (get_or panels j e).office.code) ∙ eq-eqb _ _ equal)

pub tables_valid : (d : DocumentData) (t : TablesData) → Kept d → AreTablesOf d t → length t.digest ≡ 32 → IsTables t
tables_valid d t k are size =
    let offices_length : length t.panels ≡ length d.offices = sym (length-map t.panels (λ p. entry_of_office p.office)) ∙ ap length are.offices in
    let parties_length : length t.parties ≡ length d.parties = sym (length-map t.parties entry_of_party) ∙ length_permutation _ _ are.parties in
    let sections_length : length t.sections ≡ length d.sections = sym (length-map t.sections entry_of_section) ∙ length_permutation _ _ are.sections in
    let few_offices = kept.offices_few d k in
    let few_parties = kept.parties_few d k in
    let few_sections = kept.sections_few d k in
    let few_candidates = kept.candidates_few d k in
    let federations_length : length t.federations ≡ length d.federations = sym (length-map t.federations entry_of_federation) ∙ ap length are.federations in
    let few_federations = kept.federations_few d k in
    let each_federation : (test : FederationEntry → Bool) → list_all test d.federations ≡ true → All (λ f. test (entry_of_federation f) ≡ true) t.federations =
    λ test h. parts_at (λ e. test e ≡ true) entry_of_federation t.federations (All-same (λ e. test e ≡ true) _ d.federations are.federations (all_true test d.federations h)) in
    let together = candidates_together d.offices d.candidates t.panels are.offices (kept.codes_differ d k) are.panels in
    record {
      process = within_same 1 greatest_process t.process d.process are.process (kept.process_in_range d k);
      date = valid_date t.date d.date are.date (kept.date_is_valid d k);
      turn = within_same 1 2 t.turn d.turn are.turn (kept.turn_in_range d k);
      panel_count = (omega arith, omega arith);
      panels = (λ i p h. panel_from d t.parties (get_or t.panels i p) k are.parties (are.panels i p h)
          (parts_at (λ o. kind_fits o.code o.kind ≡ true) (λ (x : Panel). entry_of_office x.office) t.panels
          (All-same (λ o. kind_fits o.code o.kind ≡ true) _ d.offices are.offices (all_true (λ o. kind_fits o.code o.kind) d.offices k.kinds)) i p h)
          (parts_at (λ o. seats_in_range o ≡ true) (λ (x : Panel). entry_of_office x.office) t.panels
          (All-same (λ o. seats_in_range o ≡ true) _ d.offices are.offices (all_true seats_in_range d.offices k.seats)) i p h));
      candidate_count = omega arith;
      codes = office_codes_differ d t.panels are.offices (kept.codes_differ d k);
      party_count = (omega arith, omega arith);
      parties = (λ i q h. party_from (get_or t.parties i q)
          (parts_are (λ p. is_within 10 99 p.number ≡ true) d.parties entry_of_party t.parties are.parties (all_true (λ p. is_within 10 99 p.number) d.parties k.party_numbers) i q h)
          (parts_are (λ p. is_name p.name ≡ true) d.parties entry_of_party t.parties are.parties (all_true (λ p. is_name p.name) d.parties (kept.party_names d k)) i q h));
      parties_rise = are.parties_rise;
      section_count = (omega arith, omega arith);
      sections = (λ i s h. section_from (get_or t.sections i s)
          (parts_are (λ e. section_in_range e ≡ true) d.sections entry_of_section t.sections are.sections (all_true section_in_range d.sections (kept.sections_in_range d k)) i s h));
      sections_rise = are.sections_rise;
      federation_count = omega arith;
      federations = (λ i f h. federation_from d.parties t.parties (get_or t.federations i f) are.parties
          (each_federation (λ e. is_name e.name) (kept.federation_names d k) i f h)
          (each_federation members_in_range k.member_counts i f h)
          (each_federation (λ e. list_all (λ n. list_any (λ p. int_eq p.number n) d.parties) e.parties) (kept.members_of_each d k) i f h));
      members = members_differ t.federations (ap (λ (es : List FederationEntry). are_distinct int_eq (all_members es)) are.federations ∙ k.members_differ);
      digest = size;
    }
