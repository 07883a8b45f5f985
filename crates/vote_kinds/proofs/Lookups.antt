-- Look-ups in the tables, as the lines of the ballot see them
use Rattle.std.proofs.Common.{◌≡◌, ℕ, ◌+◌, ◌<◌, ◌≤◌, ◌||◌, zero, suc, Bool, true, false, cond, List, [], ◌∷◌, map, length, get_or, slice_get, Option, Some, None, option_map, unwrap_or, nat_eq, find, is_some, Bor, option_copied, refl, sym, ap, subst, ◌∙◌, arith}
use Rattle.std.specs.List.{list_any}
use Rattle.std.proofs.lemmas.List.{get_or-map, length-map}
use Rattle.std.proofs.lemmas.Option.{slice_get-get_or, slice_get-map, unwrap_or-slice_get}
use Rattle.election_tables.proofs.Kept.{code_digits-range}
use Rattle.election_tables.proofs.LinePanels.{line_within}
use Rattle.std.specs.Option.{option_map_or}
use Rattle.std.proofs.lemmas.Bool.Decides.{nat_tests}
use Rattle.election_tables.specs.declared.office.Office.{Office}
use Rattle.election_tables.specs.declared.tables.panels.Panel.{Panel}
use Rattle.election_tables.specs.declared.tables.candidates.Candidate.{Candidate}
use Rattle.election_tables.specs.declared.tables.candidates.NamedCandidate.{NamedCandidate}
use Rattle.election_tables.specs.TablesData.{TablesData, IsTables, IsPanel, candidates_at, candidate_name, without_name, line_panels, party_name, places_at, places_in, places_of}
use Rattle.vote_kinds.specs.Ballot.{BallotLine, no_panel, panel_at, line_for, line_of, lines_from, lines_by_panel, ballot_lines}

office_in : (o : Option Panel) (r : Office) → option_map (λ p. p.office) o ≡ Some r → r ≡ (unwrap_or o no_panel).office
office_in None r e = absurd (cc)
office_in (Some p) r e = cc

-- the office that the tables tell is that of the panel
pub office_known : (t : TablesData) (panel : ℕ) (r : Office) → option_map (λ p. p.office) (slice_get t.panels panel) ≡ Some r → r ≡ (panel_at t panel).office
office_known t panel r e = office_in (slice_get t.panels panel) r e

-- the votes that a voter has in a panel are those of its line
pub places_known : (t : TablesData) (panel : ℕ) → panel < length t.panels → places_at t panel ≡ (line_of t panel).places
places_known t panel lt = get_or-map places_in t.panels panel no_panel 0 lt ∙ ap places_in (sym (unwrap_or-slice_get t.panels panel no_panel))

candidates_in : (o : Option Panel) → option_map_or (λ p. p.candidates) o [] ≡ (unwrap_or o no_panel).candidates
candidates_in None = refl
candidates_in (Some p) = refl

-- the candidates that the tables tell are those of the panel
pub candidates_known : (t : TablesData) (panel : ℕ) → candidates_at panel t ≡ (panel_at t panel).candidates
candidates_known t panel = candidates_in (slice_get t.panels panel)

-- what the tables tell of a candidate has its number
pub candidate_number : (found : Option NamedCandidate) (r : Candidate) → option_map without_name found ≡ Some r → option_map (λ c. c.number) found ≡ Some r.number
candidate_number None r e = absurd (cc)
candidate_number (Some c) r e = let same : without_name c ≡ r = cc in ap (λ (d : Candidate). Some d.number) same

-- the number of a candidate that the tables tell stands in its place of the line
pub candidate_at : (t : TablesData) (panel i : ℕ) (r : Candidate) → option_map without_name (slice_get (candidates_at panel t) i) ≡ Some r
    → slice_get (line_of t panel).candidates i ≡ Some r.number
candidate_at t panel i r e =
    ap (λ (cs : List NamedCandidate). slice_get (map (λ c. c.number) cs) i) (sym (candidates_known t panel))
    ∙ slice_get-map (λ c. c.number) (candidates_at panel t) i ∙ candidate_number (slice_get (candidates_at panel t) i) r e

same_test : (m n : ℕ) → nat_eq m n ≡ nat_eq n m
same_test m n = grind (arith, nat_tests)

first_named : {X : Type 0} (name_of : X → List ℕ) (x : X) (found : Option X) (b rest : Bool) → is_some (option_map name_of found) ≡ rest
    → is_some (option_map name_of (cond b (Some x) found)) ≡ (b || rest)
first_named name_of x found true rest e = refl
first_named name_of x found false rest e = e

-- a number has a name exactly where it is among the numbers
pub is_named : {X : Type 0} (number_of : X → ℕ) (name_of : X → List ℕ) (n : ℕ) (xs : List X)
    → is_some (option_map name_of (find (λ x. nat_eq (number_of x) n) xs)) ≡ list_any (nat_eq n) (map number_of xs)
is_named number_of name_of n [] = refl
is_named number_of name_of n (x ∷ xs) =
    first_named name_of x (find (λ y. nat_eq (number_of y) n) xs) (nat_eq (number_of x) n) (list_any (nat_eq n) (map number_of xs)) (is_named number_of name_of n xs)
    ∙ ap (λ (b : Bool). b || list_any (nat_eq n) (map number_of xs)) (same_test (number_of x) n)

pub candidate_is_named : (t : TablesData) (panel n : ℕ) → is_some (candidate_name n (candidates_at panel t)) ≡ list_any (nat_eq n) (line_of t panel).candidates
candidate_is_named t panel n =
    is_named (λ c. c.number) (λ c. c.name) n (candidates_at panel t)
    ∙ ap (λ (cs : List NamedCandidate). list_any (nat_eq n) (map (λ c. c.number) cs)) (candidates_known t panel)

pub party_is_named : (t : TablesData) (n : ℕ) → is_some (party_name n t.parties) ≡ list_any (nat_eq n) (map (λ q. q.number) t.parties)
party_is_named t n = is_named (λ q. q.number) (λ q. q.name) n t.parties

-- a look-up finds something exactly where it gives a name
pub found_some : (found : Option (Bor (List ℕ))) (name : Option (List ℕ)) → option_copied found ≡ name → is_some found ≡ is_some name
found_some None name e = ap is_some e
found_some (Some s) name e = ap is_some e

-- The lines of the ballot

from_at : (t : TablesData) (first : ℕ) (panels : List Panel) (n : ℕ) → slice_get (lines_from t first panels) n ≡ option_map (line_for t (first + n)) (slice_get panels n)
from_at t first [] n = refl
from_at t first (p ∷ panels) zero = ap (λ (k : ℕ). Some (line_for t k p)) (omega arith)
from_at t first (p ∷ panels) (suc n) =
    from_at t (first + 1) panels n ∙ ap (λ (k : ℕ). option_map (line_for t k) (slice_get panels n)) (omega arith)

-- the line of a panel's number is that of the panel
pub by_panel_get : (t : TablesData) (n : ℕ) → slice_get (lines_by_panel t) n ≡ option_map (line_for t n) (slice_get t.panels n)
unfolding lines_by_panel
by_panel_get t n = from_at t 0 t.panels n ∙ ap (λ (k : ℕ). option_map (line_for t k) (slice_get t.panels n)) (omega arith)

from_length : (t : TablesData) (first : ℕ) (panels : List Panel) → length (lines_from t first panels) ≡ length panels
from_length t first [] = refl
from_length t first (p ∷ panels) = ap suc (from_length t (first + 1) panels)

-- there are as many of these lines as panels
pub by_panel_length : (t : TablesData) → length (lines_by_panel t) ≡ length t.panels
unfolding lines_by_panel
by_panel_length t = from_length t 0 t.panels

-- a line of the ballot is that of its panel
pub line_get : (t : TablesData) (n : ℕ) → slice_get (ballot_lines t) n ≡ option_map (line_of t) (slice_get (line_panels t) n)
unfolding ballot_lines
line_get t n = slice_get-map (line_of t) (line_panels t) n

pub lines_length : (t : TablesData) → length (ballot_lines t) ≡ length (line_panels t)
unfolding ballot_lines
lines_length t = length-map (line_panels t) (line_of t)

-- a line of the ballot has its panel among those of the tables
pub record HasPanel (t : TablesData) (n : ℕ) (l : BallotLine) : Type 0 where
  pub at : slice_get (line_panels t) n ≡ Some l.panel
  pub within : l.panel < length t.panels
  pub same : line_of t l.panel ≡ l

panel_in : (t : TablesData) (n : ℕ) (o : Option ℕ) (l : BallotLine) → slice_get (line_panels t) n ≡ o → option_map (line_of t) o ≡ Some l → HasPanel t n l
panel_in t n None l at e = absurd (cc)
panel_in t n (Some panel) l at e =
    let same : line_of t panel ≡ l = cc in
    subst (HasPanel t n) same (record { at = at; within = line_within t n panel at; same = refl })

pub line_has_panel : (t : TablesData) (n : ℕ) (l : BallotLine) → slice_get (ballot_lines t) n ≡ Some l → HasPanel t n l
line_has_panel t n l e = panel_in t n (slice_get (line_panels t) n) l refl (sym (line_get t n) ∙ e)

-- how many votes a voter has in each panel, by the lines
from_places : (t : TablesData) (first : ℕ) (panels : List Panel) → map (λ line. line.places) (lines_from t first panels) ≡ map places_in panels
from_places t first [] = refl
from_places t first (p ∷ panels) = ap (λ (places : List ℕ). places_in p ∷ places) (from_places t (first + 1) panels)

pub panel_places : (t : TablesData) → map (λ line. line.places) (lines_by_panel t) ≡ places_of t
unfolding lines_by_panel
panel_places t = from_places t 0 t.panels

-- the lines of panels have two to five digits, and so has each line of the ballot
pub panel_digits : (t : TablesData) → IsTables t → (panel : ℕ) → panel < length t.panels → (2 ≤ (line_of t panel).digits) × ((line_of t panel).digits ≤ 5)
panel_digits t is panel lt =
    let p = get_or t.panels panel no_panel in
    let has : IsPanel t.parties p = is.panels panel no_panel lt in
    let range = code_digits-range p.office.code p.office.digits has.office.digits in
    subst (λ (q : Panel). (2 ≤ q.office.digits) × (q.office.digits ≤ 5)) (sym (unwrap_or-slice_get t.panels panel no_panel)) range

pub line_digits : (t : TablesData) → IsTables t → (n : ℕ) (l : BallotLine) → slice_get (ballot_lines t) n ≡ Some l → (2 ≤ l.digits) × (l.digits ≤ 5)
line_digits t is n l e =
    let has = line_has_panel t n l e in
    subst (λ (m : BallotLine). (2 ≤ m.digits) × (m.digits ≤ 5)) has.same (panel_digits t is l.panel has.within)

-- the line of a panel of the tables
pub line_found : (t : TablesData) (panel : ℕ) → panel < length t.panels → slice_get (lines_by_panel t) panel ≡ Some (line_of t panel)
line_found t panel lt =
    by_panel_get t panel ∙ ap (option_map (line_for t panel)) (slice_get-get_or t.panels panel no_panel lt)
    ∙ ap (λ (p : Panel). Some (line_for t panel p)) (sym (unwrap_or-slice_get t.panels panel no_panel))
