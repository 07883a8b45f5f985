-- The panels together have no more candidates than the document.
use Rattle.std.proofs.Common.{◌≡◌, ℕ, ℤ, pos, suc, ◌+◌, ◌≤◌, Bool, true, false, not, cond, List, [], ◌∷◌, length, map, refl, ap, sym, ◌∙◌, arith, inl, inr}
use Rattle.std.specs.List.{All, count_by, list_any, sum_by}
use Rattle.std.specs.Ordering.{int_eq}
use Rattle.std.proofs.lemmas.Bool.{and_parts, or_parts, cases_Bool, not-true}
use Rattle.std.proofs.lemmas.Cmp.{int_eq_equiv}
use Rattle.std.proofs.lemmas.List.{length-map}
use Rattle.std.proofs.lemmas.List.Sorted.{length_permutation}
use Rattle.std.proofs.lemmas.List.Sums.{sum_by-cons, length-filter}
use Rattle.std.proofs.lemmas.Map.Steps.{list_any_congr}
use Rattle.election_tables.specs.declared.document.OfficeEntry.{OfficeEntry}
use Rattle.election_tables.specs.declared.document.CandidateEntry.{CandidateEntry}
use Rattle.election_tables.specs.declared.tables.panels.Panel.{Panel}
use Rattle.election_tables.specs.Rules.{are_distinct}
use Rattle.election_tables.specs.Tables.{IsPanelOf, candidates_of, entry_of_candidate, entry_of_office}

abbrev code_of : Panel → ℤ
code_of p = pos p.office.code

-- how many panels have a code
abbrev panels_with : ℤ → List Panel → ℕ
panels_with code panels = count_by (λ p. int_eq code (code_of p)) panels

no_panel_with : (code : ℤ) (panels : List Panel) → list_any (int_eq code) (map code_of panels) ≡ false → panels_with code panels ≡ 0
no_panel_with code [] h = refl
no_panel_with code (p ∷ panels) h =
    let (miss, others) = or_parts (int_eq code (code_of p)) (list_any (int_eq code) (map code_of panels)) h in
    let here : cond {A = ℕ} (int_eq code (code_of p)) 1 0 ≡ 0 = ap (λ (b : Bool). cond {A = ℕ} b 1 0) miss in
    let rest = no_panel_with code panels others in
    let step = sum_by-cons (λ (q : Panel). cond (int_eq code (code_of q)) 1 0) p panels in
    omega arith

-- where codes are distinct, at most one panel has a code
one_panel_with : (code : ℤ) (panels : List Panel) → are_distinct int_eq (map code_of panels) ≡ true → panels_with code panels ≤ 1
one_panel_with code [] distinct = omega arith
one_panel_with code (p ∷ panels) distinct =
    let (apart, more) = and_parts (not (list_any (int_eq (code_of p)) (map code_of panels))) (are_distinct int_eq (map code_of panels)) distinct in
    let step = sum_by-cons (λ (q : Panel). cond (int_eq code (code_of q)) 1 0) p panels in
    elim (cases_Bool (int_eq code (code_of p))) [
      | inl same ↦
          let here : cond {A = ℕ} (int_eq code (code_of p)) 1 0 ≡ 1 = ap (λ (b : Bool). cond {A = ℕ} b 1 0) same in
          let none = no_panel_with code panels (list_any_congr int_eq_equiv code (code_of p) (map code_of panels) same ∙ not-true _ apart) in
          omega arith
      | inr other ↦
          let here : cond {A = ℕ} (int_eq code (code_of p)) 1 0 ≡ 0 = ap (λ (b : Bool). cond {A = ℕ} b 1 0) other in
          let few = one_panel_with code panels more in
          omega arith
    ]

-- the document's candidates of a panel's office
abbrev count_of : List CandidateEntry → Panel → ℕ
count_of entries p = count_by (λ c. int_eq c.office (code_of p)) entries

no_entries : (panels : List Panel) → sum_by (count_of []) panels ≡ 0
no_entries [] = refl
no_entries (p ∷ panels) = let step = sum_by-cons (count_of []) p panels in let rest = no_entries panels in omega arith

one_entry_more : (c : CandidateEntry) (entries : List CandidateEntry) (panels : List Panel)
    → sum_by (count_of (c ∷ entries)) panels ≡ panels_with c.office panels + sum_by (count_of entries) panels
one_entry_more c entries [] = refl
one_entry_more c entries (p ∷ panels) =
    let all = sum_by-cons (count_of (c ∷ entries)) p panels in
    let first = sum_by-cons (λ (e : CandidateEntry). cond (int_eq e.office (code_of p)) 1 0) c entries in
    let with = sum_by-cons (λ (q : Panel). cond (int_eq c.office (code_of q)) 1 0) p panels in
    let before = sum_by-cons (count_of entries) p panels in
    let rest = one_entry_more c entries panels in
    omega arith

-- each entry is of one panel at most
entries_once : (entries : List CandidateEntry) (panels : List Panel) → are_distinct int_eq (map code_of panels) ≡ true
    → sum_by (count_of entries) panels ≤ length entries
entries_once [] panels distinct = let none = no_entries panels in omega arith
entries_once (c ∷ entries) panels distinct =
    let one = one_entry_more c entries panels in
    let here = one_panel_with c.office panels distinct in
    let rest = entries_once entries panels distinct in
    omega arith

-- the candidates of a panel are the document's of its office
same_candidates : (entries : List CandidateEntry) (panels : List Panel) → All (IsPanelOf entries) panels
    → sum_by (λ p. length p.candidates) panels ≡ sum_by (count_of entries) panels
same_candidates entries [] all = refl
same_candidates entries (p ∷ panels) all =
    let code = p.office.code in
    let of = all 0 p (omega arith) in
    let names : length (map (entry_of_candidate code) p.candidates) ≡ length p.candidates = length-map p.candidates (entry_of_candidate code) in
    let moved : length (map (entry_of_candidate code) p.candidates) ≡ length (candidates_of code entries) = length_permutation (candidates_of code entries) _ of.candidates in
    let picked : length (candidates_of code entries) ≡ count_of entries p = length-filter (λ (c : CandidateEntry). int_eq c.office (pos code)) entries in
    let here = sum_by-cons (λ (q : Panel). length q.candidates) p panels in
    let there = sum_by-cons (count_of entries) p panels in
    let rest = same_candidates entries panels (λ i e h. all (suc i) e (omega arith)) in
    omega arith

codes_of_offices : (panels : List Panel) → map (λ o. o.code) (map (λ p. entry_of_office p.office) panels) ≡ map code_of panels
codes_of_offices [] = refl
codes_of_offices (p ∷ panels) = ap (λ (codes : List ℤ). code_of p ∷ codes) (codes_of_offices panels)

pub candidates_together : (offices : List OfficeEntry) (entries : List CandidateEntry) (panels : List Panel)
    → map (λ p. entry_of_office p.office) panels ≡ offices → are_distinct int_eq (map (λ o. o.code) offices) ≡ true → All (IsPanelOf entries) panels
    → sum_by (λ p. length p.candidates) panels ≤ length entries
candidates_together offices entries panels same distinct all =
    let codes : map (λ o. o.code) offices ≡ map code_of panels = ap (λ (os : List OfficeEntry). map (λ o. o.code) os) (sym same) ∙ codes_of_offices panels in
    let apart : are_distinct int_eq (map code_of panels) ≡ true = ap (are_distinct int_eq) (sym codes) ∙ distinct in
    let once = entries_once entries panels apart in
    let sums = same_candidates entries panels all in
    omega arith
