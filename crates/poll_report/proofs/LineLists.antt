-- The lines of the first candidates, parties and panels
use Rattle.std.proofs.Common.{◌≡◌, ℕ, zero, suc, ◌+◌, ◌<◌, ◌≤◌, List, [], ◌∷◌, ◌++◌, map, length, take, slice_get, Option, Some, None, option_map, unwrap_or, codes, refl, sym, ap, ◌∙◌, append_assoc, add-one, arith}
use Rattle.std.proofs.lemmas.List.{take_all, append-nil}
use Rattle.urna_base.specs.Lines.{number_line}
use Rattle.vote_kinds.specs.declared.choice.Choice.{Choice}
use Rattle.vote_kinds.specs.Ballot.{panel_at, no_panel}
use Rattle.vote_record.specs.Bag.{bag_at, count_of}
use Rattle.election_tables.specs.TablesData.{TablesData}
use Rattle.election_tables.specs.declared.tables.panels.Panel.{Panel}
use Rattle.election_tables.specs.TablesData.{without_name, candidates_at}
use Rattle.election_tables.specs.declared.tables.candidates.Candidate.{Candidate}
use Rattle.election_tables.specs.declared.tables.candidates.NamedCandidate.{NamedCandidate}
use Rattle.election_tables.specs.declared.tables.parties.Party.{Party}
use Rattle.vote_kinds.specs.declared.choice.Choice.TheVariants as choice
use Rattle.vote_kinds.proofs.Lookups.{office_known, candidates_known}
use Rattle.election_tables.specs.declared.office.Office.{Office}
use Rattle.poll_report.specs.Counts.{votes_line, candidate_line, candidate_lines, party_line, kind_lines, total_lines, panel_lines, lines_of_panels, count_lines}

-- one line, or number, of each element

taken_more : {X Y : Type 0} (f : X → Y) (xs : List X) (i : ℕ) (line : Y) → option_map f (slice_get xs i) ≡ Some line
    → map f (take (suc i) xs) ≡ map f (take i xs) ++ line ∷ []
taken_more f [] i line e = absurd (cc)
taken_more f (x ∷ xs) zero line e = let same : f x ≡ line = cc in ap (λ l. l ∷ []) same
taken_more f (x ∷ xs) (suc i) line e = ap (λ ls. f x ∷ ls) (taken_more f xs i line e)

pub lines_more : {X Y : Type 0} (f : X → Y) (xs : List X) (i : ℕ) (line : Y) → option_map f (slice_get xs i) ≡ Some line
    → map f (take (i + 1) xs) ≡ map f (take i xs) ++ line ∷ []
lines_more f xs i line e = ap (λ (k : ℕ). map f (take k xs)) (add-one i) ∙ taken_more f xs i line e

taken_rest : {X : Type 0} (f : X → List ℕ) (xs : List X) (i : ℕ) → (rest : List (List ℕ)) × (map f xs ≡ map f (take i xs) ++ rest)
taken_rest f xs zero = (map f xs, refl)
taken_rest f [] (suc i) = ([], refl)
taken_rest f (x ∷ xs) (suc i) = let more = taken_rest f xs i in (more.0, ap (λ (ls : List (List ℕ)). f x ∷ ls) more.1)

pub lines_rest : {X : Type 0} (f : X → List ℕ) (xs : List X) (i : ℕ) (line : List ℕ) → option_map f (slice_get xs i) ≡ Some line
    → (rest : List (List ℕ)) × (map f xs ≡ (map f (take i xs) ++ line ∷ []) ++ rest)
lines_rest f xs i line e =
    let more = taken_rest f xs (i + 1) in
    (more.0, more.1 ∙ ap (λ (ls : List (List ℕ)). ls ++ more.0) (lines_more f xs i line e))

-- the lines of each panel

panels_more : (t : TablesData) (bags : List (List Choice)) (first : ℕ) (panels : List Panel) (i : ℕ) (p : Panel) → slice_get panels i ≡ Some p
    → lines_of_panels t bags first (take (suc i) panels) ≡ lines_of_panels t bags first (take i panels) ++ panel_lines t p (bag_at bags (first + i))
panels_more t bags first [] i p e = absurd (cc)
panels_more t bags first (q ∷ panels) zero p e =
    let same : q ≡ p = cc in
    ap (λ (r : Panel). panel_lines t r (bag_at bags first) ++ []) same ∙ append-nil _
    ∙ ap (λ (k : ℕ). panel_lines t p (bag_at bags k)) (omega arith)
panels_more t bags first (q ∷ panels) (suc i) p e =
    ap (λ (ls : List (List ℕ)). panel_lines t q (bag_at bags first) ++ ls) (panels_more t bags (first + 1) panels i p e)
    ∙ sym (append_assoc (panel_lines t q (bag_at bags first)) (lines_of_panels t bags (first + 1) (take i panels)) (panel_lines t p (bag_at bags (first + 1 + i))))
    ∙ ap (λ (k : ℕ). (panel_lines t q (bag_at bags first) ++ lines_of_panels t bags (first + 1) (take i panels)) ++ panel_lines t p (bag_at bags k)) (omega arith)

panels_rest : (t : TablesData) (bags : List (List Choice)) (first : ℕ) (panels : List Panel) (i : ℕ)
    → (rest : List (List ℕ)) × (lines_of_panels t bags first panels ≡ lines_of_panels t bags first (take i panels) ++ rest)
panels_rest t bags first panels zero = (lines_of_panels t bags first panels, refl)
panels_rest t bags first [] (suc i) = ([], refl)
panels_rest t bags first (q ∷ panels) (suc i) =
    let more = panels_rest t bags (first + 1) panels i in (
      more.0,
      ap (λ (ls : List (List ℕ)). panel_lines t q (bag_at bags first) ++ ls) more.1
          ∙ sym (append_assoc (panel_lines t q (bag_at bags first)) (lines_of_panels t bags (first + 1) (take i panels)) more.0),
    )

-- the panels of a place that they have
pub known : (panels : List Panel) (i : ℕ) → i < length panels → slice_get panels i ≡ Some (unwrap_or (slice_get panels i) no_panel)
known [] i h = absurd (omega arith)
known (p ∷ panels) zero h = refl
known (p ∷ panels) (suc i) h = known panels i (omega arith)

-- the lines of the first panels
abbrev pub first_lines : TablesData → List (List Choice) → ℕ → List (List ℕ)
first_lines t bags i = lines_of_panels t bags 0 (take i t.panels)

pub first_more : (t : TablesData) (bags : List (List Choice)) (i : ℕ) → i < length t.panels
    → first_lines t bags (i + 1) ≡ first_lines t bags i ++ panel_lines t (panel_at t i) (bag_at bags i)
first_more t bags i h =
    ap (λ (k : ℕ). first_lines t bags k) (add-one i)
    ∙ (panels_more t bags 0 t.panels i (panel_at t i) (known t.panels i h)
    ∙ ap (λ (k : ℕ). first_lines t bags i ++ panel_lines t (panel_at t i) (bag_at bags k)) (omega arith))

pub first_rest : (t : TablesData) (bags : List (List Choice)) (i : ℕ) → i < length t.panels
    → (rest : List (List ℕ)) × (count_lines t bags ≡ (first_lines t bags i ++ panel_lines t (panel_at t i) (bag_at bags i)) ++ rest)
unfolding count_lines
first_rest t bags i h =
    let more = panels_rest t bags 0 t.panels (i + 1) in
    (more.0, more.1 ∙ ap (λ (ls : List (List ℕ)). ls ++ more.0) (first_more t bags i h))

pub first_all : (t : TablesData) (bags : List (List Choice)) (i : ℕ) → length t.panels ≤ i → first_lines t bags i ≡ count_lines t bags
unfolding count_lines
first_all t bags i h = ap (λ (ps : List Panel). lines_of_panels t bags 0 ps) (take_all i t.panels h)

-- what the tables tell of one candidate or party gives its line

pub candidate_told : (bag : List Choice) (o : Option NamedCandidate) (r : Candidate) (n : ℕ) → option_map without_name o ≡ Some r → n ≡ count_of (choice.Nominal r.number) bag
    → option_map (candidate_line bag) o ≡ Some (votes_line r.number n)
candidate_told bag None r n e counted = absurd (cc)
candidate_told bag (Some c) r n e counted =
    let same : c.number ≡ r.number = let whole : without_name c ≡ r = cc in ap (λ (d : Candidate). d.number) whole in
    ap (λ (k : ℕ). Some (votes_line k (count_of (choice.Nominal k) bag))) same ∙ ap (λ (m : ℕ). Some (votes_line r.number m)) (sym counted)

pub party_told : (bag : List Choice) (o : Option Party) (number n : ℕ) → option_map (λ q. q.number) o ≡ Some number → n ≡ count_of (choice.Party number) bag
    → option_map (party_line bag) o ≡ Some (votes_line number n)
party_told bag None number n e counted = absurd (cc)
party_told bag (Some q) number n e counted =
    let same : q.number ≡ number = cc in
    ap (λ (k : ℕ). Some (votes_line k (count_of (choice.Party k) bag))) same ∙ ap (λ (m : ℕ). Some (votes_line number m)) (sym counted)

-- by the numbers that the code has

pub totals_are : (bag : List Choice) (n m k : ℕ) → n ≡ count_of choice.Blank bag → m ≡ count_of choice.Null bag → k ≡ length bag
    → number_line (codes "BRANCO ") n ∷ number_line (codes "NULO ") m ∷ number_line (codes "TOTAL ") k ∷ [] ≡ total_lines bag
totals_are bag n m k e f g = rw (e, f, g) refl

pub panel_is : (t : TablesData) (panel : ℕ) (bag : List Choice) (office : Office) (code : ℕ) → option_map (λ p. p.office) (slice_get t.panels panel) ≡ Some office → code ≡ office.code
    → number_line (codes "CARGO ") code ∷ (candidate_lines (candidates_at panel t) bag ++ (kind_lines office.kind t bag ++ total_lines bag)) ≡ panel_lines t (panel_at t panel) bag
panel_is t panel bag office code e f =
    let same = office_known t panel office e in
    ap (λ (n : ℕ). number_line (codes "CARGO ") n ∷ (candidate_lines (candidates_at panel t) bag ++ (kind_lines office.kind t bag ++ total_lines bag))) f
    ∙ (ap (λ (o : Office). number_line (codes "CARGO ") o.code ∷ (candidate_lines (candidates_at panel t) bag ++ (kind_lines o.kind t bag ++ total_lines bag))) same
    ∙ ap (λ (cs : List NamedCandidate). number_line (codes "CARGO ") (panel_at t panel).office.code ∷ (candidate_lines cs bag ++ (kind_lines (panel_at t panel).office.kind t bag ++ total_lines bag)))
    (candidates_known t panel))
