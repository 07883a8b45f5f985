-- The choices of all panels, panel by panel
use Rattle.std.proofs.Common.{◌≡◌, ℕ, zero, suc, ◌+◌, ◌*◌, ◌<◌, ◌≤◌, Bool, true, false, cond, Option, List, [], ◌∷◌, ◌++◌, length, map, take, get_or, slice_get, Some, sym, ap, ◌∙◌, append_assoc, add-one, arith, length-append}
use Rattle.std.specs.List.{flat_map, sum_by}
use Rattle.std.specs.Option.{option_map_or}
use Rattle.std.proofs.lemmas.Grind.{flat_map-append}
use Rattle.std.proofs.lemmas.List.{append-nil, length-map, map_push, take_all, take_more}
use Rattle.std.proofs.lemmas.List.Sums.{sum_by-take-le, sum_by_more}
use Rattle.std.proofs.lemmas.Option.{get_or_from_slice_get, slice_get-get_or, slice_get_within}
use Rattle.election_tables.specs.Limits.{most_offices, most_parties}
use Rattle.election_tables.specs.TablesData.{IsTables, TablesData}
use Rattle.election_tables.specs.declared.tables.panels.Panel.{Panel}
use Rattle.vote_kinds.specs.declared.choice.Choice.{Choice}
use Rattle.vote_kinds.specs.Ballot.{BallotLine, choices_of, line_of, lines_by_panel, no_panel}
use Rattle.vote_kinds.proofs.ChoicePlaces.{choices_many}
use Rattle.vote_kinds.proofs.Lookups.{by_panel_length, line_found}
use Rattle.intake_ledger.specs.Layout.{most_sums}
use Rattle.intake_ledger.specs.Ledger.{choices_in, panel_choices}

-- one choice more of a panel
pub one_choice : (panel : ℕ) (choices : List Choice) (i : ℕ) (c : Choice) (before now : List (ℕ × Choice)) → slice_get choices i ≡ Some c
    → now ≡ before ++ map (λ d. (panel, d)) (take i choices) → now ++ (panel, c) ∷ [] ≡ before ++ map (λ d. (panel, d)) (take (i + 1) choices)
one_choice panel choices i c before now at is =
    let put : Choice → ℕ × Choice = λ d. (panel, d) in
    let taken : take (i + 1) choices ≡ take i choices ++ c ∷ [] =
    take_more choices i c (slice_get_within choices i c at) ∙ ap (λ (d : Choice). take i choices ++ d ∷ []) (get_or_from_slice_get choices i c c at) in
    ap (λ (l : List (ℕ × Choice)). l ++ (panel, c) ∷ []) is ∙ append_assoc before (map put (take i choices)) ((panel, c) ∷ [])
    ∙ ap (λ (l : List (ℕ × Choice)). before ++ l) (sym (ap (map put) taken ∙ map_push put (take i choices) c))

-- one member more of those that are put in a row
more_in_row : {X Y : Type 0} (f : X → List Y) (xs : List X) (i : ℕ) (d : X) → i < length xs
    → flat_map f (take (i + 1) xs) ≡ flat_map f (take i xs) ++ f (get_or xs i d)
more_in_row {X = X} {Y = Y} f xs i d lt =
    ap (λ (l : List X). flat_map f l) (take_more xs i d lt) ∙ flat_map-append f (take i xs) (get_or xs i d ∷ [])
    ∙ ap (λ (l : List Y). flat_map f (take i xs) ++ l) (append-nil (f (get_or xs i d)))

abbrev candidates_of : Panel → ℕ
candidates_of p = length p.candidates

-- so many, or none
all_or_none : (b : Bool) (n : ℕ) → cond b n 0 ≤ n
all_or_none true n = omega arith
all_or_none false n = omega arith

module _ (t : TablesData) where
  abbrev lines : List BallotLine
  lines = lines_by_panel t

  -- the choices of the first so many panels
  abbrev pub first_choices : ℕ → List (ℕ × Choice)
  first_choices panel = flat_map choices_in (take panel lines)

  -- one panel more, and as many more
  pub one_panel : (panel : ℕ) → panel < length t.panels → first_choices (panel + 1) ≡ first_choices panel ++ choices_in (line_of t panel)
  one_panel panel lt =
      let there : get_or lines panel (line_of t panel) ≡ line_of t panel = get_or_from_slice_get lines panel (line_of t panel) (line_of t panel) (line_found t panel lt) in
      more_in_row choices_in lines panel (line_of t panel) (omega (arith, by_panel_length t))
      ∙ ap (λ (line : BallotLine). first_choices panel ++ choices_in line) there

  pub one_panel_longer : (panel : ℕ) → panel < length t.panels → length (first_choices (panel + 1)) ≡ length (first_choices panel) + length (choices_of (line_of t panel))
  one_panel_longer panel lt =
      let more = ap length (one_panel panel lt) in
      omega (arith, more, length-append (first_choices panel) (choices_in (line_of t panel)), length-map {B = ℕ × Choice} (choices_of (line_of t panel)) (λ c. (panel, c)))

  -- more panels have no fewer
  pub no_fewer : (panel more : ℕ) → panel + more ≤ length t.panels → length (first_choices panel) ≤ length (first_choices (panel + more))
  no_fewer panel zero le = let same : panel + 0 ≡ panel = omega arith in omega (arith, ap (λ (k : ℕ). length (first_choices k)) same)
  no_fewer panel (suc more) le =
      let same : panel + suc more ≡ panel + more + 1 = omega arith in
      omega (arith, ap (λ (k : ℕ). length (first_choices k)) same, one_panel_longer (panel + more) (omega arith), no_fewer panel more (omega arith))

  -- no more than the candidates so far, and in each panel the parties, blank and null
  first_few : (panel : ℕ) → length t.parties ≤ most_parties → panel ≤ length t.panels
      → length (first_choices panel) ≤ sum_by candidates_of (take panel t.panels) + panel * (most_parties + 2)
  first_few zero few le = omega arith
  first_few (suc panel) few le =
      let so_far = first_few panel few (omega arith) in
      let longer = one_panel_longer panel (omega arith) in
      let now = ap (λ (k : ℕ). length (first_choices k)) (add-one panel) in
      let here = ap (λ (o : Option Panel). length (option_map_or (λ p. p.candidates) o [])) (slice_get-get_or t.panels panel no_panel (omega arith)) in
      let more = sum_by_more candidates_of t.panels panel no_panel (omega arith) in
      let next = ap (λ (k : ℕ). sum_by candidates_of (take k t.panels)) (add-one panel) in
      let parties = all_or_none (line_of t panel).proportional (length t.parties) in
      omega (arith, few, choices_many t panel)

  -- all of them
  pub all_choices : first_choices (length t.panels) ≡ panel_choices t
  unfolding panel_choices
  all_choices = ap (λ (l : List BallotLine). flat_map choices_in l) (take_all (length t.panels) lines (omega (arith, by_panel_length t)))

  pub sums_few : IsTables t → length (panel_choices t) ≤ most_sums
  sums_few is =
      let all = ap length all_choices in
      let few = first_few (length t.panels) is.party_count.1 (omega arith) in
      let candidates = sum_by-take-le candidates_of t.panels (length t.panels) in
      let rows : length t.panels * (most_parties + 2) ≤ most_offices * (most_parties + 2) = grind (arith, is.panel_count.1) in
      omega (arith, is.candidate_count)
