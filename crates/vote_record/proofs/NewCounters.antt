-- Counters that are made, without votes
use Rattle.std.proofs.Common.{◌≡◌, ℕ, zero, suc, ◌+◌, ◌*◌, ◌<◌, ◌≤◌, Bool, true, false, cond, List, [], ◌∷◌, ◌++◌, length, get_or, map, take, slice_get, Option, Some, refl, sym, ap, ◌∙◌, append_assoc, add-one, arith}
use Rattle.std.specs.List.{sum_by}
use Rattle.std.specs.Option.{option_map_or}
use Rattle.std.proofs.lemmas.List.{map_push, take_more}
use Rattle.std.proofs.lemmas.List.Sums.{sum_by-take-le, sum_by_more}
use Rattle.std.proofs.lemmas.Option.{get_or_from_slice_get, slice_get-get_or, slice_get_within}
use Rattle.election_tables.specs.Limits.{most_parties}
use Rattle.election_tables.specs.TablesData.{TablesData, IsTables, candidates_at}
use Rattle.election_tables.specs.declared.tables.panels.Panel.{Panel}
use Rattle.vote_kinds.specs.declared.choice.Choice.{Choice}
use Rattle.vote_kinds.specs.Ballot.{choices_of, line_of, no_panel}
use Rattle.vote_kinds.proofs.ChoicePlaces.{choices_many}
use Rattle.vote_record.specs.Counters.{counters_before, most_counters}
use Rattle.vote_record.specs.BagData.{choices_in, members_of, no_votes}
use Rattle.vote_record.specs.declared.counters.Counter.{Counter}

-- they are of these choices
pub choices_in_new : (choices : List Choice) → choices_in (map no_votes choices) ≡ choices
choices_in_new [] = refl
choices_in_new (c ∷ choices) = ap (λ (l : List Choice). c ∷ l) (choices_in_new choices)

pub no_members : (choices : List Choice) → members_of (map no_votes choices) ≡ []
no_members [] = refl
no_members (c ∷ choices) = no_members choices

-- one counter more behind those of the first numbers
pub one_more : (made_of : ℕ → Choice) (numbers : List ℕ) (i n : ℕ) (before now after : List Counter) → slice_get numbers i ≡ Some n
    → now ≡ before ++ map no_votes (map made_of (take i numbers)) → after ≡ now ++ no_votes (made_of n) ∷ []
    → after ≡ before ++ map no_votes (map made_of (take (i + 1) numbers))
one_more made_of numbers i n before now after there e h =
    let first : List Counter = map no_votes (map made_of (take i numbers)) in
    let x : Counter = no_votes (made_of n) in
    let taken : take (i + 1) numbers ≡ take i numbers ++ n ∷ [] =
    take_more numbers i n (slice_get_within numbers i n there) ∙ ap (λ (m : ℕ). take i numbers ++ m ∷ []) (get_or_from_slice_get numbers i n n there) in
    let more : map no_votes (map made_of (take (i + 1) numbers)) ≡ first ++ x ∷ [] =
    ap (λ (l : List ℕ). map no_votes (map made_of l)) taken ∙ ap (map no_votes) (map_push made_of (take i numbers) n) ∙ map_push no_votes (map made_of (take i numbers)) (made_of n) in
    h ∙ ap (λ (l : List Counter). l ++ x ∷ []) e ∙ append_assoc before first (x ∷ []) ∙ ap (λ (l : List Counter). before ++ l) (sym more)

-- How many counters all panels have

pub one_panel_more : (t : TablesData) (panel : ℕ) → counters_before t (panel + 1) ≡ counters_before t panel + length (choices_of (line_of t panel))
one_panel_more t panel = ap (counters_before t) (add-one panel)

abbrev candidates_of : Panel → ℕ
candidates_of p = length p.candidates

candidates_there : (t : TablesData) (panel : ℕ) → panel < length t.panels → length (candidates_at panel t) ≡ candidates_of (get_or t.panels panel no_panel)
candidates_there t panel lt = ap (λ (o : Option Panel). length (option_map_or (λ p. p.candidates) o [])) (slice_get-get_or t.panels panel no_panel lt)

party_few : (proportional : Bool) (n : ℕ) → n ≤ most_parties → cond proportional n 0 ≤ most_parties
party_few true n le = le
party_few false n le = omega arith

-- no more than the candidates so far, and in each panel the parties, blank and null
counters_few : (t : TablesData) (panels : ℕ) → length t.parties ≤ most_parties → panels ≤ length t.panels
    → counters_before t panels ≤ sum_by candidates_of (take panels t.panels) + panels * (most_parties + 2)
counters_few t zero few le = omega arith
counters_few t (suc panel) few le =
    let so_far = counters_few t panel few (omega arith) in
    let here = candidates_there t panel (omega arith) in
    let more = sum_by_more candidates_of t.panels panel no_panel (omega arith) in
    let next = ap (λ (k : ℕ). sum_by candidates_of (take k t.panels)) (add-one panel) in
    let parties = party_few (line_of t panel).proportional (length t.parties) few in
    omega (arith, choices_many t panel)

pub counters_fit : (t : TablesData) (panels : ℕ) → IsTables t → panels ≤ length t.panels → counters_before t panels ≤ most_counters (length t.panels)
counters_fit t panels is le =
    let all = sum_by-take-le candidates_of t.panels panels in
    let few = counters_few t panels is.party_count.1 le in
    let rows : panels * (most_parties + 2) ≤ length t.panels * (most_parties + 2) = grind arith in
    omega (arith, is.candidate_count)
