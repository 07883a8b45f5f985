-- Reading goes on from left to right: one place, one vote or one bag at a time
use Rattle.std.proofs.Common.{◌≡◌, ◌≢◌, ℕ, suc, ◌+◌, ◌-◌, ◌*◌, ◌<◌, ◌≤◌, Bool, true, false, not, cond, ◌&&◌, List, [], ◌∷◌, ◌++◌, length, drop, Option, Some, None, is_some, option_map, refl, ap, ◌∙◌, arith}
use Rattle.std.specs.Option.{option_and_then}
use Rattle.std.specs.List.{list_all, range_with_len}
use Rattle.std.proofs.lemmas.Bool.{eq-eqb, ne_eqb}
use Rattle.std.proofs.lemmas.List.{drop_all}
use Rattle.std.proofs.lemmas.List.Sums.{sum_by-cons, sum_by-append}
use Rattle.std.proofs.lemmas.List.FromFn.{map-range_with_len_more, length-map-range_with_len}
use Rattle.election_tables.specs.TablesData.{TablesData, places_at}
use Rattle.vote_kinds.specs.declared.choice.Choice.{Choice}
use Rattle.vote_kinds.specs.declared.choice.Choice.TheVariants as choice
use Rattle.vote_kinds.specs.Ballot.{BallotLine, line_of, lines_by_panel}
use Rattle.vote_kinds.proofs.Lookups.{by_panel_length}
use Rattle.turnout.specs.Turnout.{number_came}
use Rattle.turnout.proofs.Marks.{number_came-le-length}
use Rattle.image_codec.specs.Numbers.{are_zero, number4_at}
use Rattle.image_codec.specs.DecodedHead.{is_marked, marks_in, has_no_more}
use Rattle.image_codec.specs.DecodedVotes.{vote_in, votes_in, bag_in, bags_in}
use Rattle.image_codec.proofs.Lines.{line_places, lines_from_panel}
use Rattle.image_codec.proofs.Somes.{some_both, some_map, some_where}

-- Marks

pub length-marks_in : (n : ℕ) (field : List ℕ) → length (marks_in n field) ≡ n
unfolding marks_in
length-marks_in n field = length-map-range_with_len (is_marked field) 0 n

pub few_marked : (n : ℕ) (field : List ℕ) → number_came (marks_in n field) ≤ n
few_marked n field = omega (arith, length-marks_in n field, number_came-le-length (marks_in n field))

pub marks_none : (field : List ℕ) → number_came (marks_in 0 field) ≡ 0
unfolding marks_in
marks_none field = refl

-- one place more
pub marks_more : (n : ℕ) (field : List ℕ) → marks_in (n + 1) field ≡ marks_in n field ++ is_marked field n ∷ []
unfolding marks_in
marks_more n field = map-range_with_len_more (is_marked field) 0 n n (omega arith)

pub count_more : (n : ℕ) (field : List ℕ) → number_came (marks_in (n + 1) field) ≡ number_came (marks_in n field) + cond (is_marked field n) 1 0
count_more n field =
    let both = ap number_came (marks_more n field) ∙ sum_by-append (λ m. cond {A = ℕ} m 1 0) (marks_in n field) (is_marked field n ∷ []) in
    let one = sum_by-cons (λ m. cond {A = ℕ} m 1 0) (is_marked field n) [] in
    omega arith

-- the places from one on, of which the first is that one
pub no_more_from : (n : ℕ) (field : List ℕ) → n < 600 → has_no_more n field ≡ (not (is_marked field n) && has_no_more (n + 1) field)
unfolding has_no_more
no_more_from n field lt =
    let left : 600 - n ≡ suc (600 - (n + 1)) = omega arith in
    ap (λ (k : ℕ). list_all (λ place. not (is_marked field place)) (range_with_len n k)) left

pub no_more_ends : (n : ℕ) (field : List ℕ) → 600 ≤ n → has_no_more n field ≡ true
unfolding has_no_more
no_more_ends n field le =
    let left : 600 - n ≡ 0 = omega arith in
    ap (λ (k : ℕ). list_all (λ place. not (is_marked field place)) (range_with_len n k)) left

-- One bag

pub bag_starts : (line : BallotLine) (n : ℕ) (bytes : List ℕ) → number4_at bytes 0 ≡ n → bag_in line n bytes ≡ votes_in line (choice.Nominal 0) n (drop 4 bytes)
unfolding bag_in
bag_starts line n bytes e = ap (λ (b : Bool). cond b (votes_in line (choice.Nominal 0) n (drop 4 bytes)) None) (eq-eqb (number4_at bytes 0) n e)

pub bag_missing : (line : BallotLine) (n : ℕ) (bytes : List ℕ) → number4_at bytes 0 ≢ n → is_some (bag_in line n bytes) ≡ false
unfolding bag_in
bag_missing line n bytes e = ap (λ (b : Bool). is_some (cond b (votes_in line (choice.Nominal 0) n (drop 4 bytes)) None)) (ne_eqb (number4_at bytes 0) n e)

-- of so many votes, those from a place on

pub votes_none : (line : BallotLine) (before : Choice) (n i : ℕ) (bytes : List ℕ) → n ≤ i → is_some (votes_in line before (n - i) bytes) ≡ true
unfolding votes_in
votes_none line before n i bytes le =
    let left : n - i ≡ 0 = omega arith in
    ap (λ (k : ℕ). is_some (votes_in line before k bytes)) left

pub votes_more : (line : BallotLine) (before c : Choice) (n i : ℕ) (bytes : List ℕ) → i < n → vote_in line before bytes ≡ Some c
    → is_some (votes_in line before (n - i) bytes) ≡ is_some (votes_in line c (n - (i + 1)) (drop 5 bytes))
unfolding votes_in
votes_more line before c n i bytes lt e =
    let left : n - i ≡ suc (n - (i + 1)) = omega arith in
    ap (λ (k : ℕ). is_some (votes_in line before k bytes)) left
    ∙ ap (λ (o : Option Choice). is_some (option_and_then (λ d. option_map (λ bag. d ∷ bag) (votes_in line d (n - (i + 1)) (drop 5 bytes))) o)) e
    ∙ some_map (λ bag. c ∷ bag) (votes_in line c (n - (i + 1)) (drop 5 bytes))

pub votes_missing : (line : BallotLine) (before : Choice) (n i : ℕ) (bytes : List ℕ) → i < n → vote_in line before bytes ≡ None → is_some (votes_in line before (n - i) bytes) ≡ false
unfolding votes_in
votes_missing line before n i bytes lt e =
    let left : n - i ≡ suc (n - (i + 1)) = omega arith in
    ap (λ (k : ℕ). is_some (votes_in line before k bytes)) left
    ∙ ap (λ (o : Option Choice). is_some (option_and_then (λ d. option_map (λ bag. d ∷ bag) (votes_in line d (n - (i + 1)) (drop 5 bytes))) o)) e

-- The bags of the panels from one on, of which the first is that one

bags_more : (line : BallotLine) (lines : List BallotLine) (n : ℕ) (bytes : List ℕ) → is_some (bags_in (line ∷ lines) n bytes)
    ≡ (is_some (bag_in line (n * line.places) bytes) && is_some (bags_in lines n (drop (4 + 5 * (n * line.places)) bytes)))
unfolding bags_in
bags_more line lines n bytes = some_both (λ bag bags. bag ∷ bags) (bag_in line (n * line.places) bytes) (bags_in lines n (drop (4 + 5 * (n * line.places)) bytes))

pub bags_here : (t : TablesData) (panel n : ℕ) (bytes : List ℕ) → panel < length t.panels → is_some (bags_in (drop panel (lines_by_panel t)) n bytes)
    ≡ (is_some (bag_in (line_of t panel) (n * places_at t panel) bytes) && is_some (bags_in (drop (panel + 1) (lines_by_panel t)) n (drop (4 + 5 * (n * places_at t panel)) bytes)))
bags_here t panel n bytes lt =
    let after : List BallotLine = drop (panel + 1) (lines_by_panel t) in
    ap (λ (ls : List BallotLine). is_some (bags_in ls n bytes)) (lines_from_panel t panel lt)
    ∙ bags_more (line_of t panel) after n bytes
    ∙ ap (λ (k : ℕ). is_some (bag_in (line_of t panel) (n * k) bytes) && is_some (bags_in after n (drop (4 + 5 * (n * k)) bytes))) (line_places t panel lt)

bags_none : (n : ℕ) (bytes : List ℕ) → is_some (bags_in [] n bytes) ≡ are_zero bytes
unfolding bags_in
bags_none n bytes = some_where {A = List (List Choice)} (are_zero bytes) []

pub bags_end : (t : TablesData) (panel n : ℕ) (bytes : List ℕ) → length t.panels ≤ panel → is_some (bags_in (drop panel (lines_by_panel t)) n bytes) ≡ are_zero bytes
bags_end t panel n bytes le =
    let many = by_panel_length t in
    ap (λ (ls : List BallotLine). is_some (bags_in ls n bytes)) (drop_all panel (lines_by_panel t) (omega arith)) ∙ bags_none n bytes
