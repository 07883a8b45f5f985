-- Reading goes on from left to right: one counter or the counters of one panel at a time
use Rattle.std.proofs.Common.{◌≡◌, ℕ, zero, suc, ◌+◌, ◌*◌, ◌<◌, ◌≤◌, Bool, cond, ◌&&◌, ◌==◌, List, [], ◌∷◌, length, take, drop, Some, None, is_some, refl, sym, ap, ◌∙◌, arith, add-one}
use Rattle.std.specs.Int.{w32, from_be_bytes}
use Rattle.std.specs.List.{sum}
use Rattle.std.proofs.lemmas.List.{drop-drop, drop_all}
use Rattle.std.proofs.lemmas.List.Sums.{sum_by-cons}
use Rattle.election_tables.specs.TablesData.{TablesData, places_at}
use Rattle.vote_kinds.specs.declared.choice.Choice.{Choice}
use Rattle.vote_kinds.specs.Ballot.{BallotLine, choices_of, line_of, lines_by_panel}
use Rattle.vote_kinds.proofs.Lookups.{by_panel_length}
use Rattle.vote_record.specs.Counters.{bag_with}
use Rattle.image_codec.specs.Numbers.{are_zero, counters_in, number4_at}
use Rattle.image_codec.specs.DecodedCounters.{bag_counted, bags_counted}
use Rattle.image_codec.specs.Decoded.{bags_second}
use Rattle.image_codec.specs.CodecLaws.{counters_of}
use Rattle.image_codec.proofs.Lines.{line_places, lines_from_panel}
use Rattle.image_codec.proofs.Somes.{some_both, some_test, some_where}

-- The counters of a panel

sum_suc : (k : ℕ) (bytes : List ℕ) → sum (counters_in (suc k) bytes) ≡ sum (counters_in k bytes) + number4_at bytes (4 * k)
unfolding counters_in
sum_suc zero bytes = let one = sum_by-cons (λ n. n) (number4_at bytes 0) [] in omega arith
sum_suc (suc k) bytes =
    let more = sum_suc k (drop 4 bytes) in
    let first = sum_by-cons (λ n. n) (number4_at bytes 0) (counters_in (suc k) (drop 4 bytes)) in
    let before = sum_by-cons (λ n. n) (number4_at bytes 0) (counters_in k (drop 4 bytes)) in
    let far : 4 + 4 * k ≡ 4 * suc k = omega arith in
    let same : number4_at (drop 4 bytes) (4 * k) ≡ number4_at bytes (4 * suc k) =
    ap (λ (b : List ℕ). from_be_bytes w32 (take 4 b)) (drop-drop (4 * k) 4 bytes) ∙ ap (number4_at bytes) far in
    omega arith

-- one counter more
pub sum_more : (k : ℕ) (bytes : List ℕ) → sum (counters_in (k + 1) bytes) ≡ sum (counters_in k bytes) + number4_at bytes (4 * k)
sum_more k bytes = ap (λ (n : ℕ). sum (counters_in n bytes)) (add-one k) ∙ sum_suc k bytes

pub sum_none : (bytes : List ℕ) → sum (counters_in 0 bytes) ≡ 0
unfolding counters_in
sum_none bytes = refl

-- The counters of the panels from one on, of which the first is that one

pub counted_more : (line : BallotLine) (lines : List BallotLine) (n : ℕ) (bytes : List ℕ) → is_some (bags_counted (line ∷ lines) n bytes)
    ≡ (sum (counters_in (length (choices_of line)) bytes) == n * line.places && is_some (bags_counted lines n (drop (4 * length (choices_of line)) bytes)))
unfolding bags_counted bag_counted
counted_more line lines n bytes =
    let counts : List ℕ = counters_in (length (choices_of line)) bytes in
    let test : Bool = sum counts == n * line.places in
    let bag : List Choice = bag_with (choices_of line) counts in
    let others = bags_counted lines n (drop (4 * length (choices_of line)) bytes) in
    some_both (λ b bags. b ∷ bags) (cond test (Some bag) None) others ∙ ap (λ (b : Bool). b && is_some others) (some_where test bag)

pub counted_here : (t : TablesData) (panel n counters : ℕ) (bytes : List ℕ) → panel < length t.panels → counters ≡ length (choices_of (line_of t panel))
    → is_some (bags_counted (drop panel (lines_by_panel t)) n bytes)
    ≡ (sum (counters_in counters bytes) == n * places_at t panel && is_some (bags_counted (drop (panel + 1) (lines_by_panel t)) n (drop (4 * counters) bytes)))
counted_here t panel n counters bytes lt many =
    let after : List BallotLine = drop (panel + 1) (lines_by_panel t) in
    ap (λ (ls : List BallotLine). is_some (bags_counted ls n bytes)) (lines_from_panel t panel lt)
    ∙ counted_more (line_of t panel) after n bytes
    ∙ ap (λ (k : ℕ). sum (counters_in k bytes) == n * (line_of t panel).places && is_some (bags_counted after n (drop (4 * k) bytes))) (sym many)
    ∙ ap (λ (k : ℕ). sum (counters_in counters bytes) == n * k && is_some (bags_counted after n (drop (4 * counters) bytes))) (line_places t panel lt)

pub counted_none : (n : ℕ) (bytes : List ℕ) → is_some (bags_counted [] n bytes) ≡ are_zero bytes
unfolding bags_counted
counted_none n bytes = some_where {A = List (List Choice)} (are_zero bytes) []

pub counted_end : (t : TablesData) (panel n : ℕ) (bytes : List ℕ) → length t.panels ≤ panel → is_some (bags_counted (drop panel (lines_by_panel t)) n bytes) ≡ are_zero bytes
counted_end t panel n bytes le =
    let many = by_panel_length t in
    ap (λ (ls : List BallotLine). is_some (bags_counted ls n bytes)) (drop_all panel (lines_by_panel t) (omega arith)) ∙ counted_none n bytes

-- how many counters they have
pub counters_here : (t : TablesData) (panel : ℕ) → panel < length t.panels
    → counters_of (drop panel (lines_by_panel t)) ≡ length (choices_of (line_of t panel)) + counters_of (drop (panel + 1) (lines_by_panel t))
counters_here t panel lt =
    ap counters_of (lines_from_panel t panel lt) ∙ sum_by-cons (λ (l : BallotLine). length (choices_of l)) (line_of t panel) (drop (panel + 1) (lines_by_panel t))

-- The whole body

pub second_some : (lines : List BallotLine) (n : ℕ) (bytes : List ℕ) → is_some (bags_second lines n bytes) ≡ (are_zero (take 414 (drop 98 bytes)) && is_some (bags_counted lines n (drop 512 bytes)))
unfolding bags_second
second_some lines n bytes = some_test (are_zero (take 414 (drop 98 bytes))) (bags_counted lines n (drop 512 bytes))
