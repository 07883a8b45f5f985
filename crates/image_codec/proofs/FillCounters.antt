-- The votes that a ready state takes on are those that were counted
use Rattle.std.proofs.Common.{◌≡◌, ℕ, zero, suc, ◌+◌, ◌*◌, ◌<◌, ◌≤◌, ◌==◌, List, [], ◌∷◌, length, get_or, slice_get, take, drop, unwrap_or, Some, IsSome, refl, sym, ap, subst, ◌∙◌, arith}
use Rattle.std.specs.Int.{w32, from_be_bytes}
use Rattle.std.specs.List.{sum}
use Rattle.std.proofs.lemmas.Bool.{eqb-true}
use Rattle.std.proofs.lemmas.List.{drop-drop, drop_all, drop_more}
use Rattle.std.proofs.lemmas.List.Sums.{sum_by-cons}
use Rattle.std.proofs.lemmas.Option.{cond_some, get_or_from_slice_get}
use Rattle.urna_base.proofs.Cases.{guard_some}
use Rattle.election_tables.specs.TablesData.{TablesData, IsTables, places_at}
use Rattle.vote_kinds.specs.declared.choice.Choice.{Choice}
use Rattle.vote_kinds.specs.Ballot.{BallotLine, choices_of, lines_by_panel, line_of}
use Rattle.vote_kinds.proofs.LineChoices.{line_of_rises}
use Rattle.vote_kinds.proofs.Lookups.{by_panel_length}
use Rattle.vote_record.specs.Bag.{with_choices}
use Rattle.vote_record.specs.Counters.{bag_with}
use Rattle.vote_record.proofs.Bags.{length-with_choices}
use Rattle.vote_record.proofs.Filling.{filled, filled_from_none}
use Rattle.image_codec.specs.Numbers.{are_zero, counters_in, number4_at}
use Rattle.image_codec.specs.DecodedCounters.{bag_counted, bags_counted}
use Rattle.image_codec.specs.Decoded.{bags_second}
use Rattle.image_codec.proofs.Fills.{more_bags, split_bags, value_of}
use Rattle.image_codec.proofs.ReadCounters.{length-counters_in}
use Rattle.image_codec.proofs.Lines.{line_places, lines_from_panel}

-- The counter in a place

pub counter_there : (n k : ℕ) (bytes : List ℕ) → k < n → get_or (counters_in n bytes) k 0 ≡ number4_at bytes (4 * k)
unfolding counters_in
counter_there zero k bytes lt = absurd (omega arith)
counter_there (suc n) zero bytes lt = refl
counter_there (suc n) (suc k) bytes lt =
    let far : 4 + 4 * k ≡ 4 * suc k = omega arith in
    counter_there n k (drop 4 bytes) (omega arith) ∙ ap (λ (b : List ℕ). from_be_bytes w32 (take 4 b)) (drop-drop (4 * k) 4 bytes) ∙ ap (number4_at bytes) far

-- One panel

-- a bag to which the counters up to a place were added: those that are left lead to the bag of all
pub record AreAdded (choices : List Choice) (counts : List ℕ) (bag : List Choice) (place : ℕ) : Type 0 where
  pub left : filled (drop place choices) (drop place counts) bag ≡ bag_with choices counts
  pub many : length bag + sum (drop place counts) ≡ sum counts

pub added_none : (t : TablesData) (panel : ℕ) (counts : List ℕ) (bag : List Choice) → IsTables t → bag ≡ [] → AreAdded (choices_of (line_of t panel)) counts bag 0
added_none t panel counts bag is none =
    subst (λ (b : List Choice). AreAdded (choices_of (line_of t panel)) counts b 0) (sym none)
    (record { left = filled_from_none (choices_of (line_of t panel)) counts (line_of_rises t panel is); many = omega arith })

pub added_more : (choices : List Choice) (bytes : List ℕ) (n place count : ℕ) (bag : List Choice) (c : Choice) → n ≡ length choices → place < n → slice_get choices place ≡ Some c
    → count ≡ number4_at bytes (4 * place) → AreAdded choices (counters_in n bytes) bag place → AreAdded choices (counters_in n bytes) (with_choices count c bag) (place + 1)
added_more choices bytes n place count bag c many lt at is added =
    let counts : List ℕ = counters_in n bytes in
    let long = length-counters_in n bytes in
    let choices_left : drop place choices ≡ c ∷ drop (place + 1) choices =
    drop_more choices place c (omega arith) ∙ ap (λ (d : Choice). d ∷ drop (place + 1) choices) (get_or_from_slice_get choices place c c at) in
    let counts_left : drop place counts ≡ count ∷ drop (place + 1) counts =
    drop_more counts place 0 (omega arith) ∙ ap (λ (k : ℕ). k ∷ drop (place + 1) counts) (counter_there n place bytes lt ∙ sym is) in
    let total = ap sum counts_left ∙ sum_by-cons (λ k. k) count (drop (place + 1) counts) in
    record {
      left = sym (ap (λ (cs : List Choice). filled cs (drop place counts) bag) choices_left ∙ ap (λ (ks : List ℕ). filled (c ∷ drop (place + 1) choices) ks bag) counts_left) ∙ added.left;
      many = omega (arith, length-with_choices count c bag, added.many, total);
    }

-- a counter of nothing adds nothing
pub added_nothing : (choices : List Choice) (bytes : List ℕ) (n place count : ℕ) (bag : List Choice) (c : Choice) → n ≡ length choices → place < n → slice_get choices place ≡ Some c
    → count ≡ number4_at bytes (4 * place) → count ≡ 0 → AreAdded choices (counters_in n bytes) bag place → AreAdded choices (counters_in n bytes) bag (place + 1)
added_nothing choices bytes n place count bag c many lt at is none added =
    subst (λ (k : ℕ). AreAdded choices (counters_in n bytes) (with_choices k c bag) (place + 1)) none (added_more choices bytes n place count bag c many lt at is added)

-- what is left has room
pub added_fits : (choices : List Choice) (bytes : List ℕ) (n place count : ℕ) (bag : List Choice) → place < n → count ≡ number4_at bytes (4 * place)
    → AreAdded choices (counters_in n bytes) bag place → length bag + count ≤ sum (counters_in n bytes)
added_fits choices bytes n place count bag lt is added =
    let counts : List ℕ = counters_in n bytes in
    let long = length-counters_in n bytes in
    let total = ap sum (drop_more counts place 0 (omega arith)) ∙ sum_by-cons (λ k. k) (get_or counts place 0) (drop (place + 1) counts) in
    omega (arith, total, counter_there n place bytes lt, added.many)

pub added_all : (choices : List Choice) (bytes : List ℕ) (n place : ℕ) (bag : List Choice) → n ≡ length choices → n ≤ place → AreAdded choices (counters_in n bytes) bag place → bag ≡ bag_with choices (counters_in n bytes)
added_all choices bytes n place bag many all added = sym (ap (λ (cs : List Choice). filled cs (drop place (counters_in n bytes)) bag) (drop_all place choices (omega arith))) ∙ added.left

-- The bags of all panels

counted_many : (lines : List BallotLine) (n : ℕ) (bytes : List ℕ) (bags : List (List Choice)) → bags_counted lines n bytes ≡ Some bags → length bags ≡ length lines
unfolding bags_counted
counted_many [] n bytes bags e = let t = cond_some (are_zero bytes) [] bags e in ap length (sym t.1)
counted_many (line ∷ lines) n bytes bags e =
    let rest : List ℕ = drop (4 * length (choices_of line)) bytes in
    more_bags (bag_counted (choices_of line) (n * line.places) bytes) (bags_counted lines n rest) bags (length lines) e (λ others f. counted_many lines n rest others f)

first_counted : (line : BallotLine) (lines : List BallotLine) (n : ℕ) (bytes : List ℕ) (bag : List Choice) (bags : List (List Choice)) → bags_counted (line ∷ lines) n bytes ≡ Some (bag ∷ bags)
    → (bag_counted (choices_of line) (n * line.places) bytes ≡ Some bag) × (bags_counted lines n (drop (4 * length (choices_of line)) bytes) ≡ Some bags)
unfolding bags_counted
first_counted line lines n bytes bag bags e =
    split_bags (bag_counted (choices_of line) (n * line.places) bytes) (bags_counted lines n (drop (4 * length (choices_of line)) bytes)) bag bags e

bag_is : (choices : List Choice) (n : ℕ) (bytes : List ℕ) (bag : List Choice) → bag_counted choices n bytes ≡ Some bag
    → (sum (counters_in (length choices) bytes) ≡ n) × (bag_with choices (counters_in (length choices) bytes) ≡ bag)
unfolding bag_counted
bag_is choices n bytes bag e =
    let counts : List ℕ = counters_in (length choices) bytes in
    let t = cond_some (sum counts == n) (bag_with choices counts) bag e in
    (eqb-true (sum counts) n t.0, t.1)

-- the bytes have the counters from a panel on
abbrev pub HasCounters : TablesData → ℕ → ℕ → List ℕ → List (List Choice) → Type 0
HasCounters t n panel rest bags = bags_counted (drop panel (lines_by_panel t)) n rest ≡ Some (drop panel bags)

-- the counters of a panel
pub record HasPanel (t : TablesData) (n panel : ℕ) (rest : List ℕ) (bags : List (List Choice)) (counters : ℕ) : Type 0 where
  pub votes : sum (counters_in counters rest) ≡ n * places_at t panel
  pub bag : bag_with (choices_of (line_of t panel)) (counters_in counters rest) ≡ get_or bags panel []
  pub behind : HasCounters t n (panel + 1) (drop (4 * counters) rest) bags

pub panel_counted : (t : TablesData) (n panel : ℕ) (rest : List ℕ) (bags : List (List Choice)) (counters : ℕ) → panel < length t.panels → length bags ≡ length t.panels
    → counters ≡ length (choices_of (line_of t panel)) → HasCounters t n panel rest bags → HasPanel t n panel rest bags counters
panel_counted t n panel rest bags counters lt many is has =
    let line : BallotLine = line_of t panel in
    let found = first_counted line (drop (panel + 1) (lines_by_panel t)) n rest (get_or bags panel []) (drop (panel + 1) bags)
    (ap (λ (lines : List BallotLine). bags_counted lines n rest) (sym (lines_from_panel t panel lt)) ∙ has ∙ ap (λ (b : List (List Choice)). Some b) (drop_more bags panel [] (omega arith))) in
    let bag = bag_is (choices_of line) (n * line.places) rest (get_or bags panel []) found.0 in
    subst (HasPanel t n panel rest bags) (sym is) (record {
      votes = bag.0 ∙ ap (λ (k : ℕ). n * k) (line_places t panel lt);
      bag = bag.1;
      behind = found.1;
    })

-- what is so of the counters that are there
pub record AreThere (t : TablesData) (n : ℕ) (bytes : List ℕ) (bags : List (List Choice)) : Type 0 where
  pub many : length bags ≡ length t.panels
  pub found : bags_counted (lines_by_panel t) n (drop 512 bytes) ≡ Some bags

pub counters_found : (t : TablesData) (n : ℕ) (bytes : List ℕ) → IsSome (bags_second (lines_by_panel t) n bytes) → AreThere t n bytes (unwrap_or (bags_second (lines_by_panel t) n bytes) [])
unfolding bags_second
counters_found t n bytes is =
    let lines : List BallotLine = lines_by_panel t in
    let bags : List (List Choice) = unwrap_or (bags_second lines n bytes) [] in
    let counted = guard_some (are_zero (take 414 (drop 98 bytes))) (bags_counted lines n (drop 512 bytes)) bags (value_of (bags_second lines n bytes) [] is) in
    record { many = counted_many lines n (drop 512 bytes) bags counted.1 ∙ by_panel_length t; found = counted.1 }
