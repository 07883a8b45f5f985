-- One voter's ballot changes few pages of a body: the first, in which the head stands, and for each vote the one with its counter.
use Rattle.std.proofs.Common.{◌≡◌, ◌≢◌, ℕ, zero, suc, ◌+◌, ◌-◌, ◌*◌, ◌/◌, ◌≤◌, inl, inr, Bool, false, cond, List, [], ◌∷◌, ◌++◌, length, take, drop, replicate, refl, sym, ap, subst, ◌∙◌, append_assoc, arith, length-append, length-drop}
use Rattle.std.specs.Int.{w32, to_be_bytes}
use Rattle.std.specs.List.{flat_map, AllByRecursion}
use Rattle.std.proofs.lemmas.Bool.{cases_Bool, cases_lt}
use Rattle.std.proofs.lemmas.List.{drop-append-le, take-append-le, length-replicate}
use Rattle.std.proofs.Math.Seq.{drop-append-add}
use Rattle.election_tables.specs.TablesData.{TablesData, IsTables}
use Rattle.election_tables.proofs.PlacesOfPanels.{lines_few}
use Rattle.vote_kinds.specs.declared.choice.Choice.{Choice}
use Rattle.vote_kinds.specs.Choice.{AreRising, choice_le, is_same}
use Rattle.vote_kinds.specs.Ballot.{BallotLine, ballot_lines, choices_of, lines_by_panel}
use Rattle.vote_kinds.proofs.LineChoices.{lines_rise}
use Rattle.vote_kinds.proofs.Lookups.{by_panel_length, lines_length}
use Rattle.vote_record.specs.Bag.{count_of, with_choice, with_vote}
use Rattle.vote_record.specs.Counters.{counts_of}
use Rattle.vote_record.proofs.Bags.{count_of-with_choice, same_true}
use Rattle.vote_record.proofs.Counting.{not_same}
use Rattle.turnout.specs.declared.phase.Phase.{Phase}
use Rattle.turnout.specs.declared.phase.Phase.TheVariants as phase
use Rattle.gate_slot.specs.Page.{changed_below, changed_pages, page, page_size}
use Rattle.gate_slot.proofs.Changed.{changed_in_two, one_page_changes}
use Rattle.image_codec.specs.State.{State, sealed_by, with_ballot, with_votes}
use Rattle.image_codec.specs.Encoding.{IsStateOf, counter_bytes, encode, head_bytes, written}
use Rattle.image_codec.proofs.Ballots.{length-with_votes}
use Rattle.image_codec.proofs.Valid.{bag_for_each}
use Rattle.image_codec.specs.Layout.{body_size, counter_size, counters_offset, head_size, version}
use Rattle.image_codec.proofs.Lengths.{counters_text, encode_parts, length-counter_bytes, length-counters_text, written_is}
use Rattle.image_codec.proofs.Written.{length-head_bytes}
use Rattle.state_store.specs.Cost.{BallotCostsFew, OpeningCostsOnePage, SealingCostsOnePage}

-- Bodies that differ in bytes of one page

-- a page that ends within the front
page_within : (front back : List ℕ) (k : ℕ) → (k + 1) * page_size ≤ length front → page k (front ++ back) ≡ page k front
page_within front back k ends =
    let size = k * page_size + page_size - k * page_size in
    ap (take size) (drop-append-le (k * page_size) front back (omega arith))
    ∙ take-append-le size (drop (k * page_size) front) back (omega (arith, length-drop (k * page_size) front))

-- behind fronts of one length the same bytes stand in the same places
drop_past : (xs ys back : List ℕ) (n : ℕ) → length xs ≡ length ys → length xs ≤ n → drop n (xs ++ back) ≡ drop n (ys ++ back)
drop_past xs ys back n long past =
    let more = n - length xs in
    let first : n ≡ length xs + more = omega arith in
    let second : length ys + more ≡ n = omega arith in
    ap (λ (k : ℕ). drop k (xs ++ back)) first ∙ drop-append-add xs back more ∙ sym (drop-append-add ys back more) ∙ ap (λ (k : ℕ). drop k (ys ++ back)) second

module _ (front was now back : List ℕ) (p : ℕ) (long : length now ≡ length was) (from : p * page_size ≤ length front) (to : length front + length was ≤ (p + 1) * page_size) where
  other_pages : (k : ℕ) → k ≢ p → page k (front ++ (was ++ back)) ≡ page k (front ++ (now ++ back))
  other_pages k other = elim (cases_lt k p) [
    | inl below ↦ page_within front (was ++ back) k (omega arith) ∙ sym (page_within front (now ++ back) k (omega arith))
    | inr above ↦
        let was_long = length-append front was in
        let now_long = length-append front now in
        ap (page k) (sym (append_assoc front was back))
        ∙ ap (take (k * page_size + page_size - k * page_size)) (drop_past (front ++ was) (front ++ now) back (k * page_size) (omega arith) (omega arith))
        ∙ ap (page k) (append_assoc front now back)
  ]

  one_part_changes : (n : ℕ) → length (changed_below n (front ++ (was ++ back)) (front ++ (now ++ back))) ≤ 1
  one_part_changes n = one_page_changes (front ++ (was ++ back)) (front ++ (now ++ back)) p other_pages n

-- One vote changes one counter

-- two texts that differ in one counter at most, behind so many counters
record InOneCounter (old new : List ℕ) : Type 0 where
  counters : ℕ
  front : List ℕ
  before : length front ≡ counter_size * counters
  was : List ℕ
  now : List ℕ
  few : length was ≤ counter_size
  long : length now ≡ length was
  back : List ℕ
  old_is : old ≡ front ++ (was ++ back)
  new_is : new ≡ front ++ (now ++ back)

-- they don't differ
in_none : (text : List ℕ) → InOneCounter text text
in_none text = record { counters = 0; front = []; before = refl; was = []; now = []; few = omega arith; long = refl; back = text; old_is = refl; new_is = refl }

-- they differ in a counter of four bytes at the front
in_first : (was now back : List ℕ) → length was ≡ counter_size → length now ≡ counter_size → InOneCounter (was ++ back) (now ++ back)
in_first was now back four as_long =
    record { counters = 0; front = []; before = refl; was = was; now = now; few = omega arith; long = as_long ∙ sym four; back = back; old_is = refl; new_is = refl }

-- so do texts with these behind other counters
in_later : (n : ℕ) (before old new : List ℕ) → length before ≡ counter_size * n → InOneCounter old new → InOneCounter (before ++ old) (before ++ new)
in_later n before old new many one =
    record {
      counters = n + one.counters;
      front = before ++ one.front;
      before = omega (arith, length-append before one.front, many, one.before);
      was = one.was;
      now = one.now;
      few = one.few;
      long = one.long;
      back = one.back;
      old_is = ap (λ (r : List ℕ). before ++ r) one.old_is ∙ sym (append_assoc before one.front (one.was ++ one.back));
      new_is = ap (λ (r : List ℕ). before ++ r) one.new_is ∙ sym (append_assoc before one.front (one.now ++ one.back));
    }

regroup : (a b c d : List ℕ) → (a ++ (b ++ c)) ++ d ≡ a ++ (b ++ (c ++ d))
regroup a b c d = simp append_assoc

-- and in front of other bytes
in_earlier : (old new after : List ℕ) → InOneCounter old new → InOneCounter (old ++ after) (new ++ after)
in_earlier old new after one =
    record {
      counters = one.counters;
      front = one.front;
      before = one.before;
      was = one.was;
      now = one.now;
      few = one.few;
      long = one.long;
      back = one.back ++ after;
      old_is = ap (λ (r : List ℕ). r ++ after) one.old_is ∙ regroup one.front one.was one.back after;
      new_is = ap (λ (r : List ℕ). r ++ after) one.new_is ∙ regroup one.front one.now one.back after;
    }

-- a vote leaves the count of another choice
other_count : (c d : Choice) (bag : List Choice) → is_same d c ≡ false → count_of d (with_choice c bag) ≡ count_of d bag
other_count c d bag other = count_of-with_choice d c bag ∙ ap (λ (b : Bool). cond b 1 0 + count_of d bag) other ∙ omega arith

-- and those of all choices behind its own
later_counts : (c : Choice) (choices bag : List Choice) → AllByRecursion (λ d. choice_le d c ≡ false) choices → counts_of choices (with_choice c bag) ≡ counts_of choices bag
later_counts c [] bag later = refl
later_counts c (d ∷ choices) bag later =
    ap (λ (k : ℕ). k ∷ counts_of choices (with_choice c bag)) (other_count c d bag (not_same d c later.0))
    ∙ ap (λ (ks : List ℕ). count_of d bag ∷ ks) (later_counts c choices bag later.1)

-- the counters of a bag
abbrev text_with : List Choice → List Choice → List ℕ
text_with choices bag = flat_map (to_be_bytes w32) (counts_of choices bag)

-- the counters of choices, of which each stands once
panel_vote : (c : Choice) (choices bag : List Choice) → AreRising choices → InOneCounter (text_with choices bag) (text_with choices (with_choice c bag))
panel_vote c [] bag rise = in_none []
panel_vote c (d ∷ choices) bag rise =
    let was : List ℕ = to_be_bytes w32 (count_of d bag) in
    let now : List ℕ = to_be_bytes w32 (count_of d (with_choice c bag)) in
    let back : List ℕ = text_with choices bag in
    elim (cases_Bool (is_same d c)) [
      | inl same ↦
          let kept : text_with choices (with_choice c bag) ≡ back =
          ap (flat_map (to_be_bytes w32)) (subst (λ (e : Choice). counts_of choices (with_choice e bag) ≡ counts_of choices bag) (same_true d c same) (later_counts d choices bag rise.0)) in
          subst (λ (r : List ℕ). InOneCounter (was ++ back) (now ++ r)) (sym kept) (in_first was now back refl refl)
      | inr other ↦
          subst (λ (k : ℕ). InOneCounter (was ++ back) (to_be_bytes w32 k ++ text_with choices (with_choice c bag))) (sym (other_count c d bag other))
          (in_later 1 was back (text_with choices (with_choice c bag)) refl (panel_vote c choices bag rise.1))
    ]

-- on each line the choices rise, so each stands once
abbrev AllRise : List BallotLine → Type 0
AllRise lines = AllByRecursion (λ line. AreRising (choices_of line)) lines

-- the counters of all panels
vote : (panel : ℕ) (c : Choice) (lines : List BallotLine) (bags : List (List Choice)) → AllRise lines → InOneCounter (counters_text lines bags) (counters_text lines (with_vote panel c bags))
vote panel c [] bags rise = in_none []
vote panel c (line ∷ lines) [] rise = in_none []
vote zero c (line ∷ lines) (bag ∷ bags) rise =
    in_earlier (counter_bytes (line, bag)) (counter_bytes (line, with_choice c bag)) (counters_text lines bags) (panel_vote c (choices_of line) bag rise.0)
vote (suc panel) c (line ∷ lines) (bag ∷ bags) rise =
    in_later (length (choices_of line)) (counter_bytes (line, bag)) (counters_text lines bags) (counters_text lines (with_vote panel c bags)) (length-counter_bytes line bag)
    (vote panel c lines bags rise.1)

-- how many counters a page has
abbrev page_counters : ℕ
page_counters = page_size / counter_size

-- a counter lies in one page
counter_changes : (old new : List ℕ) (n : ℕ) → InOneCounter old new → length (changed_below n old new) ≤ 1
counter_changes old new n one =
    let was : List ℕ = one.front ++ (one.was ++ one.back) in
    let same : changed_below n old new ≡ changed_below n was (one.front ++ (one.now ++ one.back)) = ap (λ (b : List ℕ). changed_below n b new) one.old_is ∙ ap (changed_below n was) one.new_is in
    let before = one.before in
    let few = one.few in
    let bound = one_part_changes one.front one.was one.now one.back (one.counters / page_counters) one.long (omega arith) (omega arith) n in
    omega (arith, ap length same, bound)

-- A ballot changes the first page, and one for each vote

module _ (t : TablesData) (zeros : List ℕ) where
  -- a body with this first page and the counters of these bags
  abbrev body_of : List ℕ → List (List Choice) → List ℕ
  body_of first bags = first ++ (counters_text (lines_by_panel t) bags ++ zeros)

  first_changes : (first now : List ℕ) (bags : List (List Choice)) (n : ℕ) → length first ≡ page_size → length now ≡ page_size → length (changed_below n (body_of first bags) (body_of now bags)) ≤ 1
  first_changes first now bags n whole as_long = one_part_changes [] first now (counters_text (lines_by_panel t) bags ++ zeros) 0 (as_long ∙ sym whole) (omega arith) (omega arith) n

  vote_changes : (first : List ℕ) (panel : ℕ) (c : Choice) (bags : List (List Choice)) (n : ℕ) → IsTables t → length first ≡ page_size
      → length (changed_below n (body_of first bags) (body_of first (with_vote panel c bags))) ≤ 1
  vote_changes first panel c bags n is whole =
      let old : List ℕ = counters_text (lines_by_panel t) bags in
      let new : List ℕ = counters_text (lines_by_panel t) (with_vote panel c bags) in
      counter_changes (first ++ (old ++ zeros)) (first ++ (new ++ zeros)) n
      (in_later page_counters first (old ++ zeros) (new ++ zeros) whole (in_earlier old new zeros (vote panel c (lines_by_panel t) bags (lines_rise t is))))

  ballot_changes : (first now : List ℕ) (lines : List BallotLine) (choices : List Choice) (bags : List (List Choice)) (n : ℕ) → IsTables t → length first ≡ page_size → length now ≡ page_size
      → length (changed_below n (body_of first bags) (body_of now (with_votes lines choices bags))) ≤ 1 + length lines
  ballot_changes first now [] choices bags n is whole as_long = first_changes first now bags n whole as_long
  ballot_changes first now (line ∷ lines) [] bags n is whole as_long = omega (arith, first_changes first now bags n whole as_long)
  ballot_changes first now (line ∷ lines) (c ∷ choices) bags n is whole as_long =
      let after : List (List Choice) = with_vote line.panel c bags in
      omega (
        arith,
        changed_in_two (body_of first bags) (body_of first after) (body_of now (with_votes lines choices after)) n,
        vote_changes first line.panel c bags n is whole,
        ballot_changes first now lines choices after n is whole as_long,
      )

-- The encodings of states

-- the head, and zeros up to the counters
abbrev first_page : State → List ℕ
first_page s = head_bytes version s ++ replicate (counters_offset - head_size) 0

is_page : (s : State) → length (first_page s) ≡ page_size
is_page s = omega (arith, length-append (head_bytes 2 s) (replicate 414 0), length-head_bytes 2 s, length-replicate {A = ℕ} 414 0)

-- the counters of a state, and the zeros behind them
abbrev text_of : TablesData → State → List ℕ
text_of t s = counters_text (lines_by_panel t) s.bags

abbrev zeros_of : TablesData → State → List ℕ
zeros_of t s = replicate (body_size - length (written t s)) 0

encoding : (t : TablesData) (s : State) → encode t s ≡ body_of t (zeros_of t s) (first_page s) s.bags
encoding t s = encode_parts t s ∙ sym (append_assoc (head_bytes 2 s) (replicate 414 0) (text_of t s ++ zeros_of t s))

written_long : (t : TablesData) (s : State) → length (written t s) ≡ page_size + length (text_of t s)
written_long t s = omega (arith, ap length (written_is t s), length-append (first_page s) (text_of t s), is_page s)

-- where the counters of two states take as many bytes, as many zeros are behind them
changed_between : (t : TablesData) (s u : State) → length (text_of t u) ≡ length (text_of t s) → length (changed_pages (encode t s) (encode t u))
    ≡ length (changed_below (length (encode t u) / page_size) (body_of t (zeros_of t s) (first_page s) s.bags) (body_of t (zeros_of t s) (first_page u) u.bags))
changed_between t s u long =
    let n : ℕ = length (encode t u) / page_size in
    let as_many : length (written t u) ≡ length (written t s) = omega (arith, written_long t s, written_long t u) in
    let now = encoding t u ∙ ap (λ (k : ℕ). body_of t (replicate (body_size - k) 0) (first_page u) u.bags) as_many in
    ap (λ (b : List ℕ). length (changed_below n b (encode t u))) (encoding t s)
    ∙ ap (λ (b : List ℕ). length (changed_below n (body_of t (zeros_of t s) (first_page s) s.bags) b)) now

-- another phase changes the first page alone
phase_pages : (t : TablesData) (s : State) (p : Phase) → length (changed_pages (encode t s) (encode t (record { phase = p; came = s.came; places = s.places; bags = s.bags }))) ≤ 1
phase_pages t s p =
    let u : State = record { phase = p; came = s.came; places = s.places; bags = s.bags } in
    let n : ℕ = length (encode t u) / page_size in
    omega (arith, changed_between t s u refl, first_changes t (zeros_of t s) (first_page s) (first_page u) s.bags n (is_page s) (is_page u))

pub opening_costs_one_page : OpeningCostsOnePage
opening_costs_one_page t s m = omega (arith, phase_pages t s (phase.Polling m))

pub sealing_costs_one_page : SealingCostsOnePage
sealing_costs_one_page t s m = omega (arith, phase_pages t s (sealed_by s.phase m))

-- a ballot changes two pages more than there are panels, at most
ballot_pages : (t : TablesData) (voters : ℕ) (s : State) (place : ℕ) (choices : List Choice) → IsTables t → IsStateOf t voters s
    → length (changed_pages (encode t s) (encode t (with_ballot (ballot_lines t) s place choices))) ≤ 2 + length t.panels
ballot_pages t voters s place choices is of =
    let u : State = with_ballot (ballot_lines t) s place choices in
    let n : ℕ = length (encode t u) / page_size in
    let many : length s.bags ≡ length (lines_by_panel t) = bag_for_each t s of.valid of.places ∙ sym (by_panel_length t) in
    let as_many : length u.bags ≡ length (lines_by_panel t) = length-with_votes (ballot_lines t) choices s.bags ∙ many in
    let long : length (text_of t u) ≡ length (text_of t s) = length-counters_text (lines_by_panel t) u.bags as_many ∙ sym (length-counters_text (lines_by_panel t) s.bags many) in
    let few = ballot_changes t (zeros_of t s) (first_page s) (first_page u) (ballot_lines t) choices s.bags n is (is_page s) (is_page u) in
    omega (arith, changed_between t s u long, few, lines_length t, lines_few t is)

pub ballot_costs_few : BallotCostsFew
ballot_costs_few t voters s place choices is few of ballot = omega (arith, ballot_pages t voters s place choices is of)
