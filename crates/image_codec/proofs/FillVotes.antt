-- The votes that a ready state takes on are those that were read
use Rattle.std.proofs.Common.{◌≡◌, ℕ, zero, suc, ◌+◌, ◌*◌, ◌<◌, ◌≤◌, true, cond, ◌&&◌, ◌==◌, List, [], ◌∷◌, length, get_or, slice_set, take, drop, unwrap_or, Some, None, IsSome, option_map, refl, sym, ap, subst, ◌∙◌, arith}
use Rattle.std.specs.List.{AllByRecursion, slice_index}
use Rattle.std.proofs.lemmas.List.{drop-drop, drop_more, take_more, length-take-le}
use Rattle.std.proofs.lemmas.Option.{cond_some}
use Rattle.urna_base.proofs.Every.{every_take}
use Rattle.urna_base.proofs.Cases.{and_then_some, guard_some, map_some}
use Rattle.election_tables.specs.TablesData.{TablesData, places_at}
use Rattle.vote_kinds.specs.declared.choice.Choice.{Choice}
use Rattle.vote_kinds.specs.declared.choice.Choice.TheVariants as choice
use Rattle.vote_kinds.specs.Choice.{choice_le, choice_with}
use Rattle.vote_kinds.specs.Ballot.{BallotLine, lines_by_panel, line_of, is_choice}
use Rattle.vote_kinds.proofs.Lookups.{by_panel_length}
use Rattle.vote_record.specs.Bag.{IsInOrder, bag_at, with_choice, with_vote}
use Rattle.vote_record.proofs.Bags.{with_choice-last}
use Rattle.image_codec.specs.Numbers.{are_zero, number4_at}
use Rattle.image_codec.specs.DecodedVotes.{vote_in, votes_in, bag_in, bags_in}
use Rattle.image_codec.proofs.Fills.{more_bags, split_bags, value_of}
use Rattle.image_codec.proofs.Lines.{line_places, lines_from_panel}
use Rattle.image_codec.proofs.ReadBags.{TakesBag, bag_takes}
use Rattle.image_codec.proofs.WholeBody.{AreBytes}

-- One bag

-- each vote that was read is a choice
pub vote_found : (line : BallotLine) (before : Choice) (n i : ℕ) (bytes : List ℕ) (bag : List Choice) (d : Choice) → i < n → votes_in line before n bytes ≡ Some bag
    → choice_with (slice_index (drop (5 * i) bytes) 0) (number4_at (drop (5 * i) bytes) 1) ≡ Some (get_or bag i d)
unfolding vote_in votes_in
vote_found line before zero i bytes bag d lt e = absurd (omega arith)
vote_found line before (suc n) zero bytes bag d lt e =
    let a = and_then_some (vote_in line before bytes) (λ c. option_map (λ b. c ∷ b) (votes_in line c n (drop 5 bytes))) bag e in
    let b = map_some (λ b. a.0 ∷ b) (votes_in line a.0 n (drop 5 bytes)) bag a.2 in
    let v = and_then_some (choice_with (slice_index bytes 0) (number4_at bytes 1)) (λ c. cond (choice_le before c && is_choice line c) (Some c) None) a.0 a.1 in
    let t = cond_some (choice_le before v.0 && is_choice line v.0) v.0 a.0 v.2 in
    v.1 ∙ ap (λ (c : Choice). Some c) (t.1 ∙ ap (λ (l : List Choice). get_or l 0 d) b.2)
vote_found line before (suc n) (suc i) bytes bag d lt e =
    let a = and_then_some (vote_in line before bytes) (λ c. option_map (λ b. c ∷ b) (votes_in line c n (drop 5 bytes))) bag e in
    let b = map_some (λ b. a.0 ∷ b) (votes_in line a.0 n (drop 5 bytes)) bag a.2 in
    let further : drop (5 * suc i) bytes ≡ drop (5 * i) (drop 5 bytes) = ap (λ (k : ℕ). drop k bytes) (omega arith) ∙ sym (drop-drop (5 * i) 5 bytes) in
    ap (λ (r : List ℕ). choice_with (slice_index r 0) (number4_at r 1)) further ∙ vote_found line a.0 n i (drop 5 bytes) b.0 d (omega arith) b.1
    ∙ ap (λ (l : List Choice). Some (get_or l (suc i) d)) b.2

-- what is so of a bag that is there
pub bag_facts : (line : BallotLine) (n : ℕ) (bytes : List ℕ) → AreBytes bytes → 4 + 5 * n ≤ length bytes → IsSome (bag_in line n bytes) → TakesBag line n bytes (unwrap_or (bag_in line n bytes) [])
bag_facts line n bytes are long is = bag_takes line n bytes (unwrap_or (bag_in line n bytes) []) are long (value_of (bag_in line n bytes) [] is)

starts_votes : (line : BallotLine) (n : ℕ) (bytes : List ℕ) (bag : List Choice) → bag_in line n bytes ≡ Some bag → votes_in line (choice.Nominal 0) n (drop 4 bytes) ≡ Some bag
unfolding bag_in
starts_votes line n bytes bag e = (guard_some (number4_at bytes 0 == n) (votes_in line (choice.Nominal 0) n (drop 4 bytes)) bag e).1

pub vote_of_bag : (line : BallotLine) (n i : ℕ) (bytes rest : List ℕ) (d : Choice) → i < n → IsSome (bag_in line n bytes) → rest ≡ drop (5 * i) (drop 4 bytes)
    → choice_with (slice_index rest 0) (number4_at rest 1) ≡ Some (get_or (unwrap_or (bag_in line n bytes) []) i d)
vote_of_bag line n i bytes rest d lt is e =
    ap (λ (r : List ℕ). choice_with (slice_index r 0) (number4_at r 1)) e
    ∙ vote_found line (choice.Nominal 0) n i (drop 4 bytes) (unwrap_or (bag_in line n bytes) []) d lt
    (starts_votes line n bytes (unwrap_or (bag_in line n bytes) []) (value_of (bag_in line n bytes) [] is))

order_take : (i : ℕ) (bag : List Choice) → IsInOrder bag → IsInOrder (take i bag)
order_take zero bag order = tt
order_take (suc i) [] order = tt
order_take (suc i) (c ∷ bag) order = (every_take (λ d. choice_le c d ≡ true) i bag order.0, order_take i bag order.1)

pub all_get : (P : Choice → Type 0) (bag : List Choice) (i : ℕ) (d : Choice) → AllByRecursion P bag → i < length bag → P (get_or bag i d)
all_get P [] i d all lt = absurd (omega arith)
all_get P (c ∷ bag) zero d all lt = all.0
all_get P (c ∷ bag) (suc i) d all lt = all_get P bag i d all.1 (omega arith)

all_before : (bag : List Choice) (i : ℕ) (d : Choice) → IsInOrder bag → i < length bag → AllByRecursion (λ e. choice_le e (get_or bag i d) ≡ true) (take i bag)
all_before bag zero d order lt = tt
all_before [] (suc i) d order lt = tt
all_before (c ∷ bag) (suc i) d order lt = (all_get (λ e. choice_le c e ≡ true) bag i d order.0 (omega arith), all_before bag i d order.1 (omega arith))

-- the next vote goes to the end
with_choice-next : (bag : List Choice) (i : ℕ) (d : Choice) → IsInOrder bag → i < length bag → with_choice (get_or bag i d) (take i bag) ≡ take (i + 1) bag
with_choice-next bag i d order lt = with_choice-last (get_or bag i d) (take i bag) (order_take i bag order) (all_before bag i d order lt) ∙ sym (take_more bag i d lt)

with_vote-set : (panel : ℕ) (c : Choice) (bag : List Choice) (bags : List (List Choice)) → with_vote panel c (slice_set bags panel bag) ≡ slice_set bags panel (with_choice c bag)
with_vote-set panel c bag [] = refl
with_vote-set zero c bag (b ∷ bags) = refl
with_vote-set (suc panel) c bag (b ∷ bags) = ap (λ (r : List (List Choice)). b ∷ r) (with_vote-set panel c bag bags)

-- the bags with the first votes of a panel
abbrev pub first_votes : List (List Choice) → ℕ → List Choice → ℕ → List (List Choice)
first_votes bags panel bag i = slice_set bags panel (take i bag)

pub first_none : (bags : List (List Choice)) (panel : ℕ) (bag : List Choice) → bag_at bags panel ≡ [] → bags ≡ first_votes bags panel bag 0
first_none [] panel bag e = refl
first_none (b ∷ bags) zero bag e = ap (λ (r : List Choice). r ∷ bags) e
first_none (b ∷ bags) (suc panel) bag e = ap (λ (r : List (List Choice)). b ∷ r) (first_none bags panel bag e)

pub first_more : (bags : List (List Choice)) (panel i : ℕ) (bag : List Choice) (c d : Choice) → IsInOrder bag → i < length bag → c ≡ get_or bag i d
    → with_vote panel c (first_votes bags panel bag i) ≡ first_votes bags panel bag (i + 1)
first_more bags panel i bag c d order lt is =
    with_vote-set panel c (take i bag) bags ∙ ap (λ (e : Choice). slice_set bags panel (with_choice e (take i bag))) is
    ∙ ap (slice_set bags panel) (with_choice-next bag i d order lt)

pub first_count : (bags : List (List Choice)) (panel i : ℕ) (bag : List Choice) → panel < length bags → i ≤ length bag → length (bag_at (first_votes bags panel bag i) panel) ≡ i
first_count [] panel i bag lt le = absurd (omega arith)
first_count (b ∷ bags) zero i bag lt le = length-take-le i bag le
first_count (b ∷ bags) (suc panel) i bag lt le = first_count bags panel i bag (omega arith) le

-- The bags of all panels

bags_many : (lines : List BallotLine) (n : ℕ) (bytes : List ℕ) (bags : List (List Choice)) → bags_in lines n bytes ≡ Some bags → length bags ≡ length lines
unfolding bags_in
bags_many [] n bytes bags e = let t = cond_some (are_zero bytes) [] bags e in ap length (sym t.1)
bags_many (line ∷ lines) n bytes bags e =
    let rest : List ℕ = drop (4 + 5 * (n * line.places)) bytes in
    more_bags (bag_in line (n * line.places) bytes) (bags_in lines n rest) bags (length lines) e (λ others f. bags_many lines n rest others f)

first_bag : (line : BallotLine) (lines : List BallotLine) (n : ℕ) (bytes : List ℕ) (bag : List Choice) (bags : List (List Choice)) → bags_in (line ∷ lines) n bytes ≡ Some (bag ∷ bags)
    → (bag_in line (n * line.places) bytes ≡ Some bag) × (bags_in lines n (drop (4 + 5 * (n * line.places)) bytes) ≡ Some bags)
unfolding bags_in
first_bag line lines n bytes bag bags e = split_bags (bag_in line (n * line.places) bytes) (bags_in lines n (drop (4 + 5 * (n * line.places)) bytes)) bag bags e

-- the bytes have the bags from a panel on
abbrev pub HasRest : TablesData → ℕ → ℕ → List ℕ → List (List Choice) → Type 0
HasRest t n panel rest bags = bags_in (drop panel (lines_by_panel t)) n rest ≡ Some (drop panel bags)

pub panel_bag : (t : TablesData) (n panel : ℕ) (rest : List ℕ) (bags : List (List Choice)) → panel < length t.panels → length bags ≡ length t.panels → HasRest t n panel rest bags
    → (bag_in (line_of t panel) (n * places_at t panel) rest ≡ Some (get_or bags panel [])) × HasRest t n (panel + 1) (drop (4 + 5 * (n * places_at t panel)) rest) bags
panel_bag t n panel rest bags lt many has =
    let line : BallotLine = line_of t panel in
    let found = first_bag line (drop (panel + 1) (lines_by_panel t)) n rest (get_or bags panel []) (drop (panel + 1) bags)
    (ap (λ (lines : List BallotLine). bags_in lines n rest) (sym (lines_from_panel t panel lt)) ∙ has ∙ ap (λ (b : List (List Choice)). Some b) (drop_more bags panel [] (omega arith))) in
    let places = line_places t panel lt in
    (subst (λ (k : ℕ). bag_in line (n * k) rest ≡ Some (get_or bags panel [])) places found.0, subst (λ (k : ℕ). HasRest t n (panel + 1) (drop (4 + 5 * (n * k)) rest) bags) places found.1)

-- what is so of the bags that are there
pub bags_found : (t : TablesData) (n : ℕ) (bytes : List ℕ) → IsSome (bags_in (lines_by_panel t) n bytes) → length (unwrap_or (bags_in (lines_by_panel t) n bytes) []) ≡ length t.panels
bags_found t n bytes is =
    bags_many (lines_by_panel t) n bytes (unwrap_or (bags_in (lines_by_panel t) n bytes) []) (value_of (bags_in (lines_by_panel t) n bytes) [] is) ∙ by_panel_length t
