-- Bags that are read are those that were written, and what was written is read again
use Rattle.std.proofs.Common.{◌≡◌, ℕ, zero, suc, ◌+◌, ◌-◌, ◌*◌, ◌^◌, ◌<◌, ◌≤◌, Bool, true, cond, ◌==◌, List, [], ◌∷◌, ◌++◌, length, map, take, drop, replicate, Option, Some, None, option_map, refl, sym, ap, subst, ◌∙◌, append_assoc, arith}
use Rattle.std.specs.Option.{option_and_then}
use Rattle.std.specs.Int.{w32, to_be_bytes}
use Rattle.std.specs.List.{All, flat_map, AllByRecursion}
use Rattle.std.proofs.lemmas.Bool.{eqb-true, eq-eqb, le-leb, and_parts}
use Rattle.std.proofs.lemmas.List.Elements.{All-head, All-tail}
use Rattle.std.proofs.lemmas.List.{drop-drop, drop_at, take-append-drop, length-drop, length-append}
use Rattle.std.proofs.lemmas.Nat.{from_be_bytes-to_be_bytes_4}
use Rattle.std.proofs.lemmas.Option.{cond_some}
use Rattle.urna_base.proofs.Cases.{and_then_some, guard_some, map_some}
use Rattle.election_tables.specs.Limits.{most_voters}
use Rattle.election_tables.specs.TablesData.{IsPanel, IsTables, TablesData}
use Rattle.election_tables.specs.declared.tables.panels.Panel.{Panel}
use Rattle.election_tables.proofs.PlacesOfPanels.{office_few}
use Rattle.vote_kinds.specs.declared.choice.Choice.{Choice}
use Rattle.vote_kinds.specs.declared.choice.Choice.TheVariants as choice
use Rattle.vote_kinds.specs.Choice.{choice_le}
use Rattle.vote_kinds.specs.Ballot.{BallotLine, lines_by_panel, lines_from, is_choice}
use Rattle.vote_record.specs.Bag.{IsInOrder}
use Rattle.image_codec.specs.Valid.{AllHaveVoted, HasChoices}
use Rattle.image_codec.specs.Encoding.{vote_bytes, bag_bytes}
use Rattle.image_codec.specs.Numbers.{are_zero, number4_at}
use Rattle.image_codec.specs.DecodedVotes.{votes_in, bag_in, bags_in}
use Rattle.image_codec.proofs.Full.{full_cons, full_head, full_tail}
use Rattle.image_codec.proofs.Ballots.{AreOf, of-panel, choices_below, choices_after}
use Rattle.image_codec.proofs.ReadVotes.{bytes_drop, number4_back, HasSmall, votes_take, votes_back}
use Rattle.image_codec.proofs.WholeBody.{AreBytes}
use Rattle.image_codec.proofs.Lengths.{length-bag_bytes}

-- One bag

-- a bag is read from the front of bytes
pub record TakesBag (line : BallotLine) (n : ℕ) (bytes : List ℕ) (bag : List Choice) : Type 0 where
  pub text : bytes ≡ bag_bytes bag ++ drop (4 + 5 * n) bytes
  pub many : length bag ≡ n
  pub choices : AllByRecursion (λ c. is_choice line c ≡ true) bag
  pub in_order : IsInOrder bag

pub bag_takes : (line : BallotLine) (n : ℕ) (bytes : List ℕ) (bag : List Choice) → AreBytes bytes → 4 + 5 * n ≤ length bytes → bag_in line n bytes ≡ Some bag → TakesBag line n bytes bag
unfolding bag_in
bag_takes line n bytes bag are long e =
    let t = guard_some (number4_at bytes 0 == n) (votes_in line (choice.Nominal 0) n (drop 4 bytes)) bag e in
    let votes = votes_take line (choice.Nominal 0) n (drop 4 bytes) bag (bytes_drop 4 bytes are) (omega (arith, length-drop 4 bytes)) t.1 in
    let count : to_be_bytes w32 (length bag) ≡ take 4 bytes =
    number4_back bytes 0 (length bag) are (omega arith) (votes.many ∙ sym (eqb-true (number4_at bytes 0) n t.0)) in
    let further : drop (5 * n) (drop 4 bytes) ≡ drop (4 + 5 * n) bytes = drop-drop (5 * n) 4 bytes in
    record {
      text = sym (take-append-drop 4 bytes) ∙ ap (λ (f : List ℕ). f ++ drop 4 bytes) (sym count)
          ∙ ap (λ (r : List ℕ). to_be_bytes w32 (length bag) ++ r) (votes.text ∙ ap (λ (r : List ℕ). flat_map vote_bytes bag ++ r) further)
          ∙ sym (append_assoc (to_be_bytes w32 (length bag)) (flat_map vote_bytes bag) (drop (4 + 5 * n) bytes));
      many = votes.many;
      choices = votes.choices;
      in_order = votes.in_order;
    }

-- every choice stands at the lowest or after it
after_lowest : (bag : List Choice) → AllByRecursion (λ c. choice_le (choice.Nominal 0) c ≡ true) bag
after_lowest [] = tt
after_lowest (choice.Nominal n ∷ bag) = (le-leb 0 n (omega arith), after_lowest bag)
after_lowest (choice.Party n ∷ bag) = (refl, after_lowest bag)
after_lowest (choice.Blank ∷ bag) = (refl, after_lowest bag)
after_lowest (choice.Null ∷ bag) = (refl, after_lowest bag)

pub bag_back : (line : BallotLine) (n : ℕ) (bag : List Choice) (rest : List ℕ) → HasSmall line → AllByRecursion (λ c. is_choice line c ≡ true) bag → IsInOrder bag
    → length bag ≡ n → n < 2 ^ 32 → bag_in line n (bag_bytes bag ++ rest) ≡ Some bag
unfolding bag_in
bag_back line n bag rest small choices order many few =
    let behind : List ℕ = flat_map vote_bytes bag ++ rest in
    let count : (number4_at (to_be_bytes w32 (length bag) ++ behind) 0 == n) ≡ true =
    eq-eqb (number4_at (to_be_bytes w32 (length bag) ++ behind) 0) n (from_be_bytes-to_be_bytes_4 (length bag) (omega arith) ∙ many) in
    ap (bag_in line n) (append_assoc (to_be_bytes w32 (length bag)) (flat_map vote_bytes bag) rest)
    ∙ ap (λ (b : Bool). cond b (votes_in line (choice.Nominal 0) n behind) None) count
    ∙ ap (λ (k : ℕ). votes_in line (choice.Nominal 0) k behind) (sym many)
    ∙ votes_back line (choice.Nominal 0) bag rest small choices (after_lowest bag) order

-- The bags of all lines

-- each bag has choices of its line
abbrev pub AreVotes : List BallotLine → List (List Choice) → Type 0
AreVotes [] [] = Unit {0}
AreVotes [] (bag ∷ bags) = ⊥
AreVotes (line ∷ lines) [] = ⊥
AreVotes (line ∷ lines) (bag ∷ bags) = AreOf line bag × AreVotes lines bags

-- bags for each line, with all votes of so many voters
pub record AreBags (lines : List BallotLine) (n : ℕ) (bags : List (List Choice)) : Type 0 where
  pub as_many : length bags ≡ length lines
  pub full : AllHaveVoted n (map (λ line. line.places) lines) bags
  pub in_order : AllByRecursion IsInOrder bags
  pub votes : AreVotes lines bags

pub no_bags : (n : ℕ) → AreBags [] n []
no_bags n = record { as_many = refl; full = refl; in_order = tt; votes = tt }

pub one_bag_more : (line : BallotLine) (lines : List BallotLine) (n : ℕ) (bag : List Choice) (bags : List (List Choice))
    → length bag ≡ n * line.places → AreOf line bag → IsInOrder bag → AreBags lines n bags → AreBags (line ∷ lines) n (bag ∷ bags)
one_bag_more line lines n bag bags many choices order rest = record {
  as_many = ap suc rest.as_many;
  full = full_cons n line.places (map (λ l. l.places) lines) bag bags many rest.full;
  in_order = (order, rest.in_order);
  votes = (choices, rest.votes);
}

-- the first of them, and the others
pub record HasFirst (line : BallotLine) (lines : List BallotLine) (n : ℕ) (bag : List Choice) (bags : List (List Choice)) : Type 0 where
  pub many : length bag ≡ n * line.places
  pub choices : AreOf line bag
  pub in_order : IsInOrder bag
  pub rest : AreBags lines n bags

pub first_bag : (line : BallotLine) (lines : List BallotLine) (n : ℕ) (bag : List Choice) (bags : List (List Choice)) → AreBags (line ∷ lines) n (bag ∷ bags) → HasFirst line lines n bag bags
first_bag line lines n bag bags all = record {
  many = full_head n line.places (map (λ l. l.places) lines) bag bags all.full;
  choices = all.votes.0;
  in_order = all.in_order.0;
  rest = record {
    as_many = omega (arith, all.as_many);
    full = full_tail n line.places (map (λ l. l.places) lines) bag bags all.full;
    in_order = all.in_order.1;
    votes = all.votes.1;
  };
}

-- they are read from bytes
pub record TakesBags (lines : List BallotLine) (n : ℕ) (bytes : List ℕ) (bags : List (List Choice)) : Type 0 where
  pub text : bytes ≡ flat_map bag_bytes bags ++ replicate (length bytes - length (flat_map bag_bytes bags)) 0
  pub are : AreBags lines n bags

pub zeros_are : (bytes : List ℕ) → are_zero bytes ≡ true → bytes ≡ replicate (length bytes) 0
zeros_are [] all = refl
zeros_are (b ∷ bytes) all =
    let parts = and_parts (b == 0) (are_zero bytes) all in
    ap (λ (k : ℕ). k ∷ bytes) (eqb-true b 0 parts.0) ∙ ap (λ (r : List ℕ). 0 ∷ r) (zeros_are bytes parts.1)

pub zeros_pass : (k : ℕ) → are_zero (replicate k 0) ≡ true
zeros_pass zero = refl
zeros_pass (suc k) = zeros_pass k

-- a voter has at most two votes in each panel
abbrev pub AreFew : List BallotLine → Type 0
AreFew lines = AllByRecursion (λ line. line.places ≤ 2) lines

pub few_votes : (n votes : ℕ) → votes ≤ 2 → n * votes ≤ n * 2
few_votes n votes few = grind arith

room_behind : (k m size n r : ℕ) → suc k * m ≤ n → size ≤ m → r ≡ n - size → (size ≤ n) × (k * m ≤ r)
room_behind k m size n r long fits is = (omega arith, omega arith)

pub bags_take : (lines : List BallotLine) (n : ℕ) (bytes : List ℕ) (bags : List (List Choice)) → AreBytes bytes → AreFew lines → length lines * (4 + 10 * n) ≤ length bytes
    → bags_in lines n bytes ≡ Some bags → TakesBags lines n bytes bags
unfolding bags_in
bags_take [] n bytes bags are few long e =
    let t = cond_some (are_zero bytes) [] bags e in
    subst (λ (x : List (List Choice)). TakesBags [] n bytes x) t.1 (record {
      text = zeros_are bytes t.0 ∙ ap (λ (k : ℕ). replicate k 0) (omega arith);
      are = no_bags n;
    })
bags_take (line ∷ lines) n bytes bags are few long e =
    let votes : ℕ = n * line.places in
    let size : ℕ = 4 + 5 * votes in
    let room = room_behind (length lines) (4 + 10 * n) size (length bytes) (length (drop size bytes)) long (omega (arith, few_votes n line.places few.0)) (length-drop size bytes) in
    let a = and_then_some (bag_in line votes bytes) (λ bag. option_map (λ bs. bag ∷ bs) (bags_in lines n (drop size bytes))) bags e in
    let b = map_some (λ bs. a.0 ∷ bs) (bags_in lines n (drop size bytes)) bags a.2 in
    let first = bag_takes line votes bytes a.0 are room.0 a.1 in
    let rest = bags_take lines n (drop size bytes) b.0 (bytes_drop size bytes are) few.1 room.1 b.1 in
    let tail : List ℕ = flat_map bag_bytes b.0 in
    let zeros : length (drop size bytes) - length tail ≡ length bytes - length (bag_bytes a.0 ++ tail) =
    omega (arith, length-drop size bytes, length-append (bag_bytes a.0) tail, length-bag_bytes a.0, first.many) in
    subst (λ (x : List (List Choice)). TakesBags (line ∷ lines) n bytes x) b.2 (record {
      text = first.text ∙ ap (λ (r : List ℕ). bag_bytes a.0 ++ r) (rest.text ∙ ap (λ (k : ℕ). tail ++ replicate k 0) zeros)
          ∙ sym (append_assoc (bag_bytes a.0) tail (replicate (length bytes - length (bag_bytes a.0 ++ tail)) 0));
      are = one_bag_more line lines n a.0 b.0 first.many first.choices first.in_order rest.are;
    })

pub bags_back : (lines : List BallotLine) (n : ℕ) (bags : List (List Choice)) (k : ℕ) → AllByRecursion HasSmall lines → AreFew lines → AreBags lines n bags → n ≤ most_voters
    → bags_in lines n (flat_map bag_bytes bags ++ replicate k 0) ≡ Some bags
unfolding bags_in
bags_back [] n [] k small two all few = ap (λ (b : Bool). cond {A = Option (List (List Choice))} b (Some []) None) (zeros_pass k)
bags_back [] n (bag ∷ bags) k small two all few = absurd all.votes
bags_back (line ∷ lines) n [] k small two all few = absurd all.votes
bags_back (line ∷ lines) n (bag ∷ bags) k small two all few =
    let behind : List ℕ = flat_map bag_bytes bags ++ replicate k 0 in
    let count : ℕ = n * line.places in
    let first = first_bag line lines n bag bags all in
    let further : drop (4 + 5 * count) (bag_bytes bag ++ behind) ≡ behind = drop_at (bag_bytes bag) behind (4 + 5 * count) (omega (arith, length-bag_bytes bag, first.many)) in
    ap (bags_in (line ∷ lines) n) (append_assoc (bag_bytes bag) (flat_map bag_bytes bags) (replicate k 0))
    ∙ ap (λ (o : Option (List Choice)). option_and_then (λ b. option_map (λ bs. b ∷ bs) (bags_in lines n (drop (4 + 5 * count) (bag_bytes bag ++ behind)))) o)
    (bag_back line count bag behind small.0 first.choices first.in_order first.many (omega (arith, few_votes n line.places two.0)))
    ∙ ap (λ (r : List ℕ). option_map (λ bs. bag ∷ bs) (bags_in lines n r)) further
    ∙ ap (option_map (λ bs. bag ∷ bs)) (bags_back lines n bags k small.1 two.1 first.rest few)

-- The lines of the panels

few_from : (t : TablesData) (first : ℕ) (panels : List Panel) → All (IsPanel t.parties) panels → AreFew (lines_from t first panels)
few_from t first [] all = tt
few_from t first (p ∷ panels) all =
    ((office_few p.office (All-head (IsPanel t.parties) p panels all).office).1, few_from t (first + 1) panels (All-tail (IsPanel t.parties) p panels all))

pub panels_few : (t : TablesData) → IsTables t → AreFew (lines_by_panel t)
unfolding lines_by_panel
panels_few t is = few_from t 0 t.panels is.panels

votes_shift : (t : TablesData) (a b : ℕ) (panels : List Panel) (bags : List (List Choice)) → AreVotes (lines_from t a panels) bags → AreVotes (lines_from t b panels) bags
votes_shift t a b [] [] votes = tt
votes_shift t a b [] (bag ∷ bags) votes = absurd votes
votes_shift t a b (p ∷ panels) [] votes = absurd votes
votes_shift t a b (p ∷ panels) (bag ∷ bags) votes = (of-panel t a b p bag votes.0, votes_shift t (a + 1) (b + 1) panels bags votes.1)

votes_from : (t : TablesData) (panels : List Panel) (bags : List (List Choice)) → length bags ≡ length panels → HasChoices (lines_from t 0 panels) bags → AreVotes (lines_from t 0 panels) bags
votes_from t [] [] m has = tt
votes_from t [] (bag ∷ bags) m has = absurd (omega arith)
votes_from t (p ∷ panels) [] m has = absurd (omega arith)
votes_from t (p ∷ panels) (bag ∷ bags) m has =
    (has.0, votes_shift t 0 1 panels bags (votes_from t panels bags (omega arith) (choices_below t 0 panels bag bags has.1)))

choices_of : (t : TablesData) (panels : List Panel) (bags : List (List Choice)) → AreVotes (lines_from t 0 panels) bags → HasChoices (lines_from t 0 panels) bags
choices_of t [] [] votes = tt
choices_of t [] (bag ∷ bags) votes = absurd votes
choices_of t (p ∷ panels) [] votes = absurd votes
choices_of t (p ∷ panels) (bag ∷ bags) votes =
    (votes.0, choices_after t 0 panels bag bags (choices_of t panels bags (votes_shift t 1 0 panels bags votes.1)))

pub votes_of_lines : (t : TablesData) (bags : List (List Choice)) → length bags ≡ length t.panels → HasChoices (lines_by_panel t) bags → AreVotes (lines_by_panel t) bags
unfolding lines_by_panel
votes_of_lines t bags m has = votes_from t t.panels bags m has

pub choices_of_lines : (t : TablesData) (bags : List (List Choice)) → AreVotes (lines_by_panel t) bags → HasChoices (lines_by_panel t) bags
unfolding lines_by_panel
choices_of_lines t bags votes = choices_of t t.panels bags votes
