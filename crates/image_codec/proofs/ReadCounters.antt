-- Counters that are read are those that were written, and what was written is read again
use Rattle.std.proofs.Common.{◌≡◌, ℕ, zero, suc, ◌-◌, ◌*◌, ◌^◌, ◌<◌, ◌≤◌, Bool, true, cond, ◌==◌, List, [], ◌∷◌, ◌++◌, length, take, drop, replicate, Option, Some, None, option_map, refl, sym, ap, subst, ◌∙◌, append_assoc, arith}
use Rattle.std.specs.Option.{option_and_then}
use Rattle.std.specs.Int.{w32, to_be_bytes}
use Rattle.std.specs.List.{flat_map, AllByRecursion, sum}
use Rattle.std.proofs.lemmas.Bool.{eqb-true, eq-eqb}
use Rattle.std.proofs.lemmas.List.{drop-drop, drop_at, take-append-drop, length-drop, length-append, length-map}
use Rattle.std.proofs.lemmas.List.Sums.{count_by-le-length, sum_by-cons}
use Rattle.std.proofs.lemmas.Nat.{from_be_bytes-to_be_bytes_4}
use Rattle.std.proofs.lemmas.Option.{cond_some}
use Rattle.urna_base.proofs.Every.{every_append}
use Rattle.urna_base.proofs.Cases.{and_then_some, map_some}
use Rattle.election_tables.specs.Limits.{most_voters}
use Rattle.vote_kinds.specs.declared.choice.Choice.{Choice}
use Rattle.vote_kinds.specs.Ballot.{BallotLine, choices_of, is_choice}
use Rattle.vote_kinds.specs.Choice.{AreRising, is_same}
use Rattle.vote_kinds.proofs.LineChoices.{choices_are}
use Rattle.vote_record.specs.Bag.{IsInOrder, count_of}
use Rattle.vote_record.specs.Counters.{bag_with, counts_of}
use Rattle.vote_record.proofs.Bags.{all_replicate}
use Rattle.vote_record.proofs.Counting.{all_among, bag_of_counts, counts_of_bag, order_bag_with, length_bag_with}
use Rattle.image_codec.specs.Encoding.{counter_bytes}
use Rattle.image_codec.specs.Numbers.{are_zero, counters_in, number4_at}
use Rattle.image_codec.specs.DecodedCounters.{bag_counted, bags_counted}
use Rattle.image_codec.specs.CodecLaws.{counters_of}
use Rattle.image_codec.proofs.Ballots.{AreOf}
use Rattle.image_codec.proofs.Lengths.{counters_text, length-counter_bytes}
use Rattle.image_codec.proofs.ReadBags.{AreBags, AreFew, few_votes, first_bag, no_bags, one_bag_more, zeros_are, zeros_pass}
use Rattle.image_codec.proofs.ReadVotes.{bytes_drop, number4_back}
use Rattle.image_codec.proofs.WholeBody.{AreBytes}

-- Counters

pub length-counters_in : (n : ℕ) (bytes : List ℕ) → length (counters_in n bytes) ≡ n
unfolding counters_in
length-counters_in zero bytes = refl
length-counters_in (suc n) bytes = ap suc (length-counters_in n (drop 4 bytes))

counters_take : (n : ℕ) (bytes : List ℕ) → AreBytes bytes → 4 * n ≤ length bytes → bytes ≡ flat_map (to_be_bytes w32) (counters_in n bytes) ++ drop (4 * n) bytes
unfolding counters_in
counters_take zero bytes are long = refl
counters_take (suc n) bytes are long =
    let k : ℕ = number4_at bytes 0 in
    let rest : List ℕ = flat_map (to_be_bytes w32) (counters_in n (drop 4 bytes)) in
    let front : to_be_bytes w32 k ≡ take 4 bytes = number4_back bytes 0 k are (omega arith) refl in
    let more = counters_take n (drop 4 bytes) (bytes_drop 4 bytes are) (omega (arith, length-drop 4 bytes)) in
    let further : drop (4 * n) (drop 4 bytes) ≡ drop (4 * suc n) bytes = drop-drop (4 * n) 4 bytes ∙ ap (λ (j : ℕ). drop j bytes) (omega arith) in
    sym (take-append-drop 4 bytes) ∙ ap (λ (f : List ℕ). f ++ drop 4 bytes) (sym front)
    ∙ ap (λ (r : List ℕ). to_be_bytes w32 k ++ r) (more ∙ ap (λ (r : List ℕ). rest ++ r) further)
    ∙ sym (append_assoc (to_be_bytes w32 k) rest (drop (4 * suc n) bytes))

counters_back : (ns rest : List ℕ) → AllByRecursion (λ n. n < 2 ^ 32) ns → counters_in (length ns) (flat_map (to_be_bytes w32) ns ++ rest) ≡ ns
unfolding counters_in
counters_back [] rest small = refl
counters_back (n ∷ ns) rest small =
    let behind : List ℕ = flat_map (to_be_bytes w32) ns ++ rest in
    ap (counters_in (suc (length ns))) (append_assoc (to_be_bytes w32 n) (flat_map (to_be_bytes w32) ns) rest)
    ∙ ap (λ (k : ℕ). k ∷ counters_in (length ns) behind) (from_be_bytes-to_be_bytes_4 n small.0)
    ∙ ap (λ (r : List ℕ). n ∷ r) (counters_back ns rest small.1)

-- The counters of a panel

abbrev pub HasRising : BallotLine → Type 0
HasRising line = AreRising (choices_of line)

-- members of a bag that is counted are choices of the line

among : (line : BallotLine) (choices : List Choice) (counts : List ℕ) → AreOf line choices → AreOf line (bag_with choices counts)
among line [] counts all = tt
among line (c ∷ choices) [] all = tt
among line (c ∷ choices) (n ∷ counts) all =
    every_append (λ d. is_choice line d ≡ true) (replicate n c) (bag_with choices counts) (all_replicate (λ d. is_choice line d ≡ true) n c all.0) (among line choices counts all.1)

pub record TakesCounted (line : BallotLine) (n : ℕ) (bytes : List ℕ) (bag : List Choice) : Type 0 where
  pub text : bytes ≡ counter_bytes (line, bag) ++ drop (4 * length (choices_of line)) bytes
  pub many : length bag ≡ n
  pub choices : AreOf line bag
  pub in_order : IsInOrder bag

counted_takes : (line : BallotLine) (n : ℕ) (bytes : List ℕ) (bag : List Choice) → HasRising line → AreBytes bytes → 4 * length (choices_of line) ≤ length bytes
    → bag_counted (choices_of line) n bytes ≡ Some bag → TakesCounted line n bytes bag
unfolding bag_counted
counted_takes line n bytes bag rise are long e =
    let choices : List Choice = choices_of line in
    let counts : List ℕ = counters_in (length choices) bytes in
    let t = cond_some (sum counts == n) (bag_with choices counts) bag e in
    let many = length-counters_in (length choices) bytes in
    subst (λ (b : List Choice). TakesCounted line n bytes b) t.1 (record {
      text = counters_take (length choices) bytes are long ∙ ap (λ (k : List ℕ). flat_map (to_be_bytes w32) k ++ drop (4 * length choices) bytes) (sym (counts_of_bag choices counts rise many));
      many = length_bag_with choices counts many ∙ eqb-true (sum counts) n t.0;
      choices = among line choices counts (choices_are line);
      in_order = order_bag_with choices counts rise;
    })

small_counts : (choices bag : List Choice) → length bag < 2 ^ 32 → AllByRecursion (λ n. n < 2 ^ 32) (counts_of choices bag)
small_counts [] bag few = tt
small_counts (c ∷ choices) bag few = (let most = count_by-le-length (is_same c) bag in omega arith, small_counts choices bag few)

counted_back : (line : BallotLine) (n : ℕ) (bag : List Choice) (rest : List ℕ) → HasRising line → AreOf line bag → IsInOrder bag → length bag ≡ n → n < 2 ^ 32
    → bag_counted (choices_of line) n (counter_bytes (line, bag) ++ rest) ≡ Some bag
unfolding bag_counted
counted_back line n bag rest rise all order many few =
    let choices : List Choice = choices_of line in
    let counts : List ℕ = counts_of choices bag in
    let bytes : List ℕ = counter_bytes (line, bag) ++ rest in
    let long : length counts ≡ length choices = length-map choices (λ c. count_of c bag) in
    let read : counters_in (length choices) bytes ≡ counts = ap (λ (k : ℕ). counters_in k bytes) (sym long) ∙ counters_back counts rest (small_counts choices bag (omega arith)) in
    let same : bag_with choices counts ≡ bag = bag_of_counts choices bag rise order (all_among line bag all) in
    let total : (sum counts == n) ≡ true = eq-eqb (sum counts) n (sym (length_bag_with choices counts long) ∙ ap length same ∙ many) in
    ap (λ (ns : List ℕ). cond (sum ns == n) (Some (bag_with choices ns)) None) read
    ∙ ap (λ (b : Bool). cond b (Some (bag_with choices counts)) None) total
    ∙ ap (λ (b : List Choice). Some b) same

-- The counters of all panels

pub record TakesCounters (lines : List BallotLine) (n : ℕ) (bytes : List ℕ) (bags : List (List Choice)) : Type 0 where
  pub text : bytes ≡ counters_text lines bags ++ replicate (length bytes - length (counters_text lines bags)) 0
  pub are : AreBags lines n bags

pub all_counted_take : (lines : List BallotLine) (n : ℕ) (bytes : List ℕ) (bags : List (List Choice)) → AllByRecursion HasRising lines → AreBytes bytes → 4 * counters_of lines ≤ length bytes
    → bags_counted lines n bytes ≡ Some bags → TakesCounters lines n bytes bags
unfolding bags_counted
all_counted_take [] n bytes bags rise are long e =
    let t = cond_some (are_zero bytes) [] bags e in
    subst (λ (x : List (List Choice)). TakesCounters [] n bytes x) t.1 (record {
      text = zeros_are bytes t.0 ∙ ap (λ (k : ℕ). replicate k 0) (omega arith);
      are = no_bags n;
    })
all_counted_take (line ∷ lines) n bytes bags rise are long e =
    let votes : ℕ = n * line.places in
    let size : ℕ = 4 * length (choices_of line) in
    let counters = sum_by-cons (λ (l : BallotLine). length (choices_of l)) line lines in
    let a = and_then_some (bag_counted (choices_of line) votes bytes) (λ bag. option_map (λ bs. bag ∷ bs) (bags_counted lines n (drop size bytes))) bags e in
    let b = map_some (λ bs. a.0 ∷ bs) (bags_counted lines n (drop size bytes)) bags a.2 in
    let first = counted_takes line votes bytes a.0 rise.0 are (omega arith) a.1 in
    let rest = all_counted_take lines n (drop size bytes) b.0 rise.1 (bytes_drop size bytes are) (omega (arith, length-drop size bytes)) b.1 in
    let text : List ℕ = counter_bytes (line, a.0) in
    let tail : List ℕ = counters_text lines b.0 in
    let zeros : length (drop size bytes) - length tail ≡ length bytes - length (text ++ tail) =
    omega (arith, length-drop size bytes, length-append text tail, length-counter_bytes line a.0) in
    subst (λ (x : List (List Choice)). TakesCounters (line ∷ lines) n bytes x) b.2 (record {
      text = first.text ∙ ap (λ (r : List ℕ). text ++ r) (rest.text ∙ ap (λ (k : ℕ). tail ++ replicate k 0) zeros)
          ∙ sym (append_assoc text tail (replicate (length bytes - length (text ++ tail)) 0));
      are = one_bag_more line lines n a.0 b.0 first.many first.choices first.in_order rest.are;
    })

pub all_counted_back : (lines : List BallotLine) (n : ℕ) (bags : List (List Choice)) (k : ℕ) → AllByRecursion HasRising lines → AreFew lines → AreBags lines n bags → n ≤ most_voters
    → bags_counted lines n (counters_text lines bags ++ replicate k 0) ≡ Some bags
unfolding bags_counted
all_counted_back [] n [] k rise two all few = ap (λ (b : Bool). cond {A = Option (List (List Choice))} b (Some []) None) (zeros_pass k)
all_counted_back [] n (bag ∷ bags) k rise two all few = absurd all.votes
all_counted_back (line ∷ lines) n [] k rise two all few = absurd all.votes
all_counted_back (line ∷ lines) n (bag ∷ bags) k rise two all few =
    let behind : List ℕ = counters_text lines bags ++ replicate k 0 in
    let count : ℕ = n * line.places in
    let text : List ℕ = counter_bytes (line, bag) in
    let size : ℕ = 4 * length (choices_of line) in
    let first = first_bag line lines n bag bags all in
    let further : drop size (text ++ behind) ≡ behind = drop_at text behind size (length-counter_bytes line bag) in
    ap (bags_counted (line ∷ lines) n) (append_assoc text (counters_text lines bags) (replicate k 0))
    ∙ ap (λ (o : Option (List Choice)). option_and_then (λ b. option_map (λ bs. b ∷ bs) (bags_counted lines n (drop size (text ++ behind)))) o)
    (counted_back line count bag behind rise.0 first.choices first.in_order first.many (omega (arith, few_votes n line.places two.0)))
    ∙ ap (λ (r : List ℕ). option_map (λ bs. bag ∷ bs) (bags_counted lines n r)) further
    ∙ ap (option_map (λ bs. bag ∷ bs)) (all_counted_back lines n bags k rise.1 two.1 first.rest few)
