-- What is written are bytes
use Rattle.std.proofs.Common.{◌≡◌, ℕ, zero, suc, ◌+◌, ◌*◌, ◌<◌, ◌≤◌, Bool, true, nat_lt, List, [], ◌∷◌, ◌++◌, length, map, replicate, refl, sym, subst, arith}
use Rattle.std.specs.Int.{w32, w64, to_be_bytes}
use Rattle.std.specs.List.{flat_map, AllByRecursion, list_all, range_with_len}
use Rattle.std.proofs.lemmas.Bool.{lt-ltb, and_from}
use Rattle.vote_kinds.specs.declared.choice.Choice.{Choice}
use Rattle.vote_kinds.specs.declared.choice.Choice.TheVariants as choice
use Rattle.vote_kinds.specs.Ballot.{BallotLine, choices_of}
use Rattle.vote_record.specs.Counters.{counts_of}
use Rattle.election_tables.specs.Limits.{most_offices}
use Rattle.turnout.specs.Turnout.{number_came}
use Rattle.turnout.specs.declared.phase.Phase.{Phase}
use Rattle.turnout.specs.declared.phase.Phase.TheVariants as phase
use Rattle.image_codec.specs.State.{State}
use Rattle.image_codec.specs.Encoding.{vote_bytes, bag_bytes, counter_bytes, phase_byte, opening_in, closing_in, eight_places, turnout_bytes, head_bytes}
use Rattle.image_codec.proofs.Bits.{eight_small}
use Rattle.image_codec.proofs.Lengths.{counters_text}
use Rattle.image_codec.proofs.ReadHead.{head_text}

-- each is a byte, by cases
abbrev pub ByteWise : List ℕ → Type 0
ByteWise bytes = AllByRecursion (λ b. b < 256) bytes

pub join_bytes : (xs ys : List ℕ) → ByteWise xs → ByteWise ys → ByteWise (xs ++ ys)
join_bytes [] ys p q = q
join_bytes (x ∷ xs) ys p q = (p.0, join_bytes xs ys p.1 q)

bytes4 : (n : ℕ) → ByteWise (to_be_bytes w32 n)
bytes4 n = (omega arith, (omega arith, (omega arith, (omega arith, tt))))

bytes8 : (n : ℕ) → ByteWise (to_be_bytes w64 n)
bytes8 n = (omega arith, (omega arith, (omega arith, (omega arith, (omega arith, (omega arith, (omega arith, (omega arith, tt))))))))

pub zeros_small : (k : ℕ) → ByteWise (replicate k 0)
zeros_small zero = tt
zeros_small (suc k) = (omega arith, zeros_small k)

-- The votes

vote_small : (c : Choice) → ByteWise (vote_bytes c)
vote_small (choice.Nominal n) = (omega arith, bytes4 n)
vote_small (choice.Party n) = (omega arith, bytes4 n)
vote_small choice.Blank = (omega arith, bytes4 0)
vote_small choice.Null = (omega arith, bytes4 0)

votes_small : (bag : List Choice) → ByteWise (flat_map vote_bytes bag)
votes_small [] = tt
votes_small (c ∷ bag) = join_bytes (vote_bytes c) (flat_map vote_bytes bag) (vote_small c) (votes_small bag)

pub bags_small : (bags : List (List Choice)) → ByteWise (flat_map bag_bytes bags)
bags_small [] = tt
bags_small (bag ∷ bags) =
    join_bytes (bag_bytes bag) (flat_map bag_bytes bags) (join_bytes (to_be_bytes w32 (length bag)) (flat_map vote_bytes bag) (bytes4 (length bag)) (votes_small bag)) (bags_small bags)

-- The counters

words_small : (ns : List ℕ) → ByteWise (flat_map (to_be_bytes w32) ns)
words_small [] = tt
words_small (n ∷ ns) = join_bytes (to_be_bytes w32 n) (flat_map (to_be_bytes w32) ns) (bytes4 n) (words_small ns)

pub counters_small : (lines : List BallotLine) (bags : List (List Choice)) → ByteWise (counters_text lines bags)
counters_small [] bags = tt
counters_small (line ∷ lines) [] = tt
counters_small (line ∷ lines) (bag ∷ bags) =
    join_bytes (counter_bytes (line, bag)) (counters_text lines bags) (words_small (counts_of (choices_of line) bag)) (counters_small lines bags)

-- The head

eights_small : (came : List Bool) (a n : ℕ) → ByteWise (map (λ k. eight_places came (8 * k)) (range_with_len a n))
eights_small came a zero = tt
eights_small came a (suc n) = (eight_small came (8 * a), eights_small came (a + 1) n)

turnout_small : (came : List Bool) → ByteWise (turnout_bytes came)
unfolding turnout_bytes
turnout_small came = eights_small came 0 75

phase_small : (p : Phase) → phase_byte p < 256
phase_small phase.Ready = omega arith
phase_small (phase.Polling opened) = omega arith
phase_small (phase.Sealed opened closed) = omega arith

-- a head, and bytes behind it
pub head_small : (version : ℕ) (s : State) (rest : List ℕ) → version < 256 → length s.bags ≤ most_offices → ByteWise rest → ByteWise (head_bytes version s ++ rest)
head_small version s rest byte few small =
    let panels : ByteWise (length s.bags ∷ rest) = (omega arith, small) in
    let from_marks : List ℕ = turnout_bytes s.came ++ length s.bags ∷ rest in
    let from_count : List ℕ = to_be_bytes w32 (number_came s.came) ++ from_marks in
    let from_closing : List ℕ = to_be_bytes w64 (closing_in s.phase) ++ from_count in
    let marks = join_bytes (turnout_bytes s.came) (length s.bags ∷ rest) (turnout_small s.came) panels in
    let count = join_bytes (to_be_bytes w32 (number_came s.came)) from_marks (bytes4 (number_came s.came)) marks in
    let closed = join_bytes (to_be_bytes w64 (closing_in s.phase)) from_count (bytes8 (closing_in s.phase)) count in
    let opened = join_bytes (to_be_bytes w64 (opening_in s.phase)) from_closing (bytes8 (opening_in s.phase)) closed in
    subst ByteWise (sym (head_text version s rest)) (byte, (phase_small s.phase, opened))

pub pass_small : (bytes : List ℕ) → ByteWise bytes → list_all (λ b. nat_lt b 256) bytes ≡ true
pass_small [] small = refl
pass_small (b ∷ bytes) small = and_from (nat_lt b 256) (list_all (λ c. nat_lt c 256) bytes) (lt-ltb b 256 small.0) (pass_small bytes small.1)
