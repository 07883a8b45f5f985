-- What is so of all bags and records
use Rattle.std.specs.Prelude.{◌≡◌, ◌≢◌, ℕ, ◌+◌, ◌<◌, true, List, if◌then◌else◌, length, slice_set, sum}
use Rattle.std.specs.List.{AllByRecursion, list_any}
use Rattle.election_tables.specs.TablesData.{TablesData, IsTables}
use Rattle.vote_kinds.specs.declared.choice.Choice.{Choice}
use Rattle.vote_kinds.specs.Ballot.{choices_of, is_choice, line_of}
use Rattle.vote_kinds.specs.Choice.{is_same}
use Rattle.vote_record.specs.Bag.{IsInOrder, count_of, with_choice, with_choices, bag_at, with_vote}
use Rattle.vote_record.specs.Counters.{bag_with, counts_of}
use Rattle.vote_record.specs.RdvData.{RdvData, IsVote, empty_record, with_vote_in}

-- two choices are counted together where they are one choice
abbrev pub SameIsOne : Type 0
SameIsOne = (c d : Choice) → is_same c d ≡ true → c ≡ d

-- a bag is known by how many members of each choice it has
abbrev pub KnownByCounts : Type 0
KnownByCounts = (a b : List Choice) → IsInOrder a → IsInOrder b → ((c : Choice) → count_of c a ≡ count_of c b) → a ≡ b

-- a bag with one member more is a bag
abbrev pub StaysInOrder : Type 0
StaysInOrder = (c : Choice) (bag : List Choice) → IsInOrder bag → IsInOrder (with_choice c bag)

-- one member more of a choice, and of no other
abbrev pub CountsOneMore : Type 0
CountsOneMore = (c d : Choice) (bag : List Choice) → count_of c (with_choice d bag) ≡ count_of c bag + (if is_same c d then 1 else 0)

-- one member more
abbrev pub HasOneMore : Type 0
HasOneMore = (c : Choice) (bag : List Choice) → length (with_choice c bag) ≡ length bag + 1

-- two members come in either order
abbrev pub ComeInEitherOrder : Type 0
ComeInEitherOrder = (c d : Choice) (bag : List Choice) → with_choice c (with_choice d bag) ≡ with_choice d (with_choice c bag)

-- so do two votes, of the same panel or of two
abbrev pub VotesComeInEitherOrder : Type 0
VotesComeInEitherOrder = (p q : ℕ) (c d : Choice) (bags : List (List Choice)) → with_vote p c (with_vote q d bags) ≡ with_vote q d (with_vote p c bags)

-- a vote changes the bag of its panel, and no other
abbrev pub ChangesItsBag : Type 0
ChangesItsBag = (panel : ℕ) (c : Choice) (bags : List (List Choice)) → panel < length bags → bag_at (with_vote panel c bags) panel ≡ with_choice c (bag_at bags panel)

abbrev pub KeepsOtherBags : Type 0
KeepsOtherBags = (panel other : ℕ) (c : Choice) (bags : List (List Choice)) → other ≢ panel → bag_at (with_vote panel c bags) other ≡ bag_at bags other

-- What is so of the counters of a panel

-- what may be chosen in a panel is one of the choices that have a counter, and each of these may be chosen
abbrev pub CountsWhatMayBeChosen : Type 0
CountsWhatMayBeChosen = (t : TablesData) (panel : ℕ) (c : Choice) → is_choice (line_of t panel) c ≡ list_any (is_same c) (choices_of (line_of t panel))

-- a bag of choices of a panel is that of its counters
abbrev pub BagOfCounts : Type 0
BagOfCounts = (t : TablesData) (panel : ℕ) (bag : List Choice) → IsTables t → IsInOrder bag → AllByRecursion (λ c. is_choice (line_of t panel) c ≡ true) bag
    → bag_with (choices_of (line_of t panel)) (counts_of (choices_of (line_of t panel)) bag) ≡ bag

-- counters are those of their bag
abbrev pub CountsOfBag : Type 0
CountsOfBag = (t : TablesData) (panel : ℕ) (counts : List ℕ) → IsTables t → length counts ≡ length (choices_of (line_of t panel))
    → counts_of (choices_of (line_of t panel)) (bag_with (choices_of (line_of t panel)) counts) ≡ counts

-- the bag of counters is in order, and has as many members as they count
abbrev pub IsBagOfCounts : Type 0
IsBagOfCounts = (t : TablesData) (panel : ℕ) (counts : List ℕ) → IsTables t → length counts ≡ length (choices_of (line_of t panel))
    → IsInOrder (bag_with (choices_of (line_of t panel)) counts) × (length (bag_with (choices_of (line_of t panel)) counts) ≡ sum counts)

-- What is so of all records of some tables

-- each vote of a panel is a choice there
abbrev pub HasOnlyVotes : TablesData → RdvData → Type 0
HasOnlyVotes t r = (panel : ℕ) → AllByRecursion (IsVote t panel) (bag_at r.bags panel)

-- so it is where nobody has voted, and stays with each vote that `add` may take
abbrev pub StartsWithVotes : Type 0
StartsWithVotes = (t : TablesData) (voters : ℕ) → HasOnlyVotes t (empty_record t voters)

abbrev pub KeepsToVotes : Type 0
KeepsToVotes = (t : TablesData) (r : RdvData) (panel : ℕ) (c : Choice) → HasOnlyVotes t r → IsVote t panel c → HasOnlyVotes t (with_vote_in panel c r)

-- and with so many votes of a choice as `add_votes` may take
abbrev pub KeepsToManyVotes : Type 0
KeepsToManyVotes = (t : TablesData) (r : RdvData) (panel votes : ℕ) (c : Choice) → HasOnlyVotes t r → IsVote t panel c
    → HasOnlyVotes t (record r { bags = slice_set r.bags panel (with_choices votes c (bag_at r.bags panel)) })
