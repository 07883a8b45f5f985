-- The votes of a record are choices of their panels
use Rattle.std.proofs.Common.{◌≡◌, ℕ, zero, suc, Bool, true, false, cond, List, [], ◌∷◌, slice_set, sym, subst}
use Rattle.std.specs.List.{AllByRecursion}
use Rattle.election_tables.specs.TablesData.{TablesData}
use Rattle.vote_kinds.specs.declared.choice.Choice.{Choice}
use Rattle.vote_kinds.specs.Choice.{choice_le}
use Rattle.vote_record.specs.Bag.{count_of, with_choice, with_choices, bag_at}
use Rattle.vote_record.specs.RdvData.{RdvData, IsVote, empty_record, with_vote_in}
use Rattle.vote_record.specs.Laws.{HasOnlyVotes}
use Rattle.vote_record.proofs.Counting.{none_counted}
use Rattle.vote_record.proofs.Empty.{bag_at-replicate}
use Rattle.vote_record.proofs.Stored.{with_vote-set}

-- what is so of all members and of one more is so of the bag with it

all-with_choice_at : (P : Choice → Type 0) (c d : Choice) (bag : List Choice) (before : Bool) → P c → AllByRecursion P (d ∷ bag) → AllByRecursion P (with_choice c bag)
    → AllByRecursion P (cond before (c ∷ d ∷ bag) (d ∷ with_choice c bag))
all-with_choice_at P c d bag true p all more = (p, all)
all-with_choice_at P c d bag false p all more = (all.0, more)

all-with_choice : (P : Choice → Type 0) (c : Choice) (bag : List Choice) → P c → AllByRecursion P bag → AllByRecursion P (with_choice c bag)
all-with_choice P c [] p all = (p, tt)
all-with_choice P c (d ∷ bag) p all = all-with_choice_at P c d bag (choice_le c d) p all (all-with_choice P c bag p all.1)

all-with_choices : (P : Choice → Type 0) (n : ℕ) (c : Choice) (bag : List Choice) → P c → AllByRecursion P bag → AllByRecursion P (with_choices n c bag)
all-with_choices P zero c bag p all = all
all-with_choices P (suc n) c bag p all = all-with_choice P c (with_choices n c bag) p (all-with_choices P n c bag p all)

-- and with another bag in the place of a panel's
all-set : (P : ℕ → Choice → Type 0) (panel other : ℕ) (after : List Choice) (bags : List (List Choice)) → AllByRecursion (P panel) after → ((k : ℕ) → AllByRecursion (P k) (bag_at bags k))
    → AllByRecursion (P other) (bag_at (slice_set bags panel after) other)
all-set P panel other after [] p all = all other
all-set P zero zero after (bag ∷ bags) p all = p
all-set P zero (suc other) after (bag ∷ bags) p all = all (suc other)
all-set P (suc panel) zero after (bag ∷ bags) p all = all 0
all-set P (suc panel) (suc other) after (bag ∷ bags) p all = all-set (λ k. P (suc k)) panel other after bags p (λ k. all (suc k))

pub starts_with_votes : (t : TablesData) (voters : ℕ) → HasOnlyVotes t (empty_record t voters)
starts_with_votes t voters panel = subst (AllByRecursion (IsVote t panel)) (sym (bag_at-replicate _ panel)) tt

pub keeps_to_many_votes : (t : TablesData) (r : RdvData) (panel votes : ℕ) (c : Choice) → HasOnlyVotes t r → IsVote t panel c
    → HasOnlyVotes t (record r { bags = slice_set r.bags panel (with_choices votes c (bag_at r.bags panel)) })
keeps_to_many_votes t r panel votes c has vote other =
    let after : List Choice = with_choices votes c (bag_at r.bags panel) in
    all-set (IsVote t) panel other after r.bags (all-with_choices (IsVote t panel) votes c (bag_at r.bags panel) vote (has panel)) has

pub keeps_to_votes : (t : TablesData) (r : RdvData) (panel : ℕ) (c : Choice) → HasOnlyVotes t r → IsVote t panel c → HasOnlyVotes t (with_vote_in panel c r)
keeps_to_votes t r panel c has vote other =
    subst (λ (bags : List (List Choice)). AllByRecursion (IsVote t other) (bag_at bags other)) (with_vote-set panel c r.bags) (keeps_to_many_votes t r panel 1 c has vote other)

pub counts_no_other : (t : TablesData) (r : RdvData) (panel : ℕ) (c : Choice) → HasOnlyVotes t r → ¬ IsVote t panel c → count_of c (bag_at r.bags panel) ≡ 0
counts_no_other t r panel c has none = none_counted (IsVote t panel) c (bag_at r.bags panel) (has panel) none
