use Rattle.vote_kinds.specs.Ballot.{choices_of, line_of}
use Rattle.vote_kinds.proofs.LineChoices.{choice_is_one, line_of_rises}
use Rattle.vote_record.proofs.Counting.{all_among, bag_of_counts, counts_of_bag, length_bag_with, order_bag_with}
use Rattle.vote_record.proofs.laws.counters.Goals as goal

pub returns-clause-choices : goal.returns-clause-choices
returns-clause-choices _ = λ t panel c. choice_is_one (line_of t panel) c

pub returns-clause-back : goal.returns-clause-back
returns-clause-back _ = λ t panel bag tables order all. bag_of_counts (choices_of (line_of t panel)) bag (line_of_rises t panel tables) order (all_among (line_of t panel) bag all)

pub returns-clause-forth : goal.returns-clause-forth
returns-clause-forth _ = λ t panel counts tables many. counts_of_bag (choices_of (line_of t panel)) counts (line_of_rises t panel tables) many

pub returns-clause-bag : goal.returns-clause-bag
returns-clause-bag _ = λ t panel counts tables many.
    (order_bag_with (choices_of (line_of t panel)) counts (line_of_rises t panel tables), length_bag_with (choices_of (line_of t panel)) counts many)
