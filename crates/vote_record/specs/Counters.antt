-- The counters of the panels: how many of the votes of each are each of its choices
use Rattle.std.specs.Prelude.{ℕ, zero, suc, ◌+◌, ◌*◌, List, [], ◌∷◌, ◌++◌, length, map, replicate}
use Rattle.election_tables.specs.Limits.{most_candidates, most_parties}
use Rattle.election_tables.specs.TablesData.{TablesData}
use Rattle.vote_kinds.specs.Ballot.{choices_of, line_of}
use Rattle.vote_kinds.specs.declared.choice.Choice.{Choice}
use Rattle.vote_record.specs.Bag.{count_of}

-- the most counters that tables with so many panels need: one for each candidate that tables may have, and in each panel one for each
-- party, blank and null
abbrev pub most_counters : ℕ → ℕ
most_counters panels = most_candidates + panels * (most_parties + 2)

-- how many counters the first so many panels have
abbrev pub counters_before : TablesData → ℕ → ℕ
counters_before t zero = 0
counters_before t (suc panel) = counters_before t panel + length (choices_of (line_of t panel))

-- how many members of a bag are each of these choices
abbrev pub counts_of : List Choice → List Choice → List ℕ
counts_of choices bag = map (λ c. count_of c bag) choices

-- the bag with so many members of each of these choices
abbrev pub bag_with : List Choice → List ℕ → List Choice
bag_with [] counts = []
bag_with (c ∷ choices) [] = []
bag_with (c ∷ choices) (n ∷ counts) = replicate n c ++ bag_with choices counts
