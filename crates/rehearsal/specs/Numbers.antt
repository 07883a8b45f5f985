-- The rehearsal's parties and candidates: their numbers and names.
use Rattle.std.specs.Prelude.{ℕ, ◌+◌, ◌*◌, List, ◌++◌, codes}
use Rattle.std.specs.List.{range_with_len, flat_map}
use Rattle.std.specs.Fmt.{decimal}

-- the parties: 10 to 29
unfoldable pub parties : List ℕ
parties = range_with_len 10 20

-- a party's 50 candidates for councillor, from 1000 times its number and 100 on
abbrev pub councillors_of : ℕ → List ℕ
councillors_of party = range_with_len (1000 * party + 100) 50

-- the candidates for councillor, party by party
unfoldable pub councillors : List ℕ
councillors = flat_map councillors_of parties

-- the candidates for mayor: 10 to 15
unfoldable pub mayors : List ℕ
mayors = range_with_len 10 6

-- a party is named `P` and its number
abbrev pub name_of_party : ℕ → List ℕ
name_of_party party = codes "P" ++ decimal party

-- a candidate is named `C` and the number
abbrev pub name_of_candidate : ℕ → List ℕ
name_of_candidate candidate = codes "C" ++ decimal candidate

-- every candidate was born on this day
abbrev pub birth_date : ℕ
birth_date = 19600101

-- the day of the poll
abbrev pub poll_date : ℕ
poll_date = 20261004
