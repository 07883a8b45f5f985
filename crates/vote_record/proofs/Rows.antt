-- Worked rows of what bags are, and of a record's text
use Rattle.std.proofs.Common.{◌≡◌, ℕ, true, false, List, [], ◌∷◌, codes, refl}
use Rattle.urna_base.specs.Lines.{lines_text as text}
use Rattle.std.specs.Fmt.{digits}
use Rattle.urna_base.specs.Digits.{padded}
use Rattle.election_tables.specs.TablesData.{TablesData}
use Rattle.election_tables.specs.declared.office.Kind.TheVariants as kind
use Rattle.election_tables.specs.declared.tables.panels.Panel.{Panel}
use Rattle.election_tables.specs.declared.tables.sections.Section.{Section}
use Rattle.vote_kinds.specs.declared.choice.Choice.TheVariants as choice
use Rattle.vote_kinds.specs.Ballot.{BallotLine, choices_of}
use Rattle.vote_kinds.specs.Choice.{choice_le}
use Rattle.vote_record.specs.Bag.{count_of, with_choice, with_choices, with_vote}
use Rattle.vote_record.specs.Counters.{bag_with, counts_of}
use Rattle.vote_record.specs.RecordText.{heading_words, office_words, record_lines, record_text}

-- nominal rising, party rising, blank, null
numbers_rise : choice_le (choice.Nominal 13001) (choice.Nominal 45001) ≡ true
numbers_rise = refl

nominal_first : choice_le (choice.Party 13) (choice.Nominal 45001) ≡ false
nominal_first = refl

between : with_choice (choice.Party 13) (choice.Nominal 45001 ∷ choice.Blank ∷ choice.Null ∷ [])
    ≡ choice.Nominal 45001 ∷ choice.Party 13 ∷ choice.Blank ∷ choice.Null ∷ []
between = refl

twice : count_of choice.Blank (choice.Nominal 13 ∷ choice.Blank ∷ choice.Blank ∷ []) ≡ 2
twice = refl

three_more : with_choices 3 choice.Blank (choice.Nominal 13 ∷ choice.Blank ∷ choice.Null ∷ [])
    ≡ choice.Nominal 13 ∷ choice.Blank ∷ choice.Blank ∷ choice.Blank ∷ choice.Blank ∷ choice.Null ∷ []
three_more = refl

none_more : with_choices 0 choice.Blank (choice.Null ∷ []) ≡ choice.Null ∷ []
none_more = refl

second_panel : with_vote 1 choice.Null ((choice.Blank ∷ []) ∷ (choice.Blank ∷ []) ∷ []) ≡ (choice.Blank ∷ []) ∷ (choice.Blank ∷ choice.Null ∷ []) ∷ []
second_panel = refl

-- ---- the counters

-- a proportional office with two candidates, and a majority office with one, where there are two parties
abbrev councillor : BallotLine
councillor = record { panel = 0; code = 13; digits = 5; proportional = true; places = 1; candidates = 13001 ∷ 45001 ∷ []; parties = 13 ∷ 45 ∷ [] }

abbrev one_candidate : BallotLine
one_candidate = record { panel = 1; code = 11; digits = 2; proportional = false; places = 1; candidates = 13 ∷ []; parties = 13 ∷ 45 ∷ [] }

all_choices : choices_of councillor ≡ choice.Nominal 13001 ∷ choice.Nominal 45001 ∷ choice.Party 13 ∷ choice.Party 45 ∷ choice.Blank ∷ choice.Null ∷ []
all_choices = refl

no_parties : choices_of one_candidate ≡ choice.Nominal 13 ∷ choice.Blank ∷ choice.Null ∷ []
no_parties = refl

counted : counts_of (choices_of councillor) (choice.Nominal 13001 ∷ choice.Nominal 13001 ∷ choice.Party 45 ∷ choice.Null ∷ []) ≡ 2 ∷ 0 ∷ 0 ∷ 1 ∷ 0 ∷ 1 ∷ []
counted = refl

as_bag : bag_with (choices_of councillor) (2 ∷ 0 ∷ 0 ∷ 1 ∷ 0 ∷ 1 ∷ []) ≡ choice.Nominal 13001 ∷ choice.Nominal 13001 ∷ choice.Party 45 ∷ choice.Null ∷ []
as_bag = refl

-- ---- the text

abbrev councillors : Panel
councillors = record { office = record { code = 13; digits = 5; kind = kind.Proportional; seats = 5 }; candidates = [] }

abbrev mayor : Panel
mayor = record { office = record { code = 11; digits = 2; kind = kind.Absolute; seats = 1 }; candidates = [] }

abbrev tables_of : List Panel → TablesData
tables_of panels = record { process = 7; date = 20261004; turn = 1; panels = panels; parties = []; sections = []; federations = []; digest = [] }

abbrev section_of : ℕ → Section
section_of voters = record { zone = 1; number = 42; voters = voters }

one_vote : record_text (tables_of (mayor ∷ [])) (section_of 1) ((choice.Nominal 13 ∷ []) ∷ [])
    ≡ text (codes "RDV U1" ∷ codes "PROC 7 DTPL 20261004 TURN 1 ZONA 1 SECA 42" ∷ codes "CARG 11 1" ∷ codes "N 13" ∷ codes "FIM" ∷ [])
unfolding record_text record_lines heading_words office_words digits padded
one_vote = refl

two_panels : record_text (tables_of (councillors ∷ mayor ∷ [])) (section_of 3)
    ((choice.Nominal 13001 ∷ choice.Party 45 ∷ choice.Blank ∷ []) ∷ (choice.Nominal 13 ∷ choice.Nominal 45 ∷ choice.Null ∷ []) ∷ [])
    ≡ text (codes "RDV U1" ∷ codes "PROC 7 DTPL 20261004 TURN 1 ZONA 1 SECA 42"
    ∷ codes "CARG 13 3" ∷ codes "N 13001" ∷ codes "L 45" ∷ codes "B"
    ∷ codes "CARG 11 3" ∷ codes "N 13" ∷ codes "N 45" ∷ codes "X" ∷ codes "FIM" ∷ [])
unfolding record_text record_lines heading_words office_words digits padded
two_panels = refl

nobody_voted : record_text (tables_of (mayor ∷ [])) (section_of 1) ([] ∷ [])
    ≡ text (codes "RDV U1" ∷ codes "PROC 7 DTPL 20261004 TURN 1 ZONA 1 SECA 42" ∷ codes "CARG 11 0" ∷ codes "FIM" ∷ [])
unfolding record_text record_lines heading_words office_words digits padded
nobody_voted = refl
