-- What a station asks to be done, as outputs
use Rattle.std.specs.Prelude.{List, [], ◌∷◌, map}
use Rattle.election_tables.specs.TablesData.{TablesData}
use Rattle.image_codec.specs.State.{State}
use Rattle.station.specs.Output.{Output, Says, Commits, Reports}
use Rattle.station.specs.Text.{IsLine}
use Rattle.station.specs.declared.perform.Act.{Act}
use Rattle.station.specs.declared.perform.Act.TheVariants.{Say, Commit, Report}

-- the output of an act, where it is done over this state
abbrev pub output_of : State → Act → Output
output_of s (Say l) = Says l
output_of s (Commit l) = Commits s l
output_of s (Report t) = Reports t s

abbrev pub outputs_of : State → List Act → List Output
outputs_of s acts = map (output_of s) acts

-- the act of an output
abbrev pub act_of : Output → Act
act_of (Says l) = Say l
act_of (Commits s l) = Commit l
act_of (Reports t s) = Report t

-- the state that is held when all was put out
abbrev pub last_state : State → List Output → State
last_state s [] = s
last_state s (Says l ∷ out) = last_state s out
last_state s (Commits t l ∷ out) = last_state t out
last_state s (Reports t u ∷ out) = last_state s out

-- an act whose line can be printed
abbrev pub IsAct : TablesData → Act → Type 0
IsAct t (Say l) = IsLine t l
IsAct t (Commit l) = IsLine t l
IsAct t (Report title) = Unit {0}
