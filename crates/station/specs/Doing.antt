-- What may be done over a store, where the poll is in a state
use Rattle.std.specs.Prelude.{◌<◌, List, [], ◌∷◌}
use Rattle.urna_outside.specs.Told.{Told}
use Rattle.election_tables.specs.TablesData.{TablesData}
use Rattle.image_codec.specs.State.{State, rank_of}
use Rattle.state_store.specs.Store.{Keeps, StoreData}
use Rattle.station.specs.declared.perform.Act.{Act}
use Rattle.station.specs.declared.perform.Act.TheVariants.{Say, Commit, Report}

-- a commit needs that the kept state is of lesser rank
abbrev pub MayDo : State → State → Act → Type 0
MayDo kept s (Say l) = Unit {0}
MayDo kept s (Commit l) = rank_of kept < rank_of s
MayDo kept s (Report t) = Unit {0}

-- the state that is kept after an act
abbrev pub kept_after : State → State → Act → State
kept_after kept s (Say l) = kept
kept_after kept s (Commit l) = s
kept_after kept s (Report t) = kept

abbrev pub MayDoAll : State → State → List Act → Type 0
MayDoAll kept s [] = Unit {0}
MayDoAll kept s (act ∷ acts) = MayDo kept s act × MayDoAll (kept_after kept s act) s acts

-- the store keeps a state from which the acts may be done
pub record AreDoable (t : TablesData) (told : Told) (store : StoreData) (s : State) (acts : List Act) : Type 0 where
  pub state : State
  pub kept : Keeps t told store state
  pub may : MayDoAll state s acts
