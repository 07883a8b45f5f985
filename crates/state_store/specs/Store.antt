-- What a store stands for, and what is so of the machine beside it
use Rattle.std.specs.Prelude.{◌≡◌, ℕ, ◌<◌, List, length}
use Rattle.std.specs.Option.{ForSome}
use Rattle.urna_outside.specs.Told.{Told, Sizes, size_of}
use Rattle.urna_outside.specs.declared.device.Dev.{Dev}
use Rattle.election_tables.specs.Roll.{IsRoll, RollData}
use Rattle.election_tables.specs.TablesData.{IsTables, TablesData}
use Rattle.image_codec.specs.Encoding.{IsStateOf, encode}
use Rattle.image_codec.specs.State.{State, rank_of}
use Rattle.image_codec.specs.Layout.{body_size}
use Rattle.state_store.specs.Load.{IsSectionOf, load_of}
use Rattle.state_store.specs.Rest.{AreAtRest, device_size}
use Rattle.state_store.specs.declared.load.Load.{Load}

-- what the flashes are loaded with, and the body of their slots
pub record StoreData : Type 0 where
  pub load : Load
  pub body : List ℕ

-- where a next body is written: as many bytes, and memory for just them
pub record IsBuffer (bytes : List ℕ) (capacity : ℕ) : Type 0 where
  pub whole : length bytes ≡ body_size
  pub reserved : capacity ≡ body_size

-- both devices have the size of a flash
abbrev pub AreDevices : Sizes → Type 0
AreDevices sizes = (d : Dev) → size_of d sizes ≡ device_size

-- The store has this state of a poll of its section, in the encoding that is written today, and both flashes are at rest with it.
pub record Keeps (t : TablesData) (told : Told) (store : StoreData) (s : State) : Type 0 where
  pub state : IsStateOf t store.load.section.voters s
  pub body : store.body ≡ encode t s
  pub rest : ForSome told.flashes (AreAtRest t store.load s)

-- the store has a state of lesser rank
pub record IsBelow (t : TablesData) (told : Told) (store : StoreData) (next : State) : Type 0 where
  pub state : State
  pub kept : Keeps t told store state
  pub below : rank_of state < rank_of next

-- The load is one of these tables and this roll, for a section of the tables with as many voters as the roll.
pub record IsLoadedWith (t : TablesData) (r : RollData) (load : Load) : Type 0 where
  pub tables : IsTables t
  pub roll : IsRoll r
  pub section : IsSectionOf t r load.section
  pub same : load ≡ load_of t r load.section
