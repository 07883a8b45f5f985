-- What a station is, beside a machine
use Rattle.std.specs.Prelude.{◌≡◌, ℕ, List, map}
use Rattle.urna_outside.specs.Told.{Told}
use Rattle.election_tables.specs.Roll.{RollData}
use Rattle.election_tables.specs.TablesData.{TablesData}
use Rattle.state_store.specs.Store.{IsLoadedWith, Keeps, StoreData}
use Rattle.key_script.specs.Event.{IsEvent}
use Rattle.key_script.specs.declared.keys.Event.{Event}
use Rattle.station.specs.Acts.{act_of}
use Rattle.station.specs.Press.{Standing, press}
use Rattle.station.specs.Session.{FitsLine}
use Rattle.station.specs.Setting.{setting_of}
use Rattle.station.specs.Valid.{IsStanding}
use Rattle.station.specs.declared.perform.Act.{Act}

-- both terminals, how many digits the voter's panel has, and the store that keeps the state of the poll
pub record StationData : Type 0 where
  pub standing : Standing
  pub digits : ℕ
  pub store : StoreData

-- The station stands over a poll of these tables and this roll, and the store keeps the poll's state.
pub record IsStationed (t : TablesData) (r : RollData) (told : Told) (x : StationData) : Type 0 where
  pub stands : IsStanding (setting_of t r.titles) x.standing
  pub panel : FitsLine (setting_of t r.titles) x.standing x.digits
  pub load : IsLoadedWith t r x.store.load
  pub kept : Keeps t told x.store x.standing.state

-- An event, from a station that stood over a poll, leads in memory to this station, and asks for these acts. The store is as it was.
pub record IsAsked (t : TablesData) (r : RollData) (told : Told) (from : StationData) (e : Event) (x : StationData) (acts : List Act) : Type 0 where
  pub valid : IsEvent e
  pub before : IsStationed t r told from
  pub standing : x.standing ≡ (press (setting_of t r.titles) from.standing e).standing
  pub panel : FitsLine (setting_of t r.titles) x.standing x.digits
  pub store : x.store ≡ from.store
  pub asks : acts ≡ map act_of (press (setting_of t r.titles) from.standing e).out
