use Rattle.std.proofs.Common.{◌≡◌, ◌++◌, List}
use Rattle.urna_outside.specs.Told.{Told}
use Rattle.election_tables.specs.Roll.{RollData}
use Rattle.election_tables.specs.TablesData.{TablesData}
use Rattle.key_script.specs.declared.keys.Event.{Event}
use Rattle.state_store.specs.Played.{HasPut}
use Rattle.state_store.specs.Store.{AreDevices}
use Rattle.station.specs.Press.{after, outputs}
use Rattle.station.specs.Setting.{Setting, setting_of}
use Rattle.station.specs.Station.{IsStationed, StationData}
use Rattle.station.specs.Text.{session_pieces}
use Rattle.station.proofs.station.Station.run.Given as goal

-- the events so far, of a script, are done
pub record AreDone (t : TablesData) (r : RollData) (v : Setting) (from : StationData) (script yielded left : List Event) (x : StationData) (old new : Told) : Type 0 where
  pub place : yielded ++ left ≡ script
  pub standing : x.standing ≡ after v from.standing yielded
  pub stationed : IsStationed t r new x
  pub load : x.store.load ≡ from.store.load
  pub devices : AreDevices new.sizes
  pub put : HasPut t from.store.load from.standing.state (session_pieces t (outputs v from.standing yielded)) old new

abbrev pub invariant-loop-event : goal.invariant-loop-event
invariant-loop-event g l =
    AreDone l.tables l.roll (setting_of l.tables l.roll.titles) l.fn.self l.script l.yielded l.event-iterator l.station (g.M.Machine.told l.fn.m) (g.M.Machine.told l.m)
