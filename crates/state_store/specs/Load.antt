-- What flashes are loaded with, and the header that tells it (docs/FORMATS.md, "Flash layout")
use Rattle.std.specs.Prelude.{◌≡◌, ℕ, List, [], ◌∷◌, ◌++◌, codes, length, replicate, Contains}
use Rattle.std.specs.Int.{w32, to_be_bytes}
use Rattle.urna_outside.specs.declared.device.Dev.{Dev}
use Rattle.election_tables.specs.Roll.{RollData}
use Rattle.election_tables.specs.TablesData.{TablesData}
use Rattle.election_tables.specs.declared.tables.sections.Section.{Section}
use Rattle.state_store.specs.declared.load.Load.{Load}
use Rattle.flash_store.specs.Device.{device_byte}

-- the load of these tables and this roll for a section
abbrev pub load_of : TablesData → RollData → Section → Load
load_of t r section = record { tables = t.digest; roll = r.digest; section = section }

-- a section of the tables that has as many voters as the roll
pub record IsSectionOf (t : TablesData) (r : RollData) (section : Section) : Type 0 where
  pub listed : Contains t.sections section
  pub voters : section.voters ≡ length r.titles

-- the eight bytes with which each header begins
abbrev pub magic : List ℕ
magic = codes "URNAU1" ++ 0 ∷ 0 ∷ []

-- how many zeros fill a header up
abbrev pub header_zeros : ℕ
header_zeros = 427

-- the bytes of a header
unfoldable pub header : Load → Dev → List ℕ
header load d =
    magic ++ device_byte d ∷ (to_be_bytes w32 load.section.zone ++ to_be_bytes w32 load.section.number ++ to_be_bytes w32 load.section.voters
    ++ load.tables ++ load.roll ++ replicate header_zeros 0)
