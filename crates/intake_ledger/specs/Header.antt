-- The header of a ledger's flash
use Rattle.std.specs.Prelude.{ℕ, List, [], ◌∷◌, ◌++◌, codes, replicate}
use Rattle.urna_outside.specs.declared.device.Dev.{Dev}
use Rattle.election_tables.specs.TablesData.{TablesData}
use Rattle.flash_store.specs.Device.{device_byte}

-- the eight bytes with which each header begins
abbrev pub magic : List ℕ
magic = codes "URNALG" ++ 0 ∷ 0 ∷ []

-- how many zeros fill a header up
abbrev pub header_zeros : ℕ
header_zeros = 471

-- the bytes of a header: the magic, the device, the SHA-256 of the tables' bytes, and zeros
unfoldable pub header : TablesData → Dev → List ℕ
header t d = magic ++ device_byte d ∷ (t.digest ++ replicate header_zeros 0)
