-- How a header names its device
use Rattle.std.specs.Prelude.{ℕ}
use Rattle.urna_outside.specs.declared.device.Dev.{Dev}
use Rattle.urna_outside.specs.declared.device.Dev.TheVariants.{Internal, External}

-- the byte of a header that names its device
abbrev pub device_byte : Dev → ℕ
device_byte Internal = 1
device_byte External = 2
