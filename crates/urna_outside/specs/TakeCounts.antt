-- The counts of a cabinet.
use Rattle.urna_outside.specs.Cabinet.{Tally}
use Rattle.urna_outside.specs.Told.{one_more}
use Rattle.urna_outside.specs.declared.cabinet.CabinetError.{CabinetError}
use Rattle.urna_outside.specs.declared.cabinet.CabinetError.TheVariants.{Memory, Failed, Missing, TooLong}
use Rattle.urna_outside.specs.declared.take_counts.TakeCounts.{TakeCounts}

-- the three counts
abbrev pub tally_of : TakeCounts → Tally
tally_of counts = record { faults = counts.faults; missing = counts.missing; too_long = counts.too_long }

-- nothing was counted yet
abbrev pub no_tally : Tally
no_tally = record { faults = 0; missing = 0; too_long = 0 }

-- the counts after one more of what an error is
abbrev pub tally_after : CabinetError → Tally → Tally
tally_after Memory tally = tally
tally_after Failed tally = record tally { faults = one_more tally.faults }
tally_after Missing tally = record tally { missing = one_more tally.missing }
tally_after TooLong tally = record tally { too_long = one_more tally.too_long }
