-- How a survey ends.
use Rattle.std.specs.Prelude.{Result, Ok, Err}
use Rattle.urna_outside.specs.Faults.{EndsAt, IsFaultless}
use Rattle.urna_outside.specs.Told.{Told, port_of}
use Rattle.twin_image.specs.declared.survey.SurveyError.{SurveyError}
use Rattle.twin_image.specs.declared.survey.SurveyError.TheVariants.{Flash, NoImage}

-- A flash's fault is answered where its count alone rose; else no call failed.
abbrev pub SurveyEnds : {T : Type 0} → Result T SurveyError → Told → Told → Type 0
SurveyEnds (Ok found) old new = IsFaultless old new
SurveyEnds (Err (Flash d)) old new = EndsAt (port_of d) old new
SurveyEnds (Err NoImage) old new = IsFaultless old new
