use Rattle.station.proofs.LastScreens.{visit_records, visit_told}
use Rattle.station.proofs.Performing.{tables_setting}
use Rattle.station.proofs.laws.last_screens.Goals as goal

pub returns : goal.returns
returns c = record {
  shown = λ t titles s u place es out tables visit. visit_told (tables_setting t titles tables) visit;
  recorded = λ v s t place es out visit b e. visit_records visit b e;
}
