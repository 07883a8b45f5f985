use Rattle.station.specs.Setting.{setting_of}
use Rattle.station.proofs.Performing.{tables_setting}
use Rattle.station.proofs.RunLaws.{run_press_commits}
use Rattle.station.proofs.laws.event_commits.Goals as goal

pub returns : goal.returns
returns c = λ t titles s last other es e out put tables. run_press_commits (setting_of t titles) s last other es e out put (tables_setting t titles tables)
