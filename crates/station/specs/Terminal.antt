-- The panel that stands on the voter's terminal
use Rattle.std.specs.Prelude.{ℕ}
use Rattle.vote_kinds.specs.declared.choice.Field.{Field}
use Rattle.station.specs.declared.panel.OpenPanel.{OpenPanel}
use Rattle.station.specs.declared.panel.OpenPanel.TheVariants as panel

-- how many digits its office has
abbrev pub digits_in : OpenPanel → ℕ
digits_in (panel.Two f) = 2
digits_in (panel.Three f) = 3
digits_in (panel.Four f) = 4
digits_in (panel.Five f) = 5

-- what stands typed in it
abbrev pub field_in : OpenPanel → Field
field_in (panel.Two f) = f
field_in (panel.Three f) = f
field_in (panel.Four f) = f
field_in (panel.Five f) = f
