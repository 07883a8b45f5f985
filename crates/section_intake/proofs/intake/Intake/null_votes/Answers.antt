use Rattle.std.proofs.Common.{◌≡◌, List, Some, length, slice_get, refl, ap}
use Rattle.std.proofs.lemmas.Option.{slice_get_read}
use Rattle.section_intake.specs.declared.panel_sums.PanelSums.{PanelSums}
use Rattle.section_intake.proofs.IntakeLaws.{panel_there}
use Rattle.section_intake.proofs.intake.Intake.null_votes.Goals as goal

pub returns : goal.returns
returns c t reports is read =
    let sums : List PanelSums = c.args.self.now.panels.items in
    let s : PanelSums = c.index.result.now in
    let at : slice_get sums c.args.panel ≡ Some s = slice_get_read sums (length sums) c.args.panel s refl c.requires c.index.ensures in
    let here = panel_there t c.args.self.now reports c.args.panel s is read at in
    ap (λ (x : PanelSums). x.null_votes) here.1
