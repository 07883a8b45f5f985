use Rattle.std.proofs.Common.{◌≡◌, ◌∙◌, ℕ, List, Some, length, slice_get, refl, ap}
use Rattle.std.proofs.lemmas.Option.{slice_get_read}
use Rattle.section_intake.specs.Kept.{votes_at}
use Rattle.section_intake.specs.declared.panel_sums.PanelSums.{PanelSums}
use Rattle.section_intake.proofs.IntakeLaws.{no_party, panel_there, party_there}
use Rattle.section_intake.proofs.intake.Intake.party.Goals as goal

pub returns-clause-sum : goal.returns-clause-sum
returns-clause-sum c t reports is read =
    let sums : List PanelSums = c.args.self.now.panels.items in
    let s : PanelSums = c.index.result.now in
    let at : slice_get sums c.args.panel ≡ Some s = slice_get_read sums (length sums) c.args.panel s refl c.requires c.index.ensures in
    let here = panel_there t c.args.self.now reports c.args.panel s is read at in
    c.votes.ensures
    ∙ ap (λ (n : ℕ). votes_at n s.parties) c.from.ensures
    ∙ ap (λ (x : PanelSums). votes_at c.args.number x.parties) here.1
    ∙ party_there t c.args.panel c.args.number reports here.0

pub returns-clause-lacking : goal.returns-clause-lacking
returns-clause-lacking c t is none =
    returns-clause-sum c t is.reports is is.read ∙ no_party t c.args.panel c.args.number is.reports is.fit none
