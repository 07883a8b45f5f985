use Rattle.std.proofs.Common.{sym, ◌∙◌}
use Rattle.std.proofs.lemmas.List.{take_rest}
use Rattle.urna_base.proofs.CutLaws.{cut_at_place, cut_nowhere}
use Rattle.urna_base.proofs.words.cut_at.Goals as goal

pub returns-in-Some : goal.returns-in-Some
returns-in-Some c = rw take_rest (cut_at_place c.args.byte c.args.text.now c.in-Some.end (sym c.first_place.ensures ∙ c.in-Some.is))

pub returns-in-None : goal.returns-in-None
returns-in-None c = cut_nowhere c.args.byte c.args.text.now (sym c.first_place.ensures ∙ c.in-None.is)
