use Rattle.std.proofs.Common.{sym, ◌∙◌}
use Rattle.std.specs.Prelude.{◌==◌}
use Rattle.std.proofs.lemmas.List.{take_rest}
use Rattle.urna_base.proofs.PieceLaws.{no_split, split_first}
use Rattle.urna_base.proofs.words.split_piece.Goals as goal

pub returns-in-Some : goal.returns-in-Some
returns-in-Some c = rw take_rest (split_first (λ b. b == 32) c.args.text.now c.in-Some.end (sym c.first_place.ensures ∙ c.in-Some.is))

pub returns-in-None : goal.returns-in-None
returns-in-None c = no_split (λ b. b == 32) c.args.text.now (sym c.first_place.ensures ∙ c.in-None.is)
