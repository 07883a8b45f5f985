use Rattle.std.proofs.Common.{sym, ◌∙◌}
use Rattle.std.specs.Prelude.{◌==◌}
use Rattle.std.proofs.lemmas.List.{take_rest}
use Rattle.urna_base.proofs.PieceLaws.{no_split, split_first}
use Rattle.hash_chain.proofs.join.split_row.Goals as goal

pub returns-in-Some-clause-row : goal.returns-in-Some-clause-row
returns-in-Some-clause-row c = rw take_rest (split_first (λ b. b == 10) c.args.bytes.now c.in-Some.end (sym c.first_feed.ensures ∙ c.in-Some.is))

pub returns-in-None-clause-row : goal.returns-in-None-clause-row
returns-in-None-clause-row c = no_split (λ b. b == 10) c.args.bytes.now (sym c.first_feed.ensures ∙ c.in-None.is)
