use Rattle.std.proofs.Common.{sym, ◌∙◌}
use Rattle.hash_chain.proofs.PieceLaws.{other_at_first, word_to_end, word_to_first}
use Rattle.hash_chain.proofs.line.word_end.Goals as goal

pub returns-in-Some-clause-word : goal.returns-in-Some-clause-word
returns-in-Some-clause-word c = word_to_first c.args.text.now c.in-Some.end (sym c.first_other.ensures ∙ c.in-Some.is)

pub returns-in-Some-clause-behind : goal.returns-in-Some-clause-behind
returns-in-Some-clause-behind c = λ h. other_at_first c.args.text.now c.in-Some.end (sym c.first_other.ensures ∙ c.in-Some.is)

pub returns-in-None-clause-word : goal.returns-in-None-clause-word
returns-in-None-clause-word c = word_to_end c.args.text.now (sym c.first_other.ensures ∙ c.in-None.is)
