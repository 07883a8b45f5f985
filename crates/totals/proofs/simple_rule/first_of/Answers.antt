use Rattle.std.proofs.Common.{inl, inr, sym, ap, ◌∙◌}
use Rattle.totals.specs.Laws.{named_by}
use Rattle.totals.proofs.SimpleRule.{first_is, one_seat}
use Rattle.totals.proofs.simple_rule.first_of.Goals as goal

pub returns-in-Elected : goal.returns-in-Elected
returns-in-Elected c = ap named_by c.in-Elected.ensures ∙ sym (one_seat c.args.candidates.now)

pub returns-in-Runoff : goal.returns-in-Runoff
returns-in-Runoff c = elim (first_is c.args.candidates.now) [
  | inl (nobody, none) ↦ sym (none 1)
  | inr (a, behind, is, vote, elected, first) ↦
      let one = c.majority.ensures in
      absurd (elim c.in-Runoff.is [
        | inl (x, y, two) ↦ cc
        | inr none ↦ cc
      ])
]
