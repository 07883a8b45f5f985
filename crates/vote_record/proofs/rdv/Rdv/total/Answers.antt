use Rattle.std.proofs.Common.{sym, subst, List, arith}
use Rattle.vote_kinds.specs.declared.choice.Choice.{Choice}
use Rattle.vote_record.specs.Bag.{IsInOrder}
use Rattle.vote_record.proofs.Stored.{is_stored}
use Rattle.vote_record.proofs.rdv.Rdv.total.Goals as goal

pub returns-clause-within : goal.returns-clause-within
returns-clause-within c =
    let stored = is_stored c.self.inside.bags.items _ _ c.args.self.now c.args.panel c.index.result.now c.self.invariant.rooms c.self.view_is c.requires c.index.ensures in
    omega (arith, c.len.ensures.within)

pub returns-clause-in_order : goal.returns-clause-in_order
returns-clause-in_order c =
    let stored = is_stored c.self.inside.bags.items _ _ c.args.self.now c.args.panel c.index.result.now c.self.invariant.rooms c.self.view_is c.requires c.index.ensures in
    subst (λ (bag : List Choice). IsInOrder bag) (sym stored.0) c.len.ensures.in_order
