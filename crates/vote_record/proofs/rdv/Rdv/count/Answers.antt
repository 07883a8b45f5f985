use Rattle.std.proofs.Common.{sym, ap, ◌∙◌}
use Rattle.vote_record.specs.Bag.{count_of}
use Rattle.vote_record.proofs.Stored.{is_stored}
use Rattle.vote_record.proofs.Votes.{counts_no_other}
use Rattle.vote_record.proofs.rdv.Rdv.count.Goals as goal

pub returns-clause-lacking : goal.returns-clause-lacking
returns-clause-lacking c t has none =
    let stored = is_stored c.self.inside.bags.items _ _ c.args.self.now c.args.panel c.index.result.now c.self.invariant.rooms c.self.view_is c.requires c.index.ensures in
    c.count.ensures ∙ ap (count_of c.args.choice) (sym stored.0) ∙ counts_no_other t c.args.self.now c.args.panel c.args.choice has none
