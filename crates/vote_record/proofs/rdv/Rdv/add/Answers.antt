use Rattle.std.proofs.Common.{List, ap, ◌∙◌}
use Rattle.vote_kinds.specs.declared.choice.Choice.{Choice}
use Rattle.vote_record.specs.RdvData.{RdvData}
use Rattle.vote_record.proofs.Stored.{with_vote-set}
use Rattle.vote_record.proofs.rdv.Rdv.add.Goals as goal

pub returns : goal.returns
returns c =
    let r : RdvData = c.args.self.now in
    let with_bags : List (List Choice) → RdvData = λ bags. record { bags = bags; voters = r.voters; places = r.places } in
    c.add_votes.ensures ∙ ap with_bags (with_vote-set c.args.panel c.args.choice r.bags)
