use Rattle.std.proofs.Common.{◌<◌, ◌^◌, List, sym, ap, subst, ◌∙◌}
use Rattle.seat_remainders.specs.Parties.{nominal_votes}
use Rattle.seat_remainders.specs.declared.contest.Entry.{Entry}
use Rattle.totals.specs.Contest.{votes_in}
use Rattle.totals.specs.Lines.{total_of}
use Rattle.totals.specs.declared.votes.PanelVotes.{PanelVotes}
use Rattle.totals.proofs.Bounds.{nominal_are, same_votes, votes_few}
use Rattle.totals.proofs.votes.PanelVotes.of.Goals as goal

pub returns-clause-votes : goal.returns-clause-votes
returns-clause-votes c reports read =
    let t = c.args.tables.now in
    let i = c.args.intake.now in
    let panel = c.args.panel in
    let is = c.requires.made in
    same_votes c.nominal_votes.result c.party_votes.result c.blank.result c.null_votes.result (votes_in reports panel)
    (c.nominal_votes.ensures ∙ (ap (λ (es : List Entry). nominal_votes es) (c.requires.entries reports read) ∙ nominal_are t i reports panel is read c.requires.panel))
    (c.party_votes.ensures reports read) (c.blank.ensures t reports is read) (c.null_votes.ensures t reports is read)

pub returns-clause-few : goal.returns-clause-few
returns-clause-few c =
    let is = c.requires.made in
    let v : PanelVotes = record { nominal = c.nominal_votes.result; party = c.party_votes.result; blank = c.blank.result; null_votes = c.null_votes.result } in
    subst (λ (v : PanelVotes). total_of v < 10 ^ 8) (sym (returns-clause-votes c is.reports is.read)) (votes_few c.args.tables.now c.args.intake.now is.reports c.args.panel is is.read)
