use Rattle.std.proofs.Common.{Option, sym, ap, arith}
use Rattle.std.specs.Option.{option_map_or}
use Rattle.std.proofs.lemmas.Option.{slice_get_past}
use Rattle.poll_report.specs.declared.report.OfficeCount.{OfficeCount}
use Rattle.intake_ledger.specs.Ledger.{votes_of_choice}
use Rattle.intake_ledger.proofs.Votes.{candidates_rise, choice_within, counted, parties_rise}
use Rattle.intake_ledger.proofs.entry.votes_in.Goals as goal

pub votes_of_choice-requires-clause-candidates : goal.votes_of_choice-requires-clause-candidates
votes_of_choice-requires-clause-candidates c =
    candidates_rise c.args.report.now.came c.get.result.now (counted c.args.report.now c.requires c.args.panel c.get.result.now c.get.ensures)

pub votes_of_choice-requires-clause-parties : goal.votes_of_choice-requires-clause-parties
votes_of_choice-requires-clause-parties c =
    parties_rise c.args.report.now.came c.get.result.now (counted c.args.report.now c.requires c.args.panel c.get.result.now c.get.ensures)

pub returns-then-panel-len-clause-few : goal.returns-then-panel-len-clause-few
returns-then-panel-len-clause-few c =
    let is = counted c.args.report.now c.requires c.args.panel c.get.result.now c.get.ensures in
    omega (arith, c.votes_of_choice.ensures, choice_within c.args.choice c.get.result.now, is.few)

pub returns-else-panel-len-clause-votes : goal.returns-else-panel-len-clause-votes
returns-else-panel-len-clause-votes c =
    sym (ap (λ (o : Option OfficeCount). option_map_or (votes_of_choice c.args.choice) o 0) (slice_get_past c.args.report.now.offices c.args.panel (omega (arith, c.if-panel-len.false, c.len.ensures))))
