use Rattle.totals.proofs.TotalsLaws.{one_totals, some_totals}
use Rattle.totals.proofs.VoteLaws.{candidates_have_nominal, contest_has_valid, majority_has_none, total_is_all}
use Rattle.totals.proofs.laws.totals.Goals as goal

pub returns : goal.returns
returns c = record {
  some = some_totals;
  one = one_totals;
  whole = total_is_all;
  nominal = candidates_have_nominal;
  valid = contest_has_valid;
  party = majority_has_none;
}
