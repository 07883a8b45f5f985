use Rattle.call_laws.proofs.Begun.{alone_from_the_first_show}
use Rattle.call_laws.proofs.AtRest.{all_are_counted}
use Rattle.call_laws.proofs.Headline.{keys_have_run, votes_are_kept}
use Rattle.call_laws.proofs.urna_laws.votes_are_kept.Goals as goal

pub returns : goal.returns
returns c = record { kept = votes_are_kept; alone = alone_from_the_first_show; counted = all_are_counted; run = keys_have_run }
