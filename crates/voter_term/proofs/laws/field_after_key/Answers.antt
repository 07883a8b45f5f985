use Rattle.voter_term.proofs.Words.{field_after-more}
use Rattle.voter_term.proofs.ShownLemmas.{shown_by-is}
use Rattle.voter_term.proofs.laws.field_after_key.Goals as goal

pub returns : goal.returns
returns c = record { field = field_after-more; shown = shown_by-is }
