use Rattle.call_laws.proofs.Certifying.{certify_ends_so, one_certify_status, one_verify_status, verify_ends_so}
use Rattle.urna_commands.proofs.Once.{first_once, one_verdict_on, refused_once, refused_or_checked, refused_or_documents, refused_or_given}
use Rattle.call_laws.proofs.Recounts.{one_recount_status, recount_ends_so}
use Rattle.call_laws.proofs.Refused.{refused_end_so, verdict_ends_so}
use Rattle.urna_commands.proofs.Totals.{one_total_status, total_ends_so}
use Rattle.call_laws.proofs.urna_laws.one_ending.Goals as goal

pub returns : goal.returns
returns c = record {
  once = (refused_once, first_once, one_verdict_on);
  either = (refused_or_given, refused_or_documents, refused_or_checked);
  refused = refused_end_so c.names_or_bad_line.ensures;
  verdict = verdict_ends_so;
  total = one_total_status c.names_or_bad_line.ensures;
  so = total_ends_so;
  recount = one_recount_status;
  recounted = recount_ends_so;
  certificate = one_certify_status c.names_or_bad_line.ensures;
  certified = certify_ends_so;
  check = one_verify_status c.names_or_bad_line.ensures;
  checked = verify_ends_so;
}
