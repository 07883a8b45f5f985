-- The numbers of an office have few digits
use Rattle.std.proofs.Common.{◌≡◌, ℕ, ◌≤◌, Option, Some, None, refl, lit≤}
use Rattle.std.specs.Prelude.{unwrap_or}
use Rattle.election_tables.specs.Offices.{code_digits}
use Rattle.election_tables.proofs.Kept.{code_digits-range}
use Rattle.poll_report.specs.Report.{digits_in}

few_of : (code : ℕ) (o : Option ℕ) → code_digits code ≡ o → unwrap_or o 0 ≤ 5
few_of code None e = lit≤ tt
few_of code (Some digits) e = (code_digits-range code digits e).1

pub digits_few : (code : ℕ) → digits_in code ≤ 5
digits_few code = few_of code (code_digits code) refl
