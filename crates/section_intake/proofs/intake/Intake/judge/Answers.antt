use Rattle.std.proofs.Common.{refl, subst}
use Rattle.section_intake.specs.Accepted.{by_itself}
use Rattle.section_intake.specs.Reading.{IsRefused}
use Rattle.section_intake.specs.Verdict.{fields, parts}
use Rattle.section_intake.proofs.intake.Intake.judge.Goals as goal

pub returns-in-Err-Part-clause-verdict : goal.returns-in-Err-Part-clause-verdict
returns-in-Err-Part-clause-verdict c = by_itself (parts (subst (IsRefused c.args.bytes.now) c.in-Err-Part.field-0-is c.in-Err-Part.ensures.err)) refl

pub returns-in-Err-Fields-clause-verdict : goal.returns-in-Err-Fields-clause-verdict
returns-in-Err-Fields-clause-verdict c =
    let found = subst (IsRefused c.args.bytes.now) c.in-Err-Fields.field-0-is c.in-Err-Fields.ensures.err in
    by_itself (fields found.1 found.2) refl
