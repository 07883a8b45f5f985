use Rattle.std.proofs.Common.{◌∙◌, refl, subst, sym}
use Rattle.section_intake.specs.Reading.{IsRefused}
use Rattle.section_intake.specs.Verdict.{fields, parts, strange}
use Rattle.section_intake.proofs.FitLaws.{fit_says, says_fit}
use Rattle.section_intake.proofs.checking.check_report.Goals as goal

pub returns-then-fits : goal.returns-then-fits
returns-then-fits c = (c.in-Ok.ensures.ok, fit_says c.args.tables.now c.in-Ok.report (sym c.fits.ensures.value ∙ c.if-fits.true))

pub returns-else-fits : goal.returns-else-fits
returns-else-fits c = (
  strange c.in-Ok.ensures.ok (λ has.
      let fine = says_fit c.args.tables.now c.fits.ensures.tables c.in-Ok.report has in
      let none = sym c.fits.ensures.value ∙ c.if-fits.false in
      absurd (cc)),
  refl,
)

pub returns-in-Err-Part : goal.returns-in-Err-Part
returns-in-Err-Part c = (parts (subst (IsRefused c.args.bytes.now) c.in-Err-Part.field-0-is c.in-Err-Part.ensures.err), refl)

pub returns-in-Err-Fields : goal.returns-in-Err-Fields
returns-in-Err-Fields c =
    let found = subst (IsRefused c.args.bytes.now) c.in-Err-Fields.field-0-is c.in-Err-Fields.ensures.err in
    (fields found.1 found.2, refl)
