use Rattle.std.proofs.Common.{◌∙◌, List, None, Some, refl, sym, ap, arith}
use Rattle.std.proofs.lemmas.Option.{slice_get_within}
use Rattle.section_intake.specs.Accepted.{File, again, another, by_itself, first}
use Rattle.section_intake.specs.Intake.{accepted_files}
use Rattle.section_intake.specs.Verdict.{strange}
use Rattle.section_intake.proofs.AcceptedLaws.{by_report}
use Rattle.section_intake.proofs.FitLaws.{fit_says, says_fit}
use Rattle.section_intake.proofs.HolderLaws.{not_listed}
use Rattle.section_intake.proofs.IntakeLaws.{holder_of, kept_at, nobody_holds, offices_long, one_more_fits, room_for_report, still_made}
use Rattle.section_intake.proofs.Members.{member_at}
use Rattle.section_intake.proofs.intake.Intake.judge_report.Goals as goal

pub returns-in-None-clause-verdict : goal.returns-in-None-clause-verdict
returns-in-None-clause-verdict c =
    by_itself (strange c.requires.report (not_listed c.args.tables.now c.args.report.now (sym c.in-None.ensures.place))) refl

pub returns-then-not-fits-clause-verdict : goal.returns-then-not-fits-clause-verdict
returns-then-not-fits-clause-verdict c =
    by_itself (strange c.requires.report (λ has.
    let pass = says_fit c.args.tables.now c.fits.ensures.tables c.args.report.now has in
    let none = sym c.fits.ensures.value ∙ c.if-not-fits.true in
    absurd (cc))) refl

pub is_at-requires : goal.is_at-requires
is_at-requires c =
    let kept = kept_at c.args.tables.now c.args.self.now c.in-Some.place c.index.result.now (Some c.in-Some-index.file) c.requires.made c.in-Some.ensures.within c.index.ensures c.in-Some-index.is in
    let (f, at, is) = holder_of c.args.tables.now c.args.self.now c.args.report.now c.in-Some.place c.in-Some-index.file c.requires.made (sym c.in-Some.ensures.place) kept in
    slice_get_within (accepted_files c.args.self.now) c.in-Some-index.file f at

pub keep-requires-clause-files : goal.keep-requires-clause-files
keep-requires-clause-files c =
    let fit = fit_says c.args.tables.now c.args.report.now (sym c.fits.ensures.value ∙ c.if-not-fits.false) in
    let kept = kept_at c.args.tables.now c.args.self.now c.in-Some.place c.index.result.now None c.requires.made c.in-Some.ensures.within c.index.ensures c.in-None-index.is in
    let few = one_more_fits c.args.tables.now c.args.self.now c.args.report.now c.in-Some.place c.requires.made fit (sym c.in-Some.ensures.place) kept in
    let sections = c.fits.ensures.tables.section_count.1 in
    omega arith

pub keep-requires-clause-offices : goal.keep-requires-clause-offices
keep-requires-clause-offices c =
    let fit = fit_says c.args.tables.now c.args.report.now (sym c.fits.ensures.value ∙ c.if-not-fits.false) in
    let long = offices_long c.args.tables.now c.args.report.now fit in
    let many = c.requires.made.panels in
    omega arith

pub keep-requires-clause-room : goal.keep-requires-clause-room
keep-requires-clause-room c = room_for_report c.args.tables.now c.args.self.now c.args.report.now c.requires.made c.requires.report.spells.report

pub returns-then-is_at-clause-verdict : goal.returns-then-is_at-clause-verdict
returns-then-is_at-clause-verdict c =
    let fit = fit_says c.args.tables.now c.args.report.now (sym c.fits.ensures.value ∙ c.if-not-fits.false) in
    let at = c.is_at.ensures.0 c.if-is_at.true in
    again (by_report c.args.tables.now c.args.bytes.now c.args.report.now c.requires.report fit) (member_at (accepted_files c.args.self.now) c.in-Some-index.file c.args.bytes.now at)

pub returns-else-is_at-clause-verdict : goal.returns-else-is_at-clause-verdict
returns-else-is_at-clause-verdict c =
    let files : List File = accepted_files c.args.self.now in
    let bytes : File = c.args.bytes.now in
    let fit = fit_says c.args.tables.now c.args.report.now (sym c.fits.ensures.value ∙ c.if-not-fits.false) in
    let kept = kept_at c.args.tables.now c.args.self.now c.in-Some.place c.index.result.now (Some c.in-Some-index.file) c.requires.made c.in-Some.ensures.within c.index.ensures c.in-Some-index.is in
    let (f, at, is) = holder_of c.args.tables.now c.args.self.now c.args.report.now c.in-Some.place c.in-Some-index.file c.requires.made (sym c.in-Some.ensures.place) kept in
    another (by_report c.args.tables.now bytes c.args.report.now c.requires.report fit) (member_at files c.in-Some-index.file f at) is
    (λ same.
    let there = c.is_at.ensures.1 (at ∙ ap (λ (x : File). Some x) same) in
    let other = c.if-is_at.false in
    absurd (cc))

pub returns-in_ok-keep-in-None-index-clause-verdict : goal.returns-in_ok-keep-in-None-index-clause-verdict
returns-in_ok-keep-in-None-index-clause-verdict c =
    let fit = fit_says c.args.tables.now c.args.report.now (sym c.fits.ensures.value ∙ c.if-not-fits.false) in
    let kept = kept_at c.args.tables.now c.args.self.now c.in-Some.place c.index.result.now None c.requires.made c.in-Some.ensures.within c.index.ensures c.in-None-index.is in
    first (by_report c.args.tables.now c.args.bytes.now c.args.report.now c.requires.report fit)
    (nobody_holds c.args.tables.now c.args.self.now c.args.report.now c.in-Some.place c.requires.made (sym c.in-Some.ensures.place) kept)

pub returns-in_ok-keep-in-None-index-clause-still : goal.returns-in_ok-keep-in-None-index-clause-still
returns-in_ok-keep-in-None-index-clause-still c =
    let fit = fit_says c.args.tables.now c.args.report.now (sym c.fits.ensures.value ∙ c.if-not-fits.false) in
    let kept = kept_at c.args.tables.now c.args.self.now c.in-Some.place c.index.result.now None c.requires.made c.in-Some.ensures.within c.index.ensures c.in-None-index.is in
    let done = c.in_ok-keep-in-None-index.ensures in
    still_made c.args.tables.now c.args.self.now c.keep.new.self c.args.bytes.now c.args.report.now c.in-Some.place c.requires.made c.requires.short c.requires.report fit
    (sym c.in-Some.ensures.place) kept done.file done.holder done.sums
