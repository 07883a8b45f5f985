use Rattle.std.proofs.Common.{◌≡◌, Option, Some, subst}
use Rattle.std.specs.Prelude.{IfSome}
use Rattle.seat_remainders.specs.declared.contest.Contest.{Contest}
use Rattle.seat_certificate.specs.Valid.{IsValid}
use Rattle.seat_certificate.specs.declared.certificate.Certificate.{Certificate}
use Rattle.seat_certificate.proofs.Spellable.{valid_has_text}
use Rattle.urna_commands.proofs.certifica.text_of.Goals as goal

made_valid : (contest : Contest) (made : Option Certificate) (x : Certificate) → made ≡ Some x → IfSome made (λ c. IsValid contest c) → IsValid contest x
made_valid contest made x is valid = subst (λ (o : Option Certificate). IfSome o (λ c. IsValid contest c)) is valid

pub certificate_text-requires : goal.certificate_text-requires
certificate_text-requires c =
    let valid = made_valid c.args.contest.now c.in_ok-certificate.field-0 c.in-Some.certificate c.in-Some.is c.in_ok-certificate.ensures.valid in
    valid_has_text c.args.contest.now c.in-Some.certificate c.args.code c.requires.contest c.requires.few c.requires.office valid

pub returns-clause-ok : goal.returns-clause-ok
returns-clause-ok c =
    let contest = c.args.contest.now in
    let made = c.in-Some.certificate in
    let valid = made_valid contest c.in_ok-certificate.field-0 made c.in-Some.is c.in_ok-certificate.ensures.valid in
    (made, valid, record { fits = valid_has_text contest made c.args.code c.requires.contest c.requires.few c.requires.office valid; text = c.in_ok-certificate_text.ensures })
