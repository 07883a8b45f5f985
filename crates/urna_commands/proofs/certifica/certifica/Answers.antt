use Rattle.std.proofs.Common.{◌≡◌, ◌+◌, ℕ, List, inl, inr, sym, subst, ◌∙◌}
use Rattle.urna_outside.specs.Cabinet.{CabinetTold}
use Rattle.urna_outside.specs.ShownLines.{HasShown, IsCutOff, Shows}
use Rattle.urna_outside.specs.Told.{Told}
use Rattle.seat_remainders.specs.declared.contest.Contest.{Contest}
use Rattle.urna_commands.specs.Certifica.{CertificaEnds, HasMade, IsNotCertified, certificate_file, certificate_name, certificate_not_put, certified, certified_untold, certify_no_contest, certify_no_memory, certify_no_seats}
use Rattle.urna_commands.specs.Command.{Certifica}
use Rattle.urna_commands.specs.Office.{IsContestKnown}
use Rattle.urna_commands.specs.Putting.{FailsToPutFile, HasPutFile}
use Rattle.urna_commands.specs.Taking.{status_in}
use Rattle.urna_commands.specs.declared.status.Status.{Status}
use Rattle.urna_commands.specs.declared.status.Status.TheVariants as status
use Rattle.command_parts.proofs.Calls.{taken_as}
use Rattle.urna_commands.proofs.Endings.{passed_on, told}
use Rattle.urna_commands.proofs.Offices.{contest_few, contest_proportional}
use Rattle.urna_commands.proofs.certifica.certifica.Goals as goal

-- no certificate of the contest was made
no_certificate : (names : Certifica) (x y : CabinetTold) (m n : Told) (contest : Contest) (s : Status) → IsContestKnown names.tables names.list names.code contest x y m n
    → IsNotCertified contest s → CertificaEnds names x y m n s
no_certificate names x y m n contest s known (inl (is, none)) =
    let (k, of, taken) = known.taken in
    subst (CertificaEnds names x y m n) (sym is) (certify_no_seats known.has none (k, of, taken_as (k + 2) x y (λ same. same) taken) known.untouched)
no_certificate names x y m n contest s known (inr is) =
    let (k, of, taken) = known.taken in
    subst (CertificaEnds names x y m n) (sym is) (certify_no_memory known.has (k, of, taken_as (k + 2) x y (λ same. same) taken) known.untouched)

-- what was put, or not, is the file of the certificate
file_put : (names : Certifica) (name bytes text : List ℕ) (y z : CabinetTold) → name ≡ certificate_name names.out → bytes ≡ text
    → HasPutFile (record { name = name; bytes = bytes }) y z → HasPutFile (certificate_file names text) y z
file_put names name bytes text y z called same put =
    subst (λ (b : List ℕ). HasPutFile (certificate_file names b) y z) same (subst (λ (n : List ℕ). HasPutFile (record { name = n; bytes = bytes }) y z) called put)

file_not_put : (names : Certifica) (name bytes text : List ℕ) (y z : CabinetTold) → name ≡ certificate_name names.out → bytes ≡ text
    → FailsToPutFile (record { name = name; bytes = bytes }) y z → FailsToPutFile (certificate_file names text) y z
file_not_put names name bytes text y z called same fails =
    subst (λ (b : List ℕ). FailsToPutFile (certificate_file names b) y z) same (subst (λ (n : List ℕ). FailsToPutFile (record { name = n; bytes = bytes }) y z) called fails)

pub returns-in_err-contest : goal.returns-in_err-contest
returns-in_err-contest g c =
    let names : Certifica = record { tables = c.args.names.tables.now; list = c.args.names.list.now; code = c.args.names.code; out = c.args.names.out.now } in
    let x = g.C.Cabinet.told c.args.cabinet.now in
    let y = g.C.Cabinet.told c.contest_of_office.new.cabinet in
    let m = g.M.Machine.told c.args.machine.now in
    let n = g.M.Machine.told c.contest_of_office.new.machine in
    subst (CertificaEnds names x y m n) (sym (passed_on c.from_residual.result c.in_err-contest.field-0.0 c.from_residual.ensures.1 (λ e h. h)))
    (certify_no_contest c.in_err-contest.ensures.known)

pub certify_contest-requires-clause-few : goal.certify_contest-requires-clause-few
certify_contest-requires-clause-few g c =
    contest_few (g.C.Cabinet.told c.args.cabinet.now).files c.args.names.tables.now c.args.names.list.now c.args.names.code c.in_ok-contest.contest c.in_ok-contest.ensures.known.has

pub certify_contest-requires-clause-office : goal.certify_contest-requires-clause-office
certify_contest-requires-clause-office g c =
    contest_proportional (g.C.Cabinet.told c.args.cabinet.now).files c.args.names.tables.now c.args.names.list.now c.args.names.code c.in_ok-contest.contest c.in_ok-contest.ensures.known.has

pub returns-in_err-certified : goal.returns-in_err-certified
returns-in_err-certified g c =
    let names : Certifica = record { tables = c.args.names.tables.now; list = c.args.names.list.now; code = c.args.names.code; out = c.args.names.out.now } in
    let x = g.C.Cabinet.told c.args.cabinet.now in
    let y = g.C.Cabinet.told c.contest_of_office.new.cabinet in
    let m = g.M.Machine.told c.args.machine.now in
    let n = g.M.Machine.told c.contest_of_office.new.machine in
    let s = c.in_err-certified.field-0.0 in
    subst (CertificaEnds names x y m n) (sym (passed_on c.from_residual-in_err-certified.result s c.from_residual-in_err-certified.ensures.1 (λ e h. h)))
    (no_certificate names x y m n c.in_ok-contest.contest s c.in_ok-contest.ensures.known c.in_err-certified.ensures.err)

pub returns-in_err-name : goal.returns-in_err-name
returns-in_err-name g c =
    let names : Certifica = record { tables = c.args.names.tables.now; list = c.args.names.list.now; code = c.args.names.code; out = c.args.names.out.now } in
    let x = g.C.Cabinet.told c.args.cabinet.now in
    let y = g.C.Cabinet.told c.contest_of_office.new.cabinet in
    let m = g.M.Machine.told c.args.machine.now in
    let n = g.M.Machine.told c.contest_of_office.new.machine in
    let s = status_in c.from_residual-in_err-name.result in
    no_certificate names x y m n c.in_ok-contest.contest s c.in_ok-contest.ensures.known
    (inr (passed_on c.from_residual-in_err-name.result status.Memory c.from_residual-in_err-name.ensures.1 (λ e h. h)))

pub returns-in_err-put : goal.returns-in_err-put
returns-in_err-put g c =
    let names : Certifica = record { tables = c.args.names.tables.now; list = c.args.names.list.now; code = c.args.names.code; out = c.args.names.out.now } in
    let x = g.C.Cabinet.told c.args.cabinet.now in
    let y = g.C.Cabinet.told c.contest_of_office.new.cabinet in
    let z = g.C.Cabinet.told c.put.new.self in
    let m = g.M.Machine.told c.args.machine.now in
    let n = g.M.Machine.told c.contest_of_office.new.machine in
    let known = c.in_ok-contest.ensures.known in
    let text = c.in_ok-certified.certified.text.items in
    let lines = c.in_ok-certified.certified.lines.items in
    let made : HasMade names x y text lines = record { contest = c.in_ok-contest.contest; has = known.has; made = c.in_ok-certified.ensures.ok; took = known.taken } in
    let fails : FailsToPutFile (record { name = c.as_str.result.now; bytes = c.deref.result.now }) y z =
    record { others = c.in_err-put.ensures.others; counts = c.in_err-put.ensures.failed; calls = c.in_err-put.ensures.calls } in
    subst (CertificaEnds names x z m n) (sym (passed_on c.from_residual-in_err-put.result status.Cabinet c.from_residual-in_err-put.ensures.1 (λ e h. h)))
    (certificate_not_put y made (file_not_put names c.as_str.result.now c.deref.result.now text y z (c.as_str.ensures.value ∙ c.in_ok-name.ensures) c.deref.ensures.value fails) known.untouched)

pub returns : goal.returns
returns g c =
    let names : Certifica = record { tables = c.args.names.tables.now; list = c.args.names.list.now; code = c.args.names.code; out = c.args.names.out.now } in
    let x = g.C.Cabinet.told c.args.cabinet.now in
    let y = g.C.Cabinet.told c.contest_of_office.new.cabinet in
    let z = g.C.Cabinet.told c.put.new.self in
    let m = g.M.Machine.told c.args.machine.now in
    let n = g.M.Machine.told c.contest_of_office.new.machine in
    let o = g.M.Machine.told c.tell_lines.new.machine in
    let known = c.in_ok-contest.ensures.known in
    let text = c.in_ok-certified.certified.text.items in
    let lines = c.in_ok-certified.certified.lines.items in
    let made : HasMade names x y text lines = record { contest = c.in_ok-contest.contest; has = known.has; made = c.in_ok-certified.ensures.ok; took = known.taken } in
    let there : HasPutFile (record { name = c.as_str.result.now; bytes = c.deref.result.now }) y z =
    record { there = c.in_ok-put.ensures.there; others = c.in_ok-put.ensures.others; counts = c.in_ok-put.ensures.ok; calls = c.in_ok-put.ensures.calls } in
    let put = file_put names c.as_str.result.now c.deref.result.now text y z (c.as_str.ensures.value ∙ c.in_ok-name.ensures) c.deref.ensures.value there in
    told (CertificaEnds names x z m o) lines c.tell_lines.result n o (subst (λ (ls : List (List ℕ)). Shows c.tell_lines.result ls n o) c.deref-2.ensures.value c.tell_lines.ensures.shown)
    c.tell_lines.ensures.err (λ shown. certified y made put (subst (λ (w : Told). HasShown lines w o) known.untouched shown))
    (λ off. certified_untold y made put (subst (λ (w : Told). IsCutOff lines w o) known.untouched off))
