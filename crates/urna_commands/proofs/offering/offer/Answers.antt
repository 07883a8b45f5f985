use Rattle.std.proofs.Common.{ℕ, List, length, refl, ap, subst, ◌∙◌, arith}
use Rattle.std.proofs.lemmas.Result.{err_from_is_err_and}
use Rattle.section_intake.specs.Accepted.{File, IsVerdictBehind, accepted_with}
use Rattle.section_intake.specs.Intake.{accepted_files}
use Rattle.urna_commands.specs.Offering.{HasVerdictBehind, offer_no_memory, offer_not_shown, offered}
use Rattle.urna_commands.specs.Taking.{HasTaken}
use Rattle.urna_commands.specs.declared.status.Status.TheVariants as status
use Rattle.command_parts.proofs.Calls.{taken_as}
use Rattle.urna_commands.proofs.Offers.{offer_not_taken}
use Rattle.urna_commands.proofs.offering.offer.Goals as goal

pub offer-requires-clause-short : goal.offer-requires-clause-short
offer-requires-clause-short g c =
    let same = ap (λ (l : List ℕ). length l) c.deref.ensures.value in
    let short = c.in_ok-bytes.ensures.read.short in
    omega (arith, same, short)

pub returns-in_err-bytes-clause-ends : goal.returns-in_err-bytes-clause-ends
returns-in_err-bytes-clause-ends g c =
    let p = err_from_is_err_and c.from_residual.result c.from_residual.ensures.1 in
    rw p.1
    (offer_not_taken c.args.telling c.args.tables.now (accepted_files c.args.intake.now) c.args.name.now c.args.number (g.C.Cabinet.told c.args.cabinet.now)
    (g.C.Cabinet.told c.take_document.new.cabinet) (g.M.Machine.told c.args.machine.now) (accepted_files c.args.intake.now) p.0 c.in_err-bytes.field-0.0 p.2
    c.in_err-bytes.ensures.fault c.in_err-bytes.ensures.taken)

pub returns-in_err-verdict-clause-ends : goal.returns-in_err-verdict-clause-ends
returns-in_err-verdict-clause-ends g c =
    let x = g.C.Cabinet.told c.args.cabinet.now in
    let y = g.C.Cabinet.told c.take_document.new.cabinet in
    let taken : HasTaken 1 status.Done x y = c.in_ok-bytes.ensures.taken in
    let p = err_from_is_err_and c.from_residual-in_err-verdict.result c.from_residual-in_err-verdict.ensures.1 in
    rw (p.1, p.2) (offer_no_memory (taken_as 1 x y (λ same. same) taken) refl)

pub returns-in_err-tell_of-clause-ends : goal.returns-in_err-tell_of-clause-ends
returns-in_err-tell_of-clause-ends g c =
    let x = g.C.Cabinet.told c.args.cabinet.now in
    let y = g.C.Cabinet.told c.take_document.new.cabinet in
    let t = c.args.tables.now in
    let accepted = accepted_files c.args.intake.now in
    let v = c.in_ok-verdict.verdict in
    let bytes = c.in_ok-bytes.bytes.items in
    let taken : HasTaken 1 status.Done x y = c.in_ok-bytes.ensures.taken in
    let has : HasVerdictBehind t accepted c.args.name.now x v bytes =
    record {
      taken = c.in_ok-bytes.ensures.read;
      verdict = subst (λ (b : File). IsVerdictBehind t accepted b v) c.deref.ensures.value c.in_ok-verdict.ensures.verdict;
    } in
    let p = err_from_is_err_and c.from_residual-in_err-tell_of.result c.from_residual-in_err-tell_of.ensures.1 in
    rw (p.1, p.2, c.in_err-tell_of.ensures.err) (offer_not_shown has (taken_as 1 x y (λ same. same) taken) c.in_err-tell_of.ensures.told)

pub returns-clause-ends : goal.returns-clause-ends
returns-clause-ends g c =
    let x = g.C.Cabinet.told c.args.cabinet.now in
    let t = c.args.tables.now in
    let accepted = accepted_files c.args.intake.now in
    let v = c.in_ok-verdict.verdict in
    let bytes = c.in_ok-bytes.bytes.items in
    let has : HasVerdictBehind t accepted c.args.name.now x v bytes =
    record {
      taken = c.in_ok-bytes.ensures.read;
      verdict = subst (λ (b : File). IsVerdictBehind t accepted b v) c.deref.ensures.value c.in_ok-verdict.ensures.verdict;
    } in
    offered has (c.in_ok-verdict.ensures.accepted ∙ ap (λ (b : File). accepted_with accepted v b) c.deref.ensures.value) c.in_ok-bytes.ensures.taken c.in_ok-tell_of.ensures.told
