use Rattle.std.proofs.Common.{◌≢◌, ◌≤◌, ℕ, Err, Some, sym, ap, subst}
use Rattle.std.specs.Prelude.{vec_len}
use Rattle.urna_outside.specs.Cabinet.{HoldsLonger}
use Rattle.std.specs.Option.{ForSome}
use Rattle.command_parts.specs.Documents.{IsFault, limit_of}
use Rattle.command_parts.specs.Taking.{CountsFor}
use Rattle.command_parts.specs.declared.error.CommandError.{CommandError}
use Rattle.command_parts.specs.declared.error.CommandError.TheVariants as error
use Rattle.command_parts.proofs.Calls.{counts_not_taken, one_call}
use Rattle.command_parts.proofs.Faults.{not_taken}
use Rattle.command_parts.proofs.documents.take.Goals as goal

pub returns-in-Ok-clause-bytes : goal.returns-in-Ok-clause-bytes
returns-in-Ok-clause-bytes g c =
    record { held = c.in-Ok.ensures.bytes; short = subst (λ (n : ℕ). n ≤ limit_of c.args.doc) c.in-Ok.bytes.ok.0 (subst (λ (n : ℕ). vec_len c.in-Ok.bytes ≤ n) c.limit.ensures c.in-Ok.ensures.limit) }

pub returns-in-Ok-clause-taken : goal.returns-in-Ok-clause-taken
returns-in-Ok-clause-taken g c =
    one_call (g.C.Cabinet.told c.args.cabinet.now) (g.C.Cabinet.told c.take.new.self) c.take.ensures.files c.in-Ok.ensures.ok c.take.ensures.calls

pub returns-in-Err-clause-fault : goal.returns-in-Err-clause-fault
returns-in-Err-clause-fault g c =
    let told = g.C.Cabinet.told c.args.cabinet.now in
    subst (λ (e : CommandError). e ≢ error.Memory → e ≢ error.Cabinet → IsFault told.files c.args.name.now c.args.doc e) (sym c.not_taken.ensures)
    (not_taken told.files c.args.name.now c.args.doc c.in-Err.error (λ e. c.in-Err.ensures.lacking (ap Err e))
    (λ e. subst (λ (n : ℕ). ForSome told.files (HoldsLonger c.args.name.now n)) c.limit.ensures (c.in-Err.ensures.longer (ap Err e))))

pub returns-in-Err-clause-taken : goal.returns-in-Err-clause-taken
returns-in-Err-clause-taken g c =
    let old = g.C.Cabinet.told c.args.cabinet.now in
    let new = g.C.Cabinet.told c.take.new.self in
    one_call old new c.take.ensures.files
    (subst (λ (e : CommandError). CountsFor (Some e) old.tally new.tally) (sym c.not_taken.ensures)
    (counts_not_taken c.args.doc c.in-Err.error old.tally new.tally (λ e. c.in-Err.ensures.memory (ap Err e)) (λ e. c.in-Err.ensures.failed (ap Err e))
    (λ e. c.in-Err.ensures.missing (ap Err e)) (λ e. c.in-Err.ensures.too_long (ap Err e))))
    c.take.ensures.calls
