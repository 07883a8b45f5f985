use Rattle.std.proofs.Common.{arith, length, sym, ap}
use Rattle.rehearsal.proofs.Events.{script_parts}
use Rattle.rehearsal.proofs.Lengths.{script_short}
use Rattle.rehearsal.proofs.rehearsal_keys.Goals as goal

pub returns-clause-lines : goal.returns-clause-lines
returns-clause-lines c =
    rw (c.in_ok-put_numbered-2.ensures, c.in_ok-put_visits.ensures, c.in_ok-put_numbered.ensures, c.new-text.ensures.items) (sym (script_parts c.args.n))

pub returns-clause-read : goal.returns-clause-read
returns-clause-read c = rw (returns-clause-lines c) (c.no_text_is_refused.ensures.keys c.args.n c.requires.some c.requires.few).1

pub returns-clause-short : goal.returns-clause-short
returns-clause-short c = omega (arith, ap length (returns-clause-lines c), script_short c.args.n c.requires.few)
