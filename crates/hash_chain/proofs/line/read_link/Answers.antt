use Rattle.hash_chain.proofs.LineParts.{line_long, line_made}
use Rattle.hash_chain.proofs.line.read_link.Goals as goal
use Rattle.urna_base.specs.Words.{pieces}

pub slice_bounds-text-count : goal.slice_bounds-text-count
slice_bounds-text-count c =
    let line = line_made c.args.row.now c.in_ok-heading.heading.now c.in_ok-heading.version.now c.in_ok-heading.tail.now (c.in_ok-number.number, c.in_ok-number.parts) c.in_ok-version.version.now (pieces c.in_ok-fields.fields.now, c.in_ok-fields.hash.now)
    c.in_ok-heading.ensures c.in_ok-number.ensures c.in_ok-version.ensures c.in_ok-fields.ensures in
    (line_long c.args.row.now _ line).0

pub returns-clause-text : goal.returns-clause-text
returns-clause-text c =
    let line = line_made c.args.row.now c.in_ok-heading.heading.now c.in_ok-heading.version.now c.in_ok-heading.tail.now (c.in_ok-number.number, c.in_ok-number.parts) c.in_ok-version.version.now (pieces c.in_ok-fields.fields.now, c.in_ok-fields.hash.now)
    c.in_ok-heading.ensures c.in_ok-number.ensures c.in_ok-version.ensures c.in_ok-fields.ensures in
    (line_long c.args.row.now _ line).1
