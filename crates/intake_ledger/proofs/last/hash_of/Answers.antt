use Rattle.std.proofs.Common.{ap, ◌∙◌}
use Rattle.std.specs.Result.{is_ok}
use Rattle.intake_ledger.proofs.LastHash.{hash_decoded}
use Rattle.intake_ledger.proofs.last.hash_of.Goals as goal

pub prove-unreachable-requires : goal.prove-unreachable-requires
prove-unreachable-requires c =
    let (text, parts) = c.requires in
    let left = hash_decoded c.args.file.now text c.last_hash.result.now c.decode_to_slice.result c.decode_to_slice.new.out parts (c.last_hash.ensures text parts) c.decode_to_slice.ensures.value in
    let was = c.is_ok-decoded.ensures.value ∙ ap is_ok left.0 in
    let not_so = c.if-prove.true in
    absurd (cc)

pub returns : goal.returns
returns c =
    let (text, parts) = c.requires in
    (hash_decoded c.args.file.now text c.last_hash.result.now c.decode_to_slice.result c.decode_to_slice.new.out parts (c.last_hash.ensures text parts) c.decode_to_slice.ensures.value).1
