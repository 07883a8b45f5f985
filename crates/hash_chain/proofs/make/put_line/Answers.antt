use Rattle.std.proofs.Common.{ℕ, List, ◌++◌, ap, ◌∙◌}
use Rattle.hash_chain.proofs.PutLaws.{behind, line_put, plain_is}
use Rattle.hash_chain.proofs.make.put_line.Goals as goal
use Rattle.hash_chain.specs.Hash.{hash_text}

pub returns-clause-hash : goal.returns-clause-hash
returns-clause-hash c =
    let text = c.deref.ensures.value ∙ c.in_ok-put_text.ensures in
    c.in_ok-hash.ensures
    ∙ ap (λ (t : List ℕ). hash_text (c.args.before.now ++ t)) (behind c.args.out.now.items _ c.deref.result.now c.len-start.result text (c.len-start.ensures ∙ c.args.out.now.ok.0) ∙ plain_is c.args.parts c.args.number c.args.before.now c.args.fields.now)

pub returns-clause-line : goal.returns-clause-line
returns-clause-line c =
    let text = c.deref.ensures.value ∙ c.in_ok-put_text.ensures in
    let hash =
    c.in_ok-hash.ensures
    ∙ ap (λ (t : List ℕ). hash_text (c.args.before.now ++ t)) (behind c.args.out.now.items _ c.deref.result.now c.len-start.result text (c.len-start.ensures ∙ c.args.out.now.ok.0) ∙ plain_is c.args.parts c.args.number c.args.before.now c.args.fields.now) in
    line_put c.args.out.now.items c.put_text.new.out.items c.put_hash.new.out.items c.args.parts c.args.number c.args.before.now c.args.fields.now c.as_bytes.result.now
    c.in_ok-put_text.ensures (c.as_bytes.ensures.value ∙ hash) c.in_ok-put_hash.ensures
