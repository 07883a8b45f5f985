use Rattle.std.proofs.Common.{◌≡◌, ◌∙◌, sym, ap, ℕ, List, length, true, false, option_map, Option, None, Some, arith}
use Rattle.std.specs.Option.{is_some}
use Rattle.vote_kinds.specs.declared.choice.Choice.{Choice}
use Rattle.image_codec.specs.DecodedHead.{turnout_of, phase_in}
use Rattle.image_codec.specs.Decoded.{is_body}
use Rattle.image_codec.specs.Head.{head_of}
use Rattle.image_codec.specs.declared.codec.head.Head.{Head}
use Rattle.image_codec.proofs.ReadParts.{few_marked}
use Rattle.image_codec.proofs.WholeBody.{bags_by_count, body_bags, body_is, decoded_short, decoded_no_phase, decoded_no_bags, decoded_head, head_is}
use Rattle.image_codec.proofs.codec.reading.checked.Goals as goal

pub returns-then-bytes-ne-BODY_SIZE-clause-head : goal.returns-then-bytes-ne-BODY_SIZE-clause-head
returns-then-bytes-ne-BODY_SIZE-clause-head c =
    sym (ap (option_map head_of) (decoded_short c.args.tables.now c.args.voters c.args.bytes.now c.if-bytes-ne-BODY_SIZE.true))

pub returns-in_err-head-clause-head : goal.returns-in_err-head-clause-head
returns-in_err-head-clause-head c =
    let body : is_body c.args.bytes.now ≡ true = body_is c.args.bytes.now (λ i. omega (arith, c.type_inv.bytes i)) (omega arith) in
    let phase : phase_in c.args.voters (length c.args.tables.now.panels) c.args.bytes.now ≡ None =
    ap (λ (n : ℕ). phase_in c.args.voters n c.args.bytes.now) (sym c.panels-panels.ensures.count) ∙ sym c.in_err-head.ensures.phase in
    c.from_residual.ensures ∙ sym (ap (option_map head_of) (decoded_no_phase c.args.tables.now c.args.voters c.args.bytes.now body phase))

pub has_votes-requires-clause-few : goal.has_votes-requires-clause-few
has_votes-requires-clause-few c =
    let few = few_marked c.args.voters (turnout_of c.args.bytes.now) in
    omega (arith, c.in_ok-head.ensures.came)

pub returns-then-has_votes-clause-head : goal.returns-then-has_votes-clause-head
returns-then-has_votes-clause-head c =
    let h : Head = c.in_ok-head.head in
    let body : is_body c.args.bytes.now ≡ true = body_is c.args.bytes.now (λ i. omega (arith, c.type_inv.bytes i)) (omega arith) in
    let phase : phase_in c.args.voters (length c.args.tables.now.panels) c.args.bytes.now ≡ Some h.phase =
    ap (λ (n : ℕ). phase_in c.args.voters n c.args.bytes.now) (sym c.panels-panels.ensures.count) ∙ sym c.in_ok-head.ensures.phase in
    let bags : is_some (body_bags c.args.tables.now c.args.voters c.args.bytes.now) ≡ true =
    ap (λ (o : Option (List (List Choice))). is_some o) (sym (bags_by_count c.args.tables.now c.args.voters h.came c.args.bytes.now c.in_ok-head.ensures.came))
    ∙ sym c.has_votes.ensures ∙ c.if-has_votes.true in
    sym (decoded_head c.args.tables.now c.args.voters c.args.bytes.now h.phase body phase bags
    ∙ ap (λ (g : Head). Some g) (head_is c.args.voters c.args.bytes.now h c.in_ok-head.ensures.came))

pub returns-else-has_votes-clause-head : goal.returns-else-has_votes-clause-head
returns-else-has_votes-clause-head c =
    let h : Head = c.in_ok-head.head in
    let body : is_body c.args.bytes.now ≡ true = body_is c.args.bytes.now (λ i. omega (arith, c.type_inv.bytes i)) (omega arith) in
    let phase : phase_in c.args.voters (length c.args.tables.now.panels) c.args.bytes.now ≡ Some h.phase =
    ap (λ (n : ℕ). phase_in c.args.voters n c.args.bytes.now) (sym c.panels-panels.ensures.count) ∙ sym c.in_ok-head.ensures.phase in
    let bags : is_some (body_bags c.args.tables.now c.args.voters c.args.bytes.now) ≡ false =
    ap (λ (o : Option (List (List Choice))). is_some o) (sym (bags_by_count c.args.tables.now c.args.voters h.came c.args.bytes.now c.in_ok-head.ensures.came))
    ∙ sym c.has_votes.ensures ∙ c.if-has_votes.false in
    sym (ap (option_map head_of) (decoded_no_bags c.args.tables.now c.args.voters c.args.bytes.now h.phase body phase bags))

pub returns-then-has_votes-clause-few : goal.returns-then-has_votes-clause-few
returns-then-has_votes-clause-few c =
    let few = few_marked c.args.voters (turnout_of c.args.bytes.now) in
    omega (arith, c.in_ok-head.ensures.came)
