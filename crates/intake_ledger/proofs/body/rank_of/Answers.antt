use Rattle.std.proofs.Common.{◌≡◌, ℕ, false, Some, sym, ap, ◌∙◌, arith}
use Rattle.std.proofs.lemmas.Bool.{and_from, and_left, and_right}
use Rattle.intake_ledger.specs.Body.{has_fields, has_size, is_body}
use Rattle.intake_ledger.proofs.Ranking.{rank_found, rank_none, size_isnt}
use Rattle.intake_ledger.proofs.WholeBody.{size_is}
use Rattle.intake_ledger.proofs.body.rank_of.Goals as goal
use Rattle.intake_ledger.proofs.body.rank_of.Goals.{else-bytes-eq-BODY_SIZE-via-then-bytes-eq-BODY_SIZE+else-has_fields, else-bytes-eq-BODY_SIZE-via-else-bytes-eq-BODY_SIZE}

pub returns-then-has_fields : goal.returns-then-has_fields
returns-then-has_fields c =
    let t = c.args.tables.now in
    let bytes = c.args.bytes.now in
    let size = size_is bytes (λ i. omega (arith, c.type_inv.bytes i)) c.if-bytes-eq-BODY_SIZE.true in
    ap (λ (n : ℕ). Some n) c.number_in.ensures
    ∙ sym (rank_found t bytes (and_from (has_size bytes) (has_fields t bytes) size (sym c.has_fields.ensures ∙ c.if-has_fields.true)))

pub returns-else-bytes-eq-BODY_SIZE : goal.returns-else-bytes-eq-BODY_SIZE
returns-else-bytes-eq-BODY_SIZE c =
    let t = c.args.tables.now in
    let bytes = c.args.bytes.now in
    let other : is_body t bytes ≡ false = elim c.else-bytes-eq-BODY_SIZE.branch [
      | else-bytes-eq-BODY_SIZE-via-then-bytes-eq-BODY_SIZE+else-has_fields w ↦ and_right (has_size bytes) (has_fields t bytes) (sym w.has_fields.ensures ∙ w.if-has_fields.false)
      | else-bytes-eq-BODY_SIZE-via-else-bytes-eq-BODY_SIZE w ↦ and_left (has_size bytes) (has_fields t bytes) (size_isnt bytes w.if-bytes-eq-BODY_SIZE.false)
    ] in
    sym (rank_none t bytes other)
