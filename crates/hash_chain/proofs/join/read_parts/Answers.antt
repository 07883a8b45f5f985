use Rattle.std.proofs.Common.{◌≡◌, ℕ, List, [], ◌∷◌, ◌+◌, Option, Some, sym, ◌∙◌, ap, arith, lit<}
use Rattle.std.specs.Prelude.{◌==◌, ◌<◌, Err}
use Rattle.std.proofs.lemmas.Result.{err_from_is_err_and}
use Rattle.hash_chain.proofs.Joining.{fault_above, fault_is, file_broken, file_ends, line_fails, line_taken, text_begins, text_from, text_is, text_read}
use Rattle.hash_chain.proofs.PieceLaws.{joined_pieces, some_piece}
use Rattle.hash_chain.proofs.Remaking.{empty, not_empty}
use Rattle.hash_chain.proofs.join.read_parts.Goals as goal
use Rattle.hash_chain.proofs.join.read_parts.Goals.{else-is_empty-via-then-is_empty+else-place-gt1, else-is_empty-via-else-is_empty}
use Rattle.hash_chain.specs.Chain.{Link}
use Rattle.hash_chain.specs.Lines.{rows}
use Rattle.hash_chain.specs.declared.fault.PartFault.TheVariants.{Form}
use Rattle.hash_chain.specs.Reading.{said, said_before, with_part}

pub loop-row-init : goal.loop-row-init
loop-row-init c = (text_begins c.count_feeds-feeds.result c.args.bytes.now c.in_ok-text.text.items c.count_feeds-feeds.ensures c.in_ok-text.ensures, lit< tt, omega arith)

pub returns-in_err-link : goal.returns-in_err-link
returns-in_err-link c =
    let feeds : ℕ = c.count_feeds-feeds.result in
    let before : Option Link = said_before c.loop-row.before in
    let p = err_from_is_err_and c.from_residual-in_err-link.result c.from_residual-in_err-link.ensures.1 in
    rw (p.1, p.2) (fault_above _ _ _ _ c.in_err-link.field-0.0 c.in_err-link.ensures.fault (λ f h. fault_is c.args.bytes.now f (c.loop-row.invariant.0
    ∙ (ap (λ (rs : List (List ℕ)). text_from feeds c.loop-row.place before c.loop-row.text.items rs) c.in-Some.ensures.row
    ∙ line_fails feeds c.loop-row.place before c.loop-row.text.items c.in-Some.row.now (rows c.in-Some.behind.now) f (some_piece (λ b. b == 10) c.in-Some.behind.now) h))))

pub loop-row-preserved : goal.loop-row-preserved
loop-row-preserved c =
    let feeds : ℕ = c.count_feeds-feeds.result in
    let before : Option Link = said_before c.loop-row.before in
    let l : Link = said c.in_ok-link.link in
    let text = ap (λ (t : List ℕ). with_part c.loop-row.text.items t) (joined_pieces c.in_ok-link.link.fields.now) ∙ sym c.in_ok-push_fields.ensures in
    let shorter = c.in-Some.ensures.shorter in
    let room = c.loop-row.invariant.2 in (
      c.loop-row.invariant.0
          ∙ (ap (λ (rs : List (List ℕ)). text_from feeds c.loop-row.place before c.loop-row.text.items rs) c.in-Some.ensures.row
          ∙ (line_taken feeds c.loop-row.place before c.loop-row.text.items c.in-Some.row.now (rows c.in-Some.behind.now) l (some_piece (λ b. b == 10) c.in-Some.behind.now) c.in_ok-link.ensures.link c.in_ok-link.ensures.fault
          ∙ ap (λ (t : List ℕ). text_from feeds (c.loop-row.place + 1) (Some l) t (rows c.in-Some.behind.now)) text)),
      omega arith,
      omega arith,
    )

pub returns-then-place-gt1 : goal.returns-then-place-gt1
returns-then-place-gt1 c =
    let feeds : ℕ = c.count_feeds-feeds.result in
    let before : Option Link = said_before c.loop-row.before in
    let none = empty c.loop-row.rest.now (sym c.if-is_empty.ensures) in
    text_is c.args.bytes.now c.loop-row.text.items (c.loop-row.invariant.0
    ∙ (ap (λ (rs : List (List ℕ)). text_from feeds c.loop-row.place before c.loop-row.text.items rs) (c.in_default.ensures.row ∙ ap (λ (t : List ℕ). t ∷ []) none)
    ∙ file_ends feeds c.loop-row.place before c.loop-row.text.items c.if-place-gt1.true))

pub returns-else-is_empty : goal.returns-else-is_empty
returns-else-is_empty c =
    let feeds : ℕ = c.count_feeds-feeds.result in
    let before : Option Link = said_before c.loop-row.before in
    let broken : (c.loop-row.rest.now ≡ [] → 1 < c.loop-row.place → ⊥) → text_read c.args.bytes.now ≡ Err (Form c.loop-row.place) = λ h.
    c.loop-row.invariant.0
    ∙ (ap (λ (rs : List (List ℕ)). text_from feeds c.loop-row.place before c.loop-row.text.items rs) c.in_default.ensures.row
    ∙ file_broken feeds c.loop-row.place before c.loop-row.text.items c.loop-row.rest.now h) in
    elim c.else-is_empty.branch [
      | else-is_empty-via-then-is_empty+else-place-gt1 w ↦ let low = w.if-place-gt1.false in fault_is c.args.bytes.now (Form c.loop-row.place) (broken (λ e later. absurd (omega arith)))
      | else-is_empty-via-else-is_empty w ↦ fault_is c.args.bytes.now (Form c.loop-row.place) (broken (λ e later. not_empty c.loop-row.rest.now (sym w.if-is_empty.ensures) e))
    ]
