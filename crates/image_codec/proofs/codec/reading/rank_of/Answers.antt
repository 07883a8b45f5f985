use Rattle.std.proofs.Common.{ap, sym, ◌∙◌}
use Rattle.image_codec.specs.Decoded.{decoded}
use Rattle.image_codec.specs.State.{rank_in}
use Rattle.image_codec.specs.declared.codec.head.Head.{Head}
use Rattle.image_codec.proofs.Decoding.{decoded_takes, none_decoded}
use Rattle.image_codec.proofs.WholeBody.{head_known, none_known}
use Rattle.image_codec.proofs.codec.reading.rank_of.Goals as goal

pub returns-in_err-head-clause-none : goal.returns-in_err-head-clause-none
returns-in_err-head-clause-none c = λ _.
    none_decoded c.args.tables.now c.args.voters c.args.bytes.now c.in_err-head.ensures.tables c.requires
    (none_known (decoded c.args.tables.now c.args.voters c.args.bytes.now) c.in_err-head.ensures.head)

pub returns-clause-found : goal.returns-clause-found
returns-clause-found c =
    let known = head_known (decoded c.args.tables.now c.args.voters c.args.bytes.now) c.in_ok-head.head c.in_ok-head.ensures.head in (
      known.0,
      (
        decoded_takes c.args.tables.now c.args.voters c.args.bytes.now known.0 c.in_ok-head.ensures.tables c.requires known.1,
        c.rank_with.ensures ∙ ap (λ (h : Head). rank_in h.phase h.came) (sym known.2),
      ),
    )
