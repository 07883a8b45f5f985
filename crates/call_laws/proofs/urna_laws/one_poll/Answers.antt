use Rattle.std.proofs.Common.{length, arith}
use Rattle.flash_store.specs.Held.{bodies_of_both}
use Rattle.image_codec.specs.Layout.{body_size}
use Rattle.call_laws.proofs.urna_laws.one_poll.Goals as goal

pub returns : goal.returns
returns c t r section other s u flashes tables roll a b =
    let internal = flashes.internal.content in
    let external = flashes.external.content in (
      c.one_finding.ensures.loaded t r section other internal external tables a.loaded b.loaded,
      c.one_held.ensures.one t (length r.titles) (bodies_of_both body_size internal external) s u tables (omega (arith, roll.count)) a.held b.held,
    )
