use Rattle.std.proofs.Common.{ℕ, ◌≤◌, List, Option, Err, length, sym, ap, subst, ◌∙◌, arith}
use Rattle.std.specs.Option.{ForSome}
use Rattle.urna_outside.proofs.Faults.{faultless_trans}
use Rattle.election_tables.specs.Limits.{most_voters}
use Rattle.twin_image.specs.Found.{found_body}
use Rattle.twin_image.specs.Held.{HoldsBody, NoneStands}
use Rattle.image_codec.specs.Layout.{body_size}
use Rattle.state_store.proofs.Changing.{rank_named}
use Rattle.flash_store.proofs.Holding.{none_held}
use Rattle.flash_store.proofs.Looking.{looked}
use Rattle.image_codec.specs.Decoded.{decoded}
use Rattle.state_store.specs.Held.{poll}
use Rattle.state_store.proofs.Stored.{reads}
use Rattle.state_store.proofs.find.find.Goals as goal

pub returns-in-Ok-survey-clause-held : goal.returns-in-Ok-survey-clause-held
returns-in-Ok-survey-clause-held g c =
    let t = c.args.tables.now in
    let voters = length c.args.roll.now.titles in
    let ranks = c.of-ranks.result in
    let rank = rank_named t ranks.tables.now voters ranks.voters c.of-ranks.ensures.tables (c.of-ranks.ensures.voters ∙ c.len.ensures.count) in
    let body = found_body c.in-Ok-survey.found in
    subst (λ (r : List ℕ → Option ℕ). ForSome (g.M.Machine.told c.args.m.now).flashes (HoldsBody r body_size body)) (sym rank)
    (looked _ _ _ c.in-Ok.ensures.done c.in-Ok-survey.ensures.held)

pub returns-in-Err-NoImage-clause-fails : goal.returns-in-Err-NoImage-clause-fails
returns-in-Err-NoImage-clause-fails g c =
    let t = c.args.tables.now in
    let voters = length c.args.roll.now.titles in
    let ranks = c.of-ranks.result in
    let rank = rank_named t ranks.tables.now voters ranks.voters c.of-ranks.ensures.tables (c.of-ranks.ensures.voters ∙ c.len.ensures.count) in
    let none = subst (λ (r : List ℕ → Option ℕ). ForSome (g.M.Machine.told c.args.m.now).flashes (NoneStands r body_size)) (sym rank) (looked _ _ _ c.in-Ok.ensures.done (c.in-Err-NoImage.ensures.none (ap (λ e. Err e) c.in-Err-NoImage.field-0-is))) in
    let few : voters ≤ most_voters = omega (arith, ranks.few, c.of-ranks.ensures.voters, c.len.ensures.count) in
    let fine = rw c.in-Err-NoImage.field-0-is at c.in-Err-NoImage.ensures.fails in (
      faultless_trans _ _ _ c.in-Ok.ensures.fails fine,
      (
        c.in-Ok.section,
        c.in-Ok.ensures.section,
        λ fs told. (c.in-Ok.ensures.loaded fs told, none_held (poll t voters) (decoded t voters) (reads t voters c.of-ranks.ensures.whole few) fs (none fs told)),
      ),
    )
