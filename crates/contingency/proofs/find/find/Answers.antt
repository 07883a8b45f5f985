use Rattle.std.proofs.Common.{◌≤◌, ℕ, List, Option, Err, IsSome, length, refl, sym, ap, subst, ◌∙◌, arith}
use Rattle.urna_outside.specs.Flash.{flash_of}
use Rattle.urna_outside.specs.declared.device.Dev.{Dev}
use Rattle.urna_outside.proofs.Faults.{faultless_trans}
use Rattle.election_tables.specs.Limits.{most_voters}
use Rattle.twin_image.specs.Found.{found_body}
use Rattle.state_store.specs.Held.{HasFrameOf}
use Rattle.state_store.proofs.Changing.{rank_named}
use Rattle.flash_store.proofs.Looking.{looked, looked_twice}
use Rattle.flash_store.proofs.Holding.{ranked_state}
use Rattle.contingency.specs.Replaced.{IsStanding}
use Rattle.contingency.proofs.Finding.{bare, stands}
use Rattle.image_codec.specs.Decoded.{decoded}
use Rattle.image_codec.specs.State.{rank_of}
use Rattle.contingency.proofs.find.find.Goals as goal

pub returns-in_default-clause-fails : goal.returns-in_default-clause-fails
returns-in_default-clause-fails g c =
    (c.beside-standing.ensures, c.in-Ok.ensures.fails, λ fs told. rw c.in_default.is at (c.in-Ok.ensures.none fs told))

pub returns-in-Err-NoImage-clause-fails : goal.returns-in-Err-NoImage-clause-fails
returns-in-Err-NoImage-clause-fails g c =
    let t = c.args.tables.now in
    let r = c.args.roll.now in
    let ranks = c.of-ranks.result in
    let as_many = c.of-ranks.ensures.voters ∙ c.len.ensures.count in
    let few : length r.titles ≤ most_voters = omega (arith, ranks.few, as_many) in
    let named = rank_named t ranks.tables.now (length r.titles) ranks.voters c.of-ranks.ensures.tables as_many in
    let fits = rw c.in-Some.is at c.in-Ok.ensures.section in
    let none = looked _ _ _ c.in-Ok.ensures.done (c.in-Err-NoImage.ensures.none (ap (λ e. Err e) c.in-Err-NoImage.field-0-is)) in (
      c.beside-standing.ensures,
      faultless_trans _ _ _ c.in-Ok.ensures.fails (rw c.in-Err-NoImage.field-0-is at c.in-Err-NoImage.ensures.fails),
      (
        c.in-Some.section,
        fits,
        λ fs told. bare t r c.in-Some.section c.of-ranks.ensures.whole few fits _ named c.beside-standing.result (flash_of c.beside-standing.result fs).content (rw c.in-Some.is at (c.in-Ok.ensures.frame fs told)) (none fs told),
      ),
    )

pub returns-in-Ok-true-clause-fails : goal.returns-in-Ok-true-clause-fails
returns-in-Ok-true-clause-fails g c =
    let t = c.args.tables.now in
    let r = c.args.roll.now in
    let ranks = c.of-ranks.result in
    let as_many = c.of-ranks.ensures.voters ∙ c.len.ensures.count in
    let few : length r.titles ≤ most_voters = omega (arith, ranks.few, as_many) in
    let named = rank_named t ranks.tables.now (length r.titles) ranks.voters c.of-ranks.ensures.tables as_many in
    let fits = rw c.in-Some.is at c.in-Ok.ensures.section in
    let body = found_body c.in-Ok-survey_on.found in
    let s = ranked_state rank_of (decoded t (length r.titles)) body (subst (λ (k : List ℕ → Option ℕ). IsSome (k body)) (sym named) c.in-Ok-survey_on.ensures.ranked) in
    let held = looked _ _ _ c.in-Ok.ensures.done c.in-Ok-survey_on.ensures.held in
    let used = looked _ _ _ (looked_twice _ _ _ c.in-Ok.ensures.done c.survey_on.ensures.done) c.in-Ok-true.ensures.used in (
      refl,
      faultless_trans _ _ _ (faultless_trans _ _ _ c.in-Ok.ensures.fails c.in-Ok-survey_on.ensures.fails) c.in-Ok-true.ensures.fails,
      (
        c.in-Some.section,
        fits,
        λ fs told. record {
          state = s.0;
          standing = subst (λ (d : Dev). IsStanding t r c.in-Some.section s.0 d (flash_of d fs).content) c.beside-standing.ensures
              (stands t r c.in-Some.section c.of-ranks.ensures.whole few fits _ named c.beside-standing.result (flash_of c.beside-standing.result fs).content (rw c.in-Some.is at (c.in-Ok.ensures.frame fs told)) s.0 body s.1 (held fs told));
          busy = (used fs told).0 c.in-Ok-true.field-0-test;
        },
      ),
    )

pub returns-in-Ok-false-clause-frame : goal.returns-in-Ok-false-clause-frame
returns-in-Ok-false-clause-frame g c fs told =
    subst (λ (d : Dev). HasFrameOf c.args.tables.now c.args.roll.now c.in-Some.section d (flash_of d fs).content) c.beside-standing.ensures (rw c.in-Some.is at (c.in-Ok.ensures.frame fs told))
