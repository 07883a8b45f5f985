use Rattle.std.proofs.Common.{◌≡◌, ℕ, true, false, List, Option, Some, sym, ap, subst, ◌∙◌}
use Rattle.urna_outside.specs.Flash.{flash_of}
use Rattle.election_tables.specs.declared.tables.sections.Section.{Section}
use Rattle.image_codec.specs.Layout.{body_size}
use Rattle.state_store.specs.Held.{HasFrameOf}
use Rattle.twin_image.specs.Frame.{HasFrame}
use Rattle.flash_store.proofs.Looking.{looked}
use Rattle.state_store.proofs.Named.{named_there}
use Rattle.state_store.proofs.Sections.{found_listed}
use Rattle.state_store.proofs.frame.named_section.Goals as goal

same_section : (s u : Section) (found : Option Section) → found ≡ Some s → found ≡ Some u → s ≡ u
same_section s u found first second = cc

pub returns-in_default-section_at-clause-none : goal.returns-in_default-section_at-clause-none
returns-in_default-section_at-clause-none g c fs told section fits frame =
    let named = named_there c.args.tables.now c.args.roll.now section c.args.dev (flash_of c.args.dev fs).content _ c.section_at.ensures.tables fits frame (c.in-Ok.ensures.ok fs told) in
    c.in_default-section_at.not-Some section (c.section_at.ensures.section ∙ named)

pub returns-then-section-len-clause-none : goal.returns-then-section-len-clause-none
returns-then-section-len-clause-none g c fs told section fits frame =
    let named = named_there c.args.tables.now c.args.roll.now section c.args.dev (flash_of c.args.dev fs).content _ c.section_at.ensures.tables fits frame (c.in-Ok.ensures.ok fs told) in
    let same = same_section c.in-Some.section section c.section_at.result c.in-Some.is (c.section_at.ensures.section ∙ named) in
    absurd (c.if-section-len.true (ap (λ (s : Section). s.voters) same ∙ fits.voters ∙ sym c.len.ensures.count))

pub returns-then-not-branch-clause-none : goal.returns-then-not-branch-clause-none
returns-then-not-branch-clause-none g c fs told section fits frame =
    let named = named_there c.args.tables.now c.args.roll.now section c.args.dev (flash_of c.args.dev fs).content _ c.section_at.ensures.tables fits frame (c.in-Ok.ensures.ok fs told) in
    let same = same_section c.in-Some.section section c.section_at.result c.in-Some.is (c.section_at.ensures.section ∙ named) in
    let own : HasFrameOf c.args.tables.now c.args.roll.now c.in-Some.section c.args.dev (flash_of c.args.dev fs).content =
    subst (λ (s : Section). HasFrameOf c.args.tables.now c.args.roll.now s c.args.dev (flash_of c.args.dev fs).content) (sym same) frame in
    let framed = subst (λ (h : List ℕ). HasFrame body_size h (flash_of c.args.dev fs).content) (sym c.header.ensures) own in
    let yes : c.in_ok-has_frame.field-0 ≡ true = (looked _ _ _ c.in-Ok.ensures.done c.in_ok-has_frame.ensures.frame fs told).1 framed in
    let no : c.in_ok-has_frame.field-0 ≡ false = c.if-not-branch.true in
    absurd (cc)

pub returns-clause-section : goal.returns-clause-section
returns-clause-section g c = record { listed = found_listed _ c.args.tables.now.sections c.in-Some.section (sym c.section_at.ensures.section ∙ c.in-Some.is); voters = c.if-section-len.false ∙ c.len.ensures.count }
