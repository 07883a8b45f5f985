use Rattle.std.proofs.Common.{◌≡◌, true, false, List, ℕ, Option, Some, None, IfSome, IfNone, sym, subst}
use Rattle.urna_outside.specs.declared.device.Dev.{Dev}
use Rattle.urna_outside.specs.declared.device.Dev.TheVariants.{Internal, External}
use Rattle.twin_image.specs.Frame.{HasFrame}
use Rattle.election_tables.specs.Roll.{RollData}
use Rattle.election_tables.specs.TablesData.{TablesData}
use Rattle.election_tables.specs.declared.tables.sections.Section.{Section}
use Rattle.image_codec.specs.Layout.{body_size}
use Rattle.state_store.specs.Held.{HasFrameOf, IsForeign}
use Rattle.state_store.specs.Load.{IsSectionOf}
use Rattle.state_store.specs.declared.frame.FrameError.TheVariants.{Foreign}
use Rattle.flash_store.proofs.Looking.{looked}
use Rattle.state_store.proofs.frame.loaded_section.Goals as goal

at_none : {P : Type 0} (found : Option Section) → found ≡ None → IfNone found P → P
at_none None is holds = holds
at_none (Some s) is holds = absurd (cc)

at_some : (P : Section → Type 0) (found : Option Section) (s : Section) → found ≡ Some s → IfSome found P → P s
at_some P None s is holds = absurd (cc)
at_some P (Some u) s is holds = let same : u ≡ s = cc in subst P same holds

of_device : (d e : Dev) (t : TablesData) (r : RollData) (internal external : List ℕ) → Foreign d ≡ Foreign e → IsForeign t r d internal external → IsForeign t r e internal external
of_device d e t r internal external is foreign = let same : d ≡ e = cc in subst (λ (x : Dev). IsForeign t r x internal external) same foreign

pub returns-in_default-clause-foreign : goal.returns-in_default-clause-foreign
returns-in_default-clause-foreign g c d is fs told =
    of_device Internal d c.args.tables.now c.args.roll.now fs.internal.content fs.external.content is
    (at_none c.in-Ok.found c.in_default.is (c.in-Ok.ensures.none fs told))

pub returns-in-Ok-true-clause-loaded : goal.returns-in-Ok-true-clause-loaded
returns-in-Ok-true-clause-loaded g c fs told =
    let framed : HasFrame body_size c.header-header.result fs.external.content =
    (looked _ _ _ c.in-Ok.ensures.done c.in-Ok-true.ensures.frame fs told).0 c.in-Ok-true.field-0-test in
    record {
      section_fits = at_some (IsSectionOf c.args.tables.now c.args.roll.now) c.in-Ok.found c.in-Some.section c.in-Some.is c.in-Ok.ensures.section;
      internal_frame = at_some (λ s. HasFrameOf c.args.tables.now c.args.roll.now s Internal fs.internal.content) c.in-Ok.found c.in-Some.section c.in-Some.is (c.in-Ok.ensures.frame fs told);
      external_frame = subst (λ (h : List ℕ). HasFrame body_size h fs.external.content) c.header-header.ensures framed;
    }

pub returns-in-Ok-false-clause-foreign : goal.returns-in-Ok-false-clause-foreign
returns-in-Ok-false-clause-foreign g c d is fs told =
    let seen = looked _ _ _ c.in-Ok.ensures.done c.in-Ok-false.ensures.frame fs told in
    let test : c.in-Ok-false.field-0 ≡ false = c.in-Ok-false.field-0-test in
    of_device External d c.args.tables.now c.args.roll.now fs.internal.content fs.external.content is (
      c.in-Some.section,
      at_some (IsSectionOf c.args.tables.now c.args.roll.now) c.in-Ok.found c.in-Some.section c.in-Some.is c.in-Ok.ensures.section,
      at_some (λ s. HasFrameOf c.args.tables.now c.args.roll.now s Internal fs.internal.content) c.in-Ok.found c.in-Some.section c.in-Some.is (c.in-Ok.ensures.frame fs told),
      λ frame.
          let yes : c.in-Ok-false.field-0 ≡ true = seen.1 (subst (λ (h : List ℕ). HasFrame body_size h fs.external.content) (sym c.header-header.ensures) frame) in
          absurd (cc),
    )
