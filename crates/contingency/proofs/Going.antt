-- A device stands for one section and one state, and what a power cut leaves may be replaced again or goes on as a poll.
use Rattle.std.proofs.Common.{inl, inr, ◌≤◌, length, refl, arith}
use Rattle.std.proofs.lemmas.List.Elements.{All-contains}
use Rattle.urna_outside.specs.Started.{clean_flashes}
use Rattle.urna_outside.specs.Stop.{left_on}
use Rattle.urna_outside.specs.declared.device.Dev.{Dev}
use Rattle.urna_outside.specs.declared.device.Dev.TheVariants.{Internal, External}
use Rattle.election_tables.specs.Limits.{most_voters}
use Rattle.election_tables.specs.Roll.{RollData}
use Rattle.election_tables.specs.TablesData.{IsSection, IsTables, TablesData}
use Rattle.election_tables.specs.declared.tables.sections.Section.{Section}
use Rattle.flash_store.specs.Held.{open_bodies}
use Rattle.state_store.specs.Load.{IsSectionOf}
use Rattle.state_store.proofs.Going.{one_section}
use Rattle.flash_store.proofs.Holding.{hold_or_none, one_held}
use Rattle.state_store.specs.Rest.{IsInUse}
use Rattle.twin_image.specs.Slots.{beside}
use Rattle.contingency.specs.Replaced.{IsReplaced, IsStanding}
use Rattle.contingency.specs.Laws.{OneCause, ReplacementGoesOn, StandsOnce}
use Rattle.state_store.specs.Held.{poll}
use Rattle.image_codec.specs.Decoded.{decoded}
use Rattle.state_store.proofs.Stored.{reads}
use Rattle.image_codec.specs.Layout.{body_size}

pub few_voters : (t : TablesData) (r : RollData) (section : Section) → IsTables t → IsSectionOf t r section → length r.titles ≤ most_voters
few_voters t r section tables fits =
    let is : IsSection section = All-contains IsSection t.sections section tables.sections fits.listed in
    omega (arith, is.voters.1, fits.voters)

pub stands_once : StandsOnce
stands_once t r section other s u d image tables this that = (
  one_section t r section other d image tables this.section_fits that.section_fits this.frame that.frame,
  one_held (poll t (length r.titles)) (decoded t (length r.titles)) (reads t (length r.titles) tables (few_voters t r section tables this.section_fits)) (open_bodies body_size image) s u this.held that.held,
)

pub one_cause : OneCause
one_cause t r section other s d image = (
  λ is. (
    λ none. none section is.section_fits is.frame,
    λ bare. hold_or_none (poll t (length r.titles)) (open_bodies body_size image) s bare.none is.held,
  ),
  λ bare none. none section bare.section_fits bare.frame,
)

pub replacement_goes_on : ReplacementGoesOn
replacement_goes_on t r section s replaced left leaves = (
  leaves.whole,
  elim leaves.other [
    | inl unused ↦ inl (again replaced leaves.standing unused)
    | inr found ↦ inr (record { whole = leaves.whole; state = s; one = (0, omega arith, refl); found = found })
  ],
)
  where
    again : (d : Dev) → IsStanding t r section s (beside d) (left_on (beside d) left) → ¬ IsInUse (left_on d left) → IsReplaced t r section s d (clean_flashes left.internal left.external)
    again Internal standing unused = record { standing = standing; unused = unused }
    again External standing unused = record { standing = standing; unused = unused }
